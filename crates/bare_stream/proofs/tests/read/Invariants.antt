-- The reader goes on, and gives pictures of its format.
use Rattle.std.proofs.Common.{◌≡◌, ◌≤◌, ◌^◌, false}
use Rattle.bare_stream.proofs.tests.read.Given as goal

abbrev pub invariant-loop-given : goal.invariant-loop-given
invariant-loop-given l =
    record { going : l.reader.ended ≡ false; format : l.picture.format ≡ l.reader.format; few : l.reader.allowance.budget ≤ 2 ^ 40 }
