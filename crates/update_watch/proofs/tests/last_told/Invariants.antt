-- The watch stays one of this format.
use Rattle.std.proofs.Common.{◌≡◌}
use Rattle.update_watch.proofs.tests.last_told.Given as goal

abbrev pub invariant-loop-i : goal.invariant-loop-i
invariant-loop-i l = l.watch.format ≡ l.fn.watch.format
