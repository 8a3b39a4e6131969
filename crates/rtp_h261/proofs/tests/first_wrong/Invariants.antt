use Rattle.std.proofs.Common.{◌≡◌}
use Rattle.rtp_h261.proofs.tests.first_wrong.Given as goal

abbrev pub invariant-loop-row : goal.invariant-loop-row
invariant-loop-row l = l.coded.format ≡ l.depack.format
