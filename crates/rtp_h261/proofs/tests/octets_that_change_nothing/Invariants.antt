use Rattle.std.proofs.Common.{◌≡◌}
use Rattle.rtp_h261.proofs.tests.octets_that_change_nothing.Given as goal

abbrev pub invariant-loop-size : goal.invariant-loop-size
invariant-loop-size g l = l.coded.format ≡ l.depack.format
