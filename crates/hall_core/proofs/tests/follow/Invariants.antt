use Rattle.std.proofs.Common.{◌≡◌}
use Rattle.hall_core.specs.Hall.{lanes_of}
use Rattle.hall_core.specs.Stands.{IsQcifHand}
use Rattle.hall_core.proofs.tests.follow.Given as goal

abbrev pub invariant-loop-call : goal.invariant-loop-call
invariant-loop-call g l = (lanes_of l.hall ≡ 2) × IsQcifHand l.hand
