use Rattle.h261_mb.specs.State.{IsReady}
use Rattle.h261_mb.proofs.tests.mquant_lasts.Given as goal

abbrev pub invariant-loop-at : goal.invariant-loop-at
invariant-loop-at g l = IsReady l.state
