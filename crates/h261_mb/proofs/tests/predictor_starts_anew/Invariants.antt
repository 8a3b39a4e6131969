use Rattle.h261_mb.specs.State.{IsReady}
use Rattle.h261_mb.proofs.tests.predictor_starts_anew.Given as goal

abbrev pub invariant-loop-vector : goal.invariant-loop-vector
invariant-loop-vector g l = IsReady l.state
