use Rattle.hall_core.proofs.Turning.{turn_law}
use Rattle.hall_core.proofs.turns.turns_are_steps.Goals as goal

pub returns : goal.returns
returns c = turn_law
