use Rattle.hall_core.proofs.Turning.{finish_law}
use Rattle.hall_core.proofs.turns.finish_is_never_late.Goals as goal

pub returns : goal.returns
returns c = finish_law
