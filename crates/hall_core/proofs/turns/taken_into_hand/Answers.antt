use Rattle.hall_core.proofs.Handing.{takes-law}
use Rattle.hall_core.proofs.turns.taken_into_hand.Goals as goal

pub returns : goal.returns
returns c = takes-law
