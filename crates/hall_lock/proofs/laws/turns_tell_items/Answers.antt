use Rattle.hall_lock.proofs.Told.{tell_law}
use Rattle.hall_lock.proofs.laws.turns_tell_items.Goals as goal

pub returns : goal.returns
returns g c = λ tale. tell_law (g.T.Tale.tells tale)
