use Rattle.hall_lock.proofs.Told.{steps_tell}
use Rattle.hall_lock.proofs.laws.steps_are_told.Goals as goal

pub returns : goal.returns
returns g c = λ tale. steps_tell (g.T.Tale.tells tale)
