use Rattle.hall_lock.proofs.Finished.{finish_law}
use Rattle.hall_lock.proofs.laws.finish_comes_last.Goals as goal

pub returns : goal.returns
returns g c = finish_law g.M.Machine.steps
