use Rattle.hall_lock.proofs.Joined.{join_law}
use Rattle.hall_lock.proofs.laws.seats_join_one_by_one.Goals as goal

pub returns : goal.returns
returns g c = join_law
