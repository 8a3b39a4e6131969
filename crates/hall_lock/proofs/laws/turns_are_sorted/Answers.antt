use Rattle.hall_lock.proofs.Sorted.{sort_law}
use Rattle.hall_lock.proofs.laws.turns_are_sorted.Goals as goal

pub returns : goal.returns
returns g c = sort_law
