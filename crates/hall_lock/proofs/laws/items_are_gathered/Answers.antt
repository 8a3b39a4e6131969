use Rattle.hall_lock.proofs.Gathered.{gather_law}
use Rattle.hall_lock.proofs.laws.items_are_gathered.Goals as goal

pub returns : goal.returns
returns g c = gather_law
