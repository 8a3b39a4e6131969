use Rattle.hall_lock.proofs.Gathered.{piece_law}
use Rattle.hall_lock.proofs.laws.output_is_gathered.Goals as goal

pub returns : goal.returns
returns g c = piece_law
