use Rattle.hall_lock.proofs.SharedOut.{share_law}
use Rattle.hall_lock.proofs.laws.history_is_shared_out.Goals as goal

pub returns : goal.returns
returns g c = share_law
