-- The worker has what it begins with.
use Rattle.std.proofs.Common.{refl, sym, subst}
use Rattle.hall_lock.specs.Seats.{IsOf}
use Rattle.bridge_live.specs.Worker.{IsNew}
use Rattle.bridge_live.proofs.Joining.{new-is-new}
use Rattle.bridge_live.proofs.crew.chair_worker.Goals as goal

pub returns : goal.returns
returns g c = λ lock is. record {
  source_is = refl;
  seat_is = is;
  ready = record { at_lock = subst (IsOf lock) (sym is) refl; seat = subst IsNew (sym is) (new-is-new lock); counts = refl };
}
