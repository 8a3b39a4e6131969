-- The worker has what it begins with.
use Rattle.std.proofs.Common.{refl, sym, subst}
use Rattle.hall_lock.specs.Seats.{IsOf}
use Rattle.bridge_live.specs.Worker.{IsNew}
use Rattle.bridge_live.proofs.Joining.{new-is-new}
use Rattle.bridge_live.proofs.crew.lane_worker.Goals as goal

pub returns : goal.returns
returns g c = λ lock is below. record {
  source_is = refl;
  number_is = refl;
  seat_is = is;
  ready = record {
    item = (c.args.kit.item, refl);
    begins = record {
      at_lock = record { seat = subst (IsOf lock) (sym is) refl; number = below };
      fresh = c.requires;
      seat = subst IsNew (sym is) (new-is-new lock);
      counts = refl;
    };
  };
}
