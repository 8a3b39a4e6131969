-- The worker has what it begins with.
use Rattle.std.proofs.Common.{refl, sym, subst, arith}
use Rattle.hall_lock.specs.Seats.{IsOf}
use Rattle.bridge_live.specs.Worker.{IsNew}
use Rattle.bridge_live.proofs.Joining.{new-is-new}
use Rattle.bridge_live.proofs.crew.mix_worker.Goals as goal

pub returns : goal.returns
returns g c = λ lock may. record {
  ticker_is = refl;
  sink_is = refl;
  seat_is = may.seat_is;
  settings_is = refl;
  ready = (
    c.args.hand,
    refl,
    record {
      may = record {
        at_lock = subst (IsOf lock) (sym may.seat_is) refl;
        opens = may.opens.stands;
        limit = omega (arith, may.opens.limit_is, may.opens.few);
        turns = may.opens.few;
      };
      seat = subst IsNew (sym may.seat_is) (new-is-new lock);
      usable = may.usable;
      seq = may.seq;
      counts = refl;
      qcif = may.qcif;
    },
  );
}
