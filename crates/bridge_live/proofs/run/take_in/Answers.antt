-- A seat more was joined.
use Rattle.std.proofs.Common.{◌∷◌, ◌++◌, [], sym, subst, ap}
use Rattle.hall_lock.specs.Joining.{Joins}
use Rattle.bridge_live.specs.Worker.{HallSeat}
use Rattle.bridge_live.proofs.run.take_in.Goals as goal

pub returns : goal.returns
returns c =
    let e = c.join.ensures in
    record {
      same = e.seat.is_of;
      past_is = e.past;
      share = ap (λ (s : HallSeat). s.share) e.takes.both;
      joins = λ first others j.
          subst (λ past. Joins first (others ++ past ∷ []) c.join.new.seat) (sym e.past) (e.takes.joins first others j);
    }
