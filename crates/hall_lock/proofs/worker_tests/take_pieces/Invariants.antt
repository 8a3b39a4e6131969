use Rattle.std.proofs.Common.{◌≡◌}
use Rattle.std.specs.List.{AllByRecursion}
use Rattle.hall_lock.specs.Seats.{IsOf}
use Rattle.hall_lock.specs.Own.{made, InOrder}
use Rattle.hall_lock.proofs.worker_tests.take_pieces.Given as goal

abbrev pub invariant-loop : goal.invariant-loop
invariant-loop g l = record {
  same : IsOf l.lock l.seat;
  order : InOrder l.seat;
  share : l.seat.share ≡ l.fn.seat.share;
  past : l.seat.past ≡ l.fn.seat.past;
  own : AllByRecursion (λ t. t.call.worker ≡ l.worker) (made l.seat);
}
