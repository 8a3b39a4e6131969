use Rattle.std.proofs.Common.{◌≡◌}
use Rattle.hall_lock.specs.Seats.{IsOf}
use Rattle.hall_lock.proofs.tests.add_ones.Given as goal

abbrev pub invariant-loop : goal.invariant-loop
invariant-loop g l = IsOf l.lock l.seat × (l.seat.share ≡ l.fn.seat.share) × (l.seat.past ≡ l.fn.seat.past)
