use Rattle.std.proofs.Common.{◌≡◌}
use Rattle.hall_lock.specs.AtTable.{Waits}
use Rattle.hall_lock.proofs.turns.wait_turn.Given as goal

abbrev pub invariant-loop : goal.invariant-loop
invariant-loop g l = (goal.iterator-loop g).can_next l.iterator' × (goal.iterator-loop g).is_finite l.iterator' × Waits l.fn.seat.me l.seat.me × (l.seat.table_id ≡ l.fn.seat.table_id) × (l.seat.id ≡ l.fn.seat.id)
