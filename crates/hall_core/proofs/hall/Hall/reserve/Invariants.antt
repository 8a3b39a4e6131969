use Rattle.std.proofs.Common.{◌≤◌, ◌-◌, length, All}
use Rattle.hall_core.proofs.Reserving.{IsEmptyLane}
use Rattle.hall_core.proofs.hall.Hall.reserve.Given as goal

abbrev pub invariant-loop-alloc : goal.invariant-loop-alloc
invariant-loop-alloc l = (length l.rings.items ≤ l.lanes) × All IsEmptyLane l.rings.items

abbrev pub decreases-loop-alloc : goal.decreases-loop-alloc
decreases-loop-alloc l = l.lanes - length l.rings.items
