use Rattle.std.proofs.Common.{◌≤◌, ◌-◌, length, All}
use Rattle.hall_core.proofs.Boxes.{IsQcifBox}
use Rattle.hall_core.proofs.hall.empty_lane.Given as goal

abbrev pub invariant-loop-boxes : goal.invariant-loop-boxes
invariant-loop-boxes l = (length l.boxes.items ≤ 8) × All IsQcifBox l.boxes.items

abbrev pub decreases-loop-boxes : goal.decreases-loop-boxes
decreases-loop-boxes l = 8 - length l.boxes.items
