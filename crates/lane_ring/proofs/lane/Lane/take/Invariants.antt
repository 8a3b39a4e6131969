use Rattle.std.proofs.Common.{◌≡◌, length}
use Rattle.lane_ring.proofs.Draining.{IsDraining}
use Rattle.lane_ring.proofs.lane.Lane.take.Given as goal

abbrev pub invariant-loop-held : goal.invariant-loop-held
invariant-loop-held g l = (l.slot ≡ l.initial.slot) × IsDraining l.last l.fn.self l.self-inside

abbrev pub decreases-loop-held : goal.decreases-loop-held
decreases-loop-held g l = length l.self-inside.held.items
