use Rattle.std.proofs.Common.{◌≡◌, ◌++◌}
use Rattle.circular_buffer.specs.Buffer.{buffer}
use Rattle.lane_ring.proofs.lane.Lane.reserve.Given as goal

abbrev pub invariant-loop-spare : goal.invariant-loop-spare
invariant-loop-spare g l =
    (l.yielded ++ l.spare-iterator.rest.items ≡ l.fn.boxes.items) × (l.spares ≡ buffer l.yielded 8)
