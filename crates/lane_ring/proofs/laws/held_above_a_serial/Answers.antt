use Rattle.lane_ring.proofs.Rising.{above_law}
use Rattle.lane_ring.proofs.laws.held_above_a_serial.Goals as goal

pub returns : goal.returns
returns g c = above_law
