use Rattle.lane_ring.proofs.Rising.{tick_law}
use Rattle.lane_ring.proofs.laws.ticks_leave_the_rest.Goals as goal

pub returns : goal.returns
returns g c = tick_law
