use Rattle.lane_ring.proofs.Rising.{serial_law}
use Rattle.lane_ring.proofs.laws.serials_rise.Goals as goal

pub returns : goal.returns
returns g c = serial_law
