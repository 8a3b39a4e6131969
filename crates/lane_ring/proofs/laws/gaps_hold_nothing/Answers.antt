use Rattle.lane_ring.proofs.Rising.{gap_law}
use Rattle.lane_ring.proofs.laws.gaps_hold_nothing.Goals as goal

pub returns : goal.returns
returns g c = gap_law
