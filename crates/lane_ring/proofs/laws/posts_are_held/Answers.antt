use Rattle.lane_ring.proofs.Rising.{post_law}
use Rattle.lane_ring.proofs.laws.posts_are_held.Goals as goal

pub returns : goal.returns
returns g c = post_law
