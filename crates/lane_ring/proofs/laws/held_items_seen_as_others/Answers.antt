use Rattle.lane_ring.proofs.Views.{view_law}
use Rattle.lane_ring.proofs.laws.held_items_seen_as_others.Goals as goal

pub returns : goal.returns
returns g c = view_law
