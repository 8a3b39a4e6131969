use Rattle.std.proofs.Common.{subst, sym, refl}
use Rattle.lane_ring.specs.Ring.{LaneView}
use Rattle.lane_ring.specs.Arrivals.{HasArrivals}
use Rattle.lane_ring.specs.LaneFields.{view_of}
use Rattle.lane_ring.proofs.Rising.{arrivals-gap}
use Rattle.lane_ring.proofs.lane.Lane.gap.Goals as goal

pub returns-clause-arrivals : goal.returns-clause-arrivals
returns-clause-arrivals g c low es h =
    arrivals-gap (view_of c.self.inside) _ low es refl refl
    (subst (λ (v : LaneView g.row.T.Denot). HasArrivals v low es) (sym c.self.view_is) h)
