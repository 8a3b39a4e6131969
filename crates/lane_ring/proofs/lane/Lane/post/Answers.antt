use Rattle.std.proofs.Common.{subst, sym}
use Rattle.lane_ring.specs.Ring.{LaneView}
use Rattle.lane_ring.specs.Arrivals.{HasArrivals}
use Rattle.lane_ring.specs.LaneFields.{view_of}
use Rattle.lane_ring.proofs.Rising.{arrivals-post}
use Rattle.lane_ring.proofs.lane.Lane.post.Goals as goal

pub returns-in-Some-clause-arrivals : goal.returns-in-Some-clause-arrivals
returns-in-Some-clause-arrivals g c low es h =
    arrivals-post (view_of c.self.inside) c.push_back.new.self _ c.self.inside.held.capacity low es c.args.refresh c.args.item
    c.push_back.ensures.items c.self.invariant.held_room
    (subst (λ (v : LaneView g.row.T.Denot). HasArrivals v low es) (sym c.self.view_is) h)

pub returns-in-Some-pop_front-clause-arrivals : goal.returns-in-Some-pop_front-clause-arrivals
returns-in-Some-pop_front-clause-arrivals g c low es h =
    arrivals-post (view_of c.self.inside) c.push_back.new.self _ c.self.inside.held.capacity low es c.args.refresh c.args.item
    c.push_back.ensures.items c.self.invariant.held_room
    (subst (λ (v : LaneView g.row.T.Denot). HasArrivals v low es) (sym c.self.view_is) h)
