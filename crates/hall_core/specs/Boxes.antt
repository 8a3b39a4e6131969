-- Inner contracts alone use this; nothing here has to be believed.
-- A lane of boxes.
use Rattle.std.specs.Prelude.{◌≡◌, map, All}
use Rattle.std.specs.Global.{Box}
use Rattle.h261_pic.specs.Coded.{Coding}
use Rattle.lane_ring.specs.Arrivals.{held_as}
use Rattle.lane_ring.specs.Ring.{LaneView}
use Rattle.pel_model.specs.declared.Format.TheVariants.{Qcif}
use Rattle.pel_model.specs.declared.held.Held.{Held}
use Rattle.hall_core.specs.Hall.{RingView}

abbrev pub value_of : Box Coding → Coding
value_of box = box.value

-- what contracts see of a lane of boxes
abbrev pub ring_of : LaneView (Box Coding) → RingView
ring_of lane = record { held = map (held_as value_of) lane.held; count = lane.count }

-- every box of the lane has format QCIF
pub record IsQcifLane (lane : LaneView (Box Coding)) : Type 0 where
  pub held : All (λ (h : Held (Box Coding)). h.item.value.format ≡ Qcif) lane.held
  pub spares : All (λ (b : Box Coding). b.value.format ≡ Qcif) lane.spares
