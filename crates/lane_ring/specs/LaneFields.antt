-- What holds of a lane's fields.
use Rattle.std.specs.Prelude.{◌≡◌, ◌+◌, length}
use Rattle.lane_ring.specs.declared.lane.Lane.TheInside.{Inside}
use Rattle.lane_ring.specs.Ring.{LaneView}

module _ {T : Type 0} where
  abbrev pub view_of : Inside T → LaneView T
  view_of a = record { held = a.held.items; spares = a.spares.items; count = a.count }

  -- both rings have room for eight, and together they are as many
  pub record IsLane (a : Inside T) : Type 0 where
    pub held_room : a.held.capacity ≡ 8
    pub spare_room : a.spares.capacity ≡ 8
    pub eight : length a.held.items + length a.spares.items ≡ 8
