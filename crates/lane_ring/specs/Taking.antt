-- What a post and a tick make of a lane's boxes: a post is given a spare one, or the oldest; at a tick one comes out of the
-- lane in exchange for the slot's, and those that are passed are spare.
use Rattle.std.specs.Prelude.{ℕ, nat_lt, if◌then◌else◌, Option, Some, None, List, [], ◌∷◌, map, length, drop, slice_get}
use Rattle.std.specs.List.{before_first}
use Rattle.pel_model.specs.declared.held.Held.{Held}
use Rattle.pel_model.specs.Lanes.{lane_room, may_follow}
use Rattle.lane_ring.specs.Ring.{LaneView}

module _ {T : Type 0} where
  abbrev pub items_of : List (Held T) → List T
  items_of held = map (λ (h : Held T). h.item) held

  abbrev pub serials_of : List (Held T) → List ℕ
  serials_of held = map (λ (h : Held T). h.serial) held

  -- the spares behind a post: a lane with room for one more gives the first of them
  abbrev pub spares_after : LaneView T → List T
  spares_after lane = if nat_lt (length lane.held) lane_room then drop 1 lane.spares else lane.spares

  -- what a post gives: the first spare, or the oldest held item where there was no room
  abbrev pub given_of : LaneView T → Option T
  given_of lane =
      if nat_lt (length lane.held) lane_room then slice_get lane.spares 0 else slice_get (items_of lane.held) 0

  -- the items that are passed: all before the one that is taken, or all where there is none
  abbrev pub items_passed : Option ℕ → List (Held T) → List T
  items_passed last held = items_of (before_first (may_follow last) held)

  -- what stands in the slot behind the tick: the item that was taken, or else what stood there
  abbrev pub slot_item : Option (Held T) → T → T
  slot_item None former = former
  slot_item (Some h) former = h.item

  -- the spare that a tick makes of the slot's former item, where one was taken
  abbrev pub former_item : Option (Held T) → T → List T
  former_item None former = []
  former_item (Some h) former = former ∷ []

  abbrev pub serial_of : Option (Held T) → Option ℕ
  serial_of None = None
  serial_of (Some h) = Some h.serial
