-- A lane that holds what is held of all that came to it, and laws of what is held.
use Rattle.std.specs.Prelude.{◌≡◌, ℕ, ◌+◌, ◌≤◌, Bool, Option, List, [], ◌∷◌, ◌++◌, length, filter, map, All}
use Rattle.std.specs.List.{after_first}
use Rattle.std.specs.Option.{option_map}
use Rattle.pel_model.specs.declared.held.Held.{Held}
use Rattle.pel_model.specs.Lanes.{Arrival, Received, Missing, lane_room, last_of, RiseAbove, is_above, held_above, may_follow, first_to_show, low_after}
use Rattle.lane_ring.specs.Ring.{LaneView}
use Rattle.lane_ring.specs.Taking.{serials_of}

-- the lane holds what is held of these arrivals, where the serials up to low were taken or passed
pub record HasArrivals {T : Type 0} (lane : LaneView T) (low : ℕ) (xs : List (Arrival T)) : Type 0 where
  pub held : lane.held ≡ held_above low xs
  pub count : lane.count ≡ length xs
  pub known : low ≤ length xs

-- a post: the item with the next serial is held, and the oldest is not where there were as many as a lane has room for
abbrev pub PostLaw : Type 0 → Type 0
PostLaw T =
    (low : ℕ) (xs : List (Arrival T)) (refresh : Bool) (x : T) → low ≤ length xs →
    held_above low (xs ++ Received refresh x ∷ [])
    ≡ last_of lane_room (held_above low xs
    ++ record { serial = length xs + 1; refresh = refresh; item = x } ∷ [])

-- a gap changes nothing of what is held
abbrev pub GapLaw : Type 0 → Type 0
GapLaw T =
    (low : ℕ) (xs : List (Arrival T)) → held_above low (xs ++ Missing ∷ []) ≡ held_above low xs

-- what is held above a greater serial is a part of what is held
abbrev pub AboveLaw : Type 0 → Type 0
AboveLaw T =
    (low high : ℕ) (xs : List (Arrival T)) → low ≤ high →
    held_above high xs ≡ filter (is_above high) (held_above low xs)

-- a tick leaves what is held above the serials that it took or passed
pub record TickLaw (T : Type 0) : Type 0 where
  pub rest :
      (last : Option ℕ) (low : ℕ) (xs : List (Arrival T)) →
      after_first (may_follow last) (held_above low xs)
      ≡ held_above (low_after last (held_above low xs) low) xs
  pub rises :
      (last : Option ℕ) (low : ℕ) (xs : List (Arrival T)) →
      low ≤ low_after last (held_above low xs) low
  pub known :
      (last : Option ℕ) (low : ℕ) (xs : List (Arrival T)) → low ≤ length xs →
      low_after last (held_above low xs) low ≤ length xs

-- the serials of what is held rise strictly from above those that were taken or passed, and were given out
pub record SerialLaw (T : Type 0) : Type 0 where
  pub rise : (low : ℕ) (xs : List (Arrival T)) → RiseAbove low (serials_of (held_above low xs))
  pub given :
      (low : ℕ) (xs : List (Arrival T)) → All (λ n. n ≤ length xs) (serials_of (held_above low xs))

-- ---- items seen as other items, as a box is seen as the picture whose text it holds

abbrev pub arrival_as : {T U : Type 0} → (T → U) → Arrival T → Arrival U
arrival_as f (Received refresh x) = Received refresh (f x)
arrival_as f Missing = Missing

abbrev pub held_as : {T U : Type 0} → (T → U) → Held T → Held U
held_as f h = record { serial = h.serial; refresh = h.refresh; item = f h.item }

-- what is held of the items, and what a tick takes of it, is the same whatever they are seen as
pub record ViewLaw (T U : Type 0) : Type 0 where
  pub held :
      (f : T → U) (low : ℕ) (xs : List (Arrival T)) →
      held_above low (map (arrival_as f) xs) ≡ map (held_as f) (held_above low xs)
  pub first :
      (f : T → U) (last : Option ℕ) (held : List (Held T)) →
      first_to_show last (map (held_as f) held) ≡ option_map (held_as f) (first_to_show last held)
  pub low :
      (f : T → U) (last : Option ℕ) (held : List (Held T)) (low : ℕ) →
      low_after last (map (held_as f) held) low ≡ low_after last held low
