-- Lanes that hold nothing yet.
use Rattle.std.proofs.Common.{◌≡◌, ℕ, ◌<◌, List, [], Some, None, Option, length, map, slice_get, get_or, All, refl, ap, ap₂, ◌∙◌}
use Rattle.std.proofs.lemmas.Option.{slice_get-get_or}
use Rattle.std.specs.Global.{Box}
use Rattle.h261_pic.specs.Coded.{Coding}
use Rattle.lane_ring.specs.Arrivals.{held_as}
use Rattle.lane_ring.specs.Ring.{LaneView}
use Rattle.pel_model.specs.declared.Quad.{Quad}
use Rattle.pel_model.specs.declared.Quad.TheVariants.{One, Two, Three, Four}
use Rattle.pel_model.specs.declared.held.Held.{Held}
use Rattle.stage_plan.specs.PerPlace.{in_place, in_all}
use Rattle.hall_core.specs.Boxes.{value_of, ring_of, IsQcifLane}
use Rattle.hall_core.proofs.Rings.{get-map}

pub record IsEmptyLane (lane : LaneView (Box Coding)) : Type 0 where
  pub held : lane.held ≡ []
  pub count : lane.count ≡ 0
  pub boxes : IsQcifLane lane

pub empty-rings : (lanes : List (LaneView (Box Coding))) → All IsEmptyLane lanes → (c : ℕ) → c < length lanes →
    slice_get (map ring_of lanes) c ≡ Some (record { held = []; count = 0 })
empty-rings lanes all c below =
    let none : LaneView (Box Coding) = record { held = []; spares = []; count = 0 } in
    let one = all c none below in
    get-map ring_of lanes c (get_or lanes c none) (slice_get-get_or lanes c none below)
    ∙ ap Some (ap₂ (λ (hs : List (Held (Box Coding))) (n : ℕ). record { held = map (held_as value_of) hs; count = n }) one.held one.count)

pub none-taken : (q : Quad) → in_place (in_all {A = Option ℕ} None) q ≡ None
none-taken One = refl
none-taken Two = refl
none-taken Three = refl
none-taken Four = refl
