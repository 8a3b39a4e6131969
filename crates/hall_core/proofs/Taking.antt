-- What a take in one place makes of a hall's fields.
use Rattle.std.proofs.Common.{◌≡◌, ℕ, ◌<◌, ◌≤◌, true, false, Option, None, Some, List, [], ◌∷◌, length, map, set, slice_set, get_or, refl, sym, ap, ap₂, ◌∙◌, arith}
use Rattle.std.proofs.lemmas.List.{map-set, length-set}
use Rattle.std.proofs.lemmas.List.Elements.{All-set}
use Rattle.std.proofs.lemmas.Option.{slice_get_read, get_or_from_slice_get}
use Rattle.std.specs.Global.{Box}
use Rattle.std.specs.List.{after_first}
use Rattle.std.specs.Option.{option_map}
use Rattle.std.specs.Vec.{with_item}
use Rattle.h261_pic.specs.Coded.{Coding}
use Rattle.lane_ring.specs.Arrivals.{held_as}
use Rattle.lane_ring.specs.Ring.{LaneView}
use Rattle.lane_ring.specs.Taking.{slot_item, serial_of}
use Rattle.lane_ring.proofs.Draining.{after_first-no, after_first-yes}
use Rattle.lane_ring.proofs.Views.{view_law}
use Rattle.pel_model.specs.declared.Quad.{Quad}
use Rattle.pel_model.specs.declared.Quad.TheVariants.{One, Two, Three, Four}
use Rattle.pel_model.specs.declared.held.Held.{Held}
use Rattle.pel_model.specs.declared.note.Take.{Take}
use Rattle.pel_model.specs.Lanes.{may_follow, first_to_show}
use Rattle.pel_model.specs.Takes.{serial_or}
use Rattle.stage_plan.specs.PerPlace.{in_place, with_place}
use Rattle.stage_plan.specs.Places.{lane_in}
use Rattle.stage_plan.specs.declared.per_place.PerPlace.{PerPlace}
use Rattle.stage_plan.proofs.Standing.{seating}
use Rattle.hall_core.specs.declared.hall.Hall.TheInside.{Inside}
use Rattle.hall_core.specs.Boxes.{value_of, ring_of, IsQcifLane}
use Rattle.hall_core.specs.Fields.{hall_view, IsHall}
use Rattle.hall_core.specs.Hall.{RingView}
use Rattle.hall_core.specs.Taking.{ring_in, next_of, next_in, told_as, told_in, left_in, drained, rings_behind, behind_take}
use Rattle.hall_core.proofs.Rings.{get-map}
use Rattle.hall_core.proofs.Stepping.{CountsTo}

-- the lane in a place is one of the hall
pub seated : (a : Inside) (q : Quad) (c : ℕ) → IsHall a → lane_in a.plan q ≡ Some c → c < a.plan.lanes
seated a q c is seat =
    let commands = is.ordered.0 in
    (seating a.plan.lanes commands).real q c (sym (is.ordered.1.seats q) ∙ seat)

after-map : {T U : Type 0} (f : T → U) (last : Option ℕ) (hs : List (Held T)) →
    map (held_as f) (after_first (may_follow last) hs) ≡ after_first (may_follow last) (map (held_as f) hs)
after-map f last [] = refl
after-map {T} {U} f last (h ∷ hs) =
    elim (may_follow last h) as (λ v. may_follow last h ≡ v → map (held_as f) (after_first (may_follow last) (h ∷ hs)) ≡ after_first (may_follow last) (map (held_as f) (h ∷ hs))) [
      | true ↦ λ e. ap (map (held_as f)) (after_first-yes (may_follow last) h hs e) ∙ sym (after_first-yes (may_follow last) (held_as f h) (map (held_as f) hs) e)
      | false ↦ λ e. ap (map (held_as f)) (after_first-no (may_follow last) h hs e) ∙ after-map f last hs
          ∙ sym (after_first-no (may_follow last) (held_as f h) (map (held_as f) hs) e)
    ] refl

pub drained-map : {T : Type 0} (f : T → Coding) (last : Option ℕ) (hs : List (Held T)) (n : ℕ) →
    (record { held = map (held_as f) (after_first (may_follow last) hs); count = n }) ≡ drained last (record { held = map (held_as f) hs; count = n })
drained-map f last hs n = ap (λ ks. record { held = ks; count = n }) (after-map f last hs)

-- what is told of a serial
abbrev pub told_by : ℕ → Option ℕ → Option Take
told_by c None = None
told_by c (Some n) = Some (record { lane = c; serial = n })

told-serial : (c : ℕ) (found : Option (Held (Box Coding))) → told_as (Some c) (option_map (held_as value_of) found) ≡ told_by c (serial_of found)
told-serial c None = refl
told-serial c (Some h) = refl

left-value : (found : Option (Held (Box Coding))) (b : Box Coding) → (slot_item found b).value ≡ left_in (option_map (held_as value_of) found) b.value
left-value None b = refl
left-value (Some h) b = refl

pub with-same : (f : PerPlace (Option ℕ)) (q : Quad) → f ≡ with_place f q (in_place f q)
with-same f One = refl
with-same f Two = refl
with-same f Three = refl
with-same f Four = refl

-- the hall whose lane c gave what is taken in place q
abbrev pub taken : Inside → ℕ → LaneView (Box Coding) → PerPlace (Option ℕ) → Inside
taken a c new last = record {
  lanes = with_item a.lanes c new;
  plan = a.plan;
  last = last;
  total = a.total;
  steps = a.steps;
  limit = a.limit;
  ended = a.ended;
}

pub hall-taken : (a : Inside) (c : ℕ) (new : LaneView (Box Coding)) (last : PerPlace (Option ℕ)) → IsHall a → IsQcifLane new → new.count ≤ a.steps →
    IsHall (taken a c new last)
hall-taken a c new last is boxes count = record {
  lanes = length-set a.lanes.items c new ∙ is.lanes;
  most = is.most;
  ordered = is.ordered;
  boxes = All-set IsQcifLane a.lanes.items c new boxes is.boxes;
  counts = All-set (CountsTo a.steps) a.lanes.items c new count is.counts;
  within = is.within;
  limit = is.limit;
  total = is.total;
}

pub ring-inside : (a : Inside) (c : ℕ) (old : LaneView (Box Coding)) → IsHall a → c < a.plan.lanes → old ≡ get_or a.lanes.items c old →
    ring_in (hall_view a) c ≡ ring_of old
ring-inside a c old is below here =
    get_or_from_slice_get (map ring_of a.lanes.items) c (ring_of old) (record { held = []; count = 0 })
    (get-map ring_of a.lanes.items c old
    (slice_get_read a.lanes.items (length a.lanes.items) c old refl (omega (arith, is.lanes, below)) here))

-- a lane's part in a take
pub record IsTaken (a : Inside) (q : Quad) (c : ℕ) (last : Option ℕ) (old new : LaneView (Box Coding)) : Type 0 where
  pub hall : IsHall a
  pub seat : lane_in a.plan q ≡ Some c
  pub behind : last ≡ in_place a.last q
  pub here : old ≡ get_or a.lanes.items c old
  pub held : new.held ≡ after_first (may_follow last) old.held
  pub count : new.count ≡ old.count

module _ (a : Inside) (q : Quad) (c : ℕ) (last : Option ℕ) (old new : LaneView (Box Coding)) (t : IsTaken a q c last old new) where
  ring-is : ring_in (hall_view a) c ≡ ring_of old
  ring-is = ring-inside a c old t.hall (seated a q c t.hall t.seat) t.here

  rings-taken : map ring_of (slice_set a.lanes.items c new) ≡ rings_behind (hall_view a) q (lane_in a.plan q)
  rings-taken =
      let new-is : ring_of new ≡ drained last (ring_of old) =
      ap₂ (λ (hs : List (Held (Box Coding))) (n : ℕ). record { held = map (held_as value_of) hs; count = n }) t.held t.count
      ∙ drained-map value_of last old.held old.count in
      map-set ring_of a.lanes.items c new
      ∙ ap (set (map ring_of a.lanes.items) c) (new-is ∙ ap₂ drained t.behind (sym ring-is))
      ∙ ap (rings_behind (hall_view a) q) (sym t.seat)

  next-is : next_in (hall_view a) q ≡ option_map (held_as value_of) (first_to_show last old.held)
  next-is =
      ap (next_of (hall_view a) q) t.seat
      ∙ ap₂ (λ (l : Option ℕ) (r : RingView). first_to_show l r.held) (sym t.behind) ring-is
      ∙ view_law.first value_of last old.held

  pub told-is : (serial : Option ℕ) → serial ≡ serial_of (first_to_show last old.held) → told_in (hall_view a) q ≡ told_by c serial
  told-is serial found = ap₂ told_as t.seat next-is ∙ told-serial c (first_to_show last old.held) ∙ ap (told_by c) (sym found)

  pub left-is : (before after : Box Coding) → after ≡ slot_item (first_to_show last old.held) before → after.value ≡ left_in (next_in (hall_view a) q) before.value
  left-is before after is =
      ap value_of is ∙ left-value (first_to_show last old.held) before ∙ ap (λ n. left_in n before.value) (sym next-is)

  pub behind-is : (serial : Option ℕ) (lasts : PerPlace (Option ℕ)) → serial ≡ serial_of (first_to_show last old.held) →
      lasts ≡ with_place a.last q (serial_or (told_by c serial) (in_place a.last q)) → hall_view (taken a c new lasts) ≡ behind_take (hall_view a) q
  behind-is serial lasts found is =
      ap₂ (λ (rings : List RingView) (l : PerPlace (Option ℕ)). record (hall_view a) { rings = rings; last = l }) rings-taken
      (is ∙ ap (λ told. with_place a.last q (serial_or told (in_place a.last q))) (sym (told-is serial found)))
