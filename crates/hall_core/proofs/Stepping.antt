-- A hall of which one ring is changed by a step: what holds of its fields then, and the history that it stands for.
use Rattle.std.proofs.Common.{◌≡◌, ℕ, ◌+◌, ◌<◌, ◌≤◌, ◌≢◌, ◌||◌, Bool, true, false, nat_le, List, [], ◌∷◌, ◌++◌, Some, length, map, slice_get, slice_set, get_or, All, refl, sym, ap, ap₂, subst, ◌∙◌, arith}
use Rattle.std.proofs.lemmas.Bool.Decides.{nat_tests}
use Rattle.std.proofs.lemmas.List.{length-map, map-append, map-set, length-set}
use Rattle.std.proofs.lemmas.List.Elements.{All-set}
use Rattle.std.proofs.lemmas.Option.{slice_get_read}
use Rattle.std.specs.Global.{Box}
use Rattle.std.specs.Vec.{with_item}
use Rattle.std.specs.Prelude.{IsTrue, ◌↔◌}
use Rattle.h261_pic.specs.Coded.{Coding, coding}
use Rattle.lane_ring.specs.Arrivals.{held_as}
use Rattle.lane_ring.specs.Ring.{LaneView}
use Rattle.pel_model.specs.declared.Format.TheVariants.{Qcif}
use Rattle.pel_model.specs.declared.held.Held.{Held}
use Rattle.pel_model.specs.History.{Post, Gap, History}
use Rattle.pel_model.specs.Lanes.{lane_room, last_of}
use Rattle.pel_model.specs.Records.{Picture}
use Rattle.pel_model.specs.Refresh.{is_refresh, IsRefresh}
use Rattle.hall_core.specs.declared.hall.Hall.TheInside.{Inside}
use Rattle.hall_core.specs.Boxes.{value_of, ring_of, IsQcifLane}
use Rattle.hall_core.specs.Fields.{hall_view, IsHall}
use Rattle.hall_core.specs.Hall.{RingView, HallView, is_over}
use Rattle.hall_core.specs.Stands.{ring_behind, StandsFor}
use Rattle.hall_core.proofs.Rings.{get-map, some-same, map-last, gap-ring, gap-others, post-ring, post-others, rings-step}

-- one more step may be made
or-left : (a b : Bool) → (a || b) ≡ false → a ≡ false
or-left false b e = refl
or-left true b e = e

or-right : (a b : Bool) → (a || b) ≡ false → b ≡ false
or-right false b e = e
or-right true b e = absurd (no e)
  where
    no : true ≡ false → ⊥
    no f = cc

pub has-room : (hall : HallView) → is_over hall ≡ false → hall.steps < hall.limit
has-room hall e = let under : nat_le hall.limit hall.steps ≡ false = or-right hall.ended _ e in grind (arith, nat_tests)

-- of the fields, where the hall's value is known
pub room-inside : (a : Inside) (hall : HallView) → hall_view a ≡ hall → is_over hall ≡ false → a.steps < a.limit
room-inside a hall is e = has-room (hall_view a) (ap is_over is ∙ e)

pub lane-inside : (a : Inside) (hall : HallView) (i lane : ℕ) → hall_view a ≡ hall → lane < hall.plan.lanes → i ≡ lane → i < a.plan.lanes
lane-inside a hall i lane is below same =
    let lanes : a.plan.lanes ≡ hall.plan.lanes = ap (λ (h : HallView). h.plan.lanes) is in omega (arith, lanes, below, same)

pub goes-on : (hall : HallView) → is_over hall ≡ false → hall.ended ≡ false
goes-on hall e = or-left hall.ended _ e

-- the hall behind a step that changes one ring
abbrev pub changed : Inside → ℕ → LaneView (Box Coding) → Inside
changed a i new = record {
  lanes = with_item a.lanes i new;
  plan = a.plan;
  last = a.last;
  total = a.total;
  steps = a.steps + 1;
  limit = a.limit;
  ended = a.ended;
}

abbrev pub CountsTo : ℕ → LaneView (Box Coding) → Type 0
CountsTo n l = l.count ≤ n

pub lane-is : (P : LaneView (Box Coding) → Type 0) (a : Inside) (i : ℕ) (old : LaneView (Box Coding)) → i < length a.lanes.items →
    old ≡ get_or a.lanes.items i old → All P a.lanes.items → P old
lane-is P a i old within is all = subst P (sym is) (all i old within)

pub hall-changed : (a : Inside) (i : ℕ) (new : LaneView (Box Coding)) → IsHall a → a.steps < a.limit → IsQcifLane new → new.count ≤ a.steps + 1 →
    IsHall (changed a i new)
hall-changed a i new is room boxes count = record {
  lanes = length-set a.lanes.items i new ∙ is.lanes;
  most = is.most;
  ordered = is.ordered;
  boxes = All-set IsQcifLane a.lanes.items i new boxes is.boxes;
  counts = All-set (CountsTo (a.steps + 1)) a.lanes.items i new count (λ k d l. omega (arith, is.counts k d l));
  within = omega (arith, room);
  limit = is.limit;
  total = omega (arith, is.total);
}

-- ---- histories

ring-was : (a : Inside) (H : History) (c : ℕ) (old : LaneView (Box Coding)) → IsHall a → c < a.plan.lanes → old ≡ get_or a.lanes.items c old →
    StandsFor (hall_view a) H → ring_of old ≡ ring_behind a.plan.lanes H c
ring-was a H c old is below here stands =
    some-same (ring_of old) (ring_behind a.plan.lanes H c)
    (sym (get-map ring_of a.lanes.items c old
    (slice_get_read a.lanes.items (length a.lanes.items) c old refl (omega (arith, is.lanes, below)) here))
    ∙ stands.rings c below)

rings-changed : (a : Inside) (c : ℕ) (old new : ℕ → RingView) (ring : LaneView (Box Coding)) → IsHall a → c < a.plan.lanes →
    ((k : ℕ) → k < a.plan.lanes → slice_get (map ring_of a.lanes.items) k ≡ Some (old k)) → ring_of ring ≡ new c → ((k : ℕ) → k ≢ c → new k ≡ old k) →
    (k : ℕ) → k < a.plan.lanes → slice_get (map ring_of (slice_set a.lanes.items c ring)) k ≡ Some (new k)
rings-changed a c old new ring is below are at others k under =
    ap (λ rs. slice_get rs k) (map-set ring_of a.lanes.items c ring)
    ∙ rings-step a.plan.lanes c (map ring_of a.lanes.items) (ring_of ring) old new are
    (omega (arith, is.lanes, below, length-map a.lanes.items ring_of)) at others k under

pub gap-stands : (a : Inside) (H : History) (c : ℕ) (old new : LaneView (Box Coding)) → IsHall a → c < a.plan.lanes → old ≡ get_or a.lanes.items c old →
    new.held ≡ old.held → new.count ≡ old.count + 1 → StandsFor (hall_view a) H → StandsFor (hall_view (changed a c new)) (Gap c ∷ H)
gap-stands a H c old new is below here held count stands =
    let lanes = a.plan.lanes in
    let same : ring_of new ≡ ring_behind lanes (Gap c ∷ H) c =
    ap₂ (λ (hs : List (Held (Box Coding))) (n : ℕ). record { held = map (held_as value_of) hs; count = n }) held count
    ∙ ap (λ (r : RingView). record { held = r.held; count = r.count + 1 }) (ring-was a H c old is below here stands)
    ∙ sym (gap-ring lanes c H) in
    record {
      rings = rings-changed a c (ring_behind lanes H) (ring_behind lanes (Gap c ∷ H)) new is below stands.rings same (λ k apart. gap-others lanes c k H apart);
      plan = stands.plan;
      last = stands.last;
      total = stands.total;
      steps = omega (arith, stands.steps);
      ended = stands.ended;
    }

-- a post of a box whose picture this is
same-test : (b r : Bool) → (b ≡ true → r ≡ true) → (r ≡ true → b ≡ true) → b ≡ r
same-test true r f g = sym (f refl)
same-test false true f g = g refl
same-test false false f g = refl

pub refresh-is : (coded : Coding) (b : Bool) (p : Picture) →
    ((picture : Picture) → coded ≡ coding coded.format picture → IsTrue b ↔ IsRefresh coded.format picture) → coded ≡ coding Qcif p → b ≡ is_refresh Qcif p
refresh-is coded b p test is =
    let format : coded.format ≡ Qcif = ap (λ (k : Coding). k.format) is in
    let whole : coded ≡ coding coded.format p = is ∙ ap (λ f. coding f p) (sym format) in
    let decided : b ≡ is_refresh coded.format p = same-test b (is_refresh coded.format p) (test p whole).0 (test p whole).1 in
    decided ∙ ap (λ f. is_refresh f p) format

post-held : (old : LaneView (Box Coding)) (refresh : Bool) (item : Box Coding) → map (held_as value_of)
    (last_of lane_room (old.held ++ record { serial = old.count + 1; refresh = refresh; item = item } ∷ []))
    ≡ last_of lane_room ((ring_of old).held ++ record { serial = (ring_of old).count + 1; refresh = refresh; item = item.value } ∷ [])
post-held old refresh item =
    let new : List (Held (Box Coding)) = record { serial = old.count + 1; refresh = refresh; item = item } ∷ [] in
    map-last (held_as value_of) lane_room (old.held ++ new) ∙ ap (last_of lane_room) (map-append (held_as value_of) old.held new)

abbrev pub posted : RingView → Bool → Coding → RingView
posted r refresh item = record {
  held = last_of lane_room (r.held ++ record { serial = r.count + 1; refresh = refresh; item = item } ∷ []);
  count = r.count + 1;
}

pub post-stands : (a : Inside) (H : History) (c : ℕ) (p : Picture) (old new : LaneView (Box Coding)) (refresh : Bool) (item : Box Coding) →
    IsHall a → c < a.plan.lanes → old ≡ get_or a.lanes.items c old →
    new.held ≡ last_of lane_room (old.held ++ record { serial = old.count + 1; refresh = refresh; item = item } ∷ []) → new.count ≡ old.count + 1 →
    refresh ≡ is_refresh Qcif p → item.value ≡ coding Qcif p →
    StandsFor (hall_view a) H → StandsFor (hall_view (changed a c new)) (Post c p ∷ H)
post-stands a H c p old new refresh item is below here held count refreshes coded stands =
    let lanes = a.plan.lanes in
    let same : ring_of new ≡ ring_behind lanes (Post c p ∷ H) c =
    ap₂ (λ (hs : List (Held Coding)) (n : ℕ). record { held = hs; count = n }) (ap (map (held_as value_of)) held ∙ post-held old refresh item) count
    ∙ ap₂ (posted (ring_of old)) refreshes coded
    ∙ ap (λ r. posted r (is_refresh Qcif p) (coding Qcif p)) (ring-was a H c old is below here stands)
    ∙ sym (post-ring lanes c p H) in
    record {
      rings = rings-changed a c (ring_behind lanes H) (ring_behind lanes (Post c p ∷ H)) new is below stands.rings same (λ k apart. post-others lanes c k p H apart);
      plan = stands.plan;
      last = stands.last;
      total = stands.total;
      steps = omega (arith, stands.steps);
      ended = stands.ended;
    }
