-- Every box of a hall has format QCIF.
use Rattle.std.proofs.Common.{◌≡◌, ℕ, Bool, true, false, cond, Option, Some, None, List, [], ◌∷◌, ◌++◌, length, drop, find, slice_get, nat_lt, All, refl, sym, subst, arith}
use Rattle.std.proofs.lemmas.List.Elements.{All-drop, All-take, All-append, All-cons, All-nil, All-map}
use Rattle.std.proofs.lemmas.Option.{get_or_from_slice_get, slice_get_within, none-some}
use Rattle.std.specs.Global.{Box}
use Rattle.std.specs.List.{after_first, before_first}
use Rattle.h261_pic.specs.Coded.{Coding}
use Rattle.lane_ring.specs.Ring.{LaneView}
use Rattle.lane_ring.specs.Taking.{items_of, items_passed, former_item, slot_item}
use Rattle.pel_model.specs.declared.Format.TheVariants.{Qcif}
use Rattle.pel_model.specs.declared.held.Held.{Held}
use Rattle.pel_model.specs.Lanes.{lane_room, last_of, may_follow, first_to_show}
use Rattle.hall_core.specs.Boxes.{IsQcifLane}

abbrev pub IsQcifBox : Box Coding → Type 0
IsQcifBox b = b.value.format ≡ Qcif

abbrev pub IsQcifHeld : Held (Box Coding) → Type 0
IsQcifHeld h = h.item.value.format ≡ Qcif

pub all-get : {X : Type 0} (P : X → Type 0) (xs : List X) (i : ℕ) (x : X) → All P xs → slice_get xs i ≡ Some x → P x
all-get P xs i x all found =
    subst P (get_or_from_slice_get xs i x x found) (all i x (slice_get_within xs i x found))

one-of : {X : Type 0} (P : X → Type 0) (x : X) → P x → All P (x ∷ [])
one-of P x p = All-cons P x [] p (All-nil P)

some-of : {X : Type 0} (P : X → Type 0) (b : Bool) (x : X) (xs ys : List X) → All P xs → All P ys →
    Some x ≡ cond b (slice_get xs 0) (slice_get ys 0) → P x
some-of P true x xs ys all others found = all-get P xs 0 x all (sym found)
some-of P false x xs ys all others found = all-get P ys 0 x others (sym found)

items-qcif : (held : List (Held (Box Coding))) → All IsQcifHeld held → All IsQcifBox (items_of held)
items-qcif held all = All-map IsQcifBox (λ (h : Held (Box Coding)). h.item) held all

-- what a post gives
pub given-qcif : (lane : LaneView (Box Coding)) (given : Box Coding) → IsQcifLane lane →
    Some given ≡ cond (nat_lt (length lane.held) lane_room) (slice_get lane.spares 0) (slice_get (items_of lane.held) 0) →
    given.value.format ≡ Qcif
given-qcif lane given all found =
    some-of IsQcifBox (nat_lt (length lane.held) lane_room) given lane.spares (items_of lane.held) all.spares (items-qcif lane.held all.held) found

spares-left : (b : Bool) (xs : List (Box Coding)) → All IsQcifBox xs → All IsQcifBox (cond b (drop 1 xs) xs)
spares-left true xs all = All-drop IsQcifBox 1 xs all
spares-left false xs all = all

pub post-qcif : (old new : LaneView (Box Coding)) (h : Held (Box Coding)) → IsQcifLane old → IsQcifHeld h →
    new.held ≡ last_of lane_room (old.held ++ h ∷ []) →
    new.spares ≡ cond (nat_lt (length old.held) lane_room) (drop 1 old.spares) old.spares → IsQcifLane new
post-qcif old new h all fits held spares = record {
  held = subst (All IsQcifHeld) (sym held)
      (All-drop IsQcifHeld _ (old.held ++ h ∷ []) (All-append IsQcifHeld old.held (h ∷ []) all.held (one-of IsQcifHeld h fits)));
  spares = subst (All IsQcifBox) (sym spares) (spares-left (nat_lt (length old.held) lane_room) old.spares all.spares);
}

pub same-qcif : (old new : LaneView (Box Coding)) → IsQcifLane old → new.held ≡ old.held → new.spares ≡ old.spares → IsQcifLane new
same-qcif old new all held spares = record {
  held = subst (All IsQcifHeld) (sym held) all.held;
  spares = subst (All IsQcifBox) (sym spares) all.spares;
}

-- what a take leaves in the slot
find-qcif : (p : Held (Box Coding) → Bool) (hs : List (Held (Box Coding))) (h : Held (Box Coding)) → All IsQcifHeld hs → find p hs ≡ Some h → IsQcifHeld h
find-qcif p [] h all found = absurd (none-some h found)
find-qcif p (k ∷ ks) h all found =
    elim (p k) as (λ v. cond v (Some k) (find p ks) ≡ Some h → IsQcifHeld h) [
      | true ↦ λ e. let same : k ≡ h = cc in subst IsQcifHeld same (all 0 k (omega arith))
      | false ↦ λ e. find-qcif p ks h (All-drop IsQcifHeld 1 (k ∷ ks) all) e
    ] found

slot-of : (found : Option (Held (Box Coding))) (slot : Box Coding) → ((h : Held (Box Coding)) → found ≡ Some h → IsQcifHeld h) → IsQcifBox slot →
    IsQcifBox (slot_item found slot)
slot-of None slot held fits = fits
slot-of (Some h) slot held fits = held h refl

former-of : (found : Option (Held (Box Coding))) (slot : Box Coding) → IsQcifBox slot → All IsQcifBox (former_item found slot)
former-of None slot fits = All-nil IsQcifBox
former-of (Some h) slot fits = one-of IsQcifBox slot fits

pub slot-qcif : (lane : LaneView (Box Coding)) (last : Option ℕ) (old new : Box Coding) → IsQcifLane lane → IsQcifBox old →
    new ≡ slot_item (first_to_show last lane.held) old → IsQcifBox new
slot-qcif lane last old new all fits is =
    subst IsQcifBox (sym is) (slot-of (first_to_show last lane.held) old (λ h found. find-qcif (may_follow last) lane.held h all.held found) fits)

pub take-qcif : (old new : LaneView (Box Coding)) (last : Option ℕ) (slot : Box Coding) → IsQcifLane old → IsQcifBox slot →
    new.held ≡ after_first (may_follow last) old.held →
    new.spares ≡ (old.spares ++ items_passed last old.held) ++ former_item (first_to_show last old.held) slot → IsQcifLane new
take-qcif old new last slot all fits held spares = record {
  held = subst (All IsQcifHeld) (sym held) (All-drop IsQcifHeld _ old.held all.held);
  spares = subst (All IsQcifBox) (sym spares)
      (All-append IsQcifBox (old.spares ++ items_passed last old.held) _
      (All-append IsQcifBox old.spares _ all.spares
      (items-qcif (before_first (may_follow last) old.held) (All-take IsQcifHeld _ old.held all.held)))
      (former-of (first_to_show last old.held) slot fits));
}
