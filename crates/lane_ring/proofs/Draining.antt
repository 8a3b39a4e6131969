-- A lane whose held items are gone through, the oldest first: those before the present ones were passed, and one more is
-- passed, or taken.
use Rattle.std.proofs.Common.{◌≡◌, ℕ, suc, ◌+◌, Bool, true, false, Option, Some, None, List, [], ◌∷◌, ◌++◌, length, take, drop, find, slice_get, refl, sym, ap, ap₂, ◌∙◌, arith, append_assoc, length-append}
use Rattle.std.proofs.lemmas.Option.{none-some}
use Rattle.std.specs.List.{before_first, after_first, position_or_len}
use Rattle.circular_buffer.specs.Buffer.{Buffer, buffer}
use Rattle.pel_model.specs.declared.held.Held.{Held}
use Rattle.lane_ring.specs.declared.lane.Lane.TheInside.{Inside}
use Rattle.lane_ring.specs.Ring.{LaneView}
use Rattle.lane_ring.specs.LaneFields.{IsLane}
use Rattle.pel_model.specs.Lanes.{may_follow, first_to_show}
use Rattle.lane_ring.specs.Taking.{items_of, items_passed}

module _ {X : Type 0} (p : X → Bool) where
  position-no : (x : X) (xs : List X) → p x ≡ false → position_or_len p (x ∷ xs) ≡ suc (position_or_len p xs)
  position-no x xs e = rw e (omega arith)

  position-yes : (x : X) (xs : List X) → p x ≡ true → position_or_len p (x ∷ xs) ≡ 0
  position-yes x xs e = rw e refl

  pub find-no : (x : X) (xs : List X) → p x ≡ false → find p (x ∷ xs) ≡ find p xs
  find-no x xs e = rw e refl

  pub find-yes : (x : X) (xs : List X) → p x ≡ true → find p (x ∷ xs) ≡ Some x
  find-yes x xs e = rw e refl

  pub after_first-no : (x : X) (xs : List X) → p x ≡ false → after_first p (x ∷ xs) ≡ after_first p xs
  after_first-no x xs e =
      let n : position_or_len p (x ∷ xs) + 1 ≡ suc (position_or_len p xs + 1) = omega (arith, position-no x xs e) in
      ap (λ k. drop k (x ∷ xs)) n

  pub after_first-yes : (x : X) (xs : List X) → p x ≡ true → after_first p (x ∷ xs) ≡ xs
  after_first-yes x xs e =
      let n : position_or_len p (x ∷ xs) + 1 ≡ suc 0 = omega (arith, position-yes x xs e) in
      ap (λ k. drop k (x ∷ xs)) n

  pub before_first-no : (x : X) (xs : List X) → p x ≡ false → before_first p (x ∷ xs) ≡ x ∷ before_first p xs
  before_first-no x xs e = ap (λ k. take k (x ∷ xs)) (position-no x xs e)

  pub before_first-yes : (x : X) (xs : List X) → p x ≡ true → before_first p (x ∷ xs) ≡ []
  before_first-yes x xs e = ap (λ k. take k (x ∷ xs)) (position-yes x xs e)

-- a list with a first item
head_is : {X : Type 0} (xs : List X) (x : X) → slice_get xs 0 ≡ Some x → xs ≡ x ∷ drop 1 xs
head_is [] x e = absurd (none-some x e)
head_is (y ∷ ys) x e = let same : y ≡ x = cc in ap (λ v. v ∷ ys) same

nothing_first : {X : Type 0} (xs : List X) → slice_get xs 0 ≡ None → xs ≡ []
nothing_first [] e = refl
nothing_first (x ∷ xs) e = absurd (none-some x (sym e))

module _ {T : Type 0} where
  -- what is taken, passed and held in the end is settled by the present items
  pub record IsDraining (last : Option ℕ) (old : LaneView T) (a : Inside T) : Type 0 where
    pub lane : IsLane a
    pub same_taken : first_to_show last old.held ≡ first_to_show last a.held.items
    pub same_rest : after_first (may_follow last) old.held ≡ after_first (may_follow last) a.held.items
    pub passes : old.spares ++ items_passed last old.held ≡ a.spares.items ++ items_passed last a.held.items
    pub same_count : old.count ≡ a.count

  passed-no : (last : Option ℕ) (h : Held T) (hs : List (Held T)) → may_follow last h ≡ false → items_passed last (h ∷ hs) ≡ h.item ∷ items_passed last hs
  passed-no last h hs e = ap items_of (before_first-no (may_follow last) h hs e)

  -- an item that does not fit is passed
  pub draining_more : (last : Option ℕ) (old : LaneView T) (a : Inside T) (h : Held T) (held : Buffer (Held T)) (spares : Buffer T) →
      IsDraining last old a → slice_get a.held.items 0 ≡ Some h → held ≡ buffer (drop 1 a.held.items) a.held.capacity →
      spares ≡ buffer (a.spares.items ++ h.item ∷ []) a.spares.capacity → may_follow last h ≡ false →
      IsDraining last old (record { held = held; spares = spares; count = a.count })
  draining_more last old a h held spares d first popped kept unfit =
      let rest = drop 1 a.held.items in
      let whole : a.held.items ≡ h ∷ rest = head_is a.held.items h first in
      let held_is : held.items ≡ rest = ap (λ (b : Buffer (Held T)). b.items) popped in
      let spares_is : spares.items ≡ a.spares.items ++ h.item ∷ [] = ap (λ (b : Buffer T). b.items) kept in
      let eight : length rest + length (a.spares.items ++ h.item ∷ []) ≡ 8 =
      omega (arith, d.lane.eight, ap length whole, length-append a.spares.items (h.item ∷ [])) in
      record {
        lane = record {
          held_room = ap (λ (b : Buffer (Held T)). b.capacity) popped ∙ d.lane.held_room;
          spare_room = ap (λ (b : Buffer T). b.capacity) kept ∙ d.lane.spare_room;
          eight = ap₂ (λ (m n : ℕ). m + n) (ap length held_is) (ap length spares_is) ∙ eight;
        };
        same_taken = d.same_taken ∙ ap (first_to_show last) whole ∙ find-no (may_follow last) h rest unfit ∙ ap (first_to_show last) (sym held_is);
        same_rest =
            d.same_rest ∙ ap (after_first (may_follow last)) whole ∙ after_first-no (may_follow last) h rest unfit
            ∙ ap (after_first (may_follow last)) (sym held_is);
        passes =
            d.passes ∙ ap (λ hs. a.spares.items ++ items_passed last hs) whole
            ∙ ap (λ ts. a.spares.items ++ ts) (passed-no last h rest unfit)
            ∙ sym (append_assoc a.spares.items (h.item ∷ []) (items_passed last rest))
            ∙ ap₂ (λ (xs : List T) (hs : List (Held T)). xs ++ items_passed last hs) (sym spares_is) (sym held_is);
        same_count = d.same_count;
      }

  -- what is left when an item is taken, and when none was left
  pub rest_taken : (last : Option ℕ) (old : LaneView T) (a : Inside T) (h : Held T) (held : Buffer (Held T)) →
      IsDraining last old a → slice_get a.held.items 0 ≡ Some h → held ≡ buffer (drop 1 a.held.items) a.held.capacity → may_follow last h ≡ true →
      held.items ≡ after_first (may_follow last) old.held
  rest_taken last old a h held d first popped fit =
      ap (λ (b : Buffer (Held T)). b.items) popped
      ∙ sym (d.same_rest ∙ ap (after_first (may_follow last)) (head_is a.held.items h first) ∙ after_first-yes (may_follow last) h (drop 1 a.held.items) fit)

  pub rest_none : (last : Option ℕ) (old : LaneView T) (a : Inside T) (held : Buffer (Held T)) →
      IsDraining last old a → slice_get a.held.items 0 ≡ None → held ≡ buffer (drop 1 a.held.items) a.held.capacity →
      held.items ≡ after_first (may_follow last) old.held
  rest_none last old a held d nothing popped =
      let empty = nothing_first a.held.items nothing in
      ap (λ (b : Buffer (Held T)). b.items) popped ∙ ap (drop 1) empty ∙ sym (d.same_rest ∙ ap (after_first (may_follow last)) empty)
