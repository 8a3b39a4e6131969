-- A CIF picture that gets the groups of two places by turns.
use Rattle.std.proofs.Common.{◌≡◌, ◌⊎◌, ℕ, zero, suc, ◌+◌, ◌-◌, ◌*◌, ◌<◌, ◌≤◌, Bool, true, false, length, slice_index, Option, refl, sym, ◌∙◌, ap, ap₂, subst, inl, inr, arith}
use Rattle.std.proofs.lemmas.List.FromFn.{get_or-range_with_len}
use Rattle.h261_pic.specs.Coded.{Coding, coding, next_number, view_of, group_in, Belongs}
use Rattle.pel_model.specs.declared.Format.{Format}
use Rattle.pel_model.specs.declared.Format.TheVariants.{Qcif, Cif}
use Rattle.pel_model.specs.declared.Quad.{Quad}
use Rattle.pel_model.specs.declared.Quad.TheVariants.{One, Two, Three, Four}
use Rattle.pel_model.specs.Composed.{or_blank}
use Rattle.pel_model.specs.Records.{Group, Picture, with_group}
use Rattle.pel_model.specs.Regions.{number_in, renumbered}
use Rattle.pel_model.specs.Valid.{group_count, group_numbers, limit}
use Rattle.cif_mix.specs.Rows.{IsFinishedQcif, bits_below, IsBox, CanGrow, CanGive, CanTake, bits_shown, IsAdded, with_rows, IsAtRow, IsRowAdded}
use Rattle.cif_mix.specs.Shows.{MayBeShown, Shows}

-- ---- what is copied next

next-is : (whole : Coding) → whole.format ≡ Cif → length whole.groups < 12 → next_number whole ≡ length whole.groups + 1
next-is whole cif below =
    ap (λ (f : Format). slice_index (group_numbers f) (length whole.groups)) cif
    ∙ get_or-range_with_len 1 12 (length whole.groups) 0 below ∙ omega arith

may-copy : (picture whole : Coding) (i : ℕ) (place : Quad) → IsFinishedQcif picture → IsBox picture → i < 3 → whole.format ≡ Cif → length whole.groups < 12
    → length whole.groups + 1 ≡ number_in place (2 * i + 1) → length whole.bits + (view_of picture i).len + 26 * (12 - length whole.groups) ≤ 262144
    → CanGive picture i whole
may-copy picture whole i place finished box less cif below number room = record {
  qcif = finished.0;
  copied = record {
    finished = finished.1;
    there = omega (arith, finished.1.1 ∙ ap group_count finished.0);
    belongs =
        subst (λ (f : Format). Belongs f (view_of picture i).number whole.format (next_number whole)) (sym finished.0)
        (subst (λ (f : Format). Belongs Qcif (view_of picture i).number f (next_number whole)) (sym cif)
        (place, next-is whole cif below ∙ number ∙ ap (number_in place) (sym (box.numbers i less))));
    room =
        subst (λ (f : Format). length whole.bits + (view_of picture i).len + 26 * (group_count f - length whole.groups) ≤ limit f) (sym cif) room;
  };
}

grows-below : (whole : Coding) → CanGrow whole → length whole.groups < 12
grows-below whole grows = omega (arith, grows.next.next, ap group_count grows.cif)

-- the macroblock bits of the first n groups of a picture, where it is shown
abbrev pub shown_below : Bool → Coding → ℕ → ℕ
shown_below true picture n = bits_below picture n
shown_below false picture n = 0

below-three : (picture : Coding) (i : ℕ) → IsBox picture → i < 3 → bits_below picture i + (view_of picture i).len ≤ 65426
below-three picture zero box less = omega (arith, box.few)
below-three picture (suc zero) box less = omega (arith, box.few)
below-three picture (suc (suc zero)) box less = omega (arith, box.few)
below-three picture (suc (suc (suc i))) box less = absurd (omega arith)

shown-few : (shown : Bool) (picture : Coding) (i : ℕ) → (shown ≡ true → IsBox picture) → i < 3 → shown_below shown picture i + bits_shown shown picture i ≤ 65426
shown-few true picture i box less = below-three picture i (box refl) less
shown-few false picture i box less = omega arith

shown-more : (shown : Bool) (picture : Coding) (i : ℕ) → shown_below shown picture (suc i) ≡ shown_below shown picture i + bits_shown shown picture i
shown-more true picture i = refl
shown-more false picture i = refl

-- ---- so many groups of each

pub record AtPair (show_left : Bool) (left : Coding) (show_right : Bool) (right : Coding) (old now : Coding) (i : ℕ) : Type 0 where
  pub cif : now.format ≡ Cif
  pub begun : 0 < length now.bits
  pub more : length now.groups ≡ length old.groups + 2 * i
  pub long : length now.bits ≤ length old.bits + 52 * i + shown_below show_left left i + shown_below show_right right i
  pub is : (l r : Option Picture) (whole : Picture) → Shows show_left left l → Shows show_right right r → old ≡ coding Cif whole
      → now ≡ coding Cif (with_rows whole (or_blank l) (or_blank r) (length old.groups) i)

module _ (show_left : Bool) (left : Coding) (show_right : Bool) (right : Coding) (old : Coding) where
  abbrev Pair : Coding → ℕ → Type 0
  Pair now i = AtPair show_left left show_right right old now i

  pub pair-first : IsAtRow old → Pair old 0
  pair-first row = record {
    cif = row.cif;
    begun = row.begun;
    more = omega arith;
    long = omega arith;
    is = λ l r whole shows_left shows_right old_is. old_is;
  }

  few-groups : (row : (length old.groups ≡ 0) ⊎ (length old.groups ≡ 6)) → length old.groups ≤ 6
  few-groups (inl none) = omega (arith, none)
  few-groups (inr six) = omega (arith, six)

  left-grows : (now : Coding) (i : ℕ) → IsAtRow old → i < 3 → Pair now i → CanGrow now
  left-grows now i row less pair = record {
    cif = pair.cif;
    next = record { begun = pair.begun; next = omega (arith, ap group_count pair.cif, pair.more, few-groups row.row) };
  }

  right-grows : (now mid : Coding) (i : ℕ) → IsAtRow old → i < 3 → Pair now i → IsAdded show_left left i now mid → CanGrow mid
  right-grows now mid i row less pair added = record {
    cif = added.cif;
    next = record { begun = added.begun; next = omega (arith, ap group_count added.cif, added.more, pair.more, few-groups row.row) };
  }

  copies-left : (now : Coding) (i : ℕ) → (length old.groups ≡ 0) ⊎ (length old.groups ≡ 6) → i < 3 → Pair now i → IsFinishedQcif left → IsBox left → length now.groups < 12
      → length now.bits + (view_of left i).len + 26 * (12 - length now.groups) ≤ 262144 → CanGive left i now
  copies-left now i (inl none) less pair finished box below room =
      may-copy left now i One finished box less pair.cif below (omega (arith, pair.more, none)) room
  copies-left now i (inr six) less pair finished box below room =
      may-copy left now i Three finished box less pair.cif below (omega (arith, pair.more, six)) room

  copies-right : (now mid : Coding) (i : ℕ) → (length old.groups ≡ 0) ⊎ (length old.groups ≡ 6) → i < 3 → Pair now i → IsAdded show_left left i now mid → IsFinishedQcif right → IsBox right
      → length mid.groups < 12 → length mid.bits + (view_of right i).len + 26 * (12 - length mid.groups) ≤ 262144 → CanGive right i mid
  copies-right now mid i (inl none) less pair added finished box below room =
      may-copy right mid i Two finished box less added.cif below (omega (arith, added.more, pair.more, none)) room
  copies-right now mid i (inr six) less pair added finished box below room =
      may-copy right mid i Four finished box less added.cif below (omega (arith, added.more, pair.more, six)) room

  left-copies : (now : Coding) (i : ℕ) → IsAtRow old → i < 3 → Pair now i → MayBeShown show_left left → (IsFinishedQcif left → IsBox left) → (IsFinishedQcif right → IsBox right)
      → MayBeShown show_right right → show_left ≡ true → CanGive left i now
  left-copies now i row less pair may box box_right may_right shown =
      let this : shown_below show_left left i + (view_of left i).len ≤ 65426 =
      subst (λ (s : Bool). shown_below s left i + (view_of left i).len ≤ 65426) (sym shown) (below-three left i (box (may shown)) less) in
      let other : shown_below show_right right i + bits_shown show_right right i ≤ 65426 = shown-few show_right right i (λ s. box_right (may_right s)) less in
      copies-left now i row.row less pair (may shown) (box (may shown))
      (grows-below now (left-grows now i row less pair))
      (omega (arith, this, other, pair.long, pair.more, row.room, few-groups row.row))

  right-copies : (now mid : Coding) (i : ℕ) → IsAtRow old → i < 3 → Pair now i → IsAdded show_left left i now mid → MayBeShown show_left left → (IsFinishedQcif left → IsBox left)
      → (IsFinishedQcif right → IsBox right) → MayBeShown show_right right → show_right ≡ true → CanGive right i mid
  right-copies now mid i row less pair added may box box_right may_right shown =
      let this : shown_below show_right right i + (view_of right i).len ≤ 65426 =
      subst (λ (s : Bool). shown_below s right i + (view_of right i).len ≤ 65426) (sym shown) (below-three right i (box_right (may_right shown)) less) in
      let other : shown_below show_left left i + bits_shown show_left left i ≤ 65426 = shown-few show_left left i (λ s. box (may s)) less in
      copies-right now mid i row.row less pair added (may_right shown) (box_right (may_right shown))
      (grows-below mid (right-grows now mid i row less pair added))
      (omega (arith, this, other, pair.long, pair.more, added.long, added.more, row.room, few-groups row.row))

  pub left-takes : (now : Coding) (i : ℕ) → IsAtRow old → i < 3 → Pair now i → MayBeShown show_left left → MayBeShown show_right right
      → (IsFinishedQcif left → IsBox left) → (IsFinishedQcif right → IsBox right) → CanTake show_left left i now
  left-takes now i row less pair may may_right box box_right = record {
    there = less;
    grows = left-grows now i row less pair;
    gives = left-copies now i row less pair may box box_right may_right;
  }

  pub right-takes : (now mid : Coding) (i : ℕ) → IsAtRow old → i < 3 → Pair now i → IsAdded show_left left i now mid → MayBeShown show_left left
      → MayBeShown show_right right → (IsFinishedQcif left → IsBox left) → (IsFinishedQcif right → IsBox right) → CanTake show_right right i mid
  right-takes now mid i row less pair added may may_right box box_right = record {
    there = less;
    grows = right-grows now mid i row less pair added;
    gives = right-copies now mid i row less pair added may box box_right may_right;
  }

  -- both were added
  pub pair-more : (now mid new : Coding) (i : ℕ) → IsAtRow old → i < 3 → Pair now i → IsAdded show_left left i now mid → IsAdded show_right right i mid new → Pair new (i + 1)
  pair-more now mid new i row less pair first second =
      let next : suc i ≡ i + 1 = omega arith in
      subst (Pair new) next (record {
        cif = second.cif;
        begun = second.begun;
        more = omega (arith, second.more, first.more, pair.more, next);
        long = omega (arith, second.long, first.long, pair.long, next, shown-more show_left left i, shown-more show_right right i);
        is = λ l r whole shows_left shows_right old_is.
            let so_far : Picture = with_rows whole (or_blank l) (or_blank r) (length old.groups) i in
            let g : Group = group_in (or_blank l) i in
            let h : Group = group_in (or_blank r) i in
            second.is r (with_group so_far (renumbered (next_number now) g)) shows_right (first.is l so_far shows_left (pair.is l r whole shows_left shows_right old_is))
            ∙ ap₂ (λ (n m : ℕ). coding Cif (with_group (with_group so_far (renumbered n g)) (renumbered m h)))
            {x = next_number now} {y = length old.groups + 2 * i + 1}
            (next-is now pair.cif (grows-below now (left-grows now i row less pair)) ∙ omega (arith, pair.more))
            (next-is mid first.cif (grows-below mid (right-grows now mid i row less pair first)) ∙ omega (arith, first.more, pair.more));
      })

  pub row-added : (new : Coding) → Pair new 3 → (IsFinishedQcif left → IsBox left) → (IsFinishedQcif right → IsBox right) → MayBeShown show_left left → MayBeShown show_right right
      → IsRowAdded show_left left show_right right old new
  row-added new pair box box_right may may_right = record {
    cif = pair.cif;
    begun = pair.begun;
    more = omega (arith, pair.more);
    long = omega (
      arith,
      pair.long,
      shown-few show_left left 2 (λ s. box (may s)) (omega arith),
      shown-more show_left left 2,
      shown-few show_right right 2 (λ s. box_right (may_right s)) (omega arith),
      shown-more show_right right 2,
    );
    is = pair.is;
  }
