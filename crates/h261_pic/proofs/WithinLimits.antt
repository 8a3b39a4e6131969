-- A part of a picture that was read without the limit, and where it ends past the limit, again over the bits that the
-- limit leaves: what it is in the picture.
use Rattle.std.proofs.Common.{◌≡◌, ℕ, ◌+◌, ◌-◌, ◌<◌, ◌≤◌, Bool, true, List, [], ◌∷◌, take, drop, Result, Ok, Err, nat_lt, ◌⊎◌, inl, inr, refl, sym, ◌∙◌, ap, subst, arith}
use Rattle.std.proofs.lemmas.Bool.{ltb-true, ltb-false, cases_Bool}
use Rattle.vlc_codes.specs.Lookup.{codes_of_rows}
use Rattle.pel_model.specs.declared.Fault.{Fault}
use Rattle.pel_model.specs.declared.Format.{Format}
use Rattle.pel_model.specs.declared.Why.{Why}
use Rattle.pel_model.specs.declared.Why.TheVariants.{Cut, BadAddress, TooLong}
use Rattle.pel_model.specs.Codes.{is_prefix_free, mba_table}
use Rattle.pel_model.specs.Walk.{Reading, Good, Bad, skipped, after, Goes, AreTaken, FailsBehind, Walked, read}
use Rattle.pel_model.specs.Grammar.{Element, Mba, slot, AtMacroblock, address, may_end, mba_rows, next, next_within_limit}
use Rattle.pel_model.proofs.Walks.{same_walk}
use Rattle.picture_laws.specs.Laws.{Leaves, TooLongAt}
use Rattle.pel_model.specs.Elements.{AreInside}
use Rattle.picture_laws.proofs.Chains.{goes-walk}
use Rattle.picture_laws.proofs.Limits.{picture-good, picture-long, picture-bad}
use Rattle.picture_laws.proofs.Cuts.{drop-take, cut-good, read-cut, read-kept, within-the-limit, past-the-limit, same_good, bad_good}
use Rattle.picture_laws.proofs.Joins.{inside-stands}
use Rattle.h261_mb.proofs.Slots.{mba-good, mba-bad}
use Rattle.h261_pic.specs.Reached.{MeetsFault, Reached}

-- good elements of the picture, and the next one is too long, at that place
abbrev pub IsTooLong : Format → List Element → Reading → ℕ → Type 0
IsTooLong format before old place = MeetsFault format before (record { place = place; why = TooLong }) old

-- a reading of the first k bits alone
abbrev pub first_bits : ℕ → Reading → Reading
first_bits k r = (take k r.0, r.1)

-- the reader of the bits that the limit leaves stands there
pub first-bits : (end : ℕ) (begin old cut : Reading) → cut ≡ (take (end - begin.1) begin.0, begin.1) → begin ≡ old → cut ≡ first_bits (end - old.1) old
first-bits end begin old cut is copied = is ∙ ap (λ (r : Reading). (take (end - r.1) r.0, r.1)) copied

-- the fault that is answered there
pub fault-there : (format : Format) (before : List Element) (old : Reading) (place at : ℕ) (f : Fault) → f ≡ record { place = place; why = TooLong } → place ≡ at → IsTooLong format before old at → MeetsFault format before f old
fault-there format before old place at f is same long = record {
  elements = long.elements;
  end = long.end;
  walk = long.walk;
  bad = long.bad ∙ ap (λ (f : Fault). Bad f.why) (sym is);
  place = ap (λ (f : Fault). f.place) is ∙ (same ∙ long.place);
}

-- ---- elements at none of which an end may be

module _ {X : Type 0} (format : Format) (before : List Element) (Wanted : X → List Element → Reading → Type 0) (IsPart : List Element → Type 0) (old new : Reading) where
  -- a walk leads on
  walked-on : (result : Result X Fault) → Walked (next format) before Wanted IsPart result old new → old.1 ≤ new.1
  walked-on (Ok x) w = let g = goes-walk format before old w.elements new w.walk in omega (arith, g.place)
  walked-on (Err f) w = let g = goes-walk format before old w.elements new w.walk in omega (arith, g.place)

  module _ (k : ℕ) (leaves : Leaves format before old.1 k) (wanted_inside : (x : X) (es : List Element) → Wanted x es new → AreInside es) (part_inside : (es : List Element) → IsPart es → AreInside es) where
    -- what ends within the limit is as good in the picture
    pub reached-within : (result : Result X Fault) → Walked (next format) before Wanted IsPart result old new → new.1 ≤ old.1 + k → Reached format before Wanted result old new
    reached-within (Ok x) w fits =
        record {
          elements = w.elements;
          walk = within-the-limit format before old new w.elements k leaves (inside-stands format before old new w.elements w.walk (wanted_inside x w.elements w.wanted)) w.walk fits;
          wanted = w.wanted;
        }
    reached-within (Err f) w fits =
        record {
          elements = w.elements;
          end = new;
          walk = within-the-limit format before old new w.elements k leaves (inside-stands format before old new w.elements w.walk (part_inside w.elements w.part)) w.walk fits;
          bad = picture-bad format (after before w.elements) new f.why w.bad;
          place = w.place;
        }

    -- what ends past it is too long somewhere
    pub long-somewhere : (result : Result X Fault) → Walked (next format) before Wanted IsPart result old new → old.1 + k < new.1 → TooLongAt format before old k
    long-somewhere (Ok x) w far =
        past-the-limit format before old new w.elements k leaves (inside-stands format before old new w.elements w.walk (wanted_inside x w.elements w.wanted)) w.walk far
    long-somewhere (Err f) w far =
        past-the-limit format before old new w.elements k leaves (inside-stands format before old new w.elements w.walk (part_inside w.elements w.part)) w.walk far

-- and a reading of the bits that the limit leaves stops there
module _ {X : Type 0} (format : Format) (before : List Element) (Wanted : X → List Element → Reading → Type 0) (IsPart : List Element → Type 0) (old new : Reading) (k : ℕ) where
  pub long-there : TooLongAt format before old k → ((x : X) (es : List Element) → Wanted x es new → may_end (slot (after before es)) ≡ true) → (result : Result X Fault) → Walked (next format) before Wanted IsPart result (first_bits k old) new → IsTooLong format before old new.1
  long-there long whole (Ok x) w = absurd (long.no_end w.elements new w.walk (whole x w.elements w.wanted))
  long-there long whole (Err f) w =
      let same = same_walk (next format) before (first_bits k old) long.cut new long.good w.elements long.cut_walk w.walk (bad_good (next format (after before long.good) long.cut) Cut long.is_cut) (bad_good (next format (after before w.elements) new) f.why w.bad) in
      record { elements = long.good; end = long.mid; walk = long.walk; bad = long.too_long; place = sym (ap (λ (r : Reading). r.1) same.1) ∙ sym long.place }

-- ---- behind a first element, which may stand where an end may be

module _ {X : Type 0} (format : Format) (before : List Element) (Wanted : X → List Element → Reading → Type 0) (IsPart : List Element → Type 0) (old new : Reading) (some : (x : X) → Wanted x [] new → ⊥) where
  -- a walk behind its first element
  behind-first : (e : Element) (n : ℕ) → next format before old ≡ Good e n → (result : Result X Fault) → Walked (next format) before Wanted IsPart result old new → Walked (next format) (e ∷ before) (λ x es. Wanted x (e ∷ es)) (λ es. IsPart (e ∷ es)) result (skipped n old) new
  behind-first e n good (Ok x) w = one w.elements w.walk w.wanted
    where
      one : (es : List Element) → Goes (next format) before old es new → Wanted x es new → Walked (next format) (e ∷ before) (λ x es. Wanted x (e ∷ es)) (λ es. IsPart (e ∷ es)) (Ok x) (skipped n old) new
      one [] goes wanted = absurd (some x wanted)
      one (y ∷ es) goes wanted =
          let same = same_good (next format before old) y e goes.0 n goes.1 good in
          let rest = subst (λ (m : ℕ). Goes (next format) (y ∷ before) (skipped m old) es new) same.1 goes.2 in
          subst (λ (z : Element). AreTaken (next format) (z ∷ before) (λ es. Wanted x (z ∷ es)) (skipped n old) new) same.0 (record { elements = es; walk = rest; wanted = wanted })
  behind-first e n good (Err f) w = one w.elements w.walk w.part w.bad w.place
    where
      one : (es : List Element) → Goes (next format) before old es new → IsPart es → next format (after before es) new ≡ Bad f.why → f.place ≡ new.1 → Walked (next format) (e ∷ before) (λ x es. Wanted x (e ∷ es)) (λ es. IsPart (e ∷ es)) (Err f) (skipped n old) new
      one [] goes part bad at = absurd (bad_good (next format before new) f.why bad e n (ap (next format before) goes ∙ good))
      one (y ∷ es) goes part bad at =
          let same = same_good (next format before old) y e goes.0 n goes.1 good in
          let rest = subst (λ (m : ℕ). Goes (next format) (y ∷ before) (skipped m old) es new) same.1 goes.2 in
          subst (λ (z : Element). FailsBehind (next format) (z ∷ before) (λ es. IsPart (z ∷ es)) f (skipped n old) new) same.0 (record { elements = es; walk = rest; part = part; bad = bad; place = at })

  -- where the first element is at fault, there is no walk
  stays-there : (why : Why) → next format before old ≡ Bad why → (result : Result X Fault) → Walked (next format) before Wanted IsPart result old new → (new ≡ old) × Reached format before Wanted result old new
  stays-there why fault (Ok x) w = one w.elements w.walk w.wanted
    where
      one : (es : List Element) → Goes (next format) before old es new → Wanted x es new → (new ≡ old) × Reached format before Wanted (Ok x) old new
      one [] goes wanted = absurd (some x wanted)
      one (y ∷ es) goes wanted = absurd (bad_good (next format before old) why fault y goes.0 goes.1)
  stays-there why fault (Err f) w = one w.elements w.walk w.bad w.place
    where
      one : (es : List Element) → Goes (next format) before old es new → next format (after before es) new ≡ Bad f.why → f.place ≡ new.1 → (new ≡ old) × Reached format before Wanted (Err f) old new
      one [] goes bad at = (goes, record { elements = []; end = new; walk = goes; bad = picture-bad format before new f.why bad; place = at })
      one (y ∷ es) goes bad at = absurd (bad_good (next format before old) why fault y goes.0 goes.1)

  -- a good first element, and what is reached behind it
  first-reached : (e : Element) (n : ℕ) → next_within_limit format before old ≡ Good e n → (result : Result X Fault) → Reached format (e ∷ before) (λ x es. Wanted x (e ∷ es)) result (skipped n old) new → Reached format before Wanted result old new
  first-reached e n good (Ok x) w = record { elements = e ∷ w.elements; walk = (n, good, w.walk); wanted = w.wanted }
  first-reached e n good (Err f) w = record { elements = e ∷ w.elements; end = w.end; walk = (n, good, w.walk); bad = w.bad; place = w.place }

-- ---- a macroblock

mba_free : is_prefix_free (codes_of_rows mba_rows) ≡ true
unfolding mba_table
mba_free = refl

module _ (format : Format) (before : List Element) (old : Reading) (d n : ℕ) (due : slot before ≡ AtMacroblock) (is : read mba_rows old.0 ≡ Good (Mba d) n) where
  abbrev first : Element
  first = Mba (address before + d - address before)

  -- MBA is good, or its address is past the last
  mba_either : (next format before old ≡ Good first n) ⊎ (next format before old ≡ Bad BadAddress)
  mba_either = elim (cases_Bool (nat_lt 33 (address before + d))) [
    | inl far ↦ inr (mba-bad format before old (address before) d n due refl is (ltb-true 33 (address before + d) far))
    | inr near ↦ inl (mba-good format before old (address before) d n due refl is (ltb-false 33 (address before + d) near))
  ]

  module _ {X : Type 0} (k : ℕ) (leaves : Leaves format before old.1 k) where
    module _ (Wanted : X → List Element → Reading → Type 0) (IsPart : List Element → Type 0) (new : Reading) (some : (x : X) → Wanted x [] new → ⊥) (wanted_inside : (x : X) (es : List Element) → Wanted x es new → AreInside (drop 1 es)) (part_inside : (es : List Element) → IsPart es → AreInside (drop 1 es)) (result : Result X Fault) (walked : Walked (next format) before Wanted IsPart result old new) where
      module _ (good : next format before old ≡ Good first n) where
        abbrev rest : Walked (next format) (first ∷ before) (λ x es. Wanted x (first ∷ es)) (λ es. IsPart (first ∷ es)) result (skipped n old) new
        rest = behind-first format before Wanted IsPart old new some first n good result walked

        mba_within : n ≤ k → next_within_limit format before old ≡ Good first n
        mba_within fits = picture-good format before old first n good (omega (arith, leaves, fits))

        left : n ≤ k → Leaves format (first ∷ before) (old.1 + n) (k - n)
        left fits = omega (arith, leaves, fits)

        behind_mba : new.1 ≤ old.1 + k → Reached format before Wanted result old new
        behind_mba fits =
            let on = walked-on format (first ∷ before) (λ x es. Wanted x (first ∷ es)) (λ es. IsPart (first ∷ es)) (skipped n old) new result rest in
            let most : n ≤ k = omega (arith, on, fits) in
            first-reached format before Wanted IsPart old new some first n (mba_within most) result (reached-within format (first ∷ before) (λ x es. Wanted x (first ∷ es)) (λ es. IsPart (first ∷ es)) (skipped n old) new (k - n) (left most) (λ x es. wanted_inside x (first ∷ es)) (λ es. part_inside (first ∷ es)) result rest (omega (arith, most, fits)))

      -- what ends within the limit is as good in the picture
      pub macroblock-within : new.1 ≤ old.1 + k → Reached format before Wanted result old new
      macroblock-within fits = elim mba_either [
        | inl good ↦ behind_mba good fits
        | inr bad ↦ (stays-there format before Wanted IsPart old new some BadAddress bad result walked).1
      ]

      -- what ends past it is too long somewhere, and a reading of the bits that the limit leaves stops there
      module _ (Again : X → List Element → Reading → Type 0) (IsPartAgain : List Element → Type 0) (new_again : Reading) (some_again : (x : X) → Again x [] new_again → ⊥) (whole : (x : X) (es : List Element) → Again x es new_again → may_end (slot (after before es)) ≡ true) (result_again : Result X Fault) (walked_again : read mba_rows (take k old.0) ≡ Good (Mba d) n → Walked (next format) before Again IsPartAgain result_again (first_bits k old) new_again) (no_word : read mba_rows (take k old.0) ≡ Bad Cut → new_again ≡ first_bits k old) where
        long_behind_mba : next format before old ≡ Good first n → n ≤ k → old.1 + k < new.1 → IsTooLong format before old new_again.1
        long_behind_mba good fits far =
            let long = long-somewhere format (first ∷ before) (λ x es. Wanted x (first ∷ es)) (λ es. IsPart (first ∷ es)) (skipped n old) new (k - n) (left good fits) (λ x es. wanted_inside x (first ∷ es)) (λ es. part_inside (first ∷ es)) result (rest good) (omega (arith, far, fits)) in
            let walk = walked_again (read-kept mba_rows old.0 (Mba d) n k mba_free is fits) in
            let behind = behind-first format before Again IsPartAgain (first_bits k old) new_again some_again first n (cut-good format before old first n k good fits) result_again walk in
            let moved : skipped n (first_bits k old) ≡ first_bits (k - n) (skipped n old) = ap (λ (t : List Bool). (t, old.1 + n)) (drop-take n k old.0 fits) in
            let there = subst (λ (r : Reading). Walked (next format) (first ∷ before) (λ x es. Again x (first ∷ es)) (λ es. IsPartAgain (first ∷ es)) result_again r new_again) moved behind in
            let t = long-there format (first ∷ before) (λ x es. Again x (first ∷ es)) (λ es. IsPartAgain (first ∷ es)) (skipped n old) new_again (k - n) long (λ x es. whole x (first ∷ es)) result_again there in
            record { elements = first ∷ t.elements; end = t.end; walk = (n, mba_within good fits, t.walk); bad = t.bad; place = t.place }

        long_mba : next format before old ≡ Good first n → k < n → IsTooLong format before old new_again.1
        long_mba good short =
            record {
              elements = [];
              end = old;
              walk = refl;
              bad = picture-long format before old first n good (omega (arith, leaves, short));
              place = ap (λ (r : Reading). r.1) (no_word (read-cut mba_rows old.0 (Mba d) n k mba_free is short));
            }

        pub macroblock-long : old.1 + k < new.1 → IsTooLong format before old new_again.1
        macroblock-long far = elim mba_either [
          | inl good ↦ elim (cases_Bool (nat_lt k n)) [
            | inl short ↦ long_mba good (ltb-true k n short)
            | inr fits ↦ long_behind_mba good (ltb-false k n fits) far
          ]
          | inr bad ↦
              let stays = (stays-there format before Wanted IsPart old new some BadAddress bad result walked).0 in
              let same : new.1 ≡ old.1 = ap (λ (r : Reading). r.1) stays in
              absurd (omega (arith, same, far))
        ]
