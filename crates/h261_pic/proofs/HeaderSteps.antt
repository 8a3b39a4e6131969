-- What stands at the slots of a header: a start code, and fields of a width.
use Rattle.std.proofs.Common.{◌≡◌, ◌≢◌, ℕ, ◌+◌, ◌-◌, ◌*◌, ◌/◌, ◌^◌, ◌≤◌, ◌<◌, ◌==◌, ◌||◌, Bool, true, false, cond, List, [], ◌∷◌, ◌++◌, length, take, Some, None, nat_lt, min, if◌then◌else◌, refl, sym, ◌∙◌, ap, subst, arith, div-lt_iff_lt-mul, pow_pos, pow-add, length-take}
use Rattle.std.proofs.lemmas.Bool.{false_from_ne_true, le-ltb, or_from}
use Rattle.std.proofs.lemmas.List.{take_all, take-append-le}
use Rattle.pel_bits.specs.Reading.{zeros}
use Rattle.pel_bits.specs.Bits as bits
use Rattle.pel_bits.proofs.Fields.{take-field, number-fits, field-number}
use Rattle.pel_model.specs.declared.Format.{Format}
use Rattle.pel_model.specs.declared.Why.{Why}
use Rattle.pel_model.specs.declared.Why.TheVariants.{Cut, NoCode, NoStart}
use Rattle.pel_model.specs.Bits as model
use Rattle.pel_model.specs.Codes.{is_prefix, picture_start_code}
use Rattle.pel_model.specs.Walk.{Good, Bad, read, word_at}
use Rattle.pel_model.specs.Grammar.{Element, Psc, Tr, Ptype, Gn, Gquant, Slot, slot, AtPsc, AtTr, AtPtype, AtGn, AtGquant, at_slot, or_no_start, rows, word_row, field_rows, faults, first_why, next}
use Rattle.pel_model.proofs.Steps.{judge, next-at, judged-good, judged-bad, judged-none, field-good, field-cut}
use Rattle.vlc_codes.proofs.WordLaws.{is_prefix_length, is_prefix_longer, cause-cut, cause-none}
use Rattle.h261_pic.specs.HeaderElements.{Layer, OfPicture, OfGroup, FieldOf, flag_of, spare_of, flag_slot, spare_slot}

-- ---- fields

module _ (format : Format) (before : List Element) (r : List Bool × ℕ) (s : Slot) (width : ℕ) (make : ℕ → Element) (due : slot before ≡ s) (at : (left : List Bool) → at_slot s left ≡ read (field_rows width make) left) where
  pub field-is-cut : length r.0 < width → next format before r ≡ Bad Cut
  field-is-cut short =
      next-at format before r s due ∙ judged-none (judge format before) Cut (at_slot s r.0) (at r.0 ∙ field-cut width make r.0 short)

  seen : (n : ℕ) → width ≤ length r.0 → n ≡ model.number (take width r.0) → at_slot s r.0 ≡ Good (make n) width
  seen n fits is = at r.0 ∙ (field-good width make r.0 fits ∙ ap (λ (n : ℕ). Good (make n) width) (sym is))

  pub field-is-good : (n : ℕ) → width ≤ length r.0 → n ≡ model.number (take width r.0) → first_why (faults format before (make n)) ≡ None → next format before r ≡ Good (make n) width
  field-is-good n fits is fine =
      next-at format before r s due ∙ judged-good (judge format before) (make n) width (at_slot s r.0) (seen n fits is) fine

  pub field-is-bad : (n : ℕ) (why : Why) → width ≤ length r.0 → n ≡ model.number (take width r.0) → first_why (faults format before (make n)) ≡ Some why → next format before r ≡ Bad why
  field-is-bad n why fits is fault =
      next-at format before r s due ∙ judged-bad (judge format before) (make n) width why (at_slot s r.0) (seen n fits is) fault

-- ---- the slots of fields

pub at-tr : FieldOf AtTr 5 Tr
unfolding rows
at-tr = ((λ left. refl), (λ format before n. refl))

pub at-ptype : (left : List Bool) → at_slot AtPtype left ≡ read (field_rows 6 Ptype) left
unfolding rows
at-ptype left = refl

pub at-gn : (left : List Bool) → at_slot AtGn left ≡ read (field_rows 4 Gn) left
unfolding rows
at-gn left = refl

pub at-gquant : (left : List Bool) → at_slot AtGquant left ≡ read (field_rows 5 Gquant) left
unfolding rows
at-gquant left = refl

pub at-flag : (layer : Layer) → FieldOf (flag_slot layer) 1 (λ n. flag_of layer (n == 1))
unfolding rows
at-flag OfPicture = ((λ left. refl), (λ format before n. refl))
at-flag OfGroup = ((λ left. refl), (λ format before n. refl))

pub at-spare : (layer : Layer) → FieldOf (spare_slot layer) 8 (spare_of layer)
unfolding rows
at-spare OfPicture = ((λ left. refl), (λ format before n. refl))
at-spare OfGroup = ((λ left. refl), (λ format before n. refl))

-- the bits that were peeked at
pub peeked : (left : List Bool) (n k : ℕ) → k ≤ length left → n ≡ bits.number (take k (left ++ zeros k)) → n ≡ bits.number (take k left)
peeked left n k fits is = is ∙ ap bits.number (take-append-le k left (zeros k) fits)

-- ---- the start code

pub is_prefix_front : (word left : List Bool) → take (length word) left ≡ word → is_prefix word left ≡ true
is_prefix_front [] left is = refl
is_prefix_front (b ∷ word) [] is = absurd cc
is_prefix_front (b ∷ word) (c ∷ left) is = same b c (cc) (is_prefix_front word left cc)
  where
    same : (b c : Bool) → c ≡ b → is_prefix word left ≡ true → is_prefix (b ∷ word) (c ∷ left) ≡ true
    same true true is front = front
    same false false is front = front
    same true false is front = absurd cc
    same false true is front = absurd cc

pub front_begins : (word left : List Bool) → is_prefix word left ≡ true → take (length word) left ≡ word
front_begins [] left is = refl
front_begins (b ∷ word) [] is = absurd cc
front_begins (true ∷ word) (true ∷ left) is = ap (λ (bs : List Bool). true ∷ bs) (front_begins word left is)
front_begins (false ∷ word) (false ∷ left) is = ap (λ (bs : List Bool). false ∷ bs) (front_begins word left is)
front_begins (true ∷ word) (false ∷ left) is = absurd cc
front_begins (false ∷ word) (true ∷ left) is = absurd cc

pub code-field : picture_start_code ≡ bits.field 16 20
unfolding bits.field
code-field = refl

-- a code that is the field of a number
module _ (code : List Bool) (value total : ℕ) (code-is : code ≡ bits.field value total) (below : value < 2 ^ total) where
  front_of_code : (k : ℕ) → k ≤ total → take k code ≡ bits.field (value / 2 ^ (total - k)) k
  front_of_code k within =
      let all : k + (total - k) ≡ total = omega arith in
      ap (take k) (code-is ∙ ap (bits.field value) (sym all)) ∙ take-field value k (total - k)

  front-fits : (k : ℕ) → k ≤ total → value / 2 ^ (total - k) < 2 ^ k
  front-fits k within =
      let all : k + (total - k) ≡ total = omega arith in
      let product : 2 ^ total ≡ 2 ^ k * 2 ^ (total - k) = ap (λ (n : ℕ). 2 ^ n) (sym all) ∙ pow-add 2 k (total - k) in
      (div-lt_iff_lt-mul (pow_pos (total - k))).1 (subst (λ (n : ℕ). value < n) product below)

  -- a front of the bits is one of the code where it spells the number of that
  module _ (left : List Bool) (n k : ℕ) (within : k ≤ total) (is : n ≡ bits.number (take k left)) where
    pub is_front : k ≤ length left → n ≡ value / 2 ^ (total - k) → take k left ≡ take k code
    is_front fits same =
        let len : length (take k left) ≡ k = omega (arith, length-take k left) in
        sym (field-number (take k left))
        ∙ (ap (bits.field (bits.number (take k left))) len
        ∙ (ap (λ (m : ℕ). bits.field m k) (sym is ∙ same) ∙ sym (front_of_code k within)))

    pub is_number : take k left ≡ take k code → n ≡ value / 2 ^ (total - k)
    is_number same =
        is ∙ (ap bits.number (same ∙ front_of_code k within) ∙ number-fits (value / 2 ^ (total - k)) k (front-fits k within))

code-length : length picture_start_code ≡ 20
code-length = refl

at-psc : (left : List Bool) → at_slot AtPsc left ≡ or_no_start AtPsc (read (word_row picture_start_code Psc ∷ []) left)
unfolding rows
at-psc left = refl

found : (left : List Bool) (here : Bool) → is_prefix picture_start_code left ≡ here → read (word_row picture_start_code Psc ∷ []) left ≡ word_at (word_row picture_start_code Psc ∷ []) left (cond here (Some (word_row picture_start_code Psc)) None)
found left here is = ap (λ (b : Bool). word_at (word_row picture_start_code Psc ∷ []) left (cond b (Some (word_row picture_start_code Psc)) None)) is

module _ (format : Format) (before : List Element) (r : List Bool × ℕ) (due : slot before ≡ AtPsc) where
  pub start-good : 20 ≤ length r.0 → take 20 r.0 ≡ take 20 picture_start_code → next format before r ≡ Good Psc 20
  start-good long same =
      let whole : nat_lt (length r.0) 20 ≡ false = le-ltb (length r.0) 20 long in
      let word : read (word_row picture_start_code Psc ∷ []) r.0 ≡ Good Psc 20 =
      found r.0 true (is_prefix_front picture_start_code r.0 same) ∙ ap (λ (short : Bool). if short then Bad Cut else Good Psc 20) whole in
      next-at format before r AtPsc due
      ∙ judged-good (judge format before) Psc 20 (at_slot AtPsc r.0) (at-psc r.0 ∙ ap (or_no_start AtPsc) word) refl

  pub start-cut : (k : ℕ) → k ≡ length r.0 → k < 20 → take k r.0 ≡ take k picture_start_code → next format before r ≡ Bad Cut
  start-cut k len short same =
      let front : take (length r.0) picture_start_code ≡ r.0 =
      ap (λ (n : ℕ). take n picture_start_code) (sym len) ∙ (sym same ∙ take_all k r.0 (omega (arith, len))) in
      let word : read (word_row picture_start_code Psc ∷ []) r.0 ≡ Bad Cut =
      found r.0 false (is_prefix_longer picture_start_code r.0 (omega (arith, len)))
      ∙ ap Bad (cause-cut (picture_start_code ∷ []) r.0 (ap (λ (b : Bool). b || false) (is_prefix_front r.0 picture_start_code front))) in
      next-at format before r AtPsc due
      ∙ judged-none (judge format before) Cut (at_slot AtPsc r.0) (at-psc r.0 ∙ ap (or_no_start AtPsc) word)

  pub start-none : (is_prefix picture_start_code r.0 ≡ true → ⊥) → (is_prefix r.0 picture_start_code ≡ true → ⊥) → next format before r ≡ Bad NoStart
  start-none not_whole not_front =
      let word : read (word_row picture_start_code Psc ∷ []) r.0 ≡ Bad NoCode =
      found r.0 false (false_from_ne_true (is_prefix picture_start_code r.0) not_whole)
      ∙ ap Bad (cause-none (picture_start_code ∷ []) r.0 (or_from (is_prefix r.0 picture_start_code) false (false_from_ne_true (is_prefix r.0 picture_start_code) not_front) refl)) in
      next-at format before r AtPsc due
      ∙ judged-none (judge format before) NoStart (at_slot AtPsc r.0) (at-psc r.0 ∙ ap (or_no_start AtPsc) word)

  -- the number of the first bits, 20 or all that are left, is not that of the start code's front
  pub other-number : (n k : ℕ) → k ≡ min (length r.0) 20 → n ≡ bits.number (take k r.0) → n ≢ 16 / 2 ^ (20 - k) → next format before r ≡ Bad NoStart
  other-number n k is seen differs =
      start-none
      (λ whole. let long : 20 ≤ length r.0 = is_prefix_length picture_start_code r.0 whole in
      let k_is : k ≡ 20 = omega arith in
      differs (is_number picture_start_code 16 20 code-field (omega arith) r.0 n k (omega arith) seen (ap (λ (m : ℕ). take m r.0) k_is ∙ (front_begins picture_start_code r.0 whole ∙ ap (λ (m : ℕ). take m picture_start_code) (sym k_is)))))
      (λ front. let short : length r.0 ≤ 20 = is_prefix_length r.0 picture_start_code front in
      let k_is : k ≡ length r.0 = omega arith in
      differs (is_number picture_start_code 16 20 code-field (omega arith) r.0 n k (omega arith) seen (take_all k r.0 (omega arith) ∙ (sym (front_begins r.0 picture_start_code front) ∙ ap (λ (m : ℕ). take m picture_start_code) (sym k_is)))))
