-- What stands where a macroblock may: the words of MBA, and a group's start code behind them in the list.
use Rattle.std.proofs.Common.{◌≡◌, ◌≢◌, ℕ, ◌+◌, ◌-◌, ◌/◌, ◌^◌, ◌≤◌, ◌<◌, ◌==◌, ◌||◌, not, Bool, true, false, cond, List, [], ◌∷◌, ◌++◌, length, take, map, Option, Some, None, nat_lt, min, if◌then◌else◌, inl, inr, refl, sym, ◌∙◌, ap, subst, arith, pow_pos, zero-add}
use Rattle.std.specs.List.{find, list_any, list_all}
use Rattle.std.proofs.lemmas.Bool.{eqb-true, and_parts, cases_Bool, false_from_ne_true, le-ltb, ne_eqb}
use Rattle.std.proofs.lemmas.List.{take_all}
use Rattle.pel_bits.specs.Bits as bits
use Rattle.pel_model.specs.declared.Format.{Format}
use Rattle.pel_model.specs.declared.Why.{Why}
use Rattle.pel_model.specs.declared.Why.TheVariants.{Cut, NoCode}
use Rattle.pel_model.specs.Codes.{is_prefix, group_start_code, mba_table}
use Rattle.pel_model.specs.Walk.{Standing, Good, Bad, Stop, Row, read, cause, whole_word, word_at, judged}
use Rattle.pel_model.specs.Grammar.{Element, Gbsc, Stuffing, Slot, slot, AtGroup, AtMacroblock, at_slot, is_end, rows, mba_rows, gbsc_row, next}
use Rattle.pel_model.proofs.Steps.{judge, next-at, judged-good, judged-none}
use Rattle.vlc_codes.proofs.WordLaws.{is_prefix_length, is_prefix_longer, cause-cut}
use Rattle.h261_mb.proofs.Words.{read_front}
use Rattle.h261_pic.proofs.HeaderSteps.{is_prefix_front, front_begins, is_number}

-- ---- bits that are all 0

pub ones : (left : List Bool) → (bits.number left == 0) ≡ not (list_any (λ b. b) left)
unfolding bits.number
ones [] = refl
ones (false ∷ left) = ap (λ (n : ℕ). n == 0) (zero-add (bits.number left)) ∙ ones left
ones (true ∷ left) = ne_eqb (2 ^ length left + bits.number left) 0 (λ zero_is. absurd (omega (arith, pow_pos (length left))))

-- ---- the list of words

pub group-field : group_start_code ≡ bits.field 1 16
unfolding bits.field
group-field = refl

pub at-macroblock : (left : List Bool) → is_end left ≡ false → at_slot AtMacroblock left ≡ read (mba_rows ++ gbsc_row ∷ []) left
unfolding rows
at-macroblock left is = ap (λ (b : Bool). cond b Stop (read (mba_rows ++ gbsc_row ∷ []) left)) is

-- behind a picture header the start code alone may stand
pub at-group : (left : List Bool) → is_end left ≡ false → at_slot AtGroup left ≡ read (gbsc_row ∷ []) left
unfolding rows
at-group left is = ap (λ (b : Bool). cond b Stop (read (gbsc_row ∷ []) left)) is

at-first-end : (left : List Bool) → is_end left ≡ true → at_slot AtGroup left ≡ Stop
unfolding rows
at-first-end left is = ap (λ (b : Bool). cond b Stop (read (gbsc_row ∷ []) left)) is

at-end : (left : List Bool) → is_end left ≡ true → at_slot AtMacroblock left ≡ Stop
unfolding rows
at-end left is = ap (λ (b : Bool). cond b Stop (read (mba_rows ++ gbsc_row ∷ []) left)) is

pub no_tails : list_all (λ (row : Row Element). row.tail == 0) mba_rows ≡ true
unfolding mba_table
no_tails = refl

module _ (left : List Bool) where
  abbrev front : List (Row Element) → Option (Row Element)
  front rows = find (λ (row : Row Element). is_prefix row.code left) rows

  is_good : (e : Element) (n : ℕ) (why : Why) (short : Bool) → short ≡ false → ◌≡◌ {A = Standing Element} (if short then Bad Cut else Good e n) (Bad why) → ⊥
  is_good e n why true is bad = cc
  is_good e n why false is bad = cc

  -- a word without a tail is whole where it stands
  whole : (row : Row Element) (why : Why) → row.tail ≡ 0 → is_prefix row.code left ≡ true → whole_word row left ≡ Bad why → ⊥
  whole row why no_tail here bad =
      is_good _ _ why (nat_lt (length left) (length row.code + row.tail))
      (le-ltb (length left) (length row.code + row.tail) (omega (arith, no_tail, is_prefix_length row.code left here))) bad

  -- no word is found where none is read
  none_found : (all rows : List (Row Element)) (why : Why) → list_all (λ (row : Row Element). row.tail == 0) rows ≡ true → word_at all left (front rows) ≡ Bad why → front rows ≡ None
  none_found all [] why plain bad = refl
  none_found all (row ∷ rows) why plain bad =
      elim (cases_Bool (is_prefix row.code left)) [
        | inl here ↦
            absurd (whole row why (eqb-true row.tail 0 (and_parts (row.tail == 0) _ plain).0) here (subst (λ (b : Bool). word_at all left (cond b (Some row) (front rows)) ≡ Bad why) here bad))
        | inr other ↦
            ap (λ (b : Bool). cond b (Some row) (front rows)) other
            ∙ none_found all rows why (and_parts (row.tail == 0) _ plain).1 (subst (λ (b : Bool). word_at all left (cond b (Some row) (front rows)) ≡ Bad why) other bad)
      ]

  -- where none of these is found, the first of the others
  found_behind : (rows more : List (Row Element)) → front rows ≡ None → front (rows ++ more) ≡ front more
  found_behind [] more none = refl
  found_behind (row ∷ rows) more none = passed (is_prefix row.code left) none (λ (later : front rows ≡ None). found_behind rows more later)
    where
      passed : (here : Bool) → cond here (Some row) (front rows) ≡ None → (front rows ≡ None → front (rows ++ more) ≡ front more) → cond here (Some row) (front (rows ++ more)) ≡ front more
      passed true none later = absurd cc
      passed false none later = later none

  abbrev is_cut : List (Row Element) → Bool
  is_cut rows = list_any (λ code. is_prefix left code) (map (λ (row : Row Element). row.code) rows)

  cut_either : (rows : List (Row Element)) (row : Row Element) → is_cut (rows ++ row ∷ []) ≡ (is_cut rows || is_prefix left row.code)
  cut_either [] row = or_nothing (is_prefix left row.code)
    where
      or_nothing : (b : Bool) → (b || false) ≡ b
      or_nothing true = refl
      or_nothing false = refl
  cut_either (r ∷ rows) row = ap (λ (b : Bool). is_prefix left r.code || b) (cut_either rows row) ∙ regroup (is_prefix left r.code) (is_cut rows) (is_prefix left row.code)
    where
      regroup : (a b c : Bool) → (a || (b || c)) ≡ ((a || b) || c)
      regroup true b c = refl
      regroup false b c = refl

  same_bad : (why other : Why) → ◌≡◌ {A = Standing Element} (Bad why) (Bad other) → why ≡ other
  same_bad why other same = cc

  module _ (words : List (Row Element)) (plain : list_all (λ (row : Row Element). row.tail == 0) words ≡ true) (why : Why) (is : read words left ≡ Bad why) where
    none : front words ≡ None
    none = none_found words words why plain is

    reason : cause (map (λ (row : Row Element). row.code) words) left ≡ why
    reason = same_bad _ why (ap (word_at words left) (sym none) ∙ is)

    abbrev union : List (Row Element)
    union = words ++ gbsc_row ∷ []

    at_code : (here : Bool) → is_prefix group_start_code left ≡ here → read union left ≡ word_at union left (cond here (Some gbsc_row) None)
    at_code here h = ap (word_at union left) (found_behind words (gbsc_row ∷ []) none ∙ ap (λ (b : Bool). cond b (Some gbsc_row) None) h)

    -- a start code; a front of one; or what the words of MBA say
    pub group-good : 16 ≤ length left → take 16 left ≡ take 16 group_start_code → read union left ≡ Good Gbsc 16
    group-good long same =
        at_code true (is_prefix_front group_start_code left same)
        ∙ ap (λ (short : Bool). if short then Bad Cut else Good Gbsc 16) (le-ltb (length left) 16 long)

    pub group-cut : (k : ℕ) → k ≡ length left → k < 16 → take k left ≡ take k group_start_code → read union left ≡ Bad Cut
    group-cut k len short same =
        let begun : take (length left) group_start_code ≡ left =
        ap (λ (n : ℕ). take n group_start_code) (sym len) ∙ (sym same ∙ take_all k left (omega (arith, len))) in
        let cut : is_cut union ≡ true = cut_either words gbsc_row ∙ or_true (is_cut words) (is_prefix left group_start_code) (is_prefix_front left group_start_code begun) in
        at_code false (is_prefix_longer group_start_code left (omega (arith, len))) ∙ ap Bad (cause-cut (map (λ (row : Row Element). row.code) union) left cut)
      where
        or_true : (a b : Bool) → b ≡ true → (a || b) ≡ true
        or_true true b h = refl
        or_true false b h = h

    pub group-none : (is_prefix group_start_code left ≡ true → ⊥) → (is_prefix left group_start_code ≡ true → ⊥) → read union left ≡ Bad why
    group-none not_whole not_front =
        let same : is_cut union ≡ is_cut words = cut_either words gbsc_row ∙ or_false (is_cut words) (is_prefix left group_start_code) (false_from_ne_true (is_prefix left group_start_code) not_front) in
        at_code false (false_from_ne_true (is_prefix group_start_code left) not_whole)
        ∙ ap Bad (ap (λ (cut : Bool). if cut then Cut else NoCode) same ∙ reason)
      where
        or_false : (a b : Bool) → b ≡ false → (a || b) ≡ a
        or_false true b h = refl
        or_false false b h = h

-- ---- the step of the grammar

module _ (format : Format) (before : List Element) (r : List Bool × ℕ) where
  pub at-the-end : slot before ≡ AtMacroblock → is_end r.0 ≡ true → next format before r ≡ Stop
  at-the-end due is = next-at format before r AtMacroblock due ∙ ap (judged (judge format before)) (at-end r.0 is)

  pub at-the-first-end : slot before ≡ AtGroup → is_end r.0 ≡ true → next format before r ≡ Stop
  at-the-first-end due is = next-at format before r AtGroup due ∙ ap (judged (judge format before)) (at-first-end r.0 is)

  pub stuffing-comes : slot before ≡ AtMacroblock → is_end r.0 ≡ false → (n : ℕ) → read mba_rows r.0 ≡ Good Stuffing n → next format before r ≡ Good Stuffing n
  stuffing-comes due goes_on n is =
      next-at format before r AtMacroblock due
      ∙ judged-good (judge format before) Stuffing n (at_slot AtMacroblock r.0) (at-macroblock r.0 goes_on ∙ read_front r.0 Stuffing n mba_rows (gbsc_row ∷ []) is) refl

  -- where a start code may stand behind other words, none of which does
  module _ (s : Slot) (words : List (Row Element)) (plain : list_all (λ (row : Row Element). row.tail == 0) words ≡ true) (due : slot before ≡ s) (at : at_slot s r.0 ≡ read (words ++ gbsc_row ∷ []) r.0) (why : Why) (is : read words r.0 ≡ Bad why) where
    pub group-comes : 16 ≤ length r.0 → take 16 r.0 ≡ take 16 group_start_code → next format before r ≡ Good Gbsc 16
    group-comes long same =
        next-at format before r s due
        ∙ judged-good (judge format before) Gbsc 16 (at_slot s r.0) (at ∙ group-good r.0 words plain why is long same) refl

    pub group-is-cut : (k : ℕ) → k ≡ length r.0 → k < 16 → take k r.0 ≡ take k group_start_code → next format before r ≡ Bad Cut
    group-is-cut k len short same =
        next-at format before r s due
        ∙ judged-none (judge format before) Cut (at_slot s r.0) (at ∙ group-cut r.0 words plain why is k len short same)

    -- the number of the first bits, 16 or all that are left, is not that of the start code's front
    pub nothing-comes : (n k : ℕ) → k ≡ min (length r.0) 16 → n ≡ bits.number (take k r.0) → n ≢ 1 / 2 ^ (16 - k) → next format before r ≡ Bad why
    nothing-comes n k k_is seen differs =
        let not_whole : is_prefix group_start_code r.0 ≡ true → ⊥ = λ whole.
        let long : 16 ≤ length r.0 = is_prefix_length group_start_code r.0 whole in
        let all : k ≡ 16 = omega arith in
        differs (is_number group_start_code 1 16 group-field (omega arith) r.0 n k (omega arith) seen (ap (λ (m : ℕ). take m r.0) all ∙ (front_begins group_start_code r.0 whole ∙ ap (λ (m : ℕ). take m group_start_code) (sym all)))) in
        let not_front : is_prefix r.0 group_start_code ≡ true → ⊥ = λ begun.
        let short : length r.0 ≤ 16 = is_prefix_length r.0 group_start_code begun in
        let all : k ≡ length r.0 = omega arith in
        differs (is_number group_start_code 1 16 group-field (omega arith) r.0 n k (omega arith) seen (take_all k r.0 (omega arith) ∙ (sym (front_begins r.0 group_start_code begun) ∙ ap (λ (m : ℕ). take m group_start_code) (sym all)))) in
        next-at format before r s due
        ∙ judged-none (judge format before) why (at_slot s r.0) (at ∙ group-none r.0 words plain why is not_whole not_front)
