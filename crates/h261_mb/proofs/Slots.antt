-- What stands at the slots of a macroblock, from the words there and the conditions of their elements.
use Rattle.std.proofs.Common.{◌≡◌, ℕ, ◌+◌, ◌-◌, ◌≤◌, ◌<◌, ◌==◌, ◌&&◌, not, Bool, true, false, cond, List, [], ◌∷◌, ◌++◌, length, take, Some, None, nat_lt, refl, sym, ◌∙◌, ap, arith}
use Rattle.std.proofs.lemmas.Bool.{ltb-true, lt-ltb}
use Rattle.std.proofs.lemmas.List.{take-append-le}
use Rattle.pel_bits.specs.Bits as bits
use Rattle.pel_bits.specs.Reading.{zeros}
use Rattle.pel_model.specs.declared.Format.{Format}
use Rattle.pel_model.specs.declared.Why.{Why}
use Rattle.pel_model.specs.declared.Why.TheVariants.{Cut, BadQuant, BadAddress}
use Rattle.pel_model.specs.Bits as model
use Rattle.pel_model.specs.Codes.{mtype_table, mvd_table, cbp_table}
use Rattle.pel_model.specs.Records.{Axis}
use Rattle.pel_model.specs.Walk.{Standing, Good, Bad, Stop, read}
use Rattle.pel_model.specs.Grammar.{Element, Mba, Mtype, Mquant, Mvd, Cbp, Slot, slot, AtMacroblock, AtMtype, AtMquant, AtMvd, AtCbp, at_slot, rows, table_rows, field_rows, mba_rows, gbsc_row, address, faults, first_why, next}
use Rattle.pel_model.proofs.Steps.{judge, next-at, judged-good, judged-bad, judged-none, field-good, field-cut}
use Rattle.vlc_codes.proofs.CoefficientLaws.{same_number}
use Rattle.h261_mb.proofs.Words.{read_front, mba_has_one}

module _ (format : Format) (before : List Element) (r : List Bool × ℕ) (s : Slot) (here : Standing Element) (due : slot before ≡ s) (at : at_slot s r.0 ≡ here) where
  pub good : (e : Element) (n : ℕ) → here ≡ Good e n → first_why (faults format before e) ≡ None → next format before r ≡ Good e n
  good e n is fine = next-at format before r s due ∙ judged-good (judge format before) e n (at_slot s r.0) (at ∙ is) fine

  pub at_fault : (e : Element) (n : ℕ) (why : Why) → here ≡ Good e n → first_why (faults format before e) ≡ Some why → next format before r ≡ Bad why
  at_fault e n why is fault =
      next-at format before r s due ∙ judged-bad (judge format before) e n why (at_slot s r.0) (at ∙ is) fault

  pub no_word : (why : Why) → here ≡ Bad why → next format before r ≡ Bad why
  no_word why is = next-at format before r s due ∙ judged-none (judge format before) why (at_slot s r.0) (at ∙ is)

-- ---- the slots

pub at-mtype : (left : List Bool) → at_slot AtMtype left ≡ read (table_rows mtype_table Mtype) left
unfolding rows
at-mtype left = refl

pub at-mquant : (left : List Bool) → at_slot AtMquant left ≡ read (field_rows 5 Mquant) left
unfolding rows
at-mquant left = refl

pub at-mvd : (axis : Axis) (left : List Bool) → at_slot (AtMvd axis) left ≡ read (table_rows mvd_table (Mvd axis)) left
unfolding rows
at-mvd axis left = refl

pub at-cbp : (left : List Bool) → at_slot AtCbp left ≡ read (table_rows cbp_table Cbp) left
unfolding rows
at-cbp left = refl

-- where a word of MBA stands, it is no end, and what stands there
at-macroblock : (left : List Bool) (e : Element) (n : ℕ) → read mba_rows left ≡ Good e n → at_slot AtMacroblock left ≡ Good e n
unfolding rows
at-macroblock left e n is =
    ap (λ (one : Bool). cond (nat_lt (length left) 8 && not one) Stop (read (mba_rows ++ gbsc_row ∷ []) left)) (mba_has_one left e n is)
    ∙ (no_end (nat_lt (length left) 8) (read (mba_rows ++ gbsc_row ∷ []) left) ∙ read_front left e n mba_rows (gbsc_row ∷ []) is)
  where
    no_end : (short : Bool) (here : Standing Element) → cond (short && not true) Stop here ≡ here
    no_end true here = refl
    no_end false here = refl

-- ---- MBA

not_past : (a b : ℕ) (past : Bool) → nat_lt a b ≡ past → b ≤ a → past ≡ false
not_past a b true is h = absurd (omega (arith, ltb-true a b is))
not_past a b false is h = refl

module _ (format : Format) (before : List Element) (r : List Bool × ℕ) (last d n : ℕ) (due : slot before ≡ AtMacroblock) (address_is : address before ≡ last) (is : read mba_rows r.0 ≡ Good (Mba d) n) where
  pub mba-good : last + d ≤ 33 → next format before r ≡ Good (Mba (last + d - last)) n
  mba-good within =
      let same : last + d - last ≡ d = omega arith in
      let near : nat_lt 33 (address before + d) ≡ false = not_past 33 (address before + d) (nat_lt 33 (address before + d)) refl (omega (arith, address_is)) in
      good format before r AtMacroblock (at_slot AtMacroblock r.0) due refl (Mba d) n (at-macroblock r.0 (Mba d) n is) (ap (λ (b : Bool). cond b (Some BadAddress) None) near)
      ∙ ap (λ (k : ℕ). Good (Mba k) n) (sym same)

  pub mba-bad : 33 < last + d → next format before r ≡ Bad BadAddress
  mba-bad past =
      let far : nat_lt 33 (address before + d) ≡ true = lt-ltb 33 (address before + d) (omega (arith, address_is)) in
      at_fault format before r AtMacroblock (at_slot AtMacroblock r.0) due refl (Mba d) n BadAddress (at-macroblock r.0 (Mba d) n is) (ap (λ (b : Bool). cond b (Some BadAddress) None) far)

-- ---- MQUANT

module _ (format : Format) (before : List Element) (r : List Bool × ℕ) (due : slot before ≡ AtMquant) where
  pub mquant-cut : length r.0 < 5 → next format before r ≡ Bad Cut
  mquant-cut short =
      no_word format before r AtMquant (read (field_rows 5 Mquant) r.0) due (at-mquant r.0) Cut (field-cut 5 Mquant r.0 short)

  -- the five bits that were peeked at
  seen : (q : ℕ) → 5 ≤ length r.0 → q ≡ bits.number (take 5 (r.0 ++ zeros 5)) → read (field_rows 5 Mquant) r.0 ≡ Good (Mquant q) 5
  seen q fits is =
      let same : model.number (take 5 r.0) ≡ q = same_number (take 5 r.0) ∙ (ap bits.number (sym (take-append-le 5 r.0 (zeros 5) fits)) ∙ sym is) in
      field-good 5 Mquant r.0 fits ∙ ap (λ (q : ℕ). Good (Mquant q) 5) same

  pub mquant-good : (q : ℕ) → 5 ≤ length r.0 → q ≡ bits.number (take 5 (r.0 ++ zeros 5)) → (q == 0) ≡ false → next format before r ≡ Good (Mquant q) 5
  mquant-good q fits is some =
      good format before r AtMquant (read (field_rows 5 Mquant) r.0) due (at-mquant r.0) (Mquant q) 5 (seen q fits is) (ap (λ (b : Bool). cond b (Some BadQuant) None) some)

  pub mquant-bad : (q : ℕ) → 5 ≤ length r.0 → q ≡ bits.number (take 5 (r.0 ++ zeros 5)) → (q == 0) ≡ true → next format before r ≡ Bad BadQuant
  mquant-bad q fits is none =
      at_fault format before r AtMquant (read (field_rows 5 Mquant) r.0) due (at-mquant r.0) (Mquant q) 5 BadQuant (seen q fits is) (ap (λ (b : Bool). cond b (Some BadQuant) None) none)
