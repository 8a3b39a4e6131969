-- What stands in a block, by the slot of its next element.
use Rattle.std.proofs.Common.{◌≡◌, ◌≢◌, ℕ, ◌≤◌, ◌<◌, ◌==◌, ◌||◌, Bool, true, false, cond, List, ◌++◌, length, take, Some, None, ◌⊎◌, inl, inr, refl, sym, ◌∙◌, ap}
use Rattle.std.proofs.lemmas.Bool.{ne_eqb}
use Rattle.std.proofs.lemmas.List.{take-append-le}
use Rattle.pel_bits.specs.Bits as bits
use Rattle.pel_bits.specs.Reading.{zeros}
use Rattle.pel_model.specs.declared.Format.{Format}
use Rattle.pel_model.specs.declared.Why.{Why}
use Rattle.pel_model.specs.declared.Why.TheVariants.{Cut, BadDc}
use Rattle.pel_model.specs.Bits as model
use Rattle.pel_model.specs.Walk.{Good, Bad, read}
use Rattle.pel_model.specs.Grammar.{Element, Dc, Slot, slot, AtDc, AtFirst, AtCoefficient, at_slot, rows, field_rows, first_rows, later_rows, faults, first_why, next}
use Rattle.pel_model.proofs.Steps.{judge, next-at, judged-good, judged-bad, judged-none, field-good, field-cut}
use Rattle.vlc_codes.proofs.CoefficientLaws.{same_number}

-- ---- INTRADC

at-dc : (left : List Bool) → at_slot AtDc left ≡ read (field_rows 8 Dc) left
unfolding rows
at-dc left = refl

pub dc-cut : (format : Format) (before : List Element) (r : List Bool × ℕ) → slot before ≡ AtDc → length r.0 < 8 → next format before r ≡ Bad Cut
dc-cut format before r due short =
    next-at format before r AtDc due ∙ judged-none (judge format before) Cut (at_slot AtDc r.0) (at-dc r.0 ∙ field-cut 8 Dc r.0 short)

-- the eight bits that were peeked at
dc-read : (left : List Bool) (n : ℕ) → 8 ≤ length left → n ≡ bits.number (take 8 (left ++ zeros 8)) → at_slot AtDc left ≡ Good (Dc n) 8
dc-read left n fits is =
    let seen : model.number (take 8 left) ≡ n = same_number (take 8 left) ∙ (ap bits.number (sym (take-append-le 8 left (zeros 8) fits)) ∙ sym is) in
    at-dc left ∙ (field-good 8 Dc left fits ∙ ap (λ (n : ℕ). Good (Dc n) 8) seen)

pub or_true : (a b : Bool) → (a ≡ true) ⊎ (b ≡ true) → (a || b) ≡ true
or_true true b h = refl
or_true false b (inl h) = absurd cc
or_true false b (inr h) = h

pub dc-good : (format : Format) (before : List Element) (r : List Bool × ℕ) (n : ℕ) → slot before ≡ AtDc → 8 ≤ length r.0 → n ≡ bits.number (take 8 (r.0 ++ zeros 8)) → n ≢ 0 → n ≢ 128 → next format before r ≡ Good (Dc n) 8
dc-good format before r n due fits is some other =
    next-at format before r AtDc due
    ∙ judged-good (judge format before) (Dc n) 8 (at_slot AtDc r.0) (dc-read r.0 n fits is)
    (ap (λ (b : Bool). cond (b || n == 128) (Some BadDc) None) (ne_eqb n 0 some) ∙ ap (λ (b : Bool). cond b (Some BadDc) None) (ne_eqb n 128 other))

pub dc-bad : (format : Format) (before : List Element) (r : List Bool × ℕ) (n : ℕ) → slot before ≡ AtDc → 8 ≤ length r.0 → n ≡ bits.number (take 8 (r.0 ++ zeros 8)) → (n == 0 || n == 128) ≡ true → next format before r ≡ Bad BadDc
dc-bad format before r n due fits is forbidden =
    next-at format before r AtDc due
    ∙ judged-bad (judge format before) (Dc n) 8 BadDc (at_slot AtDc r.0) (dc-read r.0 n fits is) (ap (λ (b : Bool). cond b (Some BadDc) None) forbidden)

-- ---- coefficients

pub at-coefficient : (first : Bool) (left : List Bool) → at_slot (cond first AtFirst AtCoefficient) left ≡ read (cond first first_rows later_rows) left
unfolding rows
at-coefficient true left = refl
at-coefficient false left = refl

-- where the first coefficient is due, the block has none
pub coefficient-good : (format : Format) (before : List Element) (r : List Bool × ℕ) (first : Bool) (e : Element) (n : ℕ) → slot before ≡ cond first AtFirst AtCoefficient → read (cond first first_rows later_rows) r.0 ≡ Good e n → first_why (faults format before e) ≡ None → next format before r ≡ Good e n
coefficient-good format before r first e n due is fine =
    next-at format before r (cond first AtFirst AtCoefficient) due
    ∙ judged-good (judge format before) e n (at_slot (cond first AtFirst AtCoefficient) r.0) (at-coefficient first r.0 ∙ is) fine

pub coefficient-bad : (format : Format) (before : List Element) (r : List Bool × ℕ) (first : Bool) (e : Element) (n : ℕ) (why : Why) → slot before ≡ cond first AtFirst AtCoefficient → read (cond first first_rows later_rows) r.0 ≡ Good e n → first_why (faults format before e) ≡ Some why → next format before r ≡ Bad why
coefficient-bad format before r first e n why due is fault =
    next-at format before r (cond first AtFirst AtCoefficient) due
    ∙ judged-bad (judge format before) e n why (at_slot (cond first AtFirst AtCoefficient) r.0) (at-coefficient first r.0 ∙ is) fault

pub coefficient-none : (format : Format) (before : List Element) (r : List Bool × ℕ) (first : Bool) (why : Why) → slot before ≡ cond first AtFirst AtCoefficient → read (cond first first_rows later_rows) r.0 ≡ Bad why → next format before r ≡ Bad why
coefficient-none format before r first why due is =
    next-at format before r (cond first AtFirst AtCoefficient) due
    ∙ judged-none (judge format before) why (at_slot (cond first AtFirst AtCoefficient) r.0) (at-coefficient first r.0 ∙ is)

-- the slot of a block's first element, where it is known whether it is Intra
pub due_at : (here : Slot) (intra known : Bool) → here ≡ cond intra AtDc AtFirst → intra ≡ known → here ≡ cond known AtDc AtFirst
due_at here intra known due is = due ∙ ap (λ (b : Bool). cond b AtDc AtFirst) is
