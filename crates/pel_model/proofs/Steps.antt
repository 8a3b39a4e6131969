-- Steps of the grammar: a slot's words, fields of a width, and what is judged of an element.
use Rattle.std.proofs.Common.{◌≡◌, ℕ, ◌<◌, ◌≤◌, Bool, List, length, take, Option, Some, None, nat_lt, if◌then◌else◌, ◌∙◌, ap, zero-add}
use Rattle.std.proofs.lemmas.Bool.{lt-ltb, le-ltb, cond-true, cond-false}
use Rattle.pel_model.specs.declared.Format.{Format}
use Rattle.pel_model.specs.declared.Why.{Why}
use Rattle.pel_model.specs.declared.Why.TheVariants.{Cut}
use Rattle.pel_model.specs.Bits.{number}
use Rattle.pel_model.specs.Walk.{Standing, Good, Bad, read, judged, verdict}
use Rattle.pel_model.specs.Grammar.{Element, Slot, slot, at_slot, faults, first_why, field_rows, next}

-- what is judged of an element behind others
abbrev pub judge : Format → List Element → Element → ℕ → Option Why
judge format before e n = first_why (faults format before e)

-- what stands behind elements, by the slot that they leave
pub next-at : (format : Format) (before : List Element) (r : List Bool × ℕ) (s : Slot) → slot before ≡ s → next format before r ≡ judged (judge format before) (at_slot s r.0)
unfolding next
next-at format before r s is = ap (λ (s : Slot). judged (judge format before) (at_slot s r.0)) is

-- an element was read, and it is good, or it is at fault
pub judged-good : {E : Type 0} (judge : E → ℕ → Option Why) (e : E) (n : ℕ) (here : Standing E) → here ≡ Good e n → judge e n ≡ None → judged judge here ≡ Good e n
judged-good judge e n here is fine = ap (judged judge) is ∙ ap (verdict e n) fine

pub judged-bad : {E : Type 0} (judge : E → ℕ → Option Why) (e : E) (n : ℕ) (why : Why) (here : Standing E) → here ≡ Good e n → judge e n ≡ Some why → judged judge here ≡ Bad why
judged-bad judge e n why here is fault = ap (judged judge) is ∙ ap (verdict e n) fault

-- no element was read
pub judged-none : {E : Type 0} (judge : E → ℕ → Option Why) (why : Why) (here : Standing E) → here ≡ Bad why → judged judge here ≡ Bad why
judged-none judge why here is = ap (judged judge) is

-- any bits of a width
pub field-good : (width : ℕ) (make : ℕ → Element) (bits : List Bool) → width ≤ length bits → read (field_rows width make) bits ≡ Good (make (number (take width bits))) width
field-good width make bits fits =
    ap (λ (n : ℕ). if nat_lt (length bits) n then Bad Cut else Good (make (number (take width bits))) n) (zero-add width)
    ∙ cond-false (nat_lt (length bits) width) (Bad Cut) (Good (make (number (take width bits))) width) (le-ltb (length bits) width fits)

pub field-cut : (width : ℕ) (make : ℕ → Element) (bits : List Bool) → length bits < width → read (field_rows width make) bits ≡ Bad Cut
field-cut width make bits short =
    ap (λ (n : ℕ). if nat_lt (length bits) n then Bad Cut else Good (make (number (take width bits))) n) (zero-add width)
    ∙ cond-true (nat_lt (length bits) width) (Bad Cut) (Good (make (number (take width bits))) width) (lt-ltb (length bits) width short)
