-- The component that MVD gives.
use Rattle.std.proofs.Common.{◌≡◌, ℕ, not, List, Bool, true, false, cond, ℤ, pos, negsuc, ◌+ℤ◌, ◌≤ℤ◌, Option, Some, None, refl, sym, ◌∙◌, ap, arith, w8, to_z, of_z}
use mir.Val.{SFits}
use Rattle.std.proofs.lemmas.Int.{ints, to_z-of_z}
use Rattle.std.proofs.lemmas.Bool.{ltb-true}
use Rattle.pel_model.specs.declared.Format.{Format}
use Rattle.pel_model.specs.declared.Why.{Why}
use Rattle.pel_model.specs.declared.Why.TheVariants.{BadVector, VectorOutside}
use Rattle.pel_model.specs.Codes.{mvd_table}
use Rattle.pel_model.specs.Records.{Axis}
use Rattle.pel_model.specs.Valid.{side as side_of, stays_within}
use Rattle.pel_model.specs.Valid.{corner}
use Rattle.pel_model.specs.Walk.{Good, Bad, read}
use Rattle.pel_model.specs.Grammar.{Element, Mvd, AtMvd, slot, vector_component, group, address, table_rows, faults, first_why, next, in_range, component_from}
use Rattle.h261_mb.proofs.Slots.{good, at_fault, at-mvd}
use Rattle.h261_mb.specs.State.{IsNear}

near_by : (z : ℤ) → in_range z ≡ true → IsNear z
near_by (pos n) h = (omega (arith, ints, ltb-true n 16 h), omega (arith, ints, ltb-true n 16 h))
near_by (negsuc n) h = (omega (arith, ints, ltb-true n 15 h), omega (arith, ints, ltb-true n 15 h))

pub first_value : (last : ℤ) (v : ℤ × ℤ) → in_range (last +ℤ v.0) ≡ true → component_from last v ≡ last +ℤ v.0
first_value last v h = ap (λ (b : Bool). cond b (last +ℤ v.0) (last +ℤ v.1)) h

pub second_value : (last : ℤ) (v : ℤ × ℤ) → in_range (last +ℤ v.0) ≡ false → component_from last v ≡ last +ℤ v.1
second_value last v h = ap (λ (b : Bool). cond b (last +ℤ v.0) (last +ℤ v.1)) h

pub near : (z : ℤ) → in_range z ≡ true → IsNear z
near z h = near_by z h

near_fits : (a : ℤ) → IsNear a → SFits w8 a
near_fits a a_near = search (arith, ints)

value_fits : (b : ℤ) → negsuc 29 ≤ℤ b → b ≤ℤ pos 30 → SFits w8 b
value_fits b low high = search (arith, ints)

sum_fits : (a b : ℤ) → IsNear a → negsuc 29 ≤ℤ b → b ≤ℤ pos 30 → SFits w8 (a +ℤ b)
sum_fits a b a_near low high = search (arith, ints)

-- a sum as the code forms it
pub sum_is : (a b : ℤ) → IsNear a → negsuc 29 ≤ℤ b → b ≤ℤ pos 30 → to_z w8 (of_z w8 (to_z w8 (of_z w8 a) +ℤ to_z w8 (of_z w8 b))) ≡ a +ℤ b
sum_is a b a_near low high =
    ap (λ (z : ℤ). to_z w8 (of_z w8 (z +ℤ to_z w8 (of_z w8 b)))) (to_z-of_z w8 a (near_fits a a_near))
    ∙ (ap (λ (z : ℤ). to_z w8 (of_z w8 (a +ℤ z))) (to_z-of_z w8 b (value_fits b low high)) ∙ to_z-of_z w8 (a +ℤ b) (sum_fits a b a_near low high))

-- a value in range is the component, and one that is not is none
pub chosen : (z component : ℤ) → z ≡ component → in_range z ≡ true → Some z ≡ cond (in_range component) (Some component) None
chosen z component is within =
    ap Some is ∙ sym (ap (λ (b : Bool). cond b (Some component) None) (ap in_range (sym is) ∙ within))

pub none_chosen : (z component : ℤ) → z ≡ component → in_range z ≡ false → None ≡ cond (in_range component) (Some component) None
none_chosen z component is outside = sym (ap (λ (b : Bool). cond b (Some component) None) (ap in_range (sym is) ∙ outside))

pick_some : (b : Bool) (m component : ℤ) → Some component ≡ cond b (Some m) None → (b ≡ true) × (m ≡ component)
pick_some true m component is = (refl, cc)
pick_some false m component is = absurd cc

pick_none : (b : Bool) (m : ℤ) → None ≡ cond b (Some m) None → b ≡ false
pick_none true m is = absurd cc
pick_none false m is = refl

-- what the code chose is the component, where `given` is the predictor as the code passes it on
pub is_chosen : (last given : ℤ) (v : ℤ × ℤ) (component : ℤ) → given ≡ last → Some component ≡ cond (in_range (component_from given v)) (Some (component_from given v)) None → (in_range (component_from last v) ≡ true) × (component_from last v ≡ component)
is_chosen last given v component same is =
    let told = pick_some (in_range (component_from given v)) (component_from given v) component is in
    (ap (λ (z : ℤ). in_range (component_from z v)) (sym same) ∙ told.0, ap (λ (z : ℤ). component_from z v) (sym same) ∙ told.1)

pub is_none : (last given : ℤ) (v : ℤ × ℤ) → given ≡ last → None ≡ cond (in_range (component_from given v)) (Some (component_from given v)) None → in_range (component_from last v) ≡ false
is_none last given v same is =
    ap (λ (z : ℤ). in_range (component_from z v)) (sym same) ∙ pick_none (in_range (component_from given v)) (component_from given v) is

-- ---- what stands where MVD is due

-- where a macroblock of these elements begins on an axis
pub corner_at : (axis : Axis) (before : List Element) (g a x : ℕ) → group before ≡ g → address before ≡ a → x ≡ corner axis g a → corner axis (group before) (address before) ≡ x
corner_at axis before g a x number_is address_is is =
    ap (λ (n : ℕ). corner axis n (address before)) number_is ∙ (ap (corner axis g) address_is ∙ sym is)

abbrev why_of : ℕ → ℕ → ℤ → Option Why
why_of side first m = cond (not (in_range m)) (Some BadVector) (cond (not (stays_within side first m)) (Some VectorOutside) None)

module _ (format : Format) (before : List Element) (r : List Bool × ℕ) (axis : Axis) (last : ℤ) (first side : ℕ) (v : ℤ × ℤ) (n : ℕ) (due : slot before ≡ AtMvd axis) (vector_is : vector_component axis before ≡ last) (side_is : side_of format axis ≡ side) (corner_is : corner axis (group before) (address before) ≡ first) (is : read (table_rows mvd_table (Mvd axis)) r.0 ≡ Good (Mvd axis v) n) where
  judged_by : first_why (faults format before (Mvd axis v)) ≡ why_of side first (component_from last v)
  judged_by =
      ap (λ (p : ℤ). why_of (side_of format axis) (corner axis (group before) (address before)) (component_from p v)) vector_is
      ∙ (ap (λ (s : ℕ). why_of s (corner axis (group before) (address before)) (component_from last v)) side_is
      ∙ ap (λ (x : ℕ). why_of side x (component_from last v)) corner_is)

  pub mvd-good : in_range (component_from last v) ≡ true → stays_within side first (component_from last v) ≡ true → next format before r ≡ Good (Mvd axis v) n
  mvd-good near inside =
      good format before r (AtMvd axis) (read (table_rows mvd_table (Mvd axis)) r.0) due (at-mvd axis r.0) (Mvd axis v) n is
      (judged_by
      ∙ (ap (λ (b : Bool). cond (not b) (Some BadVector) (cond (not (stays_within side first (component_from last v))) (Some VectorOutside) None)) near
      ∙ ap (λ (b : Bool). cond (not b) (Some VectorOutside) None) inside))

  pub mvd-outside : in_range (component_from last v) ≡ true → stays_within side first (component_from last v) ≡ false → next format before r ≡ Bad VectorOutside
  mvd-outside near outside =
      at_fault format before r (AtMvd axis) (read (table_rows mvd_table (Mvd axis)) r.0) due (at-mvd axis r.0) (Mvd axis v) n VectorOutside is
      (judged_by
      ∙ (ap (λ (b : Bool). cond (not b) (Some BadVector) (cond (not (stays_within side first (component_from last v))) (Some VectorOutside) None)) near
      ∙ ap (λ (b : Bool). cond (not b) (Some VectorOutside) None) outside))

  pub mvd-bad : in_range (component_from last v) ≡ false → next format before r ≡ Bad BadVector
  mvd-bad far =
      at_fault format before r (AtMvd axis) (read (table_rows mvd_table (Mvd axis)) r.0) due (at-mvd axis r.0) (Mvd axis v) n BadVector is
      (judged_by
      ∙ ap (λ (b : Bool). cond (not b) (Some BadVector) (cond (not (stays_within side first (component_from last v))) (Some VectorOutside) None)) far)
