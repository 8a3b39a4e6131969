-- What elements say of the last macroblock, and what of it the elements of a block leave as it was.
use Rattle.std.proofs.Common.{◌≡◌, ℕ, ◌-◌, List, [], ◌∷◌, ◌++◌, map, ℤ, Option, Some, None, refl, ◌∙◌, ap}
use Rattle.pel_model.specs.declared.MbKind.{MbKind}
use Rattle.pel_model.specs.Records.{Across, Down, Coefficient, Block}
use Rattle.pel_model.specs.Elements.{dc_elements, coefficient_elements, block_elements}
use Rattle.pel_model.specs.Walk.{after}
use Rattle.pel_model.specs.Grammar.{Element, Dc, Tcoeff, Eob, AtFirst, slot, block_slot, kind, blocks, filled, group, address, quantiser, vector_component}
use Rattle.pel_model.proofs.Walks.{after-append}

-- all that elements say of the last macroblock but its blocks
abbrev pub said : List Element → MbKind × ℕ × ℕ × ℕ × ℤ × ℤ
said before = (kind before, group before, address before, quantiser before, vector_component Across before, vector_component Down before)

pass_coefficients : (before : List Element) (cs : List Coefficient) → (said (after before (map Tcoeff cs)) ≡ said before) × (blocks (after before (map Tcoeff cs)) ≡ blocks before)
pass_coefficients before [] = (refl, refl)
pass_coefficients before (c ∷ cs) = pass_coefficients (Tcoeff c ∷ before) cs

pass_inside : (before : List Element) (b : Block) → (said (after before (coefficient_elements b)) ≡ said before) × (blocks (after before (coefficient_elements b)) ≡ blocks before)
pass_inside before b = inside b.dc
  where
    inside : (dc : Option ℕ) → (said (after before (dc_elements dc ++ map Tcoeff b.coefficients)) ≡ said before) × (blocks (after before (dc_elements dc ++ map Tcoeff b.coefficients)) ≡ blocks before)
    inside None = pass_coefficients before b.coefficients
    inside (Some n) = pass_coefficients (Dc n ∷ before) b.coefficients

behind_block : (before : List Element) (b : Block) → after before (block_elements b) ≡ Eob ∷ after before (coefficient_elements b)
behind_block before b = after-append before (coefficient_elements b) (Eob ∷ [])

-- a block leaves all but the number of blocks to come
pub pass_block : (before : List Element) (b : Block) → said (after before (block_elements b)) ≡ said before
pass_block before b = ap said (behind_block before b) ∙ (pass_inside before b).0

pub block-blocks : (before : List Element) (b : Block) → blocks (after before (block_elements b)) ≡ blocks before - 1
block-blocks before b = ap blocks (behind_block before b) ∙ ap (λ (n : ℕ). n - 1) (pass_inside before b).1

pub block-slot : (before : List Element) (b : Block) → slot (after before (block_elements b)) ≡ block_slot (kind before) (blocks before - 1)
block-slot before b =
    ap slot (behind_block before b)
    ∙ (ap (λ (k : MbKind). block_slot k (blocks (after before (coefficient_elements b)) - 1)) (ap (λ (s : MbKind × ℕ × ℕ × ℕ × ℤ × ℤ). s.0) (pass_inside before b).0)
    ∙ ap (λ (n : ℕ). block_slot (kind before) (n - 1)) (pass_inside before b).1)

-- no coefficient stands before the first
pub first-filled : (before : List Element) → slot before ≡ AtFirst → filled before ≡ 0
first-filled [] due = absurd cc
first-filled (Dc n ∷ before) due = absurd cc
first-filled (Tcoeff c ∷ before) due = absurd cc
first-filled (_ ∷ before) due = refl
