-- A valid picture stays valid when it gets its next group, and a group stays valid where it may stand.
use Rattle.std.proofs.Common.{◌≡◌, ℕ, ◌+◌, ◌%◌, ◌<◌, ◌≤◌, Bool, true, false, List, [], ◌∷◌, ◌++◌, length, take, slice_index, slice_index_or, refl, sym, ◌∙◌, ap, ap₂, subst, ℤ, pos, negsuc, MatchBool, arith, length-append}
use Rattle.std.proofs.lemmas.Bool.{leb-true, le-leb}
use Rattle.std.proofs.lemmas.List.{take_more, get_or-map, get_or-take, map-append}
use Rattle.std.proofs.lemmas.List.Elements.{All-push}
use Rattle.h261_pic.specs.Coded.{Belongs}
use Rattle.pel_model.specs.declared.Format.{Format}
use Rattle.pel_model.specs.declared.Format.TheVariants.{Qcif, Cif}
use Rattle.pel_model.specs.declared.Quad.{Quad}
use Rattle.pel_model.specs.declared.Quad.TheVariants.{One, Two, Three, Four}
use Rattle.pel_model.specs.Codes.{has_vector}
use Rattle.pel_model.specs.Records.{Axis, Across, Down, Macroblock, Group, Picture, component, with_group}
use Rattle.pel_model.specs.Regions.{number_in, renumbered, below}
use Rattle.pel_model.specs.Valid.{side, corner, stays_within, ComponentFits, IsValidMacroblock, IsValidGroup, IsValidSoFar, group_numbers, group_count}

-- what the test of a component says
abbrev StaysWithin : ℕ → ℕ → ℤ → Type 0
StaysWithin side first (pos n) = first + n + 16 ≤ side
StaysWithin side first (negsuc n) = n + 1 ≤ first

stays-from : (side first : ℕ) (c : ℤ) → stays_within side first c ≡ true → StaysWithin side first c
stays-from side first (pos n) stays = leb-true (first + n + 16) side stays
stays-from side first (negsuc n) stays = leb-true (n + 1) first stays

stays-to : (side first : ℕ) (c : ℤ) → StaysWithin side first c → stays_within side first c ≡ true
stays-to side first (pos n) stays = le-leb (first + n + 16) side stays
stays-to side first (negsuc n) stays = le-leb (n + 1) first stays

-- a vector that stays in the QCIF picture stays in the CIF picture
within_place : (axis : Axis) (place : Quad) (number address : ℕ) (c : ℤ) → number % 2 ≡ 1
    → StaysWithin (side Qcif axis) (corner axis number address) c
    → StaysWithin (side Cif axis) (corner axis (number_in place number) address) c
within_place Across One number address (pos n) odd stays = omega arith
within_place Across Two number address (pos n) odd stays = omega arith
within_place Across Three number address (pos n) odd stays = omega arith
within_place Across Four number address (pos n) odd stays = omega arith
within_place Across One number address (negsuc n) odd stays = omega arith
within_place Across Two number address (negsuc n) odd stays = omega arith
within_place Across Three number address (negsuc n) odd stays = omega arith
within_place Across Four number address (negsuc n) odd stays = omega arith
within_place Down One number address (pos n) odd stays = omega arith
within_place Down Two number address (pos n) odd stays = omega arith
within_place Down Three number address (pos n) odd stays = omega arith
within_place Down Four number address (pos n) odd stays = omega arith
within_place Down One number address (negsuc n) odd stays = omega arith
within_place Down Two number address (negsuc n) odd stays = omega arith
within_place Down Three number address (negsuc n) odd stays = omega arith
within_place Down Four number address (negsuc n) odd stays = omega arith

fits_by : (b : Bool) (P P' Q : Type 0) → (P → P') → MatchBool b P Q → MatchBool b P' Q
fits_by true P P' Q more fits = more fits
fits_by false P P' Q more fits = fits

component_in_place : (axis : Axis) (place : Quad) (number : ℕ) (m : Macroblock) → number % 2 ≡ 1
    → ComponentFits Qcif number axis m → ComponentFits Cif (number_in place number) axis m
component_in_place axis place number m odd fits =
    fits_by (has_vector m.kind) _ _ _
    (λ stays. (
      stays.0,
      stays-to (side Cif axis) (corner axis (number_in place number) m.address) (component axis m)
          (within_place axis place number m.address (component axis m) odd
          (stays-from (side Qcif axis) (corner axis number m.address) (component axis m) stays.1)),
    )) fits

macroblock_in_place : (place : Quad) (number : ℕ) (m : Macroblock) → number % 2 ≡ 1
    → IsValidMacroblock Qcif number m → IsValidMacroblock Cif (number_in place number) m
macroblock_in_place place number m odd valid = record {
  mquant = valid.mquant;
  across = component_in_place Across place number m odd valid.across;
  down = component_in_place Down place number m odd valid.down;
  six = valid.six;
  blocks = valid.blocks;
}

group_in_place : (place : Quad) (g : Group) → g.number % 2 ≡ 1 → IsValidGroup Qcif g
    → IsValidGroup Cif (renumbered (number_in place g.number) g)
group_in_place place g odd valid = record {
  quant = valid.quant;
  addresses = valid.addresses;
  macroblocks = λ k d l. macroblock_in_place place g.number (slice_index_or g.macroblocks k d) odd (valid.macroblocks k d l);
}

-- a group of a valid picture, under the number where it may stand
pub group_that_belongs : (from to : Format) (g : Group) (number : ℕ) → (from ≡ Qcif → g.number % 2 ≡ 1)
    → Belongs from g.number to number → IsValidGroup from g → IsValidGroup to (renumbered number g)
group_that_belongs Qcif Qcif g number odd belongs valid = subst (λ n. IsValidGroup Qcif (renumbered n g)) (sym belongs) valid
group_that_belongs Cif Cif g number odd belongs valid = subst (λ n. IsValidGroup Cif (renumbered n g)) (sym belongs) valid
group_that_belongs Qcif Cif g number odd belongs valid =
    subst (λ n. IsValidGroup Cif (renumbered n g)) (sym belongs.1) (group_in_place belongs.0 g (odd refl) valid)
group_that_belongs Cif Qcif g number odd belongs valid = absurd belongs

-- the number of a group of a valid picture
pub number-at : (format : Format) (p : Picture) (i : ℕ) (d : Group) → IsValidSoFar format p → i < length p.groups
    → (slice_index_or p.groups i d).number ≡ slice_index (group_numbers format) i
number-at format p i d valid below =
    sym (get_or-map (λ (g : Group). g.number) p.groups i d 0 below)
    ∙ ap (λ (ns : List ℕ). slice_index ns i) valid.numbers
    ∙ get_or-take (length p.groups) (group_numbers format) i 0 below

-- the next group
pub valid-with_group : (format : Format) (p : Picture) (g : Group) → IsValidSoFar format p → IsValidGroup format g
    → length p.groups < group_count format → g.number ≡ slice_index (group_numbers format) (length p.groups)
    → IsValidSoFar format (with_group p g)
valid-with_group format p g valid group below number_is = record {
  tr = valid.tr;
  numbers =
      map-append (λ (h : Group). h.number) p.groups (g ∷ [])
      ∙ ap₂ (λ (ns : List ℕ) (n : ℕ). ns ++ n ∷ []) valid.numbers number_is
      ∙ sym (take_more (group_numbers format) (length p.groups) 0 below)
      ∙ ap (λ n. take n (group_numbers format)) (sym (length-append p.groups (g ∷ [])));
  groups = All-push (IsValidGroup format) p.groups g valid.groups group;
}
