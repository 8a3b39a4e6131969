-- A valid group of a QCIF picture is a valid group of a CIF picture under its number in a place.
use Rattle.std.proofs.Common.{◌≡◌, ℕ, ◌%◌, Bool, true, false, slice_index_or, ℤ, pos, negsuc, MatchBool, arith}
use Rattle.pel_model.specs.declared.Format.TheVariants.{Qcif, Cif}
use Rattle.pel_model.specs.declared.Quad.{Quad}
use Rattle.pel_model.specs.Codes.{has_vector}
use Rattle.pel_model.specs.Records.{Axis, Across, Down, Macroblock, Group, component}
use Rattle.pel_model.specs.Regions.{number_in, renumbered}
use Rattle.pel_model.specs.Valid.{side, corner, ComponentFits, IsValidMacroblock, IsValidGroup}
use Rattle.frame_laws.proofs.Displaced.{StaysWithin, within-is, is-within}
use Rattle.frame_laws.proofs.Places.{right-le, below-le}

-- a vector that stays in the QCIF picture stays in the CIF picture
within-place : (axis : Axis) (place : Quad) (number address : ℕ) (c : ℤ) → number % 2 ≡ 1
    → StaysWithin (side Qcif axis) (corner axis number address) c
    → StaysWithin (side Cif axis) (corner axis (number_in place number) address) c
within-place Across place number address (pos n) odd stays = omega (arith, right-le place)
within-place Across place number address (negsuc n) odd stays = omega (arith, right-le place)
within-place Down place number address (pos n) odd stays = omega (arith, right-le place, below-le place)
within-place Down place number address (negsuc n) odd stays = omega (arith, right-le place, below-le place)

fits-by : (b : Bool) (P P' Q : Type 0) → (P → P') → MatchBool b P Q → MatchBool b P' Q
fits-by true P P' Q more fits = more fits
fits-by false P P' Q more fits = fits

component-in-place : (axis : Axis) (place : Quad) (number : ℕ) (m : Macroblock) → number % 2 ≡ 1
    → ComponentFits Qcif number axis m → ComponentFits Cif (number_in place number) axis m
component-in-place axis place number m odd fits =
    fits-by (has_vector m.kind) _ _ _
    (λ stays. (
      stays.0,
      is-within (side Cif axis) (corner axis (number_in place number) m.address) (component axis m)
          (within-place axis place number m.address (component axis m) odd
          (within-is (side Qcif axis) (corner axis number m.address) (component axis m) stays.1)),
    )) fits

macroblock-in-place : (place : Quad) (number : ℕ) (m : Macroblock) → number % 2 ≡ 1
    → IsValidMacroblock Qcif number m → IsValidMacroblock Cif (number_in place number) m
macroblock-in-place place number m odd valid = record {
  mquant = valid.mquant;
  across = component-in-place Across place number m odd valid.across;
  down = component-in-place Down place number m odd valid.down;
  six = valid.six;
  blocks = valid.blocks;
}

pub group-in-place : (place : Quad) (g : Group) → g.number % 2 ≡ 1 → IsValidGroup Qcif g → IsValidGroup Cif (renumbered (number_in place g.number) g)
group-in-place place g odd valid = record {
  quant = valid.quant;
  addresses = valid.addresses;
  macroblocks = λ k d l. macroblock-in-place place g.number (slice_index_or g.macroblocks k d) odd (valid.macroblocks k d l);
}
