-- The law of the quadrant, sample by sample.
use Rattle.std.proofs.Common.{◌≡◌, ◌⊎◌, ℕ, ◌+◌, ◌*◌, ◌/◌, ◌%◌, ◌<◌, Bool, true, false, ℤ, pos, ◌+ℤ◌, List, Option, None, Some, slice_index_or, MatchBool, inl, inr, refl, sym, ◌∙◌, ap, ap₂, subst, arith}
use Rattle.std.proofs.Math.Path.{fun_ext}
use Rattle.pel_model.specs.declared.Format.{Format}
use Rattle.pel_model.specs.declared.Format.TheVariants.{Qcif, Cif}
use Rattle.pel_model.specs.declared.Quad.{Quad}
use Rattle.pel_model.specs.Codes.{has_vector}
use Rattle.pel_model.specs.Composed.{groups_in}
use Rattle.pel_model.specs.Crop.{crop}
use Rattle.pel_model.specs.Decode.{Quantised, group_of, address_of, macroblock_at, block_number, sample, decoded, decode}
use Rattle.pel_model.specs.Frames.{Plane, Frame, ratio, is_inside}
use Rattle.pel_model.specs.Records.{Across, Down, Block, Macroblock, Group, Picture}
use Rattle.pel_model.specs.Regions.{below, groups_for}
use Rattle.pel_model.specs.Residual.{residual}
use Rattle.pel_model.specs.Transform.{Transform}
use Rattle.pel_model.specs.Valid.{corner, stays_within, IsValidMacroblock}
use Rattle.frame_laws.specs.DecodedFrames.{BothKeepInside, VectorsStayInside, QuadrantLaw, ValidStaysInside}
use Rattle.frame_laws.proofs.Displaced.{IsPlaced, crop-inside, predicted-shifted, stays}
use Rattle.frame_laws.proofs.Lookups.{HoldsIf, found-shifted, in-holds}
use Rattle.frame_laws.proofs.Places.{shift, inside-is, inside-shifted, column-shifted, row-shifted, corner-across, corner-down, block-shifted, place-shifted-across, place-shifted-down}

-- ---- one sample after decoding, and of a place

pub decode-inside : (format : Format) (t : Transform) (before : Frame) (p : Picture) (plane : Plane) (x y : ℕ) → is_inside format plane x y ≡ true
    → decode format t before p plane x y ≡ decoded t before (macroblock_at p (ratio plane * x / 16) (ratio plane * y / 16)) plane x y
unfolding decode
decode-inside format t before p plane x y inside = rw inside refl

pub decode-outside : (format : Format) (t : Transform) (before : Frame) (p : Picture) (plane : Plane) (x y : ℕ) → is_inside format plane x y ≡ false
    → decode format t before p plane x y ≡ 0
unfolding decode
decode-outside format t before p plane x y outside = rw outside refl

pub crop-outside : (place : Quad) (frame : Frame) (plane : Plane) (x y : ℕ) → is_inside Qcif plane x y ≡ false → crop place frame plane x y ≡ 0
unfolding crop
crop-outside place frame plane x y outside = rw outside refl

-- the columns and rows of macroblocks of a QCIF picture
pub column-below : (plane : Plane) (x y : ℕ) → is_inside Qcif plane x y ≡ true → ratio plane * x / 16 < 11
column-below plane x y inside =
    let within : (ratio plane * x < 176) × (ratio plane * y < 144) = inside-is Qcif plane x y inside in
    omega (arith, within.0)

pub row-below : (plane : Plane) (x y : ℕ) → is_inside Qcif plane x y ≡ true → ratio plane * y / 16 < 9
row-below plane x y inside =
    let within : (ratio plane * x < 176) × (ratio plane * y < 144) = inside-is Qcif plane x y inside in
    omega (arith, within.1)

-- ---- a macroblock that stays inside

placed : (column row : ℕ) (found : Quantised) → column < 11 → row < 9
    → HoldsIf BothKeepInside (group_of column row) (address_of column row) (Some found) → IsPlaced found.macroblock column row
placed column row found across down holds =
    let m : Macroblock = found.macroblock in
    let first : corner Across (group_of column row) m.address ≡ 16 * column =
    ap (corner Across (group_of column row)) holds.1 ∙ corner-across column row across down in
    let top : corner Down (group_of column row) m.address ≡ 16 * row =
    ap (corner Down (group_of column row)) holds.1 ∙ corner-down column row across down in
    record {
      across = across;
      down = down;
      stays_across = stays 176 (16 * column) m.across (omega arith) (subst (λ (k : ℕ). (stays_within 176 k m.across ≡ true) ⊎ (m.across ≡ pos 0)) first holds.0.0);
      stays_down = stays 144 (16 * row) m.down (omega arith) (subst (λ (k : ℕ). (stays_within 144 k m.down ≡ true) ⊎ (m.down ≡ pos 0)) top holds.0.1);
    }

residual-shifted : (t : Transform) (quant : ℕ) (blocks : List (Option Block)) (plane : Plane) (place : Quad) (x y : ℕ)
    → residual t quant (slice_index_or blocks (block_number plane (x + shift Across plane place) (y + shift Down plane place)) None)
    ((x + shift Across plane place) % 8) ((y + shift Down plane place) % 8)
    ≡ residual t quant (slice_index_or blocks (block_number plane x y) None) (x % 8) (y % 8)
residual-shifted t quant blocks plane place x y =
    ap (λ (n : ℕ). residual t quant (slice_index_or blocks n None) ((x + shift Across plane place) % 8) ((y + shift Down plane place) % 8)) (block-shifted plane place x y)
    ∙ ap₂ (λ (a b : ℕ). residual t quant (slice_index_or blocks (block_number plane x y) None) a b) (place-shifted-across plane place x) (place-shifted-down plane place y)

-- what becomes of a sample, by the macroblock that covers it
decoded-shifted : (t : Transform) (before : Frame) (place : Quad) (plane : Plane) (x y : ℕ) (found : Option Quantised) → is_inside Qcif plane x y ≡ true
    → HoldsIf BothKeepInside (group_of (ratio plane * x / 16) (ratio plane * y / 16)) (address_of (ratio plane * x / 16) (ratio plane * y / 16)) found
    → decoded t before found plane (x + shift Across plane place) (y + shift Down plane place) ≡ decoded t (crop place before) found plane x y
decoded-shifted t before place plane x y None inside holds = sym (crop-inside place before plane x y inside)
decoded-shifted t before place plane x y (Some found) inside holds =
    ap₂ (λ (p : ℕ) (r : ℤ). sample (pos p +ℤ r))
    (sym (predicted-shifted before plane place found.macroblock x y
    (placed (ratio plane * x / 16) (ratio plane * y / 16) found (column-below plane x y inside) (row-below plane x y inside) holds)))
    (residual-shifted t found.quant found.macroblock.blocks plane place x y)

law-at : (t : Transform) (before : Frame) (place : Quad) (whole sent : Picture) → VectorsStayInside sent → groups_in place whole ≡ groups_for place sent
    → (plane : Plane) (x y : ℕ) (b : Bool) → is_inside Qcif plane x y ≡ b
    → crop place (decode Cif t before whole) plane x y ≡ decode Qcif t (crop place before) sent plane x y
law-at t before place whole sent inside same plane x y true test =
    let dx : ℕ = shift Across plane place in
    let dy : ℕ = shift Down plane place in
    let column : ℕ = ratio plane * x / 16 in
    let row : ℕ = ratio plane * y / 16 in
    crop-inside place (decode Cif t before whole) plane x y test
    ∙ decode-inside Cif t before whole plane (x + dx) (y + dy) (inside-shifted plane place x y test)
    ∙ ap (λ (o : Option Quantised). decoded t before o plane (x + dx) (y + dy))
    (ap₂ (macroblock_at whole) (column-shifted plane place x) (row-shifted plane place y)
    ∙ found-shifted place whole sent column row (column-below plane x y test) (row-below plane x y test) same)
    ∙ decoded-shifted t before place plane x y (macroblock_at sent column row) test (in-holds BothKeepInside (group_of column row) (address_of column row) sent.groups inside)
    ∙ sym (decode-inside Qcif t (crop place before) sent plane x y test)
law-at t before place whole sent inside same plane x y false test =
    crop-outside place (decode Cif t before whole) plane x y test ∙ sym (decode-outside Qcif t (crop place before) sent plane x y test)

pub law : QuadrantLaw
law t before place whole sent inside same =
    fun_ext λ plane. fun_ext λ x. fun_ext λ y. law-at t before place whole sent inside same plane x y (is_inside Qcif plane x y) refl

-- ---- the vectors of a valid picture

fits-inside : (b : Bool) (P : Type 0) (h : ℤ) (Q : Type 0) → MatchBool b (P × Q) (h ≡ pos 0) → Q ⊎ (h ≡ pos 0)
fits-inside true P h Q fits = inl fits.1
fits-inside false P h Q fits = inr fits

pub valid-stays : ValidStaysInside
valid-stays sent valid =
    λ k d less i e below.
    let g : Group = slice_index_or sent.groups k d in
    let m : Macroblock = slice_index_or g.macroblocks i e in
    let fits : IsValidMacroblock Qcif g.number m = (valid.so_far.groups k d less).macroblocks i e below in
    (fits-inside (has_vector m.kind) _ _ _ fits.across, fits-inside (has_vector m.kind) _ _ _ fits.down)
