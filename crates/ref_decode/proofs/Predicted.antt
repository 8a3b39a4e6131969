-- What is predicted for a block is what a decoder predicts.
use Rattle.std.proofs.Common.{◌≡◌, ℕ, zero, suc, ◌+◌, ◌*◌, ◌/◌, ◌%◌, ◌<◌, ◌≤◌, inl, inr, true, cond, ℤ, pos, negsuc, ◌+ℤ◌, List, Some, None, nat_abs, MatchBool, refl, sym, ◌∙◌, ap, ap₂, subst, arith}
use Rattle.std.specs.Prelude.{slice_index, slice_index_or}
use Rattle.std.proofs.lemmas.Bool.{cases_Bool, cond-true}
use Rattle.pel_model.specs.declared.Format.{Format}
use Rattle.pel_model.specs.Codes.{is_intra, has_vector}
use Rattle.pel_model.specs.Decode.{block_number, sample, decoded}
use Rattle.pel_model.specs.Frames.{Plane, Luminance, Cb, Cr, ratio, is_inside}
use Rattle.pel_model.specs.Prediction.{moved_by, displaced, filtered, predicted, has_filter}
use Rattle.pel_model.specs.Records.{Axis, Across, Down, Macroblock, component}
use Rattle.pel_model.specs.Residual.{residual}
use Rattle.pel_model.specs.Transform.{fixed}
use Rattle.pel_model.specs.Valid.{side, corner, stays_within, ComponentFits, IsValidMacroblock}
use Rattle.frame_laws.proofs.Displaced.{StaysWithin, stays}
use Rattle.h261_mb.specs.declared.header.Header.{Header}
use Rattle.ref_decode.specs.declared.macroblock.Spot.{Spot}
use Rattle.ref_decode.specs.Blocks.{block_at}
use Rattle.ref_decode.specs.Drawing.{frame_in, IsHeaderOf, IsSpot, prediction_at, reference_at, reference_left, reference_top, block_plane, block_left, block_top}
use Rattle.ref_decode.specs.Shown.{columns, row_count, sample_place}
use Rattle.ref_decode.proofs.Filters.{filtered_moved}
use Rattle.ref_decode.proofs.Geometry.{IsInside, is-inside, of_block, IsPlaced}

-- ---- one direction

-- a component moves a block within its plane, all its samples alike
pub record Moves (by : ℕ) (h : ℤ) (at size : ℕ) : Type 0 where
  pub fits : moved_by by h at + 8 ≤ size
  pub along : (k : ℕ) → moved_by by h (at + k) ≡ moved_by by h at + k

moves_one : (h : ℤ) (end first at : ℕ) → StaysWithin end first h → first ≤ at → at + 8 ≤ first + 16 → first + 16 ≤ end → Moves 1 h at (end / 1)
moves_one (pos n) end first at within low high most = record { fits = omega (arith, within, high); along = λ k. omega arith }
moves_one (negsuc n) end first at within low high most = record { fits = omega (arith, within, low, high, most); along = λ k. omega (arith, within, low) }

moves_two : (h : ℤ) (end first at : ℕ) → StaysWithin end first h → first / 2 ≡ at → first + 16 ≤ end → Moves 2 h at (end / 2)
moves_two (pos n) end first at within half most = record { fits = omega (arith, within, half); along = λ k. omega arith }
moves_two (negsuc n) end first at within half most = record { fits = omega (arith, within, half, most); along = λ k. omega (arith, within, half) }

-- a component of a valid macroblock
component_stays : (format : Format) (number : ℕ) (axis : Axis) (m : Macroblock) → corner axis number m.address + 16 ≤ side format axis → ComponentFits format number axis m → StaysWithin (side format axis) (corner axis number m.address) (component axis m)
component_stays format number axis m fits valid = elim (cases_Bool (has_vector m.kind)) [
  | inl has ↦ stays (side format axis) (corner axis number m.address) (component axis m) fits (inl (subst (λ b. MatchBool b ((nat_abs (component axis m) ≤ 15) × (stays_within (side format axis) (corner axis number m.address) (component axis m) ≡ true)) (component axis m ≡ pos 0)) has valid).1)
  | inr none ↦ stays (side format axis) (corner axis number m.address) (component axis m) fits (inr (subst (λ b. MatchBool b ((nat_abs (component axis m) ≤ 15) × (stays_within (side format axis) (corner axis number m.address) (component axis m) ≡ true)) (component axis m ≡ pos 0)) none valid))
]

pub moves_across : (format : Format) (number block : ℕ) (m : Macroblock) → IsPlaced format number m.address → IsValidMacroblock format number m → block < 6 → Moves (ratio (block_plane block)) m.across (block_left number m.address block) (columns format (block_plane block))
moves_across format number zero m is valid few = moves_one m.across _ _ _ (component_stays format number Across m is.across valid.across) (omega arith) (omega arith) is.across
moves_across format number (suc zero) m is valid few = moves_one m.across _ _ _ (component_stays format number Across m is.across valid.across) (omega arith) (omega arith) is.across
moves_across format number (suc (suc zero)) m is valid few = moves_one m.across _ _ _ (component_stays format number Across m is.across valid.across) (omega arith) (omega arith) is.across
moves_across format number (suc (suc (suc zero))) m is valid few = moves_one m.across _ _ _ (component_stays format number Across m is.across valid.across) (omega arith) (omega arith) is.across
moves_across format number (suc (suc (suc (suc zero)))) m is valid few = moves_two m.across _ _ _ (component_stays format number Across m is.across valid.across) refl is.across
moves_across format number (suc (suc (suc (suc (suc zero))))) m is valid few = moves_two m.across _ _ _ (component_stays format number Across m is.across valid.across) refl is.across
moves_across format number (suc (suc (suc (suc (suc (suc k)))))) m is valid few = absurd (omega (arith, few))

pub moves_down : (format : Format) (number block : ℕ) (m : Macroblock) → IsPlaced format number m.address → IsValidMacroblock format number m → block < 6 → Moves (ratio (block_plane block)) m.down (block_top number m.address block) (row_count format (block_plane block))
moves_down format number zero m is valid few = moves_one m.down _ _ _ (component_stays format number Down m is.down valid.down) (omega arith) (omega arith) is.down
moves_down format number (suc zero) m is valid few = moves_one m.down _ _ _ (component_stays format number Down m is.down valid.down) (omega arith) (omega arith) is.down
moves_down format number (suc (suc zero)) m is valid few = moves_one m.down _ _ _ (component_stays format number Down m is.down valid.down) (omega arith) (omega arith) is.down
moves_down format number (suc (suc (suc zero))) m is valid few = moves_one m.down _ _ _ (component_stays format number Down m is.down valid.down) (omega arith) (omega arith) is.down
moves_down format number (suc (suc (suc (suc zero)))) m is valid few = moves_two m.down _ _ _ (component_stays format number Down m is.down valid.down) refl is.down
moves_down format number (suc (suc (suc (suc (suc zero))))) m is valid few = moves_two m.down _ _ _ (component_stays format number Down m is.down valid.down) refl is.down
moves_down format number (suc (suc (suc (suc (suc (suc k)))))) m is valid few = absurd (omega (arith, few))

-- blocks begin at multiples of eight samples
whole_left : (number address block : ℕ) → block < 6 → block_left number address block % 8 ≡ 0
whole_left number address zero few = omega arith
whole_left number address (suc zero) few = omega arith
whole_left number address (suc (suc zero)) few = omega arith
whole_left number address (suc (suc (suc zero))) few = omega arith
whole_left number address (suc (suc (suc (suc zero)))) few = omega arith
whole_left number address (suc (suc (suc (suc (suc zero))))) few = omega arith
whole_left number address (suc (suc (suc (suc (suc (suc k)))))) few = absurd (omega (arith, few))

whole_top : (number address block : ℕ) → block < 6 → block_top number address block % 8 ≡ 0
whole_top number address zero few = omega arith
whole_top number address (suc zero) few = omega arith
whole_top number address (suc (suc zero)) few = omega arith
whole_top number address (suc (suc (suc zero))) few = omega arith
whole_top number address (suc (suc (suc (suc zero)))) few = omega arith
whole_top number address (suc (suc (suc (suc (suc zero))))) few = omega arith
whole_top number address (suc (suc (suc (suc (suc (suc k)))))) few = absurd (omega (arith, few))

pub inside_of : (format : Format) (plane : Plane) (u v : ℕ) → u < columns format plane → v < row_count format plane → IsInside format plane u v
inside_of format Luminance u v hu hv = record { across = omega (arith, hu); down = omega (arith, hv) }
inside_of format Cb u v hu hv = record { across = omega (arith, hu); down = omega (arith, hv) }
inside_of format Cr u v hu hv = record { across = omega (arith, hu); down = omega (arith, hv) }

-- ---- the samples that a vector refers to

module _ (format : Format) (number block : ℕ) (m : Macroblock) (quant : ℕ) (header : Header) (spot : Spot) (shown : List ℕ) (placed : IsPlaced format number m.address) (valid : IsValidMacroblock format number m) (few : block < 6) (is : IsHeaderOf m quant header) (spot_is : IsSpot format number m.address block spot) where
  reference : (x y : ℕ) → x < 8 → y < 8 → displaced (frame_in format shown) m (block_plane block) (block_left number m.address block + x) (block_top number m.address block + y) ≡ reference_at shown spot header x y
  reference x y hx hy =
      let plane : Plane = block_plane block in
      let a = moves_across format number block m placed valid few in
      let d = moves_down format number block m placed valid few in
      let left : ℕ = moved_by (ratio plane) m.across (block_left number m.address block) in
      let top : ℕ = moved_by (ratio plane) m.down (block_top number m.address block) in
      let to_left : moved_by spot.ratio header.h spot.left ≡ left = ap₂ (λ (r : ℕ) (h : ℤ). moved_by r h spot.left) spot_is.ratio_is is.across_is ∙ ap (moved_by (ratio plane) m.across) spot_is.left in
      let to_top : moved_by spot.ratio header.v spot.top ≡ top = ap₂ (λ (r : ℕ) (h : ℤ). moved_by r h spot.top) spot_is.ratio_is is.down_is ∙ ap (moved_by (ratio plane) m.down) spot_is.top in
      let at_left : reference_left spot header ≡ left = omega (arith, to_left, spot_is.width, a.fits) in
      let at_top : reference_top spot header ≡ top = omega (arith, to_top, spot_is.height, d.fits) in
      let inside = is-inside format plane (left + x) (top + y) (inside_of format plane (left + x) (top + y) (omega (arith, a.fits, hx)) (omega (arith, d.fits, hy))) in
      let place : sample_place format plane (left + x) (top + y) ≡ spot.start + spot.width * reference_top spot header + reference_left spot header + spot.width * y + x =
      (let up : spot.width * reference_top spot header ≡ columns format plane * top = ap₂ (λ (a b : ℕ). a * b) spot_is.width at_top in
      let row : spot.width * y ≡ columns format plane * y = ap (λ a. a * y) spot_is.width in
      omega (arith, spot_is.start, up, row, at_left)) in
      ap₂ (frame_in format shown plane) (a.along x) (d.along y)
      ∙ (cond-true (is_inside format plane (left + x) (top + y)) (slice_index shown (sample_place format plane (left + x) (top + y))) 0 inside
      ∙ ap (slice_index shown) place)

  pub prediction_is : (x y : ℕ) → x < 8 → y < 8 → prediction_at shown spot header x y ≡ predicted (frame_in format shown) m (block_plane block) (block_left number m.address block + x) (block_top number m.address block + y)
  prediction_is x y hx hy =
      let plane : Plane = block_plane block in
      let f = displaced (frame_in format shown) m plane in
      let smooth : filtered (reference_at shown spot header) x y ≡ filtered f (block_left number m.address block + x) (block_top number m.address block + y) =
      sym (filtered_moved f (reference_at shown spot header) (block_left number m.address block) (block_top number m.address block) x y (whole_left number m.address block few) (whole_top number m.address block few) hx hy reference) in
      ap (λ k. cond (is_intra k) 0 (cond (has_filter k) (filtered (reference_at shown spot header) x y) (reference_at shown spot header x y))) is.kind_is
      ∙ ap₂ (λ (a b : ℕ). cond (is_intra m.kind) 0 (cond (has_filter m.kind) a b)) smooth (sym (reference x y hx hy))

  -- the sample of a block to which its residual was added
  pub decoded_is : (x y : ℕ) (samples prediction : List ℕ) → 0 < m.address → m.address ≤ 33 → x < 8 → y < 8 → block_left number m.address block + 8 ≤ columns format (block_plane block) → block_at prediction x y ≡ prediction_at shown spot header x y
      → block_at samples x y ≡ sample (pos (block_at prediction x y) +ℤ residual fixed quant (slice_index_or m.blocks block None) x y)
      → block_at samples x y ≡ decoded fixed (frame_in format shown) (Some (record { macroblock = m; quant = quant })) (block_plane block) (block_left number m.address block + x) (block_top number m.address block + y)
  decoded_is x y samples prediction some most hx hy within pred joined =
      let left : ℕ = block_left number m.address block in
      let top : ℕ = block_top number m.address block in
      let of = of_block number m.address block (block_plane block) (left + x) (top + y) placed.some some most few (record { plane_is = refl; left = omega arith; right = omega (arith, hx); top = omega arith; bottom = omega (arith, hy) }) in
      let px : (left + x) % 8 ≡ x = omega (arith, whole_left number m.address block few, hx) in
      let py : (top + y) % 8 ≡ y = omega (arith, whole_top number m.address block few, hy) in
      joined
      ∙ (ap (λ p. sample (pos p +ℤ residual fixed quant (slice_index_or m.blocks block None) x y)) (pred ∙ prediction_is x y hx hy)
      ∙ (ap (λ k. sample (pos (predicted (frame_in format shown) m (block_plane block) (left + x) (top + y)) +ℤ residual fixed quant (slice_index_or m.blocks k None) x y)) (sym of.number_is)
      ∙ ap₂ (λ (a b : ℕ). sample (pos (predicted (frame_in format shown) m (block_plane block) (left + x) (top + y)) +ℤ residual fixed quant (slice_index_or m.blocks (block_number (block_plane block) (left + x) (top + y)) None) a b)) (sym px) (sym py)))
