-- A block that was written is the block that a decoder shows.
use Rattle.std.proofs.Common.{◌≡◌, ℕ, ◌+◌, ◌-◌, ◌*◌, ◌<◌, ◌≤◌, ◌==◌, ◌&&◌, inl, inr, Bool, true, false, List, Some, refl, sym, ◌∙◌, ap, ap₂, subst, arith}
use Rattle.std.specs.Prelude.{slice_index}
use Rattle.std.proofs.lemmas.Bool.{false≢true, cases_Bool, cond-false, cond-true, eqb-true, eq-eqb, cases_lt}
use Rattle.pel_model.specs.declared.Format.{Format}
use Rattle.pel_model.specs.Decode.{block_number, decoded}
use Rattle.pel_model.specs.Frames.{Plane}
use Rattle.pel_model.specs.Records.{Macroblock}
use Rattle.pel_model.specs.Transform.{fixed}
use Rattle.ref_decode.specs.Blocks.{block_at}
use Rattle.ref_decode.specs.Drawing.{sample_in, frame_in, covers, BlockDrawn, block_plane, block_left, block_top}
use Rattle.ref_decode.specs.Shown.{columns, plane_start, sample_place}
use Rattle.ref_decode.proofs.Geometry.{IsInside, inside-is, covered-is, in_block, of_block, IsAt, stands_beside, IsPlaced, BlockWithin, and_both}
use Rattle.ref_decode.proofs.Rowing.{Apart}

-- ---- the write

eqb-same : (n : ℕ) → (n == n) ≡ true
eqb-same n = eq-eqb n n refl

-- the first sample of a block
abbrev pub block_place : Format → (number address block : ℕ) → ℕ
block_place format number address block =
    plane_start format (block_plane block) + columns format (block_plane block) * block_top number address block + block_left number address block

module _ (format : Format) (number : ℕ) (m : Macroblock) (quant block : ℕ) (shown old new samples : List ℕ) (placed : IsPlaced format number m.address) (some : 0 < m.address) (most : m.address ≤ 33) (few : block < 6) (within : BlockWithin format number m.address block)
    (inside : (x y : ℕ) → x < 8 → y < 8 → slice_index new (block_place format number m.address block + columns format (block_plane block) * y + x) ≡ block_at samples x y)
    (outside : (k : ℕ) → Apart (block_place format number m.address block) (columns format (block_plane block)) 8 k → slice_index new k ≡ slice_index old k)
    (value : (x y : ℕ) → x < 8 → y < 8 → block_at samples x y ≡ decoded fixed (frame_in format shown) (Some (record { macroblock = m; quant = quant })) (block_plane block) (block_left number m.address block + x) (block_top number m.address block + y)) where
  here : (x y : ℕ) → IsAt number m.address block (block_plane block) x y → sample_in format new (block_plane block) x y ≡ decoded fixed (frame_in format shown) (Some (record { macroblock = m; quant = quant })) (block_plane block) x y
  here x y at =
      let left : ℕ = block_left number m.address block in
      let top : ℕ = block_top number m.address block in
      let width : ℕ = columns format (block_plane block) in
      let hx : x - left < 8 = omega (arith, at.left, at.right) in
      let hy : y - top < 8 = omega (arith, at.top, at.bottom) in
      let ex : left + (x - left) ≡ x = omega (arith, at.left) in
      let ey : top + (y - top) ≡ y = omega (arith, at.top) in
      let row : width * (top + (y - top)) ≡ width * y = ap (λ n. width * n) ey in
      let place : sample_place format (block_plane block) x y ≡ block_place format number m.address block + width * (y - top) + (x - left) = omega (arith, row, at.left) in
      ap (slice_index new) place
      ∙ (inside (x - left) (y - top) hx hy
      ∙ (value (x - left) (y - top) hx hy
      ∙ ap₂ (decoded fixed (frame_in format shown) (Some (record { macroblock = m; quant = quant })) (block_plane block)) ex ey))

  elsewhere : (plane : Plane) (x y : ℕ) → IsInside format plane x y → (covers number m.address plane x y && (block_number plane x y == block)) ≡ false → sample_in format new plane x y ≡ sample_in format old plane x y
  elsewhere plane x y h miss = outside (sample_place format plane x y) (λ b hb. stands_beside format (block_plane block) plane (block_left number m.address block) (block_top number m.address block) x y b h within.across within.down hb (λ same row. elim (cases_lt x (block_left number m.address block)) [
    | inl before ↦ inl before
    | inr from ↦ elim (cases_lt x (block_left number m.address block + 8)) [
      | inr behind ↦ inr behind
      | inl before ↦
          let of = of_block number m.address block plane x y placed.some some most few (record { plane_is = same; left = from; right = before; top = omega (arith, row); bottom = omega (arith, row, hb) }) in
          absurd (false≢true (sym miss ∙ ap₂ (λ (s t : Bool). s && t) of.covered (ap (λ n. n == block) of.number_is ∙ eqb-same block)))
    ]
  ]))

  pub block_drawn : BlockDrawn format number (record { macroblock = m; quant = quant }) block shown old new
  block_drawn plane x y h =
      let inside_ = inside-is format plane x y h in
      elim (cases_Bool (covers number m.address plane x y && (block_number plane x y == block))) [
        | inl hit ↦
            let b = and_both (covers number m.address plane x y) (block_number plane x y == block) hit in
            let at = in_block number m.address block plane x y (covered-is format number m.address plane x y inside_ b.0) (eqb-true (block_number plane x y) block b.1) in
            let there : sample_in format new plane x y ≡ decoded fixed (frame_in format shown) (Some (record { macroblock = m; quant = quant })) plane x y =
            subst (λ (p : Plane). IsAt number m.address block p x y → sample_in format new p x y ≡ decoded fixed (frame_in format shown) (Some (record { macroblock = m; quant = quant })) p x y) at.plane_is (here x y) at in
            there ∙ sym (cond-true _ _ _ hit)
        | inr miss ↦ elsewhere plane x y inside_ miss ∙ sym (cond-false _ _ _ miss)
      ]
