use Rattle.std.proofs.Common.{◌≡◌, ℕ, ◌+◌, ◌*◌, ◌≤◌, None, pos, ◌+ℤ◌, refl, sym, subst, arith}
use Rattle.std.specs.Prelude.{slice_index_or}
use Rattle.std.proofs.lemmas.Result.{err_from_is_err_and}
use Rattle.pel_model.specs.Codes.{is_intra}
use Rattle.pel_model.specs.Decode.{sample}
use Rattle.pel_model.specs.Residual.{residual}
use Rattle.pel_model.specs.Transform.{fixed}
use Rattle.ref_decode.specs.Blocks.{block_at}
use Rattle.ref_decode.specs.Drawing.{IsSentAs, IsSpot}
use Rattle.ref_decode.proofs.Drawn.{block_drawn, block_place}
use Rattle.ref_decode.proofs.Geometry.{is_placed, block_within}
use Rattle.ref_decode.proofs.Predicted.{decoded_is}
use Rattle.ref_decode.proofs.macroblock.draw_block.Goals as goal

pub returns-in_err-samples-clause-drawn : goal.returns-in_err-samples-clause-drawn
returns-in_err-samples-clause-drawn c =
    let p = err_from_is_err_and c.from_residual.result c.from_residual.ensures.1 in
    rw p.1 (λ m quant rest is valid some sent bits.
    (c.in_err-samples.ensures (slice_index_or m.blocks c.args.block None) rest (is.sends c.args.block c.requires.place.block) (subst (λ k. IsSentAs (is_intra k) (slice_index_or m.blocks c.args.block None)) (sym is.kind_is) sent) bits).0)

pub returns-clause-drawn : goal.returns-clause-drawn
returns-clause-drawn c = λ m quant rest is valid some sent bits.
    let format = c.args.format in
    let number : ℕ = c.args.group in
    let block : ℕ = c.args.block in
    let most : m.address ≤ 33 = omega (arith, is.address_is, c.requires.place.address) in
    let ok = c.in_ok-samples.ensures (slice_index_or m.blocks c.args.block None) rest (is.sends c.args.block c.requires.place.block) (subst (λ k. IsSentAs (is_intra k) (slice_index_or m.blocks c.args.block None)) (sym is.kind_is) sent) bits in
    let placed = is_placed c.args.format c.args.group m.address c.requires.place.group most in
    let within = block_within c.args.format c.args.group m.address c.args.block placed c.requires.place.block in
    let spot_is = subst (λ a. IsSpot c.args.format c.args.group a c.args.block c.spot_of-spot.result) is.address_is c.spot_of-spot.ensures.spot in
    let spot = c.spot_of-spot.result in
    let from : c.spot_of-spot.result.start + c.spot_of-spot.result.width * c.spot_of-spot.result.top + c.spot_of-spot.result.left ≡ block_place c.args.format c.args.group m.address c.args.block = rw (spot_is.start, spot_is.width, spot_is.left, spot_is.top) refl in (
      ok.1,
      block_drawn c.args.format c.args.group m quant c.args.block c.args.shown.now c.args.next.now c.put_block.new.samples c.in_ok-samples.samples placed some most c.requires.place.block within
          (rw (from, spot_is.width) at c.put_block.ensures.inside)
          (rw (from, spot_is.width) at c.put_block.ensures.outside)
          (λ x y hx hy. decoded_is c.args.format c.args.group c.args.block m quant c.args.header.now c.spot_of-spot.result c.args.shown.now placed valid c.requires.place.block is spot_is x y c.in_ok-samples.samples c.predict-prediction.result some most hx hy within.across (c.predict-prediction.ensures x y hx hy)
          (subst (λ q. block_at c.in_ok-samples.samples x y ≡ sample (pos (block_at c.predict-prediction.result x y) +ℤ residual fixed q (slice_index_or m.blocks c.args.block None) x y)) is.quant_is (ok.0 x y hx hy))),
    )
