use Rattle.std.proofs.Common.{◌≡◌, ◌≤◌, length-set, arith, rules, w32, to_z, of_z, ◌∙◌, ap}
use Rattle.std.specs.Prelude.{unsigned_abs, slice_index}
use Rattle.std.proofs.lemmas.Int.{to_z-of_z}
use Rattle.ref_decode.specs.Blocks.{coefficient_at, scan_places}
use Rattle.ref_decode.proofs.Levels.{scan_small}
use Rattle.ref_decode.proofs.Sums.{put_more}
use Rattle.ref_decode.proofs.residual.coefficients.Goals as goal

pub coefficient-requires : goal.coefficient-requires
coefficient-requires c =
    let e : c.from.result ≡ slice_index scan_places c.loop-place.place = c.from.ensures ∙ ap (λ ks. slice_index ks c.loop-place.place) c.requires in
    omega (arith, e, scan_small c.loop-place.place)

pub loop-place-preserved : goal.loop-place-preserved
loop-place-preserved c =
    let e : to_z w32 (of_z w32 c.coefficient.result) ≡ c.coefficient.result = to_z-of_z w32 c.coefficient.result (search rules) in
    let place : c.from.result ≡ slice_index scan_places c.loop-place.place = c.from.ensures ∙ ap (λ ks. slice_index ks c.loop-place.place) c.requires in
    rw e (
      length-set c.loop-place.coefs c.loop-place.place c.coefficient.result ∙ c.loop-place.invariant.0,
      put_more (λ k z. z ≡ coefficient_at c.args.quant c.args.intra c.args.levels.now (slice_index scan_places k)) c.loop-place.coefs c.loop-place.place c.coefficient.result (omega (arith, c.loop-place.invariant.0)) c.loop-place.invariant.1 (c.coefficient.ensures.value ∙ ap (coefficient_at c.args.quant c.args.intra c.args.levels.now) place),
      put_more (λ k z. unsigned_abs z ≤ 2048) c.loop-place.coefs c.loop-place.place c.coefficient.result (omega (arith, c.loop-place.invariant.0)) c.loop-place.invariant.2 c.coefficient.ensures.size,
    )
