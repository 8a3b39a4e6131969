use Rattle.std.proofs.Common.{◌≡◌, ◌+ℤ◌, pos, arith, length-set, rules, w16, ◌∙◌, ap}
use Rattle.std.specs.Prelude.{slice_index}
use Rattle.std.proofs.lemmas.Int.{to_z-of_z}
use Rattle.pel_model.specs.Decode.{sample}
use Rattle.ref_decode.specs.Blocks.{joined_at}
use Rattle.ref_decode.specs.Passes.{at_place}
use Rattle.ref_decode.proofs.Sums.{put_more_unsigned}
use Rattle.ref_decode.proofs.prediction.joined.Goals as goal

pub loop-k-preserved : goal.loop-k-preserved
loop-k-preserved c =
    let v : c.clip.result ≡ joined_at c.args.predicted.now c.args.residual.now c.loop-k.k =
    c.clip.ensures ∙ ap (λ z. sample (pos (slice_index c.args.predicted.now c.loop-k.k) +ℤ z)) (to_z-of_z w16 (at_place c.args.residual.now c.loop-k.k) (search rules)) in (
      length-set c.loop-k.samples c.loop-k.k c.clip.result ∙ c.loop-k.invariant.0,
      put_more_unsigned (λ k z. z ≡ joined_at c.args.predicted.now c.args.residual.now k) c.loop-k.samples c.loop-k.k c.clip.result (omega (arith, c.loop-k.invariant.0)) c.loop-k.invariant.1 v,
    )
