use Rattle.std.proofs.Common.{◌≡◌, ◌/◌, ◌%◌, ◌≤◌, arith, ◌∙◌, length-set}
use Rattle.pel_model.specs.Prediction.{weighted}
use Rattle.ref_decode.specs.Blocks.{block_at}
use Rattle.ref_decode.proofs.Sums.{put_more_unsigned}
use Rattle.ref_decode.proofs.prediction.smoothed_across.Goals as goal

pub loop-k-preserved : goal.loop-k-preserved
loop-k-preserved c = (
  length-set c.loop-k.sums c.loop-k.k c.across_at.result ∙ c.loop-k.invariant.0,
  put_more_unsigned (λ k z. z ≡ weighted (λ a. block_at c.args.block.now a (k / 8)) (k % 8)) c.loop-k.sums c.loop-k.k c.across_at.result (omega (arith, c.loop-k.invariant.0)) c.loop-k.invariant.1 c.across_at.ensures.value,
  put_more_unsigned (λ k z. z ≤ 1020) c.loop-k.sums c.loop-k.k c.across_at.result (omega (arith, c.loop-k.invariant.0)) c.loop-k.invariant.2 c.across_at.ensures.size,
)
