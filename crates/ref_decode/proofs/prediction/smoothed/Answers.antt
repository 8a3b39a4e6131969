use Rattle.std.proofs.Common.{◌≡◌, ℕ, ◌+◌, ◌*◌, ◌/◌, ◌%◌, arith, length-set, ◌∙◌, ap₂}
use Rattle.pel_model.specs.Prediction.{weighted}
use Rattle.ref_decode.specs.Blocks.{block_at}
use Rattle.ref_decode.proofs.Filters.{smoothed-is}
use Rattle.ref_decode.proofs.Sums.{put_more_unsigned}
use Rattle.ref_decode.proofs.prediction.smoothed.Goals as goal

pub loop-k-preserved : goal.loop-k-preserved
loop-k-preserved c = (
  length-set c.loop-k.filtered c.loop-k.k c.down_at.result ∙ c.loop-k.invariant.0,
  put_more_unsigned (λ k z. z ≡ (weighted (λ b. block_at c.smoothed_across-sums.result (k % 8) b) (k / 8) + 8) / 16) c.loop-k.filtered c.loop-k.k c.down_at.result (omega (arith, c.loop-k.invariant.0)) c.loop-k.invariant.1 c.down_at.ensures,
)

pub returns : goal.returns
returns c = λ x y hx hy.
    let q : (8 * y + x) / 8 ≡ y = omega arith in
    let r : (8 * y + x) % 8 ≡ x = omega arith in
    c.loop-k.invariant.1 (8 * y + x) (omega arith)
    ∙ (ap₂ (λ (a b : ℕ). (weighted (λ k. block_at c.smoothed_across-sums.result a k) b + 8) / 16) r q
    ∙ smoothed-is c.args.block.now c.smoothed_across-sums.result x y c.smoothed_across-sums.ensures.value hx hy)
