use Rattle.std.proofs.Common.{◌≡◌, ℕ, ◌+◌, ◌/◌, ◌%◌, ◌<◌, length}
use Rattle.std.specs.Prelude.{slice_index}
use Rattle.pel_model.specs.Prediction.{weighted}
use Rattle.ref_decode.specs.Blocks.{block_at}
use Rattle.ref_decode.proofs.prediction.smoothed.Given as goal

abbrev pub invariant-loop-k : goal.invariant-loop-k
invariant-loop-k l = (length l.filtered ≡ 64) × ((j : ℕ) → j < l.k → slice_index l.filtered j ≡ (weighted (λ b. block_at l.sums (j % 8) b) (j / 8) + 8) / 16)
