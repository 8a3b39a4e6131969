use Rattle.std.proofs.Common.{◌≡◌, ℕ, ◌/◌, ◌%◌, ◌<◌, ◌≤◌, length}
use Rattle.std.specs.Prelude.{slice_index}
use Rattle.pel_model.specs.Prediction.{weighted}
use Rattle.ref_decode.specs.Blocks.{block_at}
use Rattle.ref_decode.proofs.prediction.smoothed_across.Given as goal

abbrev pub invariant-loop-k : goal.invariant-loop-k
invariant-loop-k l =
    (length l.sums ≡ 64)
    × ((j : ℕ) → j < l.k → slice_index l.sums j ≡ weighted (λ a. block_at l.block a (j / 8)) (j % 8))
    × ((j : ℕ) → j < l.k → slice_index l.sums j ≤ 1020)
