use Rattle.std.proofs.Common.{◌≡◌, ℕ, ◌<◌, length}
use Rattle.std.specs.Prelude.{slice_index}
use Rattle.ref_decode.specs.Blocks.{joined_at}
use Rattle.ref_decode.proofs.prediction.joined.Given as goal

abbrev pub invariant-loop-k : goal.invariant-loop-k
invariant-loop-k l = (length l.samples ≡ 64) × ((j : ℕ) → j < l.k → slice_index l.samples j ≡ joined_at l.predicted l.residual j)
