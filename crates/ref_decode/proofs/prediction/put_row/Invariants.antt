use Rattle.std.proofs.Common.{◌≡◌, ℕ, ◌+◌, ◌<◌, ◌≤◌, length}
use Rattle.std.specs.Prelude.{slice_index}
use Rattle.ref_decode.specs.Blocks.{block_at}
use Rattle.ref_decode.proofs.prediction.put_row.Given as goal

abbrev pub invariant-loop-x : goal.invariant-loop-x
invariant-loop-x l =
    (length l.samples ≡ length l.fn.samples)
    × ((x : ℕ) → x < l.x → slice_index l.samples (l.from + x) ≡ block_at l.block x l.y)
    × ((k : ℕ) → k < l.from → slice_index l.samples k ≡ slice_index l.fn.samples k)
    × ((k : ℕ) → l.from + 8 ≤ k → slice_index l.samples k ≡ slice_index l.fn.samples k)
