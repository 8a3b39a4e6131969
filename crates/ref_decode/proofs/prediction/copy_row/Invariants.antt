use Rattle.std.proofs.Common.{◌≡◌, ℕ, ◌+◌, ◌*◌, ◌<◌, length}
use Rattle.std.specs.Prelude.{slice_index}
use Rattle.ref_decode.specs.Blocks.{block_at}
use Rattle.ref_decode.proofs.prediction.copy_row.Given as goal

abbrev pub invariant-loop-x : goal.invariant-loop-x
invariant-loop-x l =
    (length l.block ≡ 64)
    × ((x : ℕ) → x < l.x → block_at l.block x l.y ≡ slice_index l.samples (l.from + x))
    × ((k : ℕ) → k < 8 * l.y → slice_index l.block k ≡ slice_index l.fn.block k)
