use Rattle.std.proofs.Common.{◌≡◌, ℕ, ◌+◌, ◌*◌, ◌<◌, ◌≤◌, ◌⊎◌, length}
use Rattle.std.specs.Prelude.{slice_index}
use Rattle.ref_decode.specs.Blocks.{block_at}
use Rattle.ref_decode.proofs.prediction.put_block.Given as goal

abbrev pub invariant-loop-y : goal.invariant-loop-y
invariant-loop-y l =
    (length l.samples ≡ length l.fn.samples)
    × ((b x : ℕ) → b < l.y → x < 8 → slice_index l.samples (l.from + l.width * b + x) ≡ block_at l.block x b)
    × ((k : ℕ) → ((b : ℕ) → b < l.y → (k < l.from + l.width * b) ⊎ (l.from + l.width * b + 8 ≤ k)) → slice_index l.samples k ≡ slice_index l.fn.samples k)
