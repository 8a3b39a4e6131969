use Rattle.std.proofs.Common.{◌≡◌, ℕ, ◌+◌, ◌*◌, ◌<◌}
use Rattle.std.specs.Prelude.{slice_index}
use Rattle.ref_decode.specs.Blocks.{block_at}
use Rattle.ref_decode.proofs.prediction.copied.Given as goal

abbrev pub invariant-loop-y : goal.invariant-loop-y
invariant-loop-y l = (b x : ℕ) → b < l.y → x < 8 → block_at l.block x b ≡ slice_index l.samples (l.from + l.width * b + x)
