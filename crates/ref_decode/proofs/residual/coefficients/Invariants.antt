use Rattle.std.proofs.Common.{◌≡◌, ℕ, ◌<◌, ◌≤◌, length}
use Rattle.std.specs.Prelude.{unsigned_abs, slice_index}
use Rattle.ref_decode.specs.Blocks.{coefficient_at, scan_places}
use Rattle.ref_decode.specs.Passes.{at_place}
use Rattle.ref_decode.proofs.residual.coefficients.Given as goal

abbrev pub invariant-loop-place : goal.invariant-loop-place
invariant-loop-place l =
    (length l.coefs ≡ 64)
    × ((k : ℕ) → k < l.place → at_place l.coefs k ≡ coefficient_at l.quant l.intra l.levels (slice_index scan_places k))
    × ((k : ℕ) → k < l.place → unsigned_abs (at_place l.coefs k) ≤ 2048)
