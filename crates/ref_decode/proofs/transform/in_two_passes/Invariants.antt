use Rattle.std.proofs.Common.{◌≡◌, ℕ, ◌+◌, ◌*◌, ◌<◌}
use Rattle.ref_decode.specs.Passes.{at_place, combination, rounded}
use Rattle.ref_decode.proofs.transform.in_two_passes.Given as goal

abbrev pub invariant-loop-v : goal.invariant-loop-v
invariant-loop-v l =
    (v x : ℕ) → v < l.v → x < 8 → at_place l.rows (8 * v + x) ≡ combination l.coefs (8 * v) l.by_row 8 x

abbrev pub invariant-loop-y : goal.invariant-loop-y
invariant-loop-y l =
    (y x : ℕ) → y < l.y → x < 8 → at_place l.residual (8 * y + x) ≡ rounded (combination l.by_column (8 * y) l.rows l.used x)
