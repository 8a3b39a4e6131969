use Rattle.std.proofs.Common.{◌≡◌, ℕ, ◌+◌, ◌*◌, ◌<◌, length}
use Rattle.ref_decode.specs.Passes.{at_place, rounded}
use Rattle.ref_decode.proofs.transform.put_line.Given as goal

abbrev pub invariant-loop-x : goal.invariant-loop-x
invariant-loop-x l =
    (length l.residual ≡ 64)
    × ((x : ℕ) → x < l.x → at_place l.residual (8 * l.y + x) ≡ rounded (at_place l.sums x))
    × ((k : ℕ) → k < 8 * l.y → at_place l.residual k ≡ at_place l.fn.residual k)
