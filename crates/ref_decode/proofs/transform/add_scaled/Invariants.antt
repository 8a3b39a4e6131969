use Rattle.std.proofs.Common.{◌≡◌, ℕ, ◌+◌, ◌<◌, ◌≤◌, ◌+ℤ◌, ◌*ℤ◌, length}
use Rattle.ref_decode.specs.Passes.{at_place}
use Rattle.ref_decode.proofs.transform.add_scaled.Given as goal

abbrev pub invariant-loop-x : goal.invariant-loop-x
invariant-loop-x l =
    (length l.sums ≡ 8)
    × ((x : ℕ) → x < l.x → at_place l.sums x ≡ at_place l.fn.sums x +ℤ l.by *ℤ at_place l.table (l.from + x))
    × ((x : ℕ) → l.x ≤ x → at_place l.sums x ≡ at_place l.fn.sums x)
