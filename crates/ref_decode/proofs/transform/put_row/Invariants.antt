use Rattle.std.proofs.Common.{◌≡◌, ℕ, ◌+◌, ◌*◌, ◌<◌, length}
use Rattle.ref_decode.specs.Passes.{at_place}
use Rattle.ref_decode.proofs.transform.put_row.Given as goal

abbrev pub invariant-loop-x : goal.invariant-loop-x
invariant-loop-x l =
    (length l.rows ≡ 64)
    × ((x : ℕ) → x < l.x → at_place l.rows (8 * l.v + x) ≡ at_place l.row x)
    × ((k : ℕ) → k < 8 * l.v → at_place l.rows k ≡ at_place l.fn.rows k)
