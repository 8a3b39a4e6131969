use Rattle.std.proofs.Common.{◌≡◌, ℕ, ◌<◌, ◌≤◌, pos}
use Rattle.ref_decode.specs.Passes.{at_place}
use Rattle.ref_decode.proofs.transform.used_rows.Given as goal

abbrev pub invariant-loop-count : goal.invariant-loop-count
invariant-loop-count l = (l.count ≤ 64) × ((k : ℕ) → l.count ≤ k → k < 64 → at_place l.coefs k ≡ pos 0)

abbrev pub decreases-loop-count : goal.decreases-loop-count
decreases-loop-count l = l.count
