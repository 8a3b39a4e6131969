use Rattle.std.proofs.Common.{◌≡◌, ℕ, ◌<◌}
use Rattle.ref_decode.specs.Passes.{at_place, combination}
use Rattle.ref_decode.proofs.transform.combined.Given as goal

abbrev pub invariant-loop-k : goal.invariant-loop-k
invariant-loop-k l = (x : ℕ) → x < 8 → at_place l.sums x ≡ combination l.factors l.from l.table l.k x
