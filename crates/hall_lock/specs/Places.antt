-- Places in a history, and how often each stands in a list.
use Rattle.std.specs.Prelude.{◌≡◌, ℕ, ◌≤◌, ◌==◌, List, count_by, nat_lt, if◌then◌else◌}

-- how often x stands in the list
abbrev pub times : ℕ → List ℕ → ℕ
times x places = count_by (λ y. y == x) places

-- 1 at the numbers below n, and 0 at every other
abbrev pub one_below : ℕ → ℕ → ℕ
one_below n x = (if nat_lt x n then 1 else 0)

-- each number below n stands in the list once, and no other number does
abbrev pub EachOnce : ℕ → List ℕ → Type 0
EachOnce n places = (x : ℕ) → times x places ≡ one_below n x

-- each number of the list is below n, and stands there once
abbrev pub AtMostOnce : ℕ → List ℕ → Type 0
AtMostOnce n places = (x : ℕ) → times x places ≤ one_below n x
