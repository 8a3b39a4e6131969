-- Bits, and the numbers and octets that they spell. Bits stand in the order in which H.261 sends them (4.1: the
-- most significant bit of a field first).
use Rattle.std.specs.Prelude.{ℕ, zero, suc, ◌+◌, ◌%◌, ◌/◌, ◌^◌, ◌==◌, Bool, cond, List, [], ◌∷◌, length}
use Rattle.std.specs.List.{flat_map}

abbrev pub is_odd : ℕ → Bool
is_odd n = n % 2 == 1

-- the last w bits of n, the most significant one first
unfoldable pub field : ℕ → ℕ → List Bool
field n zero = []
field n (suc w) = is_odd (n / 2 ^ w) ∷ field n w

-- the number that bits spell
unfoldable pub number : List Bool → ℕ
number [] = 0
number (b ∷ bs) = cond b (2 ^ length bs) 0 + number bs

-- the bits of octets
abbrev pub bits : List ℕ → List Bool
bits octets = flat_map (λ b. field b 8) octets
