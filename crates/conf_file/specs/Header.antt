-- The header of a conference file, version 1.
use Rattle.std.specs.Prelude.{◌≡◌, ℕ, ◌≤◌, List, [], ◌∷◌, ◌++◌, codes}

-- the conference has 1 to 16 lanes
abbrev pub HasLanes : ℕ → Type 0
HasLanes lanes = (1 ≤ lanes) × (lanes ≤ 16)

-- eight letters, the version, and the number of lanes
abbrev pub header_of : ℕ → List ℕ
header_of lanes = codes "H261CONF" ++ 1 ∷ lanes ∷ []

-- so many octets are read before they are judged
abbrev pub header_size : ℕ
header_size = 10

-- the octets are no header
abbrev pub IsNoHeader : List ℕ → Type 0
IsNoHeader octets = (lanes : ℕ) → HasLanes lanes → octets ≡ header_of lanes → ⊥
