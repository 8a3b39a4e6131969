-- What contracts see of a reader: the bits that are left, and the place of the first of them.
use Rattle.std.specs.Prelude.{ℕ, ◌+◌, Bool, false, List, drop, replicate}

-- a reader n bits further on
abbrev pub skipped : ℕ → List Bool × ℕ → List Bool × ℕ
skipped n r = (drop n r.0, r.1 + n)

-- n bits, all 0
abbrev pub zeros : ℕ → List Bool
zeros n = replicate n false
