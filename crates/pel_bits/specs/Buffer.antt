-- What contracts see of a buffer of bits, and the octets that hold them.
use Rattle.std.specs.Prelude.{ℕ, ◌+◌, ◌-◌, ◌*◌, ◌/◌, Bool, List, ◌++◌, length}
use Rattle.pel_bits.specs.Reading.{zeros}

-- the bits of a buffer, and the most that it has room for
pub record Buffer : Type 0 where
  pub list : List Bool
  pub capacity : ℕ

-- how many bits the octets have that n bits need
abbrev pub whole : ℕ → ℕ
whole n = 8 * ((n + 7) / 8)

-- the bits, and zeros to the end of their last octet
abbrev pub filled_up : List Bool → List Bool
filled_up bs = bs ++ zeros (whole (length bs) - length bs)
