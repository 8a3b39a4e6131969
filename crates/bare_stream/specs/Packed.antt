-- Bits as octets, which the most significant bit begins.
use Rattle.std.specs.Prelude.{◌≡◌, ℕ, ◌<◌, Bool, List, [], ◌∷◌, length, take, Option, Result, Ok, Err}
use Rattle.std.specs.Io.KnownBytes.{Appends}
use Rattle.io_edge.specs.Causes.{HasCause}
use Rattle.io_edge.specs.Outside.{Output}
use Rattle.pel_bits.specs.Bits.{number}

-- the octets that bits spell, eight each; bits behind the last whole octet spell none
unfoldable pub octets_spelled : List Bool → List ℕ
octets_spelled (a ∷ b ∷ c ∷ d ∷ e ∷ f ∷ g ∷ h ∷ bits) =
    number (a ∷ b ∷ c ∷ d ∷ e ∷ f ∷ g ∷ h ∷ []) ∷ octets_spelled bits
octets_spelled _ = []

-- the bits behind the last whole octet
unfoldable pub left_over : List Bool → List Bool
left_over (a ∷ b ∷ c ∷ d ∷ e ∷ f ∷ g ∷ h ∷ bits) = left_over bits
left_over bits = bits

-- ---- what a writer of bits puts

-- The octets were put, and their number is told; or a front of them and not all, where the sink failed.
abbrev pub PutsOctets : {E : Type 0} → (old new : Option (List ℕ)) → (octets : List ℕ) → Result ℕ E → Type 0
PutsOctets old new octets (Ok told) = Appends old new octets × (told ≡ length octets)
PutsOctets old new octets (Err _) = (n : ℕ) × (n < length octets) × Appends old new (take n octets)

-- what a call puts of these bits: the octets that they spell, and only a sink that fails is a reason not to
pub record PutsBits {E : Type 0} (bits : List Bool) (before after : Output) (result : Result ℕ E) : Type 0 where
  pub puts : PutsOctets before.written after.written (octets_spelled bits) result
  pub cause : HasCause before.faults after.faults result
