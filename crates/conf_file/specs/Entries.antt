-- The entries of a conference file: what each says and how it is spelled, what is wrong with octets that spell none, and
-- how a file is cut into entries.
use Rattle.std.specs.Prelude.{◌≡◌, ◌≢◌, ◌⊎◌, ℕ, ◌+◌, ◌*◌, ◌^◌, ◌<◌, ◌≤◌, List, [], ◌∷◌, ◌++◌, length}
use Rattle.byteorder.specs.Endian.{big_bytes}
use Rattle.pel_model.specs.declared.chair.Command.{Command}
use Rattle.chair_words.specs.Line.{Says, HasFaultAt}
use Rattle.io_edge.specs.Ticks.{IsStep}
use Rattle.conf_file.specs.declared.answers.EntryWhy.{EntryWhy}
use Rattle.conf_file.specs.declared.answers.EntryWhy.TheVariants.{Header, Kind, Lane, Step, Order}

-- what an entry says: a packet of a lane, a command of the chair, a tick of so many steps, or the end
pub data Content : Type 0 where
  Packet : ℕ → List ℕ → Content
  Chair : Command → Content
  Tick : ℕ → Content
  End : Content

-- the first octets of the four entries: P, C, T and E in ASCII
abbrev pub P : ℕ
P = 80

abbrev pub C : ℕ
C = 67

abbrev pub T : ℕ
T = 84

abbrev pub E : ℕ
E = 69

-- In a conference of so many lanes, these octets are the entry: P, the lane and the packet behind its length, 16 bits in
-- network order; C and the line behind its length, 8 bits; T and the step, 1 to 31; E.
abbrev pub SpellsEntry : ℕ → Content → List ℕ → Type 0
SpellsEntry lanes (Packet lane packet) octets =
    (octets ≡ P ∷ lane ∷ (big_bytes 2 (length packet) ++ packet)) × (lane < lanes)
    × (length packet < 2 ^ 16)
SpellsEntry lanes (Chair command) octets =
    (line : List ℕ) × (octets ≡ C ∷ length line ∷ line) × (length line < 2 ^ 8) × Says line command
SpellsEntry lanes (Tick step) octets = (octets ≡ T ∷ step ∷ []) × IsStep step
SpellsEntry lanes End octets = octets ≡ E ∷ []

-- no entry begins with the octet
abbrev pub IsNoKind : ℕ → Type 0
IsNoKind kind = (kind ≢ P) × (kind ≢ C) × (kind ≢ T) × (kind ≢ E)

-- No entry begins with these octets, and why: the first field at fault and its end, behind which the rest stands. A line
-- is at fault as a whole.
abbrev pub IsWrong : ℕ → EntryWhy → List ℕ → List ℕ → Type 0
IsWrong lanes Header octets rest = ⊥
IsWrong lanes Kind octets rest = (kind : ℕ) × (octets ≡ kind ∷ rest) × IsNoKind kind
IsWrong lanes Lane octets rest = (lane : ℕ) × (octets ≡ P ∷ lane ∷ rest) × (lanes ≤ lane)
IsWrong lanes Step octets rest = (step : ℕ) × (octets ≡ T ∷ step ∷ rest) × (IsStep step → ⊥)
IsWrong lanes (Order fault) octets rest =
    (line : List ℕ) × (octets ≡ C ∷ length line ∷ (line ++ rest)) × (length line < 2 ^ 8)
    × HasFaultAt line fault.place fault.why

-- what stands behind P is less than a packet, and its lane is none at fault
abbrev pub IsPartOfPacket : ℕ → List ℕ → Type 0
IsPartOfPacket lanes [] = Unit {0}
IsPartOfPacket lanes (lane ∷ []) = lane < lanes
IsPartOfPacket lanes (lane ∷ _ ∷ []) = lane < lanes
IsPartOfPacket lanes (lane ∷ high ∷ low ∷ packet) = (lane < lanes)
    × (length packet < high * 256 + low)

-- what stands behind C is less than a line
abbrev pub IsPartOfOrder : List ℕ → Type 0
IsPartOfOrder [] = Unit {0}
IsPartOfOrder (size ∷ line) = length line < size

-- less than an entry, and no field of it at fault
abbrev pub IsPartEntry : ℕ → List ℕ → Type 0
IsPartEntry lanes [] = Unit {0}
IsPartEntry lanes (kind ∷ octets) =
    ((kind ≡ P) × IsPartOfPacket lanes octets)
    ⊎ (((kind ≡ C) × IsPartOfOrder octets) ⊎ ((kind ≡ T) × (octets ≡ [])))
