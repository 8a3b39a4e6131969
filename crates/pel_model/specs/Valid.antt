-- Valid pictures: the records that H.261 allows.
use Rattle.std.specs.Prelude.{◌≡◌, ℕ, ◌+◌, ◌-◌, ◌*◌, ◌/◌, ◌%◌, ◌<◌, ◌≤◌, ◌≢◌, ◌==◌, ◌&&◌, nat_le, Bool, true, ℤ, pos, negsuc, nat_abs, List, [], ◌∷◌, length, map, take, sum_by, All, Any, Option, IsSome, IsNone, IfSome, IsSomeAnd, IsTrue, MatchBool}
use Rattle.std.specs.List.{list_any}
use Rattle.pel_model.specs.declared.Format.{Format}
use Rattle.pel_model.specs.declared.Format.TheVariants.{Qcif, Cif}
use Rattle.pel_model.specs.declared.MbKind.{MbKind}
use Rattle.pel_model.specs.Codes.{tcoeff_table, is_intra, has_mquant, has_vector, has_cbp}
use Rattle.pel_model.specs.Records.{Axis, Across, Down, Coefficient, Block, Macroblock, Group, Picture, component}

-- ---- blocks (4.2.4)

-- the run and the level have a code
abbrev pub has_code : ℕ → ℕ → Bool
has_code run level = list_any (λ pair. pair.0 == run && pair.1 == level) ((0, 1) ∷ map (λ row. row.1) tcoeff_table)

-- an escape's level lies from -127 to 127 and is not 0
abbrev pub IsLongLevel : ℤ → Type 0
IsLongLevel level = (0 < nat_abs level) × (nat_abs level ≤ 127)

abbrev pub IsValidCoefficient : Coefficient → Type 0
IsValidCoefficient c =
    MatchBool c.long ((c.run ≤ 63) × IsLongLevel c.level) (IsTrue (has_code c.run (nat_abs c.level)))

-- the coefficients lie within the block's 64 places, of which `before` are taken
abbrev pub AreValidCoefficients : ℕ → List Coefficient → Type 0
AreValidCoefficients before cs = All IsValidCoefficient cs × (before + sum_by (λ c. c.run + 1) cs ≤ 64)

-- INTRADC: 00000000 and 10000000 are forbidden
abbrev pub IsValidDc : ℕ → Type 0
IsValidDc n = (0 < n) × (n ≤ 255) × (n ≢ 128)

abbrev pub IsIntraBlock : Block → Type 0
IsIntraBlock b = IsSomeAnd b.dc IsValidDc × AreValidCoefficients 1 b.coefficients

abbrev pub IsCodedBlock : Block → Type 0
IsCodedBlock b = IsNone b.dc × (0 < length b.coefficients) × AreValidCoefficients 0 b.coefficients

-- all blocks where the kind is Intra, one or more where it has CBP, else none
abbrev pub BlocksFit : MbKind → List (Option Block) → Type 0
BlocksFit kind blocks =
    MatchBool (is_intra kind) (All (λ b. IsSomeAnd b IsIntraBlock) blocks)
    (MatchBool (has_cbp kind) (Any IsSome blocks × All (λ b. IfSome b IsCodedBlock) blocks) (All IsNone blocks))

-- ---- macroblocks (4.2.3)

abbrev pub IsQuantiser : ℕ → Type 0
IsQuantiser q = (0 < q) × (q ≤ 31)

abbrev pub MquantFits : MbKind → Option ℕ → Type 0
MquantFits kind mquant = MatchBool (has_mquant kind) (IsSomeAnd mquant IsQuantiser) (IsNone mquant)

-- the sides of a picture's luminance (3.1)
abbrev pub side : Format → Axis → ℕ
side Qcif Across = 176
side Qcif Down = 144
side Cif Across = 352
side Cif Down = 288

-- the first luminance sample of a macroblock, by the number of its group and its address (4.2.2, 4.2.3)
abbrev pub corner : Axis → (group : ℕ) → (address : ℕ) → ℕ
corner Across group address = 176 * ((group - 1) % 2) + 16 * ((address - 1) % 11)
corner Down group address = 48 * ((group - 1) / 2) + 16 * ((address - 1) / 11)

-- 16 samples from `first` on, moved by the component, lie within the side
abbrev pub stays_within : (side first : ℕ) → ℤ → Bool
stays_within side first (pos n) = nat_le (first + n + 16) side
stays_within side first (negsuc n) = nat_le (n + 1) first

-- a component from -15 to 15 that refers to samples of the picture alone (3.2.2), or 0 where the kind has no vector
abbrev pub ComponentFits : Format → ℕ → Axis → Macroblock → Type 0
ComponentFits format group axis m =
    MatchBool (has_vector m.kind)
    ((nat_abs (component axis m) ≤ 15) × (stays_within (side format axis) (corner axis group m.address) (component axis m) ≡ true))
    (component axis m ≡ pos 0)

pub record IsValidMacroblock (format : Format) (group : ℕ) (m : Macroblock) : Type 0 where
  pub mquant : MquantFits m.kind m.mquant
  pub across : ComponentFits format group Across m
  pub down : ComponentFits format group Down m
  pub six : length m.blocks ≡ 6
  pub blocks : BlocksFit m.kind m.blocks

-- ---- groups and pictures (4.2.2, 4.2.1)

-- how many macroblocks a group has (4.2.2)
abbrev pub group_size : ℕ
group_size = 33

-- the addresses rise from above `last` up to 33 at most
abbrev pub AddressesRise : ℕ → List Macroblock → Type 0
AddressesRise last [] = Unit {0}
AddressesRise last (m ∷ ms) = (last < m.address) × (m.address ≤ group_size) × AddressesRise m.address ms

pub record IsValidGroup (format : Format) (g : Group) : Type 0 where
  pub quant : IsQuantiser g.quant
  pub addresses : AddressesRise 0 g.macroblocks
  pub macroblocks : All (IsValidMacroblock format g.number) g.macroblocks

-- the numbers of a format's groups
abbrev pub group_numbers : Format → List ℕ
group_numbers Qcif = 1 ∷ 3 ∷ 5 ∷ []
group_numbers Cif = 1 ∷ 2 ∷ 3 ∷ 4 ∷ 5 ∷ 6 ∷ 7 ∷ 8 ∷ 9 ∷ 10 ∷ 11 ∷ 12 ∷ []

abbrev pub group_count : Format → ℕ
group_count format = length (group_numbers format)

-- how many macroblocks a picture has (3.1): 99 and 396
abbrev pub macroblock_count : Format → ℕ
macroblock_count format = group_size * group_count format

-- a picture that has its first groups
pub record IsValidSoFar (format : Format) (picture : Picture) : Type 0 where
  pub tr : picture.tr < 32
  pub numbers : map (λ (g : Group). g.number) picture.groups ≡ take (length picture.groups) (group_numbers format)
  pub groups : All (IsValidGroup format) picture.groups

-- a picture that has all its groups
pub record IsValid (format : Format) (picture : Picture) : Type 0 where
  pub so_far : IsValidSoFar format picture
  pub whole : length picture.groups ≡ group_count format

-- the greatest number of bits of a picture (5.2): 64 Kbits and 256 Kbits
abbrev pub limit : Format → ℕ
limit Qcif = 65536
limit Cif = 262144
