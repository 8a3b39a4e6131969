-- A coded picture as a record: what the layers of H.261 (4.2) carry, without their words.
use Rattle.std.specs.Prelude.{ℕ, ℤ, Bool, List, [], ◌∷◌, ◌++◌, Option, None, Some}
use Rattle.pel_model.specs.declared.MbKind.{MbKind}

-- the two components of a vector
pub data Axis : Type 0 where
  Across Down : Axis

-- a transform coefficient (4.2.4.1): the zeros before it, its level, and whether it is sent as an escape
pub record Coefficient : Type 0 where
  pub run : ℕ
  pub level : ℤ
  pub long : Bool

-- a block (4.2.4): the 8 bits of INTRADC where the macroblock is Intra, and its coefficients
pub record Block : Type 0 where
  pub dc : Option ℕ
  pub coefficients : List Coefficient

-- a macroblock (4.2.3): its address in the group, its kind, MQUANT where the kind has it, the two components of its
-- vector, and its six blocks, four of luminance, CB and CR, where they are sent
pub record Macroblock : Type 0 where
  pub address : ℕ
  pub kind : MbKind
  pub mquant : Option ℕ
  pub across : ℤ
  pub down : ℤ
  pub blocks : List (Option Block)

-- the quantiser in effect for a macroblock with this MQUANT and behind it, where it was `before` (4.2.3.3)
abbrev pub quantiser_after : (before : ℕ) → Option ℕ → ℕ
quantiser_after before None = before
quantiser_after before (Some mquant) = mquant

-- behind macroblocks one after another
abbrev pub quantiser_behind : (before : ℕ) → List Macroblock → ℕ
quantiser_behind before [] = before
quantiser_behind before (m ∷ ms) = quantiser_behind (quantiser_after before m.mquant) ms

-- a group of blocks (4.2.2): GN, GQUANT, and the macroblocks that are sent
pub record Group : Type 0 where
  pub number : ℕ
  pub quant : ℕ
  pub macroblocks : List Macroblock

-- a picture (4.2.1): TR and its groups
pub record Picture : Type 0 where
  pub tr : ℕ
  pub groups : List Group

-- a component of a macroblock's vector
abbrev pub component : Axis → Macroblock → ℤ
component Across m = m.across
component Down m = m.down

-- a picture with one group more
abbrev pub with_group : Picture → Group → Picture
with_group picture g = record { tr = picture.tr; groups = picture.groups ++ g ∷ [] }
