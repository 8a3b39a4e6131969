-- Inner contracts alone use this; nothing here has to be believed.
-- What the drawing of blocks, macroblocks and groups leaves in the samples, sample by sample.
use Rattle.std.specs.Prelude.{◌≡◌, ℕ, ◌+◌, ◌-◌, ◌*◌, ◌/◌, ◌%◌, ◌^◌, ◌<◌, ◌≤◌, ◌==◌, ◌&&◌, nat_lt, min, Bool, true, cond, pos, ◌+ℤ◌}
use Rattle.std.specs.Prelude.{List, length, slice_get, slice_index, slice_index_or, is_some, Option, None, Some, Result, Ok, Err}
use Rattle.pel_model.specs.declared.Format.{Format}
use Rattle.pel_model.specs.Bits.{field}
use Rattle.pel_model.specs.Codes.{is_intra}
use Rattle.pel_model.specs.Decode.{Quantised, at_address, in_groups, group_of, address_of, block_number, sample, decoded}
use Rattle.pel_model.specs.Frames.{Plane, Luminance, Cb, Cr, Frame, ratio, is_inside}
use Rattle.pel_model.specs.Grammar.{Element, is_group}
use Rattle.pel_model.specs.Records.{Across, Down, Block, Macroblock, Group, Picture, quantiser_after}
use Rattle.pel_model.specs.Text.{address_of as last_address}
use Rattle.pel_model.specs.Prediction.{moved_by, has_filter}
use Rattle.pel_model.specs.Residual.{residual}
use Rattle.pel_model.specs.Transform.{fixed}
use Rattle.pel_model.specs.Walk.{after}
use Rattle.pel_model.specs.Valid.{corner, IsValidMacroblock}
use Rattle.h261_mb.specs.declared.header.Header.{Header}
use Rattle.h261_mb.specs.declared.state.MbState.{MbState}
use Rattle.h261_mb.specs.State.{Stands}
use Rattle.picture_laws.specs.PictureElements.{elements_of_macroblock as macroblock_elements}
use Rattle.picture_laws.specs.SoFar.{IsBehind}
use Rattle.ref_decode.specs.declared.macroblock.Spot.{Spot}
use Rattle.ref_decode.specs.Blocks.{IsBlockOf, block_at, filtered_if}
use Rattle.ref_decode.specs.Shown.{frame_of, sample_count, sample_place, columns, row_count, plane_start}

-- ---- samples

abbrev pub sample_in : Format → List ℕ → Plane → (x y : ℕ) → ℕ
sample_in format samples plane x y = slice_index samples (sample_place format plane x y)

-- the frame of these samples
abbrev pub frame_in : Format → List ℕ → Frame
frame_in format samples = frame_of (record { format = format; samples = samples })

-- the macroblock of this group and address covers a sample
abbrev pub covers : (number address : ℕ) → Plane → (x y : ℕ) → Bool
covers number address plane x y =
    (group_of (ratio plane * x / 16) (ratio plane * y / 16) == number)
    && (address_of (ratio plane * x / 16) (ratio plane * y / 16) == address)

-- what is drawn over a sample
abbrev pub drawn_over : Frame → Option Quantised → Plane → (x y : ℕ) → ℕ → ℕ
drawn_over before None plane x y old = old
drawn_over before (Some found) plane x y old = decoded fixed before (Some found) plane x y

-- the first blocks of a macroblock were drawn, and nothing else changed
abbrev pub BlocksDrawn : Format → (number : ℕ) → Quantised → (count : ℕ) → (shown old new : List ℕ) → Type 0
BlocksDrawn format number found count shown old new =
    (plane : Plane) (x y : ℕ) → is_inside format plane x y ≡ true
    → sample_in format new plane x y
    ≡ cond (covers number found.macroblock.address plane x y && nat_lt (block_number plane x y) count)
    (decoded fixed (frame_in format shown) (Some found) plane x y)
    (sample_in format old plane x y)

-- macroblocks of a group were drawn
abbrev pub GroupDrawn : Format → (number quant : ℕ) → List Macroblock → (shown old new : List ℕ) → Type 0
GroupDrawn format number quant ms shown old new =
    (plane : Plane) (x y : ℕ) → is_inside format plane x y ≡ true
    → sample_in format new plane x y
    ≡ drawn_over (frame_in format shown)
    (cond (group_of (ratio plane * x / 16) (ratio plane * y / 16) == number)
    (at_address (address_of (ratio plane * x / 16) (ratio plane * y / 16)) quant ms) None)
    plane x y (sample_in format old plane x y)

-- groups were drawn
abbrev pub GroupsDrawn : Format → List Group → (shown old new : List ℕ) → Type 0
GroupsDrawn format gs shown old new =
    (plane : Plane) (x y : ℕ) → is_inside format plane x y ≡ true
    → sample_in format new plane x y
    ≡ drawn_over (frame_in format shown)
    (in_groups (group_of (ratio plane * x / 16) (ratio plane * y / 16)) (address_of (ratio plane * x / 16) (ratio plane * y / 16)) gs)
    plane x y (sample_in format old plane x y)

-- ---- where the blocks of a macroblock stand

abbrev pub block_plane : (block : ℕ) → Plane
block_plane block = cond (nat_lt block 4) Luminance (cond (block == 4) Cb Cr)

abbrev pub block_left : (number address block : ℕ) → ℕ
block_left number address block =
    cond (nat_lt block 4) (corner Across number address + 8 * (block % 2)) (corner Across number address / 2)

abbrev pub block_top : (number address block : ℕ) → ℕ
block_top number address block =
    cond (nat_lt block 4) (corner Down number address + 8 * (block / 2)) (corner Down number address / 2)

-- ---- what is read

-- a header is that of a macroblock, with this quantiser in effect
pub record IsHeaderOf (m : Macroblock) (quant : ℕ) (header : Header) : Type 0 where
  pub address_is : header.address ≡ m.address
  pub kind_is : header.kind ≡ m.kind
  pub quant_is : header.quant ≡ quant
  pub across_is : header.h ≡ m.across
  pub down_is : header.v ≡ m.down
  pub sends : (k : ℕ) → k < 6 → slice_get (field header.pattern 6) k ≡ Some (is_some (slice_index_or m.blocks k None))

-- a macroblock of a group that comes behind these elements
pub record ComesNext (format : Format) (number : ℕ) (last : Option Macroblock) (m : Macroblock) (before : List Element) : Type 0 where
  pub behind : IsBehind number last before
  pub rises : last_address last < m.address
  pub most : m.address ≤ 33
  pub valid : IsValidMacroblock format number m

-- ---- one block

-- where a block stands
pub record IsSpot (format : Format) (number address block : ℕ) (spot : Spot) : Type 0 where
  pub start : spot.start ≡ plane_start format (block_plane block)
  pub width : spot.width ≡ columns format (block_plane block)
  pub height : spot.height ≡ row_count format (block_plane block)
  pub left : spot.left ≡ block_left number address block
  pub top : spot.top ≡ block_top number address block
  pub ratio_is : spot.ratio ≡ ratio (block_plane block)

-- it lies within its plane, and that within the samples
pub record IsWithin (spot : Spot) (length_of : ℕ) : Type 0 where
  pub across : spot.left + 8 ≤ spot.width
  pub down : spot.top + 8 ≤ spot.height
  pub inside : spot.start + spot.width * spot.height ≤ length_of
  pub small : (spot.width < 512) × (spot.height < 512) × (spot.start < 2 ^ 18)
  pub ratio_is : (0 < spot.ratio) × (spot.ratio < 3)

-- the first sample that the vector of a header refers to
abbrev pub reference_left : Spot → Header → ℕ
reference_left spot header = min (moved_by spot.ratio header.h spot.left) (spot.width - 8)

abbrev pub reference_top : Spot → Header → ℕ
reference_top spot header = min (moved_by spot.ratio header.v spot.top) (spot.height - 8)

abbrev pub reference_at : List ℕ → Spot → Header → (x y : ℕ) → ℕ
reference_at shown spot header x y =
    slice_index shown (spot.start + spot.width * reference_top spot header + reference_left spot header + spot.width * y + x)

abbrev pub prediction_at : List ℕ → Spot → Header → (x y : ℕ) → ℕ
prediction_at shown spot header x y =
    cond (is_intra header.kind) 0 (filtered_if (has_filter header.kind) (reference_at shown spot header) x y)

-- prediction and residual were joined
abbrev pub AreJoined : {E : Type 0} → (quant : ℕ) → Option Block → List ℕ → Result (List ℕ) E → Type 0
AreJoined quant b prediction (Ok samples) = (x y : ℕ) → x < 8 → y < 8
    → block_at samples x y ≡ sample (pos (block_at prediction x y) +ℤ residual fixed quant b x y)
AreJoined quant b prediction (Err e) = ⊥

abbrev pub IsSentAs : Bool → Option Block → Type 0
IsSentAs intra None = Unit {0}
IsSentAs intra (Some b) = IsBlockOf intra b

-- a block of a macroblock was drawn, and nothing else changed
abbrev pub BlockDrawn : Format → (number : ℕ) → Quantised → (block : ℕ) → (shown old new : List ℕ) → Type 0
BlockDrawn format number found block shown old new =
    (plane : Plane) (x y : ℕ) → is_inside format plane x y ≡ true
    → sample_in format new plane x y
    ≡ cond (covers number found.macroblock.address plane x y && (block_number plane x y == block))
    (decoded fixed (frame_in format shown) (Some found) plane x y)
    (sample_in format old plane x y)

abbrev pub IsBlockDone : {E : Type 0} → Format → (number : ℕ) → Quantised → (block : ℕ) → (rest : List Bool)
    → (shown old new : List ℕ) → Result Unit E → List Bool × ℕ → Type 0
IsBlockDone format number found block rest shown old new (Ok _) r = (r.0 ≡ rest) × BlockDrawn format number found block shown old new
IsBlockDone format number found block rest shown old new (Err e) r = ⊥

-- ---- one macroblock

pub record MacroblockDrawn (format : Format) (number : ℕ) (before : List Element) (last : Option Macroblock) (m : Macroblock)
    (rest : List Bool) (shown old new : List ℕ) (was now : MbState) (r : List Bool × ℕ) : Type 0 where
  pub rest_is : r.0 ≡ rest
  pub stands : Stands number now (after before (macroblock_elements last m))
  pub quant_is : now.quant ≡ quantiser_after was.quant m.mquant
  pub drawn : BlocksDrawn format number (record { macroblock = m; quant = quantiser_after was.quant m.mquant }) 6 shown old new

abbrev pub IsMacroblockDone : {E : Type 0} → Format → (number : ℕ) → List Element → Option Macroblock → Macroblock
    → (rest : List Bool) → (shown old new : List ℕ) → (was now : MbState) → Result Unit E → List Bool × ℕ → Type 0
IsMacroblockDone format number before last m rest shown old new was now (Ok _) r =
    MacroblockDrawn format number before last m rest shown old new was now r
IsMacroblockDone format number before last m rest shown old new was now (Err e) r = ⊥

-- ---- one group

abbrev pub IsGroupDone : {E : Type 0} → Format → Group → (rest : List Bool) → (shown old new : List ℕ) → Result Unit E
    → List Bool × ℕ → Type 0
IsGroupDone format g rest shown old new (Ok _) r = (r.0 ≡ rest) × GroupDrawn format g.number g.quant g.macroblocks shown old new
IsGroupDone format g rest shown old new (Err e) r = ⊥

abbrev pub IsPictureDone : {E : Type 0} → Format → Picture → (shown old new : List ℕ) → Result Unit E → Type 0
IsPictureDone format p shown old new (Ok _) = GroupsDrawn format p.groups shown old new
IsPictureDone format p shown old new (Err e) = ⊥

-- ---- what is asked

-- both sets of planes have the samples of the format
pub record HavePlanes (format : Format) (old new : List ℕ) : Type 0 where
  pub shown : length old ≡ sample_count format
  pub next : length new ≡ sample_count format

-- a block of a macroblock of this group at this address
pub record IsBlockPlace (format : Format) (number place index : ℕ) : Type 0 where
  pub group : is_group format number ≡ true
  pub address : place ≤ 33
  pub block : index < 6
