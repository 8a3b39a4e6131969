-- Decoding (H.261, 3.2): the frame that a decoder shows after a picture, sample by sample, from the frame before.
use Rattle.std.specs.Prelude.{ℕ, ◌+◌, ◌*◌, ◌/◌, ◌%◌, ◌==◌, min, ℤ, pos, negsuc, ◌+ℤ◌, List, [], ◌∷◌, slice_index_or, Option, None, Some, if◌then◌else◌}
use Rattle.pel_model.specs.declared.Format.{Format}
use Rattle.pel_model.specs.Frames.{Plane, Luminance, Cb, Cr, Frame, ratio, cut}
use Rattle.pel_model.specs.Prediction.{predicted}
use Rattle.pel_model.specs.Records.{Macroblock, Group, Picture, quantiser_after}
use Rattle.pel_model.specs.Residual.{residual}
use Rattle.pel_model.specs.Transform.{Transform}

-- ---- the macroblock that covers a sample (4.2.2, 4.2.3)

-- the number of the group, and the address in it, of the macroblock in this column and row of macroblocks: a group has
-- three rows of 11; in a CIF picture two groups stand side by side, and the groups of a QCIF picture are numbered as
-- those on the left
abbrev pub group_of : (column row : ℕ) → ℕ
group_of column row = 2 * (row / 3) + column / 11 + 1

abbrev pub address_of : (column row : ℕ) → ℕ
address_of column row = 11 * (row % 3) + column % 11 + 1

-- a macroblock, and the quantiser in effect for its blocks (4.2.3.3)
pub record Quantised : Type 0 where
  pub macroblock : Macroblock
  pub quant : ℕ

-- the macroblock with this address, where `quant` was in effect before these: the last MQUANT up to and including its own
-- counts, else GQUANT
abbrev pub at_address : (address quant : ℕ) → List Macroblock → Option Quantised
at_address address quant [] = None
at_address address quant (m ∷ ms) =
    if m.address == address then Some (record { macroblock = m; quant = quantiser_after quant m.mquant })
    else at_address address (quantiser_after quant m.mquant) ms

abbrev pub in_groups : (number address : ℕ) → List Group → Option Quantised
in_groups number address [] = None
in_groups number address (g ∷ gs) =
    if g.number == number then at_address address g.quant g.macroblocks else in_groups number address gs

abbrev pub macroblock_at : Picture → (column row : ℕ) → Option Quantised
macroblock_at picture column row = in_groups (group_of column row) (address_of column row) picture.groups

-- the number of the block in its macroblock: four of luminance by rows, CB, CR (4.2.3)
abbrev pub block_number : Plane → ℕ → ℕ → ℕ
block_number Luminance x y = 2 * (y / 8 % 2) + x / 8 % 2
block_number Cb x y = 4
block_number Cr x y = 5

-- ---- samples

-- clipped to 0..255 (3.2.6)
abbrev pub sample : ℤ → ℕ
sample (pos n) = min n 255
sample (negsuc n) = 0

-- prediction and residual where a macroblock is sent, else the sample of the frame before
abbrev pub decoded : Transform → Frame → Option Quantised → Frame
decoded t before None plane x y = before plane x y
decoded t before (Some found) plane x y =
    sample
    (pos (predicted before found.macroblock plane x y)
    +ℤ residual t found.quant (slice_index_or found.macroblock.blocks (block_number plane x y) None) (x % 8) (y % 8))

-- the frame after a picture: a macroblock covers 16 by 16 samples of luminance
unfoldable pub decode : Format → Transform → (before : Frame) → Picture → Frame
decode format t before picture =
    cut format (λ plane x y. decoded t before (macroblock_at picture (ratio plane * x / 16) (ratio plane * y / 16)) plane x y)
