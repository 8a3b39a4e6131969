-- Worked frames: what decoders show of pictures with each kind of prediction, with values that were computed apart from
-- these definitions.
use Rattle.std.specs.Prelude.{◌≡◌, ℕ, ◌+◌, ◌*◌, ◌%◌, ℤ, pos, List, [], ◌∷◌, map, replicate, Option, Some, None, false, refl}
use Rattle.pel_model.specs.declared.Format.TheVariants.{Qcif, Cif}
use Rattle.pel_model.specs.declared.MbKind.{MbKind}
use Rattle.pel_model.specs.declared.MbKind.TheVariants.{Intra, Inter, InterQuant, Mc, McCoded, McQuant, McFil, McFilCoded, McFilQuant}
use Rattle.pel_model.specs.declared.Quad.TheVariants.{One, Two, Three, Four}
use Rattle.pel_model.specs.Crop.{crop}
use Rattle.pel_model.specs.Decode.{decode}
use Rattle.pel_model.specs.Frames.{Plane, Luminance, Cb, Cr, Frame}
use Rattle.pel_model.specs.Lanes.{Arrival, Received, Missing}
use Rattle.pel_model.specs.Own.{own}
use Rattle.pel_model.specs.Records.{Block, Macroblock, Group, Picture}
use Rattle.pel_model.specs.Regions.{empty_group}
use Rattle.pel_model.specs.Residual.{reconstructed, with_zeros, transmission_order, coefficients_of, residual}
use Rattle.pel_model.specs.Transform.{minus, fixed, sum_below, kernel_rows}

-- the samples at these planes, columns and rows
abbrev samples : Frame → List (Plane × ℕ × ℕ) → List ℕ
samples frame places = map (λ (p : Plane × ℕ × ℕ). frame p.0 p.1 p.2) places

-- a frame that is alike everywhere, and one that is nowhere
abbrev flat : ℕ → Frame
flat n plane x y = n

abbrev shade : Plane → ℕ
shade Luminance = 0
shade Cb = 37
shade Cr = 74

abbrev uneven : Frame
uneven plane x y = (x * x + 3 * x * y + 5 * y * y + shade plane) % 256

abbrev group : ℕ → List Macroblock → Group
group number macroblocks = record { number = number; quant = 8; macroblocks = macroblocks }

abbrev pictured : (one three five : List Macroblock) → Picture
pictured one three five = record { tr = 1; groups = group 1 one ∷ group 3 three ∷ group 5 five ∷ [] }

abbrev level_alone : ℤ → List (Option Block)
level_alone level = Some (record { dc = None; coefficients = record { run = 0; level = level; long = false } ∷ [] }) ∷ replicate 5 None

-- a macroblock with one level in its first block
abbrev coded : (address : ℕ) → MbKind → Option ℕ → ℤ → Macroblock
coded address kind mquant level = record { address = address; kind = kind; mquant = mquant; across = pos 0; down = pos 0; blocks = level_alone level }

-- a macroblock that is moved alone
abbrev moving : (address : ℕ) → MbKind → (across down : ℤ) → Macroblock
moving address kind across down = record { address = address; kind = kind; mquant = None; across = across; down = down; blocks = replicate 6 None }

-- one level over grey
pub small_values : samples (decode Qcif fixed (flat 128) (pictured (coded 1 Inter None (pos 1) ∷ []) [] []))
    ((Luminance, 0, 0) ∷ (Luminance, 7, 0) ∷ (Luminance, 0, 7) ∷ (Luminance, 7, 7) ∷ (Luminance, 8, 0) ∷ (Luminance, 0, 8) ∷ (Cb, 0, 0) ∷ (Cr, 0, 0) ∷ [])
    ≡ 131 ∷ 131 ∷ 131 ∷ 131 ∷ 128 ∷ 128 ∷ 128 ∷ 128 ∷ []
unfolding decode residual coefficients_of with_zeros transmission_order reconstructed fixed sum_below kernel_rows
small_values = refl

-- moved and filtered: inside of a block, at its sides and in its corners, and beside the macroblock
pub filtered_values : samples (decode Qcif fixed uneven (pictured (moving 13 McFil (minus 3) (pos 5) ∷ []) [] []))
    ((Luminance, 16, 16) ∷ (Luminance, 17, 16) ∷ (Luminance, 17, 18) ∷ (Luminance, 23, 17) ∷ (Luminance, 23, 23) ∷ (Luminance, 24, 20) ∷ (Luminance, 20, 24) ∷ (Luminance, 30, 30) ∷ (Luminance, 30, 31) ∷ (Cb, 8, 8) ∷ (Cb, 9, 10) ∷ (Cr, 15, 12) ∷ (Cr, 14, 9) ∷ (Luminance, 15, 16) ∷ [])
    ≡ 121 ∷ 148 ∷ 162 ∷ 47 ∷ 112 ∷ 88 ∷ 150 ∷ 140 ∷ 142 ∷ 28 ∷ 136 ∷ 113 ∷ 160 ∷ 177 ∷ []
unfolding decode residual coefficients_of with_zeros transmission_order reconstructed fixed sum_below kernel_rows
filtered_values = refl

-- moved by odd components of both signs, which are halved towards zero in the colour planes
pub moved_values : samples (decode Qcif fixed uneven (pictured (moving 13 Mc (minus 3) (pos 5) ∷ moving 14 Mc (pos 5) (minus 3) ∷ []) [] []))
    ((Luminance, 16, 16) ∷ (Luminance, 31, 31) ∷ (Luminance, 32, 16) ∷ (Luminance, 47, 31) ∷ (Cb, 8, 8) ∷ (Cb, 15, 15) ∷ (Cb, 16, 8) ∷ (Cr, 8, 8) ∷ (Cr, 23, 15) ∷ (Cr, 24, 15) ∷ [])
    ≡ 121 ∷ 48 ∷ 73 ∷ 240 ∷ 28 ∷ 88 ∷ 216 ∷ 65 ∷ 169 ∷ 39 ∷ []
unfolding decode residual coefficients_of with_zeros transmission_order reconstructed fixed sum_below kernel_rows
moved_values = refl

-- each kind that is predicted, with vectors of both signs, at the sides and inside of blocks: three of them are filtered
abbrev sent_so : (address : ℕ) → MbKind → Option ℕ → (across down : ℤ) → List (Option Block) → Macroblock
sent_so address kind mquant across down blocks = record { address = address; kind = kind; mquant = mquant; across = across; down = down; blocks = blocks }

pub kinds_values : samples (decode Qcif fixed uneven (pictured
    (sent_so 13 McFilCoded None (pos 2) (minus 1) (level_alone (pos 1))
    ∷ sent_so 14 McFilQuant (Some 20) (minus 5) (pos 3) (level_alone (minus 2))
    ∷ sent_so 15 McCoded None (pos 3) (pos 4) (level_alone (pos 1))
    ∷ sent_so 16 McQuant (Some 5) (minus 3) (minus 4) (level_alone (pos 2))
    ∷ moving 17 Mc (minus 1) (pos 2)
    ∷ coded 18 Inter None (pos 1)
    ∷ []) [] []))
    ((Luminance, 16, 16) ∷ (Luminance, 18, 19) ∷ (Luminance, 23, 20) ∷ (Luminance, 26, 29) ∷ (Cb, 11, 12) ∷ (Cr, 8, 13)
    ∷ (Luminance, 32, 16) ∷ (Luminance, 35, 18) ∷ (Luminance, 36, 23) ∷ (Cb, 17, 9) ∷ (Cr, 20, 12)
    ∷ (Luminance, 48, 16) ∷ (Luminance, 50, 19) ∷ (Luminance, 61, 28) ∷ (Cb, 27, 13)
    ∷ (Luminance, 66, 18) ∷ (Luminance, 71, 23) ∷ (Luminance, 70, 30) ∷ (Cr, 35, 10)
    ∷ (Luminance, 82, 18) ∷ (Luminance, 91, 27) ∷ (Cb, 44, 11)
    ∷ (Luminance, 98, 18) ∷ (Luminance, 101, 21) ∷ (Luminance, 107, 28) ∷ (Cb, 50, 11) ∷ [])
    ≡ 214 ∷ 98 ∷ 21 ∷ 83 ∷ 136 ∷ 138
    ∷ 221 ∷ 122 ∷ 156 ∷ 143 ∷ 140
    ∷ 244 ∷ 158 ∷ 0 ∷ 134
    ∷ 174 ∷ 68 ∷ 39 ∷ 62
    ∷ 109 ∷ 167 ∷ 181
    ∷ 134 ∷ 83 ∷ 37 ∷ 184 ∷ []
unfolding decode residual coefficients_of with_zeros transmission_order reconstructed fixed sum_below kernel_rows
kinds_values = refl

-- a residual that is no two places alike: each sample of it goes to its own column and row
abbrev levels_at : List (ℕ × ℤ) → Option Block
levels_at levels = Some (record { dc = None; coefficients = map (λ (l : ℕ × ℤ). record { run = l.0; level = l.1; long = false }) levels })

pub residual_places : samples (decode Qcif fixed (flat 128) (pictured
    (sent_so 1 Inter None (pos 0) (pos 0)
    (levels_at ((0, pos 6) ∷ (0, minus 3) ∷ []) ∷ None ∷ None ∷ levels_at ((2, pos 5) ∷ (0, pos 2) ∷ []) ∷ None ∷ levels_at ((1, minus 4) ∷ []) ∷ [])
    ∷ []) [] []))
    ((Luminance, 0, 0) ∷ (Luminance, 1, 0) ∷ (Luminance, 7, 0) ∷ (Luminance, 0, 1) ∷ (Luminance, 7, 7) ∷ (Luminance, 3, 5) ∷ (Luminance, 5, 3)
    ∷ (Luminance, 8, 8) ∷ (Luminance, 9, 8) ∷ (Luminance, 8, 9) ∷ (Luminance, 15, 15) ∷ (Luminance, 13, 10) ∷ (Luminance, 10, 13)
    ∷ (Cr, 0, 0) ∷ (Cr, 1, 0) ∷ (Cr, 0, 1) ∷ (Cr, 7, 3) ∷ (Cr, 3, 7) ∷ (Cb, 0, 0) ∷ [])
    ≡ 131 ∷ 133 ∷ 150 ∷ 131 ∷ 150 ∷ 139 ∷ 146 ∷ 149 ∷ 149 ∷ 143 ∷ 119 ∷ 134 ∷ 117 ∷ 116 ∷ 118 ∷ 116 ∷ 140 ∷ 126 ∷ 128 ∷ []
unfolding decode residual coefficients_of with_zeros transmission_order reconstructed fixed sum_below kernel_rows
residual_places = refl

-- MQUANT 20 holds for its macroblock and for those behind it in the group, and not in the next group
pub quantiser_values : samples (decode Qcif fixed (flat 128) (pictured (coded 1 Inter None (pos 1) ∷ coded 2 InterQuant (Some 20) (pos 1) ∷ coded 3 Inter None (pos 1) ∷ coded 5 Inter None (pos 1) ∷ []) (coded 1 Inter None (pos 1) ∷ []) []))
    ((Luminance, 0, 0) ∷ (Luminance, 16, 0) ∷ (Luminance, 32, 0) ∷ (Luminance, 64, 0) ∷ (Luminance, 0, 48) ∷ [])
    ≡ 131 ∷ 135 ∷ 135 ∷ 135 ∷ 131 ∷ []
unfolding decode residual coefficients_of with_zeros transmission_order reconstructed fixed sum_below kernel_rows
quantiser_values = refl

-- each of the six blocks stands at its place in the macroblock, and the macroblock at its place in the picture
pub block_places : samples (decode Qcif fixed (flat 128) (pictured [] (record { address = 25; kind = Intra; mquant = None; across = pos 0; down = pos 0; blocks = map (λ (n : ℕ). Some (record { dc = Some n; coefficients = [] })) (10 ∷ 20 ∷ 30 ∷ 40 ∷ 50 ∷ 60 ∷ []) } ∷ []) []))
    ((Luminance, 32, 80) ∷ (Luminance, 39, 87) ∷ (Luminance, 40, 80) ∷ (Luminance, 47, 87) ∷ (Luminance, 32, 88) ∷ (Luminance, 39, 95) ∷ (Luminance, 40, 88) ∷ (Luminance, 47, 95) ∷ (Cb, 16, 40) ∷ (Cb, 23, 47) ∷ (Cr, 16, 40) ∷ (Cr, 23, 47) ∷ (Luminance, 31, 80) ∷ (Luminance, 48, 80) ∷ (Luminance, 32, 79) ∷ (Luminance, 32, 96) ∷ (Cb, 24, 40) ∷ [])
    ≡ 10 ∷ 10 ∷ 20 ∷ 20 ∷ 30 ∷ 30 ∷ 40 ∷ 40 ∷ 50 ∷ 50 ∷ 60 ∷ 60 ∷ 128 ∷ 128 ∷ 128 ∷ 128 ∷ 128 ∷ []
unfolding decode residual coefficients_of with_zeros transmission_order reconstructed fixed sum_below kernel_rows
block_places = refl

-- samples are clipped to 255
pub high_values : samples (decode Qcif fixed (flat 240) (pictured (coded 1 Inter None (pos 10) ∷ []) [] []))
    ((Luminance, 0, 0) ∷ (Luminance, 8, 0) ∷ [])
    ≡ 255 ∷ 240 ∷ []
unfolding decode residual coefficients_of with_zeros transmission_order reconstructed fixed sum_below kernel_rows
high_values = refl

-- and not before
pub below_high_values : samples (decode Qcif fixed (flat 230) (pictured (coded 1 Inter None (pos 10) ∷ []) [] []))
    ((Luminance, 0, 0) ∷ (Luminance, 8, 0) ∷ [])
    ≡ 251 ∷ 230 ∷ []
unfolding decode residual coefficients_of with_zeros transmission_order reconstructed fixed sum_below kernel_rows
below_high_values = refl

-- samples are clipped to 0
pub low_values : samples (decode Qcif fixed (flat 15) (pictured (coded 1 Inter None (minus 10) ∷ []) [] []))
    ((Luminance, 0, 0) ∷ (Luminance, 8, 0) ∷ [])
    ≡ 0 ∷ 15 ∷ []
unfolding decode residual coefficients_of with_zeros transmission_order reconstructed fixed sum_below kernel_rows
low_values = refl

-- and not before
pub above_low_values : samples (decode Qcif fixed (flat 25) (pictured (coded 1 Inter None (minus 10) ∷ []) [] []))
    ((Luminance, 0, 0) ∷ (Luminance, 8, 0) ∷ [])
    ≡ 4 ∷ 25 ∷ []
unfolding decode residual coefficients_of with_zeros transmission_order reconstructed fixed sum_below kernel_rows
above_low_values = refl

-- groups stand side by side in a CIF picture
pub cif_values : samples (decode Cif fixed (flat 128) (record { tr = 1; groups = empty_group 1 ∷ group 5 (coded 33 Inter None (pos 1) ∷ []) ∷ group 8 (coded 14 Inter None (pos 1) ∷ []) ∷ [] }))
    ((Luminance, 208, 160) ∷ (Luminance, 215, 167) ∷ (Luminance, 207, 160) ∷ (Luminance, 216, 160) ∷ (Luminance, 208, 159) ∷ (Luminance, 160, 128) ∷ (Luminance, 167, 135) ∷ (Luminance, 159, 128) ∷ (Luminance, 176, 128) ∷ (Luminance, 32, 160) ∷ [])
    ≡ 131 ∷ 131 ∷ 128 ∷ 128 ∷ 128 ∷ 131 ∷ 131 ∷ 128 ∷ 128 ∷ 128 ∷ []
unfolding decode residual coefficients_of with_zeros transmission_order reconstructed fixed sum_below kernel_rows
cif_values = refl

-- what a place shows, and 0 outside of it
pub cropped_one : samples (crop One uneven) ((Luminance, 3, 5) ∷ (Luminance, 175, 143) ∷ (Cb, 3, 5) ∷ (Cr, 87, 71) ∷ (Luminance, 176, 0) ∷ (Cb, 0, 72) ∷ []) ≡ 179 ∷ 73 ∷ 216 ∷ 179 ∷ 0 ∷ 0 ∷ []
unfolding crop
cropped_one = refl

pub cropped_two : samples (crop Two uneven) ((Luminance, 3, 5) ∷ (Luminance, 175, 143) ∷ (Cb, 3, 5) ∷ (Cr, 87, 71) ∷ (Luminance, 176, 0) ∷ (Cb, 0, 72) ∷ []) ≡ 35 ∷ 217 ∷ 80 ∷ 251 ∷ 0 ∷ 0 ∷ []
unfolding crop
cropped_two = refl

pub cropped_three : samples (crop Three uneven) ((Luminance, 3, 5) ∷ (Luminance, 175, 143) ∷ (Cb, 3, 5) ∷ (Cr, 87, 71) ∷ (Luminance, 176, 0) ∷ (Cb, 0, 72) ∷ []) ≡ 227 ∷ 249 ∷ 176 ∷ 11 ∷ 0 ∷ 0 ∷ []
unfolding crop
cropped_three = refl

pub cropped_four : samples (crop Four uneven) ((Luminance, 3, 5) ∷ (Luminance, 175, 143) ∷ (Cb, 3, 5) ∷ (Cr, 87, 71) ∷ (Luminance, 176, 0) ∷ (Cb, 0, 72) ∷ []) ≡ 83 ∷ 137 ∷ 104 ∷ 147 ∷ 0 ∷ 0 ∷ []
unfolding crop
cropped_four = refl

-- the sender's own decoder: level 1 twice over grey, then a gap, then level 1 over what stands behind the gap
abbrev sent : List (Arrival Picture)
sent =
    let small : Arrival Picture = Received false (pictured (coded 1 Inter None (pos 1) ∷ []) [] []) in
    small ∷ small ∷ Missing ∷ small ∷ []

abbrev filled : ℕ → Frame
filled n = flat (128 + n)

pub own_values : map (λ (n : ℕ). own fixed filled sent n Luminance 0 0) (0 ∷ 1 ∷ 2 ∷ 3 ∷ 4 ∷ []) ≡ 128 ∷ 131 ∷ 134 ∷ 131 ∷ 134 ∷ []
unfolding decode residual coefficients_of with_zeros transmission_order reconstructed fixed sum_below kernel_rows
own_values = refl
