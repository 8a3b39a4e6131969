-- What a store shows: the samples of the three planes, luminance, CB and CR one behind another, each by rows from the top
-- left (H.261, 3.1), and the frame that they are.
use Rattle.std.specs.Prelude.{ℕ, zero, suc, ◌+◌, ◌*◌, ◌/◌, List, ◌++◌, map, slice_index, replicate}
use Rattle.std.specs.List.{flat_map, range_with_len}
use Rattle.pel_model.specs.declared.Format.{Format}
use Rattle.pel_model.specs.Frames.{Plane, Luminance, Cb, Cr, Frame, ratio, cut}
use Rattle.pel_model.specs.Records.{Across, Down}
use Rattle.pel_model.specs.Valid.{side}

pub record Shown : Type 0 where
  pub format : Format
  pub samples : List ℕ

-- the samples in a row of a plane, and the rows of a plane
abbrev pub columns : Format → Plane → ℕ
columns format plane = side format Across / ratio plane

abbrev pub row_count : Format → Plane → ℕ
row_count format plane = side format Down / ratio plane

-- the samples before a plane
abbrev pub plane_start : Format → Plane → ℕ
plane_start format Luminance = 0
plane_start format Cb = columns format Luminance * row_count format Luminance
plane_start format Cr = columns format Luminance * row_count format Luminance + columns format Cb * row_count format Cb

-- all samples: 38,016 or 152,064
abbrev pub sample_count : Format → ℕ
sample_count format = plane_start format Cr + columns format Cr * row_count format Cr

-- where a sample stands
abbrev pub sample_place : Format → Plane → (x y : ℕ) → ℕ
sample_place format plane x y = plane_start format plane + columns format plane * y + x

abbrev pub frame_of : Shown → Frame
frame_of shown = cut shown.format (λ plane x y. slice_index shown.samples (sample_place shown.format plane x y))

-- a store of black: all samples 0
abbrev pub nothing_shown : Format → Shown
nothing_shown format = record { format = format; samples = replicate (sample_count format) 0 }

abbrev pub black : Frame
black plane x y = 0

-- the planes by their numbers
abbrev pub plane_numbered : ℕ → Plane
plane_numbered zero = Luminance
plane_numbered (suc zero) = Cb
plane_numbered _ = Cr

-- ---- planes as octets

-- the samples of one row, and of one plane of a frame
abbrev pub row_samples : Format → Frame → Plane → (y : ℕ) → List ℕ
row_samples format frame plane y = map (λ x. frame plane x y) (range_with_len 0 (columns format plane))

abbrev pub plane_of : Format → Frame → Plane → List ℕ
plane_of format frame plane = flat_map (row_samples format frame plane) (range_with_len 0 (row_count format plane))

-- luminance, CB and CR, each by rows from the top
unfoldable pub planes_of : Format → Frame → List ℕ
planes_of format frame = plane_of format frame Luminance ++ plane_of format frame Cb ++ plane_of format frame Cr
