-- Frames: the samples that a decoder shows (H.261, 3.1).
use Rattle.std.specs.Prelude.{ℕ, ◌*◌, ◌&&◌, Bool, nat_lt, if◌then◌else◌}
use Rattle.pel_model.specs.declared.Format.{Format}
use Rattle.pel_model.specs.Records.{Across, Down}
use Rattle.pel_model.specs.Valid.{side}

-- luminance and the two colour differences
pub data Plane : Type 0 where
  Luminance Cb Cr : Plane

-- how many luminance samples stand in a line along one sample of the plane, in each direction
abbrev pub ratio : Plane → ℕ
ratio Luminance = 1
ratio Cb = 2
ratio Cr = 2

-- a frame has a sample for each plane, column and row, counted from 0 at the top left
abbrev pub Frame : Type 0
Frame = Plane → ℕ → ℕ → ℕ

-- the column and the row lie within the picture area
abbrev pub is_inside : Format → Plane → ℕ → ℕ → Bool
is_inside format plane x y = nat_lt (ratio plane * x) (side format Across) && nat_lt (ratio plane * y) (side format Down)

-- a frame that is 0 outside the picture area, so that two frames of a format are equal where their samples inside are
abbrev pub cut : Format → Frame → Frame
cut format frame plane x y = if is_inside format plane x y then frame plane x y else 0
