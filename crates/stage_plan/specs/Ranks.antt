-- Inner contracts alone use this; nothing here has to be believed.
-- How a lane's rank becomes the greatest.
use Rattle.std.specs.Prelude.{◌≡◌, ◌≢◌, ℕ, ◌-◌, ◌<◌, nat_lt, ◌&&◌, List, slice_index, if◌then◌else◌}

-- a rank behind the taking away of the rank `gone`: one less where it is above that
abbrev pub closed_up : ℕ → ℕ → ℕ
closed_up gone r = if nat_lt 0 gone && nat_lt gone r then r - 1 else r

-- the lane has the greatest rank, and the others keep their order
pub record Raises (lane : ℕ) (old new : List ℕ) : Type 0 where
  pub greatest : (c : ℕ) → c < 16 → c ≢ lane → slice_index new c < slice_index new lane
  pub others :
      (c d : ℕ) → c < 16 → d < 16 → c ≢ lane → d ≢ lane →
      nat_lt (slice_index new c) (slice_index new d) ≡ nat_lt (slice_index old c) (slice_index old d)
