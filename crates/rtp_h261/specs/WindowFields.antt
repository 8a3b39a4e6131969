-- Inner contracts alone use this; nothing here has to be believed.
-- What holds of a window's fields.
use Rattle.std.specs.Prelude.{◌≡◌, ℕ, ◌+◌, ◌≤◌, ◌==◌, Bool, not, ◌&&◌, List, vec_len, vec_capacity}
use Rattle.std.specs.List.{position_or_len}
use Rattle.rtp_h261.specs.Ordered.{Arrival, is_stale, is_farther}
use Rattle.rtp_h261.specs.declared.window.Window.TheInside.{Inside}

-- so many packets, and room for as many as may wait with the one that comes then
pub record HasRoom (count capacity : ℕ) : Type 0 where
  pub many : count ≡ 33
  pub room : 33 ≤ capacity

-- each slot waits or is spare, and either may be all of them
pub record IsWindow (w : Inside) : Type 0 where
  pub width : w.width ≤ 32
  pub count : vec_len w.waiting + vec_len w.spare ≡ 33
  pub waiting_room : 33 ≤ vec_capacity w.waiting
  pub spare_room : 33 ≤ vec_capacity w.spare

-- a packet has the expected number, and is given out before all that wait
abbrev pub goes_straight : ℕ → List Arrival → ℕ → Bool
goes_straight expected waiting number =
    (number == expected)
    && (not (is_stale expected waiting number) && (position_or_len (is_farther expected number) waiting == 0))
