-- What a lane holds, told from all that came to it. Each item and each gap has a serial, from 1, in the order in which
-- they came. Of the items with serials above the last that was taken or passed, the newest ones are held.
use Rattle.std.specs.Prelude.{⊤, ℕ, ◌+◌, ◌-◌, ◌<◌, ◌==◌, nat_lt, Bool, false, ◌||◌, Option, Some, None, List, [], ◌∷◌, length, drop, filter, find}
use Rattle.pel_model.specs.declared.held.Held.{Held}

-- what came: an item that was received whole, with whether it may be shown whatever was shown before, or a gap
pub data Arrival (T : Type 0) : Type 0 where
  Received : Bool → T → Arrival T
  Missing : Arrival T

-- the most items that a lane holds
abbrev pub lane_room : ℕ
lane_room = 8

-- the last n of a list
abbrev pub last_of : {X : Type 0} → ℕ → List X → List X
last_of n xs = drop (length xs - n) xs

-- the numbers rise strictly, the first of them from above `low`
abbrev pub RiseAbove : ℕ → List ℕ → Type 0
RiseAbove low [] = ⊤
RiseAbove low (n ∷ ns) = (low < n) × RiseAbove n ns

-- the serial is the one behind `last`
abbrev pub is_next : Option ℕ → ℕ → Bool
is_next None serial = false
is_next (Some last) serial = serial == last + 1

module _ {T : Type 0} where
  -- ---- what is held

  -- the items with their serials, where the first arrival has serial n
  abbrev pub with_serials : ℕ → List (Arrival T) → List (Held T)
  with_serials n [] = []
  with_serials n (Received refresh x ∷ xs) =
      record { serial = n; refresh = refresh; item = x } ∷ with_serials (n + 1) xs
  with_serials n (Missing ∷ xs) = with_serials (n + 1) xs

  abbrev pub is_above : ℕ → Held T → Bool
  is_above low h = nat_lt low h.serial

  -- what is held where the serials up to `low` were taken or passed; arrivals stand oldest first
  abbrev pub held_above : ℕ → List (Arrival T) → List (Held T)
  held_above low xs = last_of lane_room (filter (is_above low) (with_serials 1 xs))

  -- ---- what a tick takes of it, where `last` is the serial that was shown last, if any was

  -- the item may be shown behind that one: it needs nothing before it, or comes next
  abbrev pub may_follow : Option ℕ → Held T → Bool
  may_follow last h = h.refresh || is_next last h.serial

  -- the item that is taken: the first that may be shown
  abbrev pub first_to_show : Option ℕ → List (Held T) → Option (Held T)
  first_to_show last held = find (may_follow last) held

  -- the greatest serial of the items, or else `low`
  abbrev pub last_serial : List (Held T) → ℕ → ℕ
  last_serial [] low = low
  last_serial (h ∷ hs) low = last_serial hs h.serial

  -- the greatest serial that was taken or passed, behind a tick: that of the item that is taken, since those before it
  -- are passed; where none is, all are passed
  abbrev pub low_by : Option (Held T) → List (Held T) → ℕ → ℕ
  low_by (Some h) held low = h.serial
  low_by None held low = last_serial held low

  abbrev pub low_after : Option ℕ → List (Held T) → ℕ → ℕ
  low_after last held low = low_by (first_to_show last held) held low
