-- A seat's own turns: those of the history that stand at its places.
use Rattle.std.specs.Prelude.{◌≡◌, ℕ, ◌+◌, ◌≤◌, List, [], ◌∷◌, ◌++◌, length, take, drop}
use Rattle.hall_lock.specs.declared.view.Turn.{Turn}
use Rattle.hall_lock.specs.Seats.{Lock, SeatState, IsOf, OwnsPlaces}

-- the turns that stand at these places, as the places come; where no turn stands, there is none
abbrev pub turns_at : {T : Type 0} → List T → List ℕ → List T
turns_at turns [] = []
turns_at turns (p ∷ ps) = take 1 (drop p turns) ++ turns_at turns ps

-- the places rise strictly: the first is `low` or above, the last below `high`
abbrev pub Rise : ℕ → List ℕ → ℕ → Type 0
Rise low [] high = low ≤ high
Rise low (p ∷ ps) high = (low ≤ p) × Rise (p + 1) ps high

module _ {M C R : Type 0} where
  -- the turns that the seat made itself, the first of them first
  abbrev pub made : SeatState M C R → List (Turn C R)
  made s = turns_at s.seen s.mine

  -- its places stand in the order of the history, of which the seat has seen as much
  abbrev pub InOrder : SeatState M C R → Type 0
  InOrder s = Rise 0 s.mine (length s.seen)

  -- a seat of this lock, between two calls: its own places rise, and with those of the seats that were joined into it each stands once
  pub record Sits (lock : Lock M) (s : SeatState M C R) : Type 0 where
    pub is_of : IsOf lock s
    pub order : InOrder s
    pub own : OwnsPlaces s

  -- the seat read that n turns had passed, and knows no more than that
  pub record Glances (lock : Lock M) (old : SeatState M C R) (n : ℕ) (new : SeatState M C R) : Type 0 where
    pub sits : Sits lock new
    pub seen : length old.seen ≤ n
    pub not_fallen : old.front ≤ n
    pub within : n ≤ lock.turns
    pub after : new ≡ record old { front = n; looks = old.looks + 1 }
