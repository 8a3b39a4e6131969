-- What a seat with the whole share knows of the lock that it closes.
use Rattle.std.specs.Prelude.{◌≡◌, ℕ, ◌≤◌, true, ◌++◌, length}
use Rattle.hall_lock.specs.Places.{EachOnce}
use Rattle.hall_lock.specs.Seats.{Lock, SeatState}
use Rattle.hall_lock.specs.Turns.{Leads}

module _ {M C R S : Type 0} (shape : M → S) (fits : S → C → Type 0) (steps : M → C → R → M → Type 0) where
  -- so many turns were made, all of which the seat has seen, and the machine is where they lead
  pub record Closes (lock : Lock M) (seat : SeatState M C R) (machine : M) (turns : ℕ) : Type 0 where
    pub history : Leads shape fits steps lock.opening seat.seen machine
    pub counted : turns ≡ length seat.seen
    pub reaches : seat.front ≤ turns
    pub within : turns ≤ lock.turns
    -- every turn is one of the seat's own or of one seat that was joined into it
    pub places : EachOnce turns (seat.mine ++ seat.past)
    pub full : seat.full ≡ true → turns ≡ lock.turns
