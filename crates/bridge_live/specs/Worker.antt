-- What a worker at the hall's lock does: calls, each of which makes a step of the conference, until one of them makes none.
use Rattle.std.specs.Prelude.{◌≡◌, ℕ, ◌+◌, ◌^◌, false, List, [], ◌∷◌, ◌++◌, Result, Ok, Err}
use Rattle.hall_core.specs.declared.machine.HallCall.{HallCall}
use Rattle.hall_core.specs.declared.machine.HallCall.TheVariants.{Post, Gap, Order, Tick, Finish}
use Rattle.hall_core.specs.declared.machine.HallReply.{HallReply}
use Rattle.hall_core.specs.Hall.{HallView}
use Rattle.hall_core.specs.Machine.{IsReplyTo, TellsStep, is_ended, turn_tells}
use Rattle.hall_lock.specs.declared.view.Turn.{Turn}
use Rattle.hall_lock.specs.Seats.{SeatState}
use Rattle.pel_model.specs.History.{Step}
use Rattle.hall_lock.specs.Asking.{Works, IsGoing, HasEnded, IsOver}
use Rattle.hall_lock.specs.Own.{made}
use Rattle.hall_lock.specs.Telling.{Tells}
use Rattle.bridge_live.specs.declared.calls.Halt.{Halt}
use Rattle.bridge_live.specs.declared.calls.Halt.TheVariants as halt

-- the most octets that a worker takes from its source
abbrev pub most_taken : ℕ
most_taken = 2 ^ 62

-- a seat at the hall's lock
abbrev pub HallSeat : Type 0
HallSeat = SeatState HallView HallCall HallReply

-- Workers are numbered: the lanes as they are, then the chair, then the mixer. Each call is one worker's.
abbrev pub worker_of : ℕ → HallCall → ℕ
worker_of lanes (Post lane item) = lane
worker_of lanes (Gap lane) = lane
worker_of lanes (Order command) = lanes
worker_of lanes (Tick step hand) = lanes + 1
worker_of lanes Finish = lanes + 1

-- who made a turn
abbrev pub owner : ℕ → Turn HallCall HallReply → ℕ
owner lanes turn = worker_of lanes turn.call

-- no call was made with the seat, nor with a seat that was joined into it
pub record IsNew (seat : HallSeat) : Type 0 where
  pub mine : seat.mine ≡ []
  pub past : seat.past ≡ []
  pub live : seat.full ≡ false

-- with the seat a worker made these steps of the conference, in this order, and no other calls but ones that were given back
pub record HasMade (lanes worker : ℕ) (first seat : HallSeat) (steps : List Step) : Type 0 where
  pub works : Works (owner lanes) worker first seat
  pub told : Tells turn_tells (made seat) steps

-- no call was given back
abbrev pub IsUnderWay : HallSeat → Type 0
IsUnderWay seat = IsGoing is_ended seat

-- the last call was given back, and no other: because no step may follow, or because all turns are drawn
abbrev pub HasHalted : Halt → HallSeat → Type 0
HasHalted halt.Ended seat = HasEnded is_ended seat
HasHalted halt.Over seat = IsOver is_ended seat

-- the reply is one to this call, and does not give it back
abbrev pub IsAnswer : HallCall → HallReply → Type 0
IsAnswer call reply = (is_ended reply ≡ false) × ((hall : HallView) × IsReplyTo hall call reply)

-- what a call did with a seat behind these steps: it made the step that it tells, or none
abbrev pub MakesStep : ℕ → HallCall → (first : HallSeat) → List Step → (new : HallSeat) → Result HallReply Halt → Type 0
MakesStep lanes call first steps new (Ok reply) =
    IsUnderWay new
    × ((s : Step) → TellsStep call reply s → HasMade lanes (worker_of lanes call) first new (steps ++ s ∷ []))
MakesStep lanes call first steps new (Err back) =
    HasMade lanes (worker_of lanes call) first new steps × HasHalted back new
