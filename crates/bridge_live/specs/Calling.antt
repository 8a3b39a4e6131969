-- Inner contracts alone use this; nothing here has to be believed.
-- One call at the hall's lock: what it asks of a worker's seat, and what it does with it.
use Rattle.std.specs.Prelude.{◌≤◌, List, length, Result, IfOk, OnOk}
use mathlib.Core.List.{IsPrefix}
use Rattle.hall_core.specs.declared.machine.HallCall.{HallCall}
use Rattle.hall_core.specs.declared.machine.HallReply.{HallReply}
use Rattle.hall_core.specs.Hall.{HallView, lanes_of}
use Rattle.hall_core.specs.Machine.{Fits, HallSteps}
use Rattle.hall_lock.specs.Seats.{Lock, IsOf}
use Rattle.pel_model.specs.History.{Step}
use Rattle.hall_lock.specs.Asking.{StepsAfter}
use Rattle.bridge_live.specs.declared.calls.Halt.{Halt}
use Rattle.bridge_live.specs.Worker.{HallSeat, worker_of, HasMade, IsUnderWay, IsAnswer, MakesStep}

-- the seat is one of the lock, no call with it was given back, and this one fits the conference
pub record MayCall (lock : Lock HallView) (seat : HallSeat) (call : HallCall) : Type 0 where
  pub at_lock : IsOf lock seat
  pub fits : Fits (lanes_of lock.opening) call
  pub live : IsUnderWay seat

-- the call was answered, and made its step behind those that the seat had made; or it was given back
pub record Calls (lock : Lock HallView) (call : HallCall) (old new : HallSeat) (result : Result HallReply Halt) : Type 0 where
  pub at_lock : IsOf lock new
  pub live : OnOk result (IsUnderWay new)
  pub answer : IfOk result (λ reply. IsAnswer call reply)
  pub within : IfOk result (λ reply. length new.seen ≤ lock.turns)
  pub grows : IsPrefix old.seen new.seen
  -- the hall is where the calls before led it, and gave this reply
  pub led : IfOk result (λ reply. StepsAfter lanes_of Fits HallSteps lock.opening call reply new.seen)
  pub makes : (first : HallSeat) (steps : List Step) →
      HasMade (lanes_of lock.opening) (worker_of (lanes_of lock.opening) call) first old steps →
      MakesStep (lanes_of lock.opening) call first steps new result
