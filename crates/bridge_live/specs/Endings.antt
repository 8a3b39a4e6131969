-- What a live conference was given, and how its workers ended, as contracts see both.
use Rattle.std.specs.Prelude.{ℕ, List, [], ◌∷◌, ◌++◌, map}
use Rattle.hall_core.specs.declared.machine.HallCall.{HallCall}
use Rattle.hall_core.specs.declared.machine.HallReply.{HallReply}
use Rattle.hall_core.specs.Hall.{HallView}
use Rattle.hall_lock.specs.declared.view.Turn.{Turn}
use Rattle.bridge_live.specs.declared.chair.ChairCounts.{ChairCounts}
use Rattle.bridge_live.specs.declared.ends.ChairStop.{ChairStop}
use Rattle.bridge_live.specs.declared.ends.LaneStop.{LaneStop}
use Rattle.bridge_live.specs.declared.ends.MixStop.{MixStop}
use Rattle.bridge_live.specs.declared.lane.Counts.{Counts}
use Rattle.bridge_live.specs.Worker.{HallSeat}
use Rattle.io_edge.specs.Outside.{Input, Output}

-- the sources of the lanes in their order and of the chair, the ticker with the steps that it has left, and the sink
pub record HandedIn : Type 0 where
  pub lanes : List Input
  pub chair : Input
  pub ticker : Input
  pub sink : Output

-- a lane: its source then, why it stopped, its counts, and the seat with which it called
pub record LaneEnding : Type 0 where
  pub source : Input
  pub stop : LaneStop
  pub counts : Counts
  pub seat : HallSeat

-- the chair likewise
pub record ChairEnding : Type 0 where
  pub source : Input
  pub stop : ChairStop
  pub counts : ChairCounts
  pub seat : HallSeat

-- the mixer likewise, whose counts stand in the tally
pub record MixEnding : Type 0 where
  pub ticker : Input
  pub sink : Output
  pub stop : MixStop
  pub seat : HallSeat

-- all workers; and the lock, which was closed with this hall behind these turns, and said how many they are
pub record Ending : Type 0 where
  pub lanes : List LaneEnding
  pub chair : ChairEnding
  pub mixer : MixEnding
  pub hall : HallView
  pub turns : List (Turn HallCall HallReply)
  pub number : ℕ

-- the seats of the workers: those of the lanes, then the chair's, then the mixer's
abbrev pub seats_of : Ending → List HallSeat
seats_of end =
    map (λ (lane : LaneEnding). lane.seat) end.lanes ++ end.chair.seat ∷ end.mixer.seat ∷ []
