-- Inner contracts alone use this; nothing here has to be believed.
-- A lane at the lock: what it may post and posts, for one packet, and packet by packet.
use Rattle.std.specs.Prelude.{◌≡◌, ℕ, ◌+◌, ◌^◌, ◌<◌, ◌≤◌, Bool, if◌then◌else◌, List, [], ◌∷◌, ◌++◌, length, map, Option, None, Some, Result, Ok, Err, OnOk}
use Rattle.h261_pic.specs.Coded.{Coding, IsFinished}
use Rattle.hall_core.specs.declared.machine.HallReply.{HallReply}
use Rattle.hall_core.specs.declared.machine.HallReply.TheVariants.{Spare}
use Rattle.hall_core.specs.Hall.{HallView, lanes_of}
use Rattle.hall_core.specs.Machine.{Holds}
use Rattle.hall_lock.specs.Seats.{Lock, IsOf}
use Rattle.io_edge.specs.Outside.{Input}
use Rattle.pel_model.specs.declared.Format.TheVariants.{Qcif}
use Rattle.pel_model.specs.History.{Step, Post, Gap}
use Rattle.pel_model.specs.Records.{Picture}
use Rattle.rtp_h261.specs.declared.depack.Fed.{Fed}
use Rattle.rtp_h261.specs.declared.depack.Unit.{Unit as Ending}
use Rattle.rtp_h261.specs.declared.depack.Unit.TheVariants as unit
use Rattle.rtp_h261.specs.Events.{Event}
use Rattle.rtp_h261.specs.ReadSoFar.{HasReadPackets}
use Rattle.rtp_h261.specs.UnitReader.{UnitReading, reading_after}
use Rattle.rtp_wire.specs.declared.frames.FrameEnd.{FrameEnd}
use Rattle.rtp_wire.specs.declared.frames.FrameEnd.TheVariants as frame_end
use Rattle.bridge_live.specs.declared.calls.Halt.{Halt}
use Rattle.bridge_live.specs.declared.calls.Halt.TheVariants as halt
use Rattle.bridge_live.specs.declared.ends.LaneStop.{LaneStop}
use Rattle.bridge_live.specs.declared.ends.LaneStop.TheVariants.{Whole, Cut, Fault, Limit, Ended, Over}
use Rattle.bridge_live.specs.declared.lane.Lane.{Lane}
use Rattle.bridge_live.specs.declared.qcif.QcifBox.{QcifBox}
use Rattle.bridge_live.specs.Flow.{step_of}
use Rattle.bridge_live.specs.Lane.{IsCounted, RunsLane}
use Rattle.bridge_live.specs.Worker.{most_taken, HallSeat, IsNew, HasMade, IsUnderWay, HasHalted}

-- ---- at the lock

-- how many calls were counted
abbrev pub counted_by : Lane → ℕ
counted_by lane = lane.counts.posts + lane.counts.gaps

-- the lane's seat is one of the lock, which is that of a conference with such a lane
pub record IsLaneAt (lock : Lock HallView) (lane : Lane) : Type 0 where
  pub seat : IsOf lock lane.seat
  pub number : lane.number < lanes_of lock.opening

-- the lane may make so many calls more
pub record MayPost (n : ℕ) (lock : Lock HallView) (lane : Lane) : Type 0 where
  pub at_lock : IsLaneAt lock lane
  pub few : counted_by lane + n < 2 ^ 64
  pub live : IsUnderWay lane.seat

-- the lane has made these steps, and counted them
pub record HasPosted (lanes : ℕ) (first : HallSeat) (lane : Lane) (steps : List Step) : Type 0 where
  pub has_made : HasMade lanes lane.number first lane.seat steps
  pub counted : IsCounted lane.counts steps

-- a front of these steps, and not all
abbrev pub IsShort : List Step → List Step → Type 0
IsShort part whole = (next : Step) × (rest : List Step) × (whole ≡ part ++ next ∷ rest)

-- these steps were made behind others; or, where a call was given back, a front of them
abbrev pub PostsMore :
    {T : Type 0} → (lanes : ℕ) → (more : List Step) → (first : HallSeat) → (steps : List Step) → Lane → Result T Halt → Type 0
PostsMore lanes more first steps new (Ok _) = HasPosted lanes first new (steps ++ more)
PostsMore lanes more first steps new (Err back) =
    (part : List Step) × IsShort part more × HasPosted lanes first new (steps ++ part) × HasHalted back new.seat

-- the lane made these steps, behind those that it had made
pub record Posts {T : Type 0} (lock : Lock HallView) (more : List Step) (old new : Lane) (result : Result T Halt) : Type 0
  where
    pub at_lock : IsLaneAt lock new
    pub number : new.number ≡ old.number
    pub few : counted_by new ≤ counted_by old + length more
    pub live : OnOk result (IsUnderWay new.seat)
    pub posted : (first : HallSeat) (steps : List Step) → HasPosted (lanes_of lock.opening) first old steps →
        PostsMore (lanes_of lock.opening) more first steps new result

-- a spare box is in the reply
abbrev pub HasSpare : HallReply → Type 0
HasSpare (Spare box) = box.value.format ≡ Qcif
HasSpare _ = ⊥

-- ---- what a packet gives

-- the steps of a unit that left this coding; a picture has all its groups
abbrev pub AreUnitSteps : ℕ → Option Ending → Coding → List Step → Type 0
AreUnitSteps lane None coded steps = steps ≡ []
AreUnitSteps lane (Some unit.Picture) coded steps =
    (picture : Picture) × Holds coded picture × IsFinished coded × (steps ≡ Post lane picture ∷ [])
AreUnitSteps lane (Some (unit.Gap fault)) coded steps = steps ≡ Gap lane ∷ []

abbrev pub lost_steps : ℕ → Bool → List Step
lost_steps lane lost = if lost then Gap lane ∷ [] else []

-- the gap of a loss comes before the step of the unit
pub record AreSteps (lane : ℕ) (fed : Fed) (coded : Coding) (steps : List Step) : Type 0 where
  pub unit : List Step
  pub is_unit : AreUnitSteps lane fed.unit coded unit
  pub order : steps ≡ lost_steps lane fed.lost ++ unit

-- ---- stops

abbrev pub lane_stop_for : Halt → LaneStop
lane_stop_for halt.Ended = Ended
lane_stop_for halt.Over = Over

abbrev pub halted : Result QcifBox Halt → Result QcifBox LaneStop
halted (Ok spare) = Ok spare
halted (Err back) = Err (lane_stop_for back)

-- the stop where the last gap was answered so
abbrev pub stop_after : LaneStop → Result Unit Halt → LaneStop
stop_after stop (Ok _) = stop
stop_after stop (Err back) = lane_stop_for back

abbrev pub stop_at : FrameEnd → LaneStop
stop_at frame_end.End = Whole
stop_at (frame_end.Cut place) = Cut
stop_at frame_end.Fault = Fault
stop_at frame_end.Limit = Limit

-- the steps of an end of the source
abbrev pub end_steps : ℕ → FrameEnd → List Step
end_steps lane frame_end.End = []
end_steps lane _ = Gap lane ∷ []

-- the lane made the step of an end, or was given it back
pub record ClosesLane (lock : Lock HallView) (end : FrameEnd) (old new : Lane) (stop : LaneStop) : Type 0 where
  pub at_lock : IsLaneAt lock new
  pub number : new.number ≡ old.number
  pub last : Result Unit Halt
  pub live : OnOk last (IsUnderWay new.seat)
  pub stop_is : stop ≡ stop_after (stop_at end) last
  pub posted : (first : HallSeat) (steps : List Step) → HasPosted (lanes_of lock.opening) first old steps →
      PostsMore (lanes_of lock.opening) (end_steps old.number end) first steps new last

-- ---- between two packets

-- the reader may go on, and the counts are small, since each packet takes two octets at least
pub record MayRead (lock : Lock HallView) (source : Input) (reader : UnitReading) (lane : Lane) : Type 0 where
  pub at_lock : IsLaneAt lock lane
  pub read : (before : Input) × (packets : List (List ℕ)) × (events : List Event)
      × HasReadPackets Qcif most_taken before source reader packets events
  pub few : counted_by lane ≤ reader.framer.allowance.taken
  pub live : IsUnderWay lane.seat

-- what the packets so far gave was posted
pub record HasFlowed (lanes : ℕ) (before now : Input) (first : HallSeat) (reader : UnitReading) (lane : Lane) : Type 0 where
  pub packets : List (List ℕ)
  pub events : List Event
  pub read : HasReadPackets Qcif most_taken before now reader packets events
  pub posted : HasPosted lanes first lane (map (step_of lane.number) events)

-- a packet was read and its calls were made, or the lane stopped
abbrev pub GoesOnOrStops :
    (lock : Lock HallView) → (before now : Input) → (first : HallSeat) → (old new : UnitReading) → Lane
    → Result QcifBox LaneStop → Type 0
GoesOnOrStops lock before now first old new lane (Ok _) =
    HasFlowed (lanes_of lock.opening) before now first new lane × MayRead lock now new lane
    × (old.framer.allowance.taken < new.framer.allowance.taken)
GoesOnOrStops lock before now first old new lane (Err stop) =
    RunsLane (lanes_of lock.opening) lane.number before now first lane.seat stop lane.counts

pub record TakesPacket (lock : Lock HallView) (source now : Input) (old_reader new_reader : UnitReading) (old new : Lane)
    (result : Result QcifBox LaneStop) : Type 0 where
  pub at_lock : IsLaneAt lock new
  pub number : new.number ≡ old.number
  pub reads : (before : Input) (first : HallSeat) →
      HasFlowed (lanes_of lock.opening) before source first old_reader old →
      GoesOnOrStops lock before now first old_reader new_reader new result

-- ---- a lane's worker

pub record LaneBegins (lock : Lock HallView) (reader : UnitReading) (lane : Lane) : Type 0 where
  pub at_lock : IsLaneAt lock lane
  pub fresh : reader ≡ reading_after Qcif most_taken []
  pub seat : IsNew lane.seat
  pub counts : lane.counts ≡ record { posts = 0; gaps = 0 }

pub record RanLane (lock : Lock HallView) (before after : Input) (old new : Lane) (stop : LaneStop) : Type 0 where
  pub at_lock : IsLaneAt lock new
  pub number : new.number ≡ old.number
  pub runs : RunsLane (lanes_of lock.opening) old.number before after old.seat new.seat stop new.counts
