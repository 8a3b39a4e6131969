-- What the worker of a lane does: the flow of the packets that its source gives.
use Rattle.std.specs.Prelude.{◌≡◌, ℕ, ◌<◌, Bool, true, false, List, [], ◌∷◌, ◌++◌, length, count_by, Option}
use Rattle.std.specs.List.{AllByRecursion}
use Rattle.std.specs.Io.KnownBytes.{Consumes, IsAtEnd}
use mathlib.Core.List.{IsPrefix}
use Rattle.io_edge.specs.Causes.{Rose}
use Rattle.io_edge.specs.Outside.{Input}
use Rattle.pel_model.specs.History.{Step, Post, Gap}
use Rattle.rtp_wire.specs.Frames.{HasFrame, IsPartial, stream_of}
use Rattle.bridge_live.specs.declared.calls.Halt.TheVariants as halt
use Rattle.bridge_live.specs.declared.ends.LaneStop.{LaneStop}
use Rattle.bridge_live.specs.declared.ends.LaneStop.TheVariants.{Whole, Cut, Fault, Limit, Ended, Over}
use Rattle.bridge_live.specs.declared.lane.Counts.{Counts}
use Rattle.bridge_live.specs.Flow.{IsFlow}
use Rattle.bridge_live.specs.Worker.{most_taken, HallSeat, HasMade, IsUnderWay, HasHalted}

abbrev pub is_post_step : Step → Bool
is_post_step (Post lane picture) = true
is_post_step _ = false

abbrev pub is_gap_step : Step → Bool
is_gap_step (Gap lane) = true
is_gap_step _ = false

-- the pictures and the gaps that were posted
pub record IsCounted (counts : Counts) (steps : List Step) : Type 0 where
  pub posts : counts.posts ≡ count_by is_post_step steps
  pub gaps : counts.gaps ≡ count_by is_gap_step steps

-- Why no packet more came: behind these octets, of which the last are less than a frame, the source was at its end between
-- two frames or inside one; or it failed; or as many octets were taken as may be. Where a call was given back, nothing is
-- said of it.
abbrev pub StopsAt : LaneStop → (octets part : List ℕ) → (before after : Input) → Type 0
StopsAt Whole octets part before after =
    (part ≡ []) × IsAtEnd after.left × (length octets < most_taken) × (after.faults ≡ before.faults)
StopsAt Cut octets part before after =
    (0 < length part) × IsAtEnd after.left × (length octets < most_taken) × (after.faults ≡ before.faults)
StopsAt Fault octets part before after = Rose before.faults after.faults
StopsAt Limit octets part before after = (length octets ≡ most_taken) × (after.faults ≡ before.faults)
StopsAt Ended octets part before after = Unit {0}
StopsAt Over octets part before after = Unit {0}

-- what was made of the flow: all of it, and one gap more where the source did not end between two frames; or, where a call
-- was given back, a front of it
abbrev pub MakesOf : LaneStop → ℕ → (flow steps : List Step) → HallSeat → Type 0
MakesOf Whole lane flow steps seat = (steps ≡ flow) × IsUnderWay seat
MakesOf Cut lane flow steps seat = (steps ≡ flow ++ Gap lane ∷ []) × IsUnderWay seat
MakesOf Fault lane flow steps seat = (steps ≡ flow ++ Gap lane ∷ []) × IsUnderWay seat
MakesOf Limit lane flow steps seat = (steps ≡ flow ++ Gap lane ∷ []) × IsUnderWay seat
MakesOf Ended lane flow steps seat = IsPrefix steps flow × HasHalted halt.Ended seat
MakesOf Over lane flow steps seat = IsPrefix steps flow × HasHalted halt.Over seat

-- a lane's worker from its beginning to its stop, in a conference of so many lanes
pub record RunsLane (lanes lane : ℕ) (before after : Input) (first last : HallSeat) (stop : LaneStop) (counts : Counts) : Type 0
  where
    -- the octets that were taken are the frames of these packets, and a part of one
    pub packets : List (List ℕ)
    pub part : List ℕ
    pub frames : AllByRecursion HasFrame packets
    pub partial : IsPartial part
    pub bytes : Consumes before.left after.left (stream_of packets part)
    pub stops : StopsAt stop (stream_of packets part) part before after
    -- their flow, and what was made of it
    pub flow : List Step
    pub is_flow : IsFlow lane packets flow
    pub steps : List Step
    pub has_made : HasMade lanes lane first last steps
    pub makes : MakesOf stop lane flow steps last
    pub counted : IsCounted counts steps
