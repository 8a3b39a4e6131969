-- Inner contracts alone use this; nothing here has to be believed.
-- What was read of a source between two packets, and what one packet more tells.
use Rattle.std.specs.Prelude.{◌≡◌, ℕ, ◌+◌, ◌≤◌, List, [], ◌∷◌, ◌++◌, length, Option, None, Some}
use Rattle.std.specs.List.{AllByRecursion, flat_map}
use Rattle.std.specs.Io.KnownBytes.{Consumes}
use Rattle.h261_pic.specs.Coded.{Coding, coding, IsFinished}
use Rattle.io_edge.specs.Outside.{Input}
use Rattle.pel_model.specs.declared.Format.{Format}
use Rattle.pel_model.specs.Records.{Picture as Record}
use Rattle.pel_model.specs.Valid.{IsValid}
use Rattle.rtp_h261.specs.declared.depack.Fed.{Fed}
use Rattle.rtp_h261.specs.declared.depack.Unit.{Unit as Ended}
use Rattle.rtp_h261.specs.declared.depack.Unit.TheVariants.{Picture, Gap}
use Rattle.rtp_h261.specs.Events.{Event, Shown, Refused, AreEvents, lost_events}
use Rattle.rtp_h261.specs.UnitReader.{UnitReading, reading_after, GivesNoMore}
use Rattle.rtp_wire.specs.declared.frames.FrameEnd.{FrameEnd}
use Rattle.rtp_wire.specs.Frames.{HasFrame, IsPartial, frame, stream_of}

-- the octets that were taken are the frames of these packets, at which these events happen, and the reader is behind them
pub record HasReadPackets (format : Format) (budget : ℕ) (before now : Input) (reader : UnitReading)
    (packets : List (List ℕ)) (events : List Event) : Type 0 where
  pub reader_is : reader ≡ reading_after format budget packets
  pub within : length (flat_map frame packets) ≤ budget
  pub frames : AllByRecursion HasFrame packets
  pub bytes : Consumes before.left now.left (flat_map frame packets)
  pub happen : AreEvents format packets events
  pub faults : now.faults ≡ before.faults

-- the picture of this event stands in `coded`
pub record LeavesPicture (coded : Coding) (event : Event) : Type 0 where
  pub picture : Record
  pub event_is : event ≡ Shown picture
  pub coded_is : coded ≡ coding coded.format picture
  pub valid : IsValid coded.format picture
  pub finished : IsFinished coded

-- the event of a unit, with what it left
abbrev pub IsEventIn : Ended → Coding → Event → Type 0
IsEventIn Picture coded event = LeavesPicture coded event
IsEventIn (Gap fault) coded event = event ≡ Refused fault.place fault.why

abbrev pub IsEventOf : Option Ended → Coding → List Event → Type 0
IsEventOf None coded events = events ≡ []
IsEventOf (Some unit) coded events = (event : Event) × (events ≡ event ∷ []) × IsEventIn unit coded event

-- the events that an answer tells
pub record Told (fed : Fed) (coded : Coding) (events : List Event) : Type 0 where
  pub unit : List Event
  pub is_unit : IsEventOf fed.unit coded unit
  pub order : events ≡ lost_events fed.lost ++ unit

-- one packet more was read, which tells what happens at it
pub record ReadsPacket (format : Format) (budget : ℕ) (before now : Input) (reader : UnitReading)
    (packets : List (List ℕ)) (events : List Event) (fed : Fed) (coded : Coding) : Type 0 where
  pub packet : List ℕ
  pub more : List Event
  pub told : Told fed coded more
  pub read : HasReadPackets format budget before now reader (packets ++ packet ∷ []) (events ++ more)
  pub longer : length (flat_map frame packets) + 2 ≤ length (flat_map frame (packets ++ packet ∷ []))
  pub coded_is : coded.format ≡ format

-- no packet more was read: less than a frame was taken
pub record ReadsNoPacket (end : FrameEnd) (budget : ℕ) (before now : Input) (packets : List (List ℕ)) : Type 0 where
  pub part : List ℕ
  pub partial : IsPartial part
  pub bytes : Consumes before.left now.left (stream_of packets part)
  pub why : GivesNoMore end (stream_of packets part) part budget before now
