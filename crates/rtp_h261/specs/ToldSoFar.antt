-- Inner contracts alone use this; nothing here has to be believed.
-- What happens at a packet told, and what was told between two packets.
use Rattle.std.specs.Prelude.{◌≡◌, ℕ, ◌+◌, ◌*◌, ◌^◌, ◌<◌, ◌≤◌, List, ◌∷◌, ◌++◌, length, take, count_by}
use Rattle.std.specs.Prelude.{Option, Result, Ok, Err}
use Rattle.std.specs.List.{concat, flat_map}
use Rattle.std.specs.Io.KnownBytes.{Appends}
use Rattle.h261_pic.specs.Coded.{Coding}
use Rattle.io_edge.specs.Causes.{HasCause}
use Rattle.io_edge.specs.Outside.{Outside, Output, NoWriteFails}
use Rattle.pel_model.specs.declared.Format.{Format}
use Rattle.rtp_h261.specs.declared.depack.Fed.{Fed}
use Rattle.rtp_h261.specs.declared.depack.Unit.{Unit as Ended}
use Rattle.rtp_h261.specs.declared.unit_end.UnitEnd.{UnitEnd}
use Rattle.rtp_h261.specs.declared.unit_end.UnitStop.{UnitStop}
use Rattle.rtp_h261.specs.declared.unit_end.UnitStop.TheVariants.{Done, ReadFault, Cut, Limit}
use Rattle.rtp_h261.specs.declared.unit_end.UnitTally.{UnitTally}
use Rattle.rtp_h261.specs.Events.{Event, is_picture, is_gap}
use Rattle.rtp_h261.specs.ReadSoFar.{HasReadPackets, IsEventIn, IsEventOf, Told}
use Rattle.rtp_h261.specs.Tellers.{Duty, CountsMore}
use Rattle.rtp_h261.specs.UnitEnds.{UnitsRead, no_units, whole_read}
use Rattle.rtp_h261.specs.UnitReader.{UnitReading}
use Rattle.rtp_wire.specs.declared.frames.FrameEnd.{FrameEnd}
use Rattle.rtp_wire.specs.declared.frames.FrameEnd.TheVariants as frame_end
use Rattle.rtp_wire.specs.Frames.{frame}

-- ---- one packet

-- events were counted
pub record CountsEvents (old new : UnitTally) (events : List Event) : Type 0 where
  pub pictures : new.pictures ≡ old.pictures + count_by is_picture events
  pub gaps : new.gaps ≡ old.gaps + count_by is_gap events

-- the most octets of a piece
abbrev pub longest_piece : ℕ
longest_piece = 2 ^ 18

-- What was to be written of events, of what was to be written before them and is to be written after them: pieces were put
-- whole, whose octets are counted; and where the sink failed, of the next one a front.
pub record TellsSome (before : List Event → List (List ℕ)) (counts counts_new : Option ℕ) (events : List Event)
    (old new : Option (List ℕ)) (counted_old counted_new : ℕ) : Type 0 where
  pub whole : List (List ℕ)
  pub counts_are : CountsMore counts counts_new (length whole)
  pub next : List ℕ
  pub rest : List Event → List (List ℕ)
  pub others : (more : List Event) → before (events ++ more) ≡ whole ++ next ∷ rest more
  pub count : ℕ
  pub front : count < length next
  pub bytes : Appends old new (concat whole ++ take count next)
  pub counted : counted_new ≡ counted_old + length (concat whole)

pub record TellsAll (before now : List Event → List (List ℕ)) (counts counts_new : Option ℕ) (events : List Event)
    (old new : Option (List ℕ)) (counted_old counted_new : ℕ) : Type 0 where
  pub whole : List (List ℕ)
  pub counts_are : CountsMore counts counts_new (length whole)
  pub others : (more : List Event) → before (events ++ more) ≡ whole ++ now more
  pub bytes : Appends old new (concat whole)
  pub counted : counted_new ≡ counted_old + length (concat whole)

abbrev pub TellsEach : {E : Type 0} → (before now : List Event → List (List ℕ)) → (counts counts_new : Option ℕ) → List Event
    → (old new : Option (List ℕ)) → (counted_old counted_new : ℕ) → Result Unit E → Type 0
TellsEach before now counts counts_new events old new counted_old counted_new (Ok _) =
    TellsAll before now counts counts_new events old new counted_old counted_new
TellsEach before now counts counts_new events old new counted_old counted_new (Err _) =
    TellsSome before counts counts_new events old new counted_old counted_new

-- events were told from this number on, of which one piece was put at most
pub record TellsOn {E : Type 0} (old new : Duty) (number : ℕ) (events : List Event) (before after : Output)
    (counted_old counted_new : ℕ) (result : Result Unit E) : Type 0 where
  pub told : TellsEach (old.pieces number) (new.pieces (number + length events)) old.counts new.counts events before.written
      after.written counted_old counted_new result
  pub format : new.format ≡ old.format
  pub short : counted_new ≤ counted_old + longest_piece
  pub cause : HasCause before.faults after.faults result

-- a unit that ended may be told
pub record LeavesUnit (unit : Ended) (coded : Coding) (duty : Duty) : Type 0 where
  pub format : coded.format ≡ duty.format
  pub event : Event
  pub is_event : IsEventIn unit coded event

pub record LeavesEvents (unit : Option Ended) (coded : Coding) (duty : Duty) : Type 0 where
  pub format : coded.format ≡ duty.format
  pub events : List Event
  pub are_events : IsEventOf unit coded events

-- and what a packet gave
pub record CanTell (fed : Fed) (coded : Coding) (duty : Duty) (tally : UnitTally) : Type 0 where
  pub format : coded.format ≡ duty.format
  pub events : List Event
  pub told : Told fed coded events
  pub few : tally.pictures + tally.gaps < 2 ^ 60
  pub short : tally.octets < 2 ^ 60

-- what a packet gave was counted and told
pub record TellsPacket {E : Type 0} (old new : Duty) (was now : UnitTally) (events : List Event) (before after : Output)
    (result : Result Unit E) : Type 0 where
  pub counted : CountsEvents was now events
  pub told : TellsEach (old.pieces (was.pictures + was.gaps + 1))
      (new.pieces (was.pictures + was.gaps + 1 + length events)) old.counts new.counts events before.written after.written
      was.octets now.octets result
  pub format : new.format ≡ old.format
  pub few : now.pictures + now.gaps ≤ was.pictures + was.gaps + 2
  pub short : now.octets ≤ was.octets + 2 * longest_piece
  pub cause : HasCause before.faults after.faults result

-- ---- between two packets

-- What is to be written of the events at the packets that were read was written, so that the teller's duty is what is to be
-- written of those that come. The counts are small, since each packet takes two octets at least.
pub record HasTold (format : Format) (budget : ℕ) (first : Duty) (before now : Outside)
    (reader : UnitReading) (coded : Coding) (tally : UnitTally) (duty : Duty) : Type 0 where
  pub packets : List (List ℕ)
  pub events : List Event
  pub read : HasReadPackets format budget before.source now.source reader packets events
  pub told : List (List ℕ)
  pub others : (more : List Event)
      → first.pieces 1 (events ++ more) ≡ told ++ duty.pieces (tally.pictures + tally.gaps + 1) more
  pub counts : CountsMore first.counts duty.counts (length told)
  pub written : Appends before.sink.written now.sink.written (concat told)
  pub octets : tally.octets ≡ length (concat told)
  pub counted : CountsEvents no_units tally events
  pub writes : NoWriteFails before now
  pub coded_is : coded.format ≡ format
  pub duty_is : duty.format ≡ format
  pub few : tally.pictures + tally.gaps ≤ length (flat_map frame packets)
  pub short : tally.octets ≤ longest_piece * length (flat_map frame packets)

-- all that was read and written, by a teller that counted the pieces that were written whole
pub record TellsRead (format : Format) (budget : ℕ) (old new : Duty) (before after : Outside) (end : UnitEnd) : Type 0 where
  pub reads : UnitsRead format budget (old.pieces 1) before after end
  pub counts : CountsMore old.counts new.counts (whole_read reads)

-- why the reading stopped, by how the framer ended
abbrev pub stop_for : FrameEnd → UnitStop
stop_for frame_end.End = Done
stop_for (frame_end.Cut place) = Cut place
stop_for frame_end.Fault = ReadFault
stop_for frame_end.Limit = Limit
