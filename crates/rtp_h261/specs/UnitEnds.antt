-- How the reading of a stream ends, and what was read and written until then.
use Rattle.std.specs.Prelude.{◌≡◌, ◌⊎◌, ℕ, ◌<◌, ◌≤◌, List, [], ◌∷◌, ◌++◌, length, take, count_by, Option, Some}
use Rattle.std.specs.List.{concat}
use Rattle.std.specs.Io.KnownBytes.{Consumes, Appends}
use Rattle.io_edge.specs.Causes.{Rose}
use Rattle.io_edge.specs.Outside.{Outside, NoReadFails, NoWriteFails}
use Rattle.pel_model.specs.declared.Format.{Format}
use Rattle.rtp_h261.specs.declared.unit_end.UnitEnd.{UnitEnd}
use Rattle.rtp_h261.specs.declared.unit_end.UnitStop.{UnitStop}
use Rattle.rtp_h261.specs.declared.unit_end.UnitStop.TheVariants.{Done, ReadFault, WriteFault, Cut, Limit, NoMemory}
use Rattle.rtp_h261.specs.declared.unit_end.UnitTally.{UnitTally}
use Rattle.rtp_h261.specs.Events.{Event, AreEvents, is_picture, is_gap}
use Rattle.rtp_h261.specs.UnitReader.{GivesNoMore}
use Rattle.rtp_wire.specs.declared.frames.FrameEnd.TheVariants as frame_end
use Rattle.rtp_wire.specs.Frames.{IsStream}

-- why no further packet was taken, by the octets that were taken, those of them behind the last whole frame, and how many
-- may be taken: the source gives no more, and the sink did not fail; or the sink failed
abbrev pub UnitsStop : UnitStop → (took part : List ℕ) → (budget : ℕ) → Outside → Outside → Type 0
UnitsStop Done took part budget before after =
    GivesNoMore frame_end.End took part budget before.source after.source × NoWriteFails before after
UnitsStop (Cut place) took part budget before after =
    GivesNoMore (frame_end.Cut place) took part budget before.source after.source × NoWriteFails before after
UnitsStop Limit took part budget before after =
    GivesNoMore frame_end.Limit took part budget before.source after.source × NoWriteFails before after
UnitsStop ReadFault took part budget before after =
    GivesNoMore frame_end.Fault took part budget before.source after.source × NoWriteFails before after
UnitsStop WriteFault took part budget before after =
    (part ≡ []) × NoReadFails before after × Rose before.sink.faults after.sink.faults
UnitsStop NoMemory took part budget before after = ⊥

-- all these pieces were written, and so many octets are told
abbrev pub WritesAll : (old new : Option (List ℕ)) → List (List ℕ) → (octets : ℕ) → Type 0
WritesAll old new all octets = Appends old new (concat all) × (octets ≡ length (concat all))

-- Some pieces were written whole, whose octets are told, and of the next one a front that is not the whole piece. It is one
-- of those for the last packet: all that come before it were written.
pub record WritesSome (format : Format) (packets : List (List ℕ)) (pieces : List Event → List (List ℕ))
    (events : List Event) (old new : Option (List ℕ)) (octets : ℕ) : Type 0 where
  pub whole : List (List ℕ)
  pub next : List ℕ
  pub rest : List (List ℕ)
  pub order : pieces events ≡ whole ++ next ∷ rest
  pub count : ℕ
  pub front : count < length next
  pub bytes : Appends old new (concat whole ++ take count next)
  pub counted : octets ≡ length (concat whole)
  pub earlier : List (List ℕ)
  pub last : List ℕ
  pub split : packets ≡ earlier ++ last ∷ []
  pub events_earlier : List Event
  pub happen_earlier : AreEvents format earlier events_earlier
  pub written_earlier : length (pieces events_earlier) ≤ length whole

-- where the sink failed, some of the pieces were written, else all of them
abbrev pub WritesPieces : UnitStop → Format → (packets : List (List ℕ)) → (pieces : List Event → List (List ℕ)) → List Event
    → (old new : Option (List ℕ)) → (octets : ℕ) → Type 0
WritesPieces WriteFault format packets pieces events old new octets =
    WritesSome format packets pieces events old new octets
WritesPieces _ format packets pieces events old new octets = WritesAll old new (pieces events) octets

-- The octets that were taken are the frames of these packets, and behind them less than a frame; the pieces that are to
-- be written of what happens at the packets were written; and the events are counted.
pub record UnitsRead (format : Format) (budget : ℕ) (pieces : List Event → List (List ℕ)) (before after : Outside)
    (end : UnitEnd) : Type 0 where
  pub took : List ℕ
  pub bytes : Consumes before.source.left after.source.left took
  pub packets : List (List ℕ)
  pub part : List ℕ
  pub stream : IsStream took packets part
  pub stops : UnitsStop end.stop took part budget before after
  pub events : List Event
  pub happen : AreEvents format packets events
  pub report : WritesPieces end.stop format packets pieces events before.sink.written after.sink.written end.tally.octets
  pub pictures : end.tally.pictures ≡ count_by is_picture events
  pub gaps : end.tally.gaps ≡ count_by is_gap events

-- nothing was counted
abbrev pub no_units : UnitTally
no_units = record { pictures = 0; gaps = 0; octets = 0 }

-- nothing was read or written
abbrev pub DoesNothing : Outside → Outside → UnitEnd → Type 0
DoesNothing before after end = (after ≡ before) × (end ≡ record { stop = NoMemory; tally = no_units })

abbrev pub UnitsEnd : UnitStop → Format → (budget : ℕ) → (pieces : List Event → List (List ℕ)) → (before after : Outside)
    → UnitEnd → Type 0
UnitsEnd NoMemory format budget pieces before after end = DoesNothing before after end
UnitsEnd _ format budget pieces before after end = UnitsRead format budget pieces before after end

-- the source has whole frames alone, with fewer octets than may be taken
pub record HasFrames (octets : List ℕ) (budget : ℕ) : Type 0 where
  pub packets : List (List ℕ)
  pub frames : IsStream octets packets []
  pub short : length octets < budget

-- such a source is read to its end, if it does not fail, nor does the sink
abbrev pub Completes : (budget : ℕ) → (before after : Outside) → UnitEnd → Type 0
Completes budget before after end =
    (octets : List ℕ) → before.source.left ≡ Some octets → HasFrames octets budget
    → (Rose before.source.faults after.source.faults → ⊥) → (Rose before.sink.faults after.sink.faults → ⊥)
    → (end.stop ≡ Done) ⊎ (end.stop ≡ NoMemory)

-- how a reading ends, by what is to be written of events
pub record ReadsUnits (format : Format) (budget : ℕ) (pieces : List Event → List (List ℕ)) (before after : Outside)
    (end : UnitEnd) : Type 0 where
  pub ends : UnitsEnd end.stop format budget pieces before after end
  pub completes : Completes budget before after end

-- ---- how many pieces were written whole

abbrev pub whole_in : (stop : UnitStop) (format : Format) (packets : List (List ℕ)) (pieces : List Event → List (List ℕ))
    (events : List Event) (old new : Option (List ℕ)) (octets : ℕ)
    → WritesPieces stop format packets pieces events old new octets → ℕ
whole_in WriteFault format packets pieces events old new octets written = length written.whole
whole_in _ format packets pieces events old new octets written = length (pieces events)

abbrev pub whole_read : {format : Format} {budget : ℕ} {pieces : List Event → List (List ℕ)} {before after : Outside}
    {end : UnitEnd} → UnitsRead format budget pieces before after end → ℕ
whole_read {format = format} {pieces = pieces} {before = before} {after = after} {end = end} read =
    whole_in end.stop format read.packets pieces read.events before.sink.written after.sink.written end.tally.octets
    read.report

abbrev pub whole_by : (stop : UnitStop) (format : Format) (budget : ℕ) (pieces : List Event → List (List ℕ))
    (before after : Outside) (end : UnitEnd) → UnitsEnd stop format budget pieces before after end → ℕ
whole_by NoMemory format budget pieces before after end nothing = 0
whole_by Done format budget pieces before after end read = whole_read read
whole_by ReadFault format budget pieces before after end read = whole_read read
whole_by WriteFault format budget pieces before after end read = whole_read read
whole_by (Cut place) format budget pieces before after end read = whole_read read
whole_by Limit format budget pieces before after end read = whole_read read

abbrev pub whole_pieces : {format : Format} {budget : ℕ} {pieces : List Event → List (List ℕ)} {before after : Outside}
    {end : UnitEnd} → ReadsUnits format budget pieces before after end → ℕ
whole_pieces {format = format} {budget = budget} {pieces = pieces} {before = before} {after = after} {end = end} reads =
    whole_by end.stop format budget pieces before after end reads.ends
