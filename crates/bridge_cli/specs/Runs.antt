-- What a run did, and how it tells of it.
use Rattle.std.specs.Io.KnownBytes.{Appends}
use Rattle.std.specs.Prelude.{◌≡◌, ◌⊎◌, ◌^◌, ◌<◌, ◌≤◌, ◌++◌, ℕ, Bool, true, false, if◌then◌else◌, List, ⊤, length, take, Some, Result, Ok, Err}
use Rattle.bridge_cli.specs.Notes.{fault_line, history_line, line_for, made_line, planes_line, report_line, status_of_make, status_of_replay, status_of_units, tally_line}
use Rattle.bridge_cli.specs.declared.status.Status.TheVariants.{Done, Usage, ReadFault, WriteFault, Cut, BadRecord, Limit, OpenFault, NoMemory, NoteFault}
use Rattle.bridge_cli.specs.declared.status.Status.{Status}
use Rattle.bridge_replay.specs.Replays.{ReplayEnds, IsReadBack}
use Rattle.bridge_replay.specs.Telling.{HistoryEnds}
use Rattle.bridge_replay.specs.declared.ends.ReplayEnd.{ReplayEnd}
use Rattle.bridge_replay.specs.declared.telling.HistoryEnd.{HistoryEnd}
use Rattle.cif_pack.specs.declared.packer.Settings.{Settings}
use Rattle.command_words.specs.Asks.{Asks}
use Rattle.command_words.specs.Options.{Text}
use Rattle.command_words.specs.declared.job.Job.TheVariants.{Replay, History, Check, Decode, Make, Live}
use Rattle.command_words.specs.declared.job.Job.{Job}
use Rattle.command_words.specs.declared.job.PacketOptions.{PacketOptions}
use Rattle.conf_file.specs.Entries.{Content}
use Rattle.conf_file.specs.File.{Whole, Conference, IsFile}
use Rattle.conf_make.specs.Ends.{IsMakeRun}
use Rattle.conf_make.specs.declared.maker.MakeEnd.{MakeEnd}
use Rattle.io_edge.specs.Causes.{Rose}
use Rattle.io_edge.specs.Outside.{Input, Output, Outside}
use Rattle.io_edge.specs.declared.edges.Failed.{Failed}
use Rattle.pic_report.specs.Report.{lines}
use Rattle.ref_decode.specs.Planes.{planes_shown}
use Rattle.rtp_h261.specs.UnitEnds.{ReadsUnits, HasFrames}
use Rattle.rtp_h261.specs.declared.unit_end.UnitEnd.{UnitEnd}

-- the number that the program ends with
abbrev pub number_of_status : Status → ℕ
number_of_status Done = 0
number_of_status Usage = 2
number_of_status ReadFault = 3
number_of_status WriteFault = 4
number_of_status (Cut place) = 5
number_of_status (BadRecord place why) = 6
number_of_status Limit = 7
number_of_status (OpenFault lane) = 8
number_of_status NoMemory = 9
number_of_status NoteFault = 10

-- the most octets that are read
abbrev pub octet_limit : ℕ
octet_limit = 2 ^ 40

-- what the options set
abbrev pub settings_of : PacketOptions → Settings
settings_of o = record { mtu = o.mtu; seq = o.seq; stamp = o.stamp; ssrc = o.ssrc }

-- what a job did between these two moments, with what status it ended, and the line that tells it
abbrev pub Does : Job → (before after : Outside) → (told : Status) → (line : List ℕ) → Type 0
Does (Replay o) before after told line =
    (end : ReplayEnd) × ReplayEnds (settings_of o) octet_limit before after end × IsReadBack (settings_of o)
    × (told ≡ status_of_replay end.stop) × (line ≡ line_for (tally_line end.tally) told)
Does History before after told line =
    (end : HistoryEnd) × HistoryEnds octet_limit before after end
    × (told ≡ status_of_replay end.stop) × (line ≡ line_for (history_line end.tally) told)
Does (Check o) before after told line =
    (end : UnitEnd) × ReadsUnits o.format octet_limit (lines o.format) before after end
    × (told ≡ status_of_units end.stop) × (line ≡ line_for (report_line end.tally) told)
Does (Decode o) before after told line =
    (end : UnitEnd) × ReadsUnits o.format octet_limit (planes_shown o.format) before after end
    × (told ≡ status_of_units end.stop) × (line ≡ line_for (planes_line end.tally) told)
Does (Make o) before after told line =
    (end : MakeEnd) × IsMakeRun o.seed o.ticks o.lanes before.sink after.sink end × (after.source ≡ before.source)
    × (told ≡ status_of_make end.stop) × (line ≡ line_for (made_line o.ticks end.tally) told)
Does (Live o) before after told line = ⊥

-- a live conference is no job of this call
abbrev pub IsServed : Job → Type 0
IsServed (Live o) = ⊥
IsServed _ = ⊤

-- the words ask for no job of this call
abbrev pub AskNone : List Text → Type 0
AskNone words = (job : Job) → Asks words job → IsServed job → ⊥

-- what words made the program do: the job that they ask for; or nothing, since they ask for none of this call; or nothing,
-- since there was not the memory to read them
abbrev pub Did : (words : List Text) → (before after : Outside) → (told : Status) → (line : List ℕ) → Type 0
Did words before after told line =
    ((job : Job) × Asks words job × Does job before after told line)
    ⊎ (AskNone words × (told ≡ Usage) × (line ≡ fault_line Usage) × (after ≡ before))
    ⊎ ((told ≡ NoMemory) × (line ≡ fault_line NoMemory) × (after ≡ before))

-- the source tells a conference file up to its end entry, of at most so many octets as are read
abbrev pub HasConference : Input → Type 0
HasConference source =
    (file : List ℕ) × (more : List ℕ) × (lanes : ℕ) × (list : List Content) × (source.left ≡ Some (file ++ more))
    × IsFile file (Conference lanes list Whole) × (length file ≤ octet_limit)

-- the source tells whole frames of packets up to its end, of fewer octets than may be read
abbrev pub HasWholeFrames : Input → Type 0
HasWholeFrames source = (octets : List ℕ) × (source.left ≡ Some octets) × HasFrames octets octet_limit

-- the input holds all that the job asks for
abbrev pub HasInput : Job → Input → Type 0
HasInput (Replay o) source = HasConference source
HasInput History source = HasConference source
HasInput (Check o) source = HasWholeFrames source
HasInput (Decode o) source = HasWholeFrames source
HasInput (Make o) source = ⊤
HasInput (Live o) source = ⊥

-- a job whose input is whole, and whose source and sink do not fail, is done, or wants memory
abbrev pub IsDoneWhole : (words : List Text) → (before after : Outside) → Status → Type 0
IsDoneWhole words before after status =
    (job : Job) → Asks words job → HasInput job before.source → (Rose before.source.faults after.source.faults → ⊥)
    → (Rose before.sink.faults after.sink.faults → ⊥) → (status ≡ Done) ⊎ (status ≡ NoMemory)

-- the status where the line could not be written: a run that was done has a fault of its own then, and one that was not
-- keeps its own
abbrev pub without_note : Status → Status
without_note Done = NoteFault
without_note told = told

-- the line was written whole to the sink of notes; or that sink failed, with a front of it written
abbrev pub Notes : (told : Status) → (line : List ℕ) → Status → (old new : Output) → Type 0
Notes told line status old new =
    ((status ≡ told) × Appends old.written new.written line × (new.faults ≡ old.faults))
    ⊎ ((status ≡ without_note told)
    × ((n : ℕ) × (n < length line) × Appends old.written new.written (take n line)) × Rose old.faults new.faults)

pub record Runs (words : List Text) (before after : Outside) (old new : Output) (status : Status) : Type 0 where
  pub told : Status
  pub line : List ℕ
  pub did : Did words before after told line
  pub notes : Notes told line status old new
  -- where the sink of notes does not fail either
  pub complete : (Rose old.faults new.faults → ⊥) → IsDoneWhole words before after status

-- Output that was held back and could not be handed on is lost, and this is told of every run that may have had some. A run
-- that told of something else had none, or had begun none.
abbrev pub loses_output : Status → Bool
loses_output Done = true
loses_output ReadFault = true
loses_output (Cut place) = true
loses_output (BadRecord place why) = true
loses_output Limit = true
loses_output NoteFault = true
loses_output _ = false

-- the status of a run whose output was handed on, or could not be
abbrev pub after_flush : {T : Type 0} → Status → Result T Failed → Status
after_flush status (Ok done) = status
after_flush status (Err failed) = if loses_output status then WriteFault else status
