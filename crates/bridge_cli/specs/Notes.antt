-- The line of notes: how a run ended, and what it counted, ended by LF. Numbers stand in decimal.
use Rattle.std.specs.Prelude.{ℕ, ◌++◌, List, [], decimal, codes}
use Rattle.bridge_cli.specs.declared.status.Status.{Status}
use Rattle.bridge_cli.specs.declared.status.Status.TheVariants.{Done, Usage, ReadFault, WriteFault, Cut, BadRecord, Limit, OpenFault, NoMemory, NoteFault}
use Rattle.bridge_replay.specs.declared.ends.ReplayStop.{ReplayStop}
use Rattle.bridge_replay.specs.declared.ends.ReplayStop.TheVariants as Stops
use Rattle.bridge_replay.specs.declared.telling.LineTally.{LineTally}
use Rattle.cif_pack.specs.declared.tally.Tally.{Tally}
use Rattle.conf_make.specs.declared.output.MakeTally.{MakeTally}
use Rattle.conf_make.specs.declared.maker.MakeStop.{MakeStop}
use Rattle.conf_make.specs.declared.maker.MakeStop.TheVariants as Makes
use Rattle.rtp_h261.specs.declared.unit_end.UnitTally.{UnitTally}
use Rattle.rtp_h261.specs.declared.unit_end.UnitStop.{UnitStop}
use Rattle.rtp_h261.specs.declared.unit_end.UnitStop.TheVariants as Units
use Rattle.conf_file.specs.declared.answers.EntryWhy.{EntryWhy}
use Rattle.conf_file.specs.declared.answers.EntryWhy.TheVariants.{Header, Kind, Lane, Step, Order}
use Rattle.command_words.specs.declared.fault.WordsFault.{WordsFault}
use Rattle.command_words.specs.declared.fault.WordsFault.TheVariants as Words

-- what is at fault in a conference file
abbrev pub word_for : EntryWhy → List ℕ
word_for Header = codes "header"
word_for Kind = codes "kind"
word_for Lane = codes "lane"
word_for Step = codes "step"
word_for (Order fault) = codes "command"

-- the line of a run that did not end as it should
abbrev pub fault_line : Status → List ℕ
fault_line Done = []
fault_line Usage = codes "fault usage\n"
fault_line ReadFault = codes "fault read\n"
fault_line WriteFault = codes "fault write\n"
fault_line (Cut place) = codes "fault cut at " ++ decimal place ++ codes "\n"
fault_line (BadRecord place why) =
    codes "fault record at " ++ decimal place ++ codes ": " ++ word_for why ++ codes "\n"
fault_line Limit = codes "fault limit\n"
fault_line (OpenFault lane) = codes "fault open " ++ decimal lane ++ codes "\n"
fault_line NoMemory = codes "fault memory\n"
fault_line NoteFault = []

-- the line of a conference that was composed
unfoldable pub tally_line : Tally → List ℕ
tally_line t =
    codes "done ticks " ++ decimal t.ticks
    ++ codes " pictures " ++ decimal t.pictures
    ++ codes " gaps " ++ decimal t.gaps
    ++ codes " commands " ++ decimal t.commands
    ++ codes " refused " ++ decimal t.refused
    ++ codes " taken " ++ decimal t.taken
    ++ codes " packets " ++ decimal t.packets
    ++ codes " octets " ++ decimal t.octets
    ++ codes "\n"

-- the line of a conference whose history was told
unfoldable pub history_line : LineTally → List ℕ
history_line t = codes "done lines " ++ decimal t.lines ++ codes " octets " ++ decimal t.octets ++ codes "\n"

-- the line of framed packets that were reported
unfoldable pub report_line : UnitTally → List ℕ
report_line t =
    codes "done pictures " ++ decimal t.pictures ++ codes " gaps " ++ decimal t.gaps ++ codes "\n"

-- the line of framed packets whose pictures were decoded
unfoldable pub planes_line : UnitTally → List ℕ
planes_line t =
    codes "done pictures " ++ decimal t.pictures
    ++ codes " gaps " ++ decimal t.gaps
    ++ codes " octets " ++ decimal t.octets
    ++ codes "\n"

-- the line of a conference file of so many ticks that was made
unfoldable pub made_line : (ticks : ℕ) → MakeTally → List ℕ
made_line ticks t =
    codes "done ticks " ++ decimal ticks
    ++ codes " records " ++ decimal t.records
    ++ codes " octets " ++ decimal t.octets
    ++ codes "\n"

-- the status that tells why words were not read
abbrev pub status_of_words : WordsFault → Status
status_of_words Words.Usage = Usage
status_of_words Words.NoMemory = NoMemory

-- the status that tells of a stop
abbrev pub status_of_replay : ReplayStop → Status
status_of_replay Stops.Done = Done
status_of_replay Stops.ReadFault = ReadFault
status_of_replay Stops.WriteFault = WriteFault
status_of_replay (Stops.Cut place) = Cut place
status_of_replay (Stops.BadRecord place why) = BadRecord place why
status_of_replay Stops.Limit = Limit
status_of_replay Stops.NoMemory = NoMemory

abbrev pub status_of_units : UnitStop → Status
status_of_units Units.Done = Done
status_of_units Units.ReadFault = ReadFault
status_of_units Units.WriteFault = WriteFault
status_of_units (Units.Cut place) = Cut place
status_of_units Units.Limit = Limit
status_of_units Units.NoMemory = NoMemory

abbrev pub status_of_make : MakeStop → Status
status_of_make Makes.Done = Done
status_of_make Makes.WriteFault = WriteFault
status_of_make Makes.NoMemory = NoMemory

-- the line of a status, where a job that is done has this one
abbrev pub line_for : (done : List ℕ) → Status → List ℕ
line_for done Done = done
line_for done status = fault_line status
