-- What a run of the job `history` did: from the octets that it took, through the history that they say, to the lines that it
-- wrote.
use Rattle.std.specs.Prelude.{◌≡◌, ◌⊎◌, ℕ, ◌<◌, ◌≤◌, List, [], ◌++◌, length, take}
use Rattle.std.specs.List.{concat}
use Rattle.std.specs.Io.KnownBytes.{Consumes, Appends}
use Rattle.bridge_replay.specs.declared.telling.HistoryEnd.{HistoryEnd}
use Rattle.bridge_replay.specs.declared.telling.LineTally.{LineTally}
use Rattle.bridge_replay.specs.declared.ends.ReplayStop.{ReplayStop}
use Rattle.bridge_replay.specs.declared.ends.ReplayStop.TheVariants.{WriteFault}
use Rattle.bridge_replay.specs.Account.{AreLinesOf}
use Rattle.bridge_replay.specs.FileHistory.{oldest_first, IsHistory}
use Rattle.bridge_replay.specs.Replays.{EndsThere, StoppedFor, StoppedEarly}
use Rattle.conf_file.specs.Entries.{Content}
use Rattle.conf_file.specs.File.{Whole, Conference, IsFile, HasRead}
use Rattle.io_edge.specs.Causes.{Rose}
use Rattle.io_edge.specs.Outside.{Output, Outside, NoReadFails}
use Rattle.pel_model.specs.History.{History}

-- the header and these whole entries, the last of which may be the end
abbrev pub TookEntries : (octets : List ℕ) → (lanes : ℕ) → (entries : List Content) → Type 0
TookEntries octets lanes entries =
    HasRead octets lanes (oldest_first entries) (length octets) []
    ⊎ (IsFile octets (Conference lanes (oldest_first entries) Whole) × EndsThere octets lanes entries)

-- as for a replay; but each entry has lines, so the sink may fail at any, the end too
abbrev pub StopsTelling : ReplayStop → (budget : ℕ) → (before after : Outside) → (octets : List ℕ) → (lanes : ℕ)
    → (entries : List Content) → Type 0
StopsTelling WriteFault budget before after octets lanes entries =
    TookEntries octets lanes entries × NoReadFails before after
StopsTelling stop budget before after octets lanes entries = StoppedFor stop budget before after octets lanes entries

-- What was written: all lines. Where the sink failed, it did so at the lines of the last entry: what was written is a front
-- of all lines and not all, and has those before them. `whole` are the lines that are counted.
abbrev pub WroteLines : ReplayStop → (before after : Output) → (lines whole : List (List ℕ)) → Type 0
WroteLines WriteFault before after lines whole =
    (last : List (List ℕ)) × (lines ≡ whole ++ last)
    × (n : ℕ) × (n < length (concat last)) × Appends before.written after.written (concat whole ++ take n (concat last))
    × Rose before.faults after.faults
WroteLines _ before after lines whole =
    (lines ≡ whole) × Appends before.written after.written (concat lines) × (after.faults ≡ before.faults)

-- so many lines, and their octets
abbrev pub counted_lines : List (List ℕ) → LineTally
counted_lines lines = record { lines = length lines; octets = length (concat lines) }

pub record TellsHistory (budget : ℕ) (before after : Outside) (end : HistoryEnd) : Type 0 where
  -- the octets that were taken, and no others were
  pub octets : List ℕ
  pub taken : Consumes before.source.left after.source.left octets
  pub within : length octets ≤ budget
  -- the number of lanes that they tell, their whole entries, the newest first, and what ends them
  pub lanes : ℕ
  pub entries : List Content
  pub stopped : StopsTelling end.stop budget before after octets lanes entries
  -- the history of these entries, which a replay has too, and its lines
  pub history : History
  pub steps : IsHistory lanes entries history
  pub lines : List (List ℕ)
  pub told : AreLinesOf octets lanes entries history lines
  -- what was written of them
  pub whole : List (List ℕ)
  pub output : WroteLines end.stop before.sink after.sink lines whole
  pub counted : end.tally ≡ counted_lines whole

-- no entry was read, as for a replay, and nothing was written
pub record TellsNothing (budget : ℕ) (before after : Outside) (end : HistoryEnd) : Type 0 where
  pub octets : List ℕ
  pub taken : Consumes before.source.left after.source.left octets
  pub within : length octets ≤ budget
  pub stopped : StoppedEarly end.stop budget before after octets
  pub written : after.sink ≡ before.sink
  pub counted : end.tally ≡ counted_lines []

abbrev pub HistoryEnds : (budget : ℕ) → (before after : Outside) → HistoryEnd → Type 0
HistoryEnds budget before after end = TellsNothing budget before after end ⊎ TellsHistory budget before after end
