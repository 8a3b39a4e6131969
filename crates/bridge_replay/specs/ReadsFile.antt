-- Inner contracts alone use this; nothing here has to be believed.
-- A conference whose file is being read.
use Rattle.std.specs.Prelude.{◌≡◌, ℕ, ◌*◌, ◌^◌, ◌<◌, ◌≤◌, false, Option, None, Some, List, [], length, Result, Ok, Err, IfOk}
use Rattle.std.specs.Io.KnownBytes.{Consumes}
use Rattle.bridge_replay.specs.declared.conference.Conference.{Conference}
use Rattle.bridge_replay.specs.declared.ends.ReplayStop.{ReplayStop}
use Rattle.bridge_replay.specs.declared.ends.ReplayStop.TheVariants as stop
use Rattle.bridge_replay.specs.FileHistory.{oldest_first}
use Rattle.bridge_replay.specs.Replays.{EndsThere, Replays}
use Rattle.bridge_replay.specs.UnderWay.{Progress, UnderWay}
use Rattle.cif_pack.specs.declared.packer.Settings.{Settings}
use Rattle.conf_file.specs.declared.answers.EntryEnd.{EntryEnd}
use Rattle.conf_file.specs.declared.answers.EntryEnd.TheVariants.{Bad, Cut, Fault, Limit}
use Rattle.conf_file.specs.File.{Whole, Conference as FileOf, IsFile, HasRead}
use Rattle.conf_file.specs.Reading.{ReaderState}
use Rattle.io_edge.specs.Outside.{Outside}
use Rattle.pel_model.specs.History.{has_ended}

-- why a replay stops where a reader ended so
abbrev pub replay_stop : EntryEnd → ReplayStop
replay_stop (Bad place why) = stop.BadRecord place why
replay_stop (Cut place) = stop.Cut place
replay_stop Fault = stop.ReadFault
replay_stop Limit = stop.Limit

-- the octets that were taken are the header and these whole entries, and the end was read, or further entries may be
abbrev pub HasReadSoFar : Option ℕ → Progress → List ℕ → Type 0
HasReadSoFar None p octets =
    IsFile octets (FileOf p.lanes (oldest_first p.entries) Whole) × EndsThere octets p.lanes p.entries
HasReadSoFar (Some lanes) p octets =
    (lanes ≡ p.lanes) × HasRead octets p.lanes (oldest_first p.entries) (length octets) []
    × (has_ended p.history ≡ false)

-- a replay stands here, where these octets were taken since `before`
pub record StandsAt (set : Settings) (budget : ℕ) (before : Outside) (p : Progress) (octets : List ℕ) (now : Outside)
    (reader : ReaderState) (c : Conference) : Type 0 where
  pub under_way : UnderWay p c before.sink now.sink
  pub set_is : p.set ≡ set
  pub budget_is : reader.allowance.budget ≡ budget
  pub least : budget ≤ 2 ^ 40
  pub taken : reader.allowance.taken ≡ length octets
  pub within : length octets ≤ budget
  pub bytes : Consumes before.source.left now.source.left octets
  pub faults : now.source.faults ≡ before.source.faults
  pub reads : HasReadSoFar reader.lanes p octets
  pub room : length p.history ≤ 2 * length octets

-- since `before` it stands somewhere
abbrev pub ReplaysOn : Settings → (budget : ℕ) → Outside → Outside → ReaderState → Conference → Type 0
ReplaysOn set budget before now reader c =
    (p : Progress) × (octets : List ℕ) × StandsAt set budget before p octets now reader c

-- it stands somewhere since some moment
abbrev pub IsReplaying : Outside → ReaderState → Conference → Type 0
IsReplaying now reader c =
    (set : Settings) × (budget : ℕ) × (before : Outside) × ReplaysOn set budget before now reader c

-- what a step leaves: a replay that goes on, or one that has stopped
abbrev pub StepsTo : {T : Type 0} → Settings → (budget : ℕ) → Outside → Outside → ReaderState → Conference → Result T ReplayStop → Type 0
StepsTo set budget before now reader c (Ok _) = ReplaysOn set budget before now reader c
StepsTo set budget before now reader c (Err why) = Replays set budget before now (record { stop = why; tally = c.tally })

-- a step of a replay takes octets within the budget, where it goes on
pub record StepsOn {T : Type 0} (old new : Outside) (was now : ReaderState) (c d : Conference) (result : Result T ReplayStop) : Type 0 where
  pub steps : (set : Settings) (budget : ℕ) (before : Outside) → ReplaysOn set budget before old was c → StepsTo set budget before new now d result
  pub moves : IfOk result (λ _. was.allowance.taken < now.allowance.taken)
  pub within : IfOk result (λ _. now.allowance.taken ≤ was.allowance.budget)
  pub kept : now.allowance.budget ≡ was.allowance.budget
