-- What a call of `live` did: what it opened, the conference that it held, and how it tells of it.
use Rattle.std.specs.Prelude.{◌≡◌, ◌⊎◌, ℕ, ◌+◌, ◌*◌, ◌≤◌, List, [], ◌∷◌, ◌++◌, length, sum, Some}
use Rattle.command_words.specs.Asks.{Asks}
use Rattle.command_words.specs.Options.{Text}
use Rattle.command_words.specs.declared.job.Job.TheVariants.{Live}
use Rattle.command_words.specs.declared.job.LiveOptions.{LiveOptions}
use Rattle.io_edge.specs.Causes.{Rose}
use Rattle.io_edge.specs.Directory.{NamedOctets, Directory}
use Rattle.io_edge.specs.Outside.{Input, Output}
use Rattle.bridge_live.specs.Endings.{HandedIn}
use Rattle.bridge_live.specs.Handed.{ending_of}
use Rattle.bridge_live.specs.Serve.{IsServedWhole, Serves, TellFrames, line_count}
use Rattle.bridge_cli.specs.Runs.{Notes, settings_of}
use Rattle.bridge_cli.specs.Notes.{fault_line, line_for, tally_line}
use Rattle.bridge_cli.specs.Opening.{IsUnopened, MissesAt, ReachesAll, number_of_name}
use Rattle.bridge_cli.specs.declared.live.LiveEnd.{LiveEnd}
use Rattle.bridge_cli.specs.declared.live.LiveEnd.TheVariants.{Refused, Served}
use Rattle.bridge_cli.specs.declared.status.Status.{Status}
use Rattle.bridge_cli.specs.declared.status.Status.TheVariants.{Done, Usage, ReadFault, WriteFault, Limit, OpenFault, NoMemory}
use Rattle.bridge_live.specs.declared.ends.MixStop.{MixStop}
use Rattle.bridge_live.specs.declared.ends.MixStop.TheVariants.{Whole, Sink, Ticker, Over}
use Rattle.bridge_live.specs.declared.ends.ServeEnd.{ServeEnd}

-- the status that tells of a stop of the mixer
abbrev pub status_of_mixer : MixStop → Status
status_of_mixer Whole = Done
status_of_mixer Sink = WriteFault
status_of_mixer Ticker = ReadFault
status_of_mixer Over = Limit

-- what is opened, in this order
abbrev pub names_of : LiveOptions → List Text
names_of o = o.lanes ++ o.chair ∷ []

-- what the sources of the lanes and of the chair tell
abbrev pub sources_of : HandedIn → List Input
sources_of given = given.lanes ++ given.chair ∷ []

-- the words ask for no live conference
abbrev pub AskNoLive : List Text → Type 0
AskNoLive words = (o : LiveOptions) → Asks words (Live o) → ⊥

-- why nothing was served: the words ask for no live conference, and nothing was opened; or a name could not be opened; or there
-- was not the memory
abbrev pub WhyRefused : (words : List Text) → (before after : Directory) → Status → Type 0
WhyRefused words before after Usage = AskNoLive words × (after ≡ before)
WhyRefused words before after NoMemory = after.faults ≡ before.faults
WhyRefused words before after (OpenFault lane) =
    (o : LiveOptions) × Asks words (Live o)
    × IsUnopened (names_of o) (number_of_name (length o.lanes)) before after (OpenFault lane)
WhyRefused words before after _ = ⊥

module _ {S C K : Type 0} (source : S → Input) (ticks : C → Input) (sinks : K → Output) where
  -- a conference that these options ask for was held over what their names opened
  pub record HoldsLive (o : LiveOptions) (before after : Directory) (ticker : C) (sink : K) (given : HandedIn) (end : ServeEnd S C K) :
      Type 0
    where
      pub reaches : ReachesAll (names_of o) (sources_of given) before after
      pub ticker_is : given.ticker ≡ ticks ticker
      pub sink_is : given.sink ≡ sinks sink
      pub serves : Serves (settings_of o.packets) o.turns given (ending_of source ticks sinks end) end.tally
      pub complete : IsServedWhole o.turns given (ending_of source ticks sinks end)

  -- nothing was served, and the ticker and the sink come back as they were; or a conference was held
  abbrev pub Comes : (words : List Text) → (before after : Directory) → C → K → LiveEnd S C K → Type 0
  Comes words before after ticker sink (Refused status ticker_back sink_back) =
      WhyRefused words before after status × (ticker_back ≡ ticker) × (sink_back ≡ sink)
  Comes words before after ticker sink (Served status end) =
      (o : LiveOptions) × Asks words (Live o)
      × ((given : HandedIn) × HoldsLive o before after ticker sink given end)

  -- neither the ticker nor the sink failed
  abbrev pub NoneFails : HandedIn → ServeEnd S C K → Type 0
  NoneFails given end =
      (Rose given.ticker.faults (ticks end.ticker).faults → ⊥)
      × (Rose given.sink.faults (sinks end.sink).faults → ⊥)

-- what told of an end says, and the line of it
abbrev pub TellsEnd : {S C K : Type 0} → LiveEnd S C K → (told : Status) → (line : List ℕ) → Type 0
TellsEnd (Refused status ticker sink) told line = (told ≡ status) × (line ≡ fault_line status)
TellsEnd (Served status end) told line =
    (told ≡ status_of_mixer end.stop) × (line ≡ line_for (tally_line end.tally) told)

abbrev pub status_of_live : {S C K : Type 0} → LiveEnd S C K → Status
status_of_live (Refused status ticker sink) = status
status_of_live (Served status end) = status

-- the sources and the ticker tell what they have left, and there are two turns for each frame, one for each lane, one for each
-- line of the chair, one for each step, and one more
pub record HasTurns (turns : ℕ) (given : HandedIn) : Type 0 where
  pub frames : List ℕ
  pub octets : List ℕ
  pub steps : List ℕ
  pub frames_are : TellFrames given.lanes frames
  pub octets_are : given.chair.left ≡ Some octets
  pub steps_are : given.ticker.left ≡ Some steps
  pub enough : 2 * sum frames + length given.lanes + line_count octets + length steps + 1 ≤ turns

-- where the directory tells its entries and one of the names finds none, the first such is told of; or memory was wanted before
abbrev pub TellsFirstMissing : (words : List Text) → (before : Directory) → Status → Type 0
TellsFirstMissing words before status =
    (o : LiveOptions) → Asks words (Live o) → (house : List NamedOctets) → before.names ≡ Some house → (place : ℕ)
    → MissesAt (names_of o) house place
    → (status ≡ OpenFault (number_of_name (length o.lanes) place)) ⊎ (status ≡ NoMemory)

module _ {S C K : Type 0} (source : S → Input) (ticks : C → Input) (sinks : K → Output) (words : List Text)
    (before after : Directory) (ticker : C) (sink : K) where
  -- where no name fails, nothing is refused but for want of memory; and a conference that has turns enough and none of whose
  -- ticker, sink and sink of notes fails is done
  abbrev pub IsDoneLive : (old new : Output) → LiveEnd S C K → Type 0
  IsDoneLive old new (Refused status ticker_back sink_back) =
      (o : LiveOptions) → Asks words (Live o) → (Rose before.faults after.faults → ⊥) → status ≡ NoMemory
  IsDoneLive old new (Served status end) =
      (o : LiveOptions) (given : HandedIn) → HoldsLive source ticks sinks o before after ticker sink given end
      → HasTurns o.turns given → NoneFails source ticks sinks given end → (Rose old.faults new.faults → ⊥) → status ≡ Done

  pub record Lives (old new : Output) (end : LiveEnd S C K) : Type 0 where
    pub comes : Comes source ticks sinks words before after ticker sink end
    pub told : Status
    pub line : List ℕ
    pub tells : TellsEnd end told line
    pub notes : Notes told line (status_of_live end) old new
    pub exact : TellsFirstMissing words before (status_of_live end)
    pub complete : IsDoneLive old new end
