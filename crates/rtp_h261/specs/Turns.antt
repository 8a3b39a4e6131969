-- Inner contracts alone use this; nothing here has to be believed.
-- A depacketiser's parts, and one turn of it.
use Rattle.std.specs.Prelude.{◌≡◌, ℕ, ◌≤◌, Bool, List, length, take, Option, None, Some}
use Rattle.pel_model.specs.declared.Format.{Format}
use Rattle.h261_pic.specs.Coded.{Coding}
use Rattle.picture_laws.specs.Laws.{kept_length}
use Rattle.rtp_h261.specs.declared.depack.Carried.{Carried}
use Rattle.rtp_h261.specs.declared.depack.Collector.{Collector}
use Rattle.rtp_h261.specs.declared.depack.Fed.{Fed}
use Rattle.rtp_h261.specs.declared.depack.Phase.{Phase}
use Rattle.rtp_h261.specs.declared.depack.Phase.TheVariants as phase
use Rattle.rtp_h261.specs.Depack.{AnswersGiven, FinishedAt}
use Rattle.rtp_h261.specs.OneByOne.{Mode, Seek, Idle, Collect, State}
use Rattle.rtp_h261.specs.Units.{Piece, Given}

-- the mode in a phase, with these bits collected
abbrev pub mode_in : Phase → List Bool → Mode
mode_in phase.Seek bits = Seek
mode_in phase.Idle bits = Idle
mode_in (phase.Collect stamp) bits = Collect stamp bits

abbrev pub mode_of : Collector → Mode
mode_of c = mode_in c.phase c.kept.list

-- as many bits are kept as are needed, and no more
pub record HasBitRoom (c : Collector) : Type 0 where
  pub capacity : c.kept.capacity ≡ kept_length c.format
  pub within : length c.kept.list ≤ kept_length c.format

-- what the code has of a packet, of which so many bits are kept
pub record Carries (room : ℕ) (c : Carried) (p : Piece) : Type 0 where
  pub number : c.seq ≡ p.number
  pub stamp : c.stamp ≡ p.stamp
  pub marker : c.marker ≡ p.marker
  pub bits : c.bits ≡ take room p.bits

-- what it has where a packet is usable, and nothing where it is not
abbrev pub CarriesIf : ℕ → Option Carried → Option Piece → Type 0
CarriesIf room None piece = piece ≡ None
CarriesIf room (Some c) piece = (p : Piece) × (piece ≡ Some p) × Carries room c p × (length c.bits ≤ room)

-- the mode behind a turn, and an answer that is what it gives
pub record Turned (format : Format) (turn : Mode × Given) (now : Mode) (answer : Fed) (old new : Coding) : Type 0 where
  pub mode : now ≡ turn.0
  pub given : AnswersGiven format turn.1 answer old new

-- the same for a step
pub record StepTaken (format : Format) (step : State × Given) (now : State) (answer : Fed) (old new : Coding) : Type 0 where
  pub state : now ≡ step.0
  pub given : AnswersGiven format step.1 answer old new

-- the picture has the depacketiser's format, and no more bits of the packet are there than may be kept
pub record CanTake (format : Format) (packet : Carried) (into : Coding) : Type 0 where
  pub format_is : into.format ≡ format
  pub short : length packet.bits ≤ kept_length format

-- formats stay, and a picture is finished where one is told
pub record Stays (old new : Format) (before now : Coding) (answer : Fed) : Type 0 where
  pub format : new ≡ old
  pub into : now.format ≡ before.format
  pub finished : FinishedAt answer.unit now

-- the same of a collector, which keeps its room
pub record StaysRoomy (old new : Collector) (before now : Coding) (answer : Fed) : Type 0 where
  pub room : HasBitRoom new
  pub format : new.format ≡ old.format
  pub into : now.format ≡ before.format
  pub finished : FinishedAt answer.unit now

-- the packet takes this turn, whatever it brings beside what the code has of it
abbrev pub TakesTurn : Format → Carried → (turn : Piece → Mode × Given) → (now : Mode) → Fed → (before now : Coding)
    → Type 0
TakesTurn format packet turn mode answer before now =
    (p : Piece) → Carries (kept_length format) packet p → Turned format (turn p) mode answer before now

-- or this step
abbrev pub TakesStep : Format → Carried → (step : Piece → State × Given) → (now : State) → Fed → (before now : Coding)
    → Type 0
TakesStep format packet step state answer before now =
    (p : Piece) → Carries (kept_length format) packet p → StepTaken format (step p) state answer before now
