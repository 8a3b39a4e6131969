-- How `make` ends, and what it wrote until then.
use Rattle.std.specs.Prelude.{◌≡◌, ℕ, ◌-◌, ◌<◌, List, ◌∷◌, ◌++◌, length, take, Option}
use Rattle.std.specs.List.{concat}
use Rattle.std.specs.Io.KnownBytes.{Appends}
use Rattle.io_edge.specs.Causes.{Rose}
use Rattle.io_edge.specs.Outside.{Output}
use Rattle.conf_make.specs.declared.maker.MakeEnd.{MakeEnd}
use Rattle.conf_make.specs.declared.maker.MakeStop.{MakeStop}
use Rattle.conf_make.specs.declared.maker.MakeStop.TheVariants.{Done, WriteFault, NoMemory}
use Rattle.conf_make.specs.declared.output.MakeTally.{MakeTally}
use Rattle.conf_make.specs.Made.{contents, pieces, made}

-- nothing was written whole
abbrev pub no_entries : MakeTally
no_entries = record { records = 0; octets = 0 }

-- the whole file was written, and its entries and octets are told
pub record WritesFile (seed ticks lanes : ℕ) (old new : Option (List ℕ)) (tally : MakeTally) : Type 0 where
  pub bytes : Appends old new (made seed ticks lanes)
  pub records : tally.records ≡ length (contents seed ticks lanes)
  pub octets : tally.octets ≡ length (made seed ticks lanes)

-- of the header and the entries some were written whole, and of the next one a front that is not all of it; those that are
-- whole are told, the header among the octets alone
pub record WritesFront (seed ticks lanes : ℕ) (old new : Option (List ℕ)) (tally : MakeTally) : Type 0 where
  pub whole : List (List ℕ)
  pub broken : List ℕ
  pub rest : List (List ℕ)
  pub order : pieces seed ticks lanes ≡ whole ++ broken ∷ rest
  pub count : ℕ
  pub front : count < length broken
  pub bytes : Appends old new (concat whole ++ take count broken)
  pub records : tally.records ≡ length whole - 1
  pub octets : tally.octets ≡ length (concat whole)

-- by the stop
abbrev pub MakeStopsBy : MakeStop → (seed ticks lanes : ℕ) → (before after : Output) → MakeTally → Type 0
MakeStopsBy Done seed ticks lanes before after tally =
    WritesFile seed ticks lanes before.written after.written tally × (after.faults ≡ before.faults)
MakeStopsBy WriteFault seed ticks lanes before after tally =
    WritesFront seed ticks lanes before.written after.written tally × Rose before.faults after.faults
MakeStopsBy NoMemory seed ticks lanes before after tally = (after ≡ before) × (tally ≡ no_entries)

abbrev pub IsMakeRun : (seed ticks lanes : ℕ) → (before after : Output) → MakeEnd → Type 0
IsMakeRun seed ticks lanes before after end = MakeStopsBy end.stop seed ticks lanes before after end.tally
