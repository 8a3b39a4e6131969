-- What objects of the outside tell of themselves at one moment, and their counts of faults.
use Rattle.std.specs.Prelude.{◌≡◌, ℕ, List, Option}

-- what a source or a ticker has left, where it tells it
pub record Input : Type 0 where
  pub left : Option (List ℕ)
  pub faults : ℕ

-- what a sink was given, where it tells it
pub record Output : Type 0 where
  pub written : Option (List ℕ)
  pub faults : ℕ

-- a source and a sink
pub record Outside : Type 0 where
  pub source : Input
  pub sink : Output

abbrev pub outside : Input → Output → Outside
outside source sink = record { source = source; sink = sink }

-- no call of the source failed between these two moments
abbrev pub NoReadFails : (before after : Outside) → Type 0
NoReadFails before after = after.source.faults ≡ before.source.faults

-- nor one of the sink
abbrev pub NoWriteFails : (before after : Outside) → Type 0
NoWriteFails before after = after.sink.faults ≡ before.sink.faults
