-- A whole piece put into a sink.
use Rattle.std.specs.Prelude.{ℕ, ◌<◌, List, length, take, Option, Result, Ok, Err}
use Rattle.std.specs.Io.KnownBytes.{Appends}
use Rattle.io_edge.specs.Causes.{HasCause}
use Rattle.io_edge.specs.Outside.{Output}

-- the whole piece was appended; or, where the sink failed, a front of it and not all
abbrev pub Appended : {E : Type 0} → Option (List ℕ) → Option (List ℕ) → Result Unit E → List ℕ → Type 0
Appended old new (Ok _) piece = Appends old new piece
Appended old new (Err _) piece = (n : ℕ) × (n < length piece) × Appends old new (take n piece)

-- so much of a piece was put into a sink, and the sink alone fails
pub record PutsAll {E : Type 0} (old new : Output) (piece : List ℕ) (result : Result Unit E) : Type 0 where
  pub bytes : Appended old.written new.written result piece
  pub cause : HasCause old.faults new.faults result
