-- What one call of a source, a sink, a ticker or an opener does.
use Rattle.std.specs.Prelude.{◌≡◌, ℕ, ◌<◌, ◌≤◌, List, Option, length, Result, IfOk, IfSome}
use Rattle.std.specs.Io.{ReadsAtMost}
use Rattle.std.specs.Io.KnownBytes.{ReadConsumes, WriteAppends}
use Rattle.io_edge.specs.Causes.{HasCause}
use Rattle.io_edge.specs.Directory.{Directory, Reaches}
use Rattle.io_edge.specs.Outside.{Input, Output}
use Rattle.io_edge.specs.Ticks.{GivesStep, IsStep}

-- octets were read into the front of a buffer, none only at the end; a call that fails takes nothing
pub record ReadsPiece {E : Type 0} (old new : Input) (buffer : List ℕ) (result : Result ℕ E) : Type 0 where
  pub bound : ReadsAtMost result buffer
  pub bytes : ReadConsumes old.left new.left result buffer
  pub cause : HasCause old.faults new.faults result

-- the front of a piece was written, at least one octet; a call that fails writes nothing
pub record WritesPiece {E : Type 0} (old new : Output) (piece : List ℕ) (result : Result ℕ E) : Type 0 where
  pub bound : IfOk result (λ n. (0 < n) × (n ≤ length piece))
  pub bytes : WriteAppends old.written new.written result piece
  pub cause : HasCause old.faults new.faults result

-- the next step was given, or none is left; a call that fails leaves the steps
pub record GivesNextStep {E : Type 0} (old new : Input) (result : Result (Option ℕ) E) : Type 0 where
  pub range : IfOk result (λ given. IfSome given IsStep)
  pub step : GivesStep old.left new.left result
  pub cause : HasCause old.faults new.faults result

-- the source of the first entry of a name was given, none of whose calls has failed, and the entry left the directory; a call
-- that fails leaves it
pub record OpensSource {S E : Type 0} (tells : S → Input) (old new : Directory) (name : List ℕ) (result : Result S E)
    : Type 0 where
  pub entry : Reaches tells old.names new.names name result
  pub anew : IfOk result (λ source. (tells source).faults ≡ 0)
  pub cause : HasCause old.faults new.faults result
