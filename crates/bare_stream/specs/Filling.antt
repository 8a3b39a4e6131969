-- Inner contracts alone use this; nothing here has to be believed.
-- A buffer that is filled from a source as far as the next picture needs.
use Rattle.std.specs.Prelude.{◌≡◌, ◌⊎◌, ℕ, ◌+◌, ◌-◌, ◌*◌, ◌/◌, ◌<◌, ◌≤◌, List, [], ◌++◌, length, Option, None, Some, Result, Ok, Err}
use Rattle.bare_stream.specs.declared.reader.BareEnd.{BareEnd}
use Rattle.bare_stream.specs.declared.reader.BareEnd.TheVariants as end
use Rattle.bare_stream.specs.declared.reader.BareEnd.TheVariants.{Bad}
use Rattle.io_edge.specs.declared.allowance.Pause.{Pause}
use Rattle.io_edge.specs.declared.allowance.Pause.TheVariants as pause
use Rattle.pel_model.specs.declared.Fault.{Fault}
use Rattle.bare_stream.specs.Reading.{BareReading, Asked}
use Rattle.io_edge.specs.Allowance.{TakesOctets}
use Rattle.io_edge.specs.Outside.{Input}
use Rattle.pel_bits.specs.Bits.{bits}
use Rattle.pel_model.specs.declared.Format.{Format}
use Rattle.picture_laws.specs.Laws.{kept_length}

-- the octets that hold so many bits, wherever in an octet they begin
abbrev pub window : Format → ℕ
window format = kept_length format / 8 + 1

-- nothing more is needed, or nothing more can be had
abbrev pub HasEnough : BareReading → Type 0
HasEnough b = b.pause ≡ None → kept_length b.format ≤ length b.rest

-- the source is at its end, and all bits were given
abbrev pub HasGivenAll : BareReading → Type 0
HasGivenAll b = (b.pause ≡ Some pause.End) × (b.rest ≡ [])

-- octets were taken behind the others
pub record Fills (before after : Input) (old new : BareReading) : Type 0 where
  pub took : List ℕ
  pub takes : TakesOctets before after old.allowance new.allowance took
  pub asked : Asked old.pause new.pause took before after new.allowance
  pub rest : new.rest ≡ old.rest ++ bits took
  pub enough : HasEnough new
  pub format : new.format ≡ old.format
  pub ended : new.ended ≡ old.ended

-- octets were taken behind the others until the buffer was full, or no more could be had
pub record TakesOn (before after : Input) (old new : BareReading) : Type 0 where
  pub took : List ℕ
  pub takes : TakesOctets before after old.allowance new.allowance took
  pub asked : Asked None new.pause took before after new.allowance
  pub rest : new.rest ≡ old.rest ++ bits took
  pub enough : HasEnough new
  pub format : new.format ≡ old.format
  pub ended : new.ended ≡ old.ended

-- how a reader ends whose source gives no more and is not known to be at its end; none is an end of one that may go on, or
-- whose source is at its end
abbrev pub IsEarlyEnd : Option Pause → Option BareEnd → Type 0
IsEarlyEnd paused (Some end.Fault) = paused ≡ Some pause.Fault
IsEarlyEnd paused (Some end.Limit) = paused ≡ Some pause.Limit
IsEarlyEnd paused (Some _) = ⊥
IsEarlyEnd paused None = (paused ≡ Some pause.End) ⊎ (paused ≡ None)

-- what is given where all bits that are there are a picture
abbrev pub GivesLast : Result Unit BareEnd → (old new : BareReading) → Type 0
GivesLast (Ok _) old new = IsEarlyEnd old.pause None × (new ≡ record old { rest = [] })
GivesLast (Err end) old new = IsEarlyEnd old.pause (Some end) × (new ≡ old)

-- how a reader ends where the bits that are there have a first fault
abbrev pub IsEndAt : Fault → BareEnd → BareReading → Type 0
IsEndAt fault (Bad place why) b =
    (place ≡ 8 * b.allowance.taken - length b.rest + fault.place) × (why ≡ fault.why)
    × (IsEarlyEnd b.pause None ⊎ (kept_length b.format ≤ length b.rest))
IsEndAt fault end b = (length b.rest < kept_length b.format) × IsEarlyEnd b.pause (Some end)
