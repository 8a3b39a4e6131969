-- A stream read picture by picture: what was taken and given so far, and how that ends.
use Rattle.std.specs.Prelude.{◌≡◌, ◌⊎◌, ℕ, Bool, false, List, [], ◌∷◌, ◌++◌, Option, Some, None, Ok, Err}
use Rattle.bare_stream.specs.declared.reader.BareEnd.{BareEnd}
use Rattle.bare_stream.specs.declared.reader.BareEnd.TheVariants.{End, Bad, Fault, Limit}
use Rattle.bare_stream.specs.Reading.{BareReading, CallsBare}
use Rattle.bare_stream.specs.Streams.{IsCutInto, HasNoNext, IsBareStream, AtEnd, BadAt}
use Rattle.h261_pic.specs.Coded.{Coding, coding}
use Rattle.io_edge.specs.Allowance.{AllowanceState, TakesOctets, Paused, unused}
use Rattle.io_edge.specs.declared.allowance.Pause.{Pause}
use Rattle.io_edge.specs.declared.allowance.Pause.TheVariants as pause
use Rattle.io_edge.specs.Outside.{Input}
use Rattle.pel_bits.specs.Bits.{bits}
use Rattle.pel_model.specs.declared.Format.{Format}
use Rattle.pel_model.specs.Records.{Picture}

-- a reader that has taken nothing
abbrev pub reading_begun : Format → (budget : ℕ) → BareReading
reading_begun format budget =
    record { format = format; allowance = unused budget; rest = []; pause = None; ended = false }

-- since reading began no call of the source failed; or one that gave no more ended that, and why
abbrev pub PausedSince : Option Pause → (before now : Input) → AllowanceState → Type 0
PausedSince None before now allowance = now.faults ≡ before.faults
PausedSince (Some why) before now allowance = Paused why before now allowance

-- the pictures that were given of these bits: those up to the rest, each with PSC behind it; or all, and the source is at its
-- end
abbrev pub AreGiven : Format → (taken : List Bool) → List Picture → (rest : List Bool) → Option Pause → Type 0
AreGiven format taken pictures rest paused =
    IsCutInto format taken pictures rest
    ⊎ ((paused ≡ Some pause.End) × (rest ≡ []) × IsBareStream format taken pictures AtEnd)

-- between two calls
pub record StreamSoFar (format : Format) (budget : ℕ) (before now : Input) (reader : BareReading) (pictures : List Picture)
    : Type 0 where
  pub took : List ℕ
  pub takes : TakesOctets before now (unused budget) reader.allowance took
  pub paused : PausedSince reader.pause before now reader.allowance
  pub given : AreGiven format (bits took) pictures reader.rest reader.pause
  pub format_is : reader.format ≡ format

-- one picture more was given
pub record GivesOneMore (format : Format) (budget : ℕ) (before now : Input) (reader : BareReading)
    (pictures : List Picture) (coded : Coding) : Type 0 where
  pub picture : Picture
  pub coded_is : coded ≡ coding format picture
  pub so_far : StreamSoFar format budget before now reader (pictures ++ picture ∷ [])

-- these are the pictures of the bits that have PSC behind them
abbrev pub AreFollowed : Format → List Bool → List Picture → Type 0
AreFollowed format taken pictures = (rest : List Bool) × IsCutInto format taken pictures rest × HasNoNext format rest

-- How reading ends, by the octets that were taken and the pictures that were given.
abbrev pub ReadingEnds : BareEnd → Format → (took : List ℕ) → List Picture → (before after : Input) → AllowanceState
    → Type 0
-- they are a stream, and the source is at its end
ReadingEnds End format took pictures before after allowance =
    IsBareStream format (bits took) pictures AtEnd × Paused pause.End before after allowance
-- they are one that ends with a fault, with what the source may still have behind them and without
ReadingEnds (Bad place why) format took pictures before after allowance =
    IsBareStream format (bits took) pictures (BadAt place why)
    × ((more : List ℕ) → after.left ≡ Some more → IsBareStream format (bits (took ++ more)) pictures (BadAt place why))
-- the source failed, or as many octets were taken as may be, before another picture had PSC behind it
ReadingEnds Fault format took pictures before after allowance =
    AreFollowed format (bits took) pictures × Paused pause.Fault before after allowance
ReadingEnds Limit format took pictures before after allowance =
    AreFollowed format (bits took) pictures × Paused pause.Limit before after allowance

pub record StreamEnded (format : Format) (budget : ℕ) (before after : Input) (end : BareEnd) (pictures : List Picture)
    : Type 0 where
  pub took : List ℕ
  pub taken : AllowanceState
  pub takes : TakesOctets before after (unused budget) taken took
  pub ends : ReadingEnds end format took pictures before after taken

-- ---- laws

-- before the first call
abbrev pub LawOfStreamBegun : Type 0
LawOfStreamBegun = (format : Format) (budget : ℕ) (now : Input)
    → StreamSoFar format budget now now (reading_begun format budget) []

-- a call that gives a picture gives the next one
abbrev pub LawOfPictureGiven : Type 0
LawOfPictureGiven =
    (format : Format) (budget : ℕ) (before now after : Input) (old new : BareReading) (pictures : List Picture)
    (coded : Coding) (unit : Unit {0}) → StreamSoFar format budget before now old pictures
    → CallsBare now after old new coded (Ok unit) → GivesOneMore format budget before after new pictures coded

-- and one that gives none says how the stream ends
abbrev pub LawOfStreamEnded : Type 0
LawOfStreamEnded =
    (format : Format) (budget : ℕ) (before now after : Input) (old new : BareReading) (pictures : List Picture)
    (coded : Coding) (end : BareEnd) → StreamSoFar format budget before now old pictures
    → CallsBare now after old new coded (Err end) → StreamEnded format budget before after end pictures
