-- What a reader of a bare stream holds of its source, and what a call of it gives.
use Rattle.std.specs.Prelude.{◌≡◌, ◌⊎◌, ℕ, ◌+◌, ◌-◌, ◌*◌, ◌<◌, ◌≤◌, Bool, List, [], ◌++◌, length, take}
use Rattle.std.specs.Prelude.{drop, Option, Some, None, Result, Ok, Err}
use Rattle.bare_stream.specs.declared.reader.BareEnd.{BareEnd}
use Rattle.bare_stream.specs.declared.reader.BareEnd.TheVariants.{End, Bad, Fault, Limit}
use Rattle.bare_stream.specs.Streams.{IsNext, HasNoNext}
use Rattle.h261_pic.specs.Coded.{Coding, HoldsAccepted, IsFinished}
use Rattle.io_edge.specs.Allowance.{AllowanceState, TakesOctets, Paused}
use Rattle.io_edge.specs.declared.allowance.Pause.{Pause}
use Rattle.io_edge.specs.declared.allowance.Pause.TheVariants as pause
use Rattle.io_edge.specs.Outside.{Input}
use Rattle.pel_bits.specs.Bits.{bits}
use Rattle.pel_model.specs.declared.Format.{Format}
use Rattle.pel_model.specs.Grammar.{next_within_limit}
use Rattle.pel_model.specs.Walk.{FirstFault}
use Rattle.picture_laws.specs.Laws.{kept_length}

-- a reader, as its callers see it: what it took and may take; the bits that it took and has not given; why it can take no more,
-- once that is so; and whether it has ended
pub record BareReading : Type 0 where
  pub format : Format
  pub allowance : AllowanceState
  pub rest : List Bool
  pub pause : Option Pause
  pub ended : Bool

-- what asking the source left: nothing is asked of one that could give no more
abbrev pub Asked : (old new : Option Pause) → (took : List ℕ) → (before after : Input) → AllowanceState → Type 0
Asked None None took before after allowance = after.faults ≡ before.faults
Asked None (Some why) took before after allowance = Paused why before after allowance
Asked (Some why) new took before after allowance = (new ≡ Some why) × (took ≡ []) × (after ≡ before)

-- why no picture was given, by the bits that were there, of which the first has this place in the stream
abbrev pub GivesNone : BareEnd → Format → (seen : List Bool) → (place : ℕ) → Option Pause → Type 0
-- the source is at its end, and all bits were given
GivesNone End format seen at paused = (paused ≡ Some pause.End) × (seen ≡ [])
-- no picture stands there, whatever follows: the source is at its end, or so many bits are there that no other counts
GivesNone (Bad place why) format seen at paused =
    HasNoNext format seen × (0 < length seen)
    × ((fault : ℕ) × FirstFault (next_within_limit format) seen fault why × (place ≡ at + fault))
    × ((paused ≡ Some pause.End) ⊎ (kept_length format ≤ length seen))
-- the source failed, or as many octets were taken as may be, before it was known what stands there
GivesNone Fault format seen at paused =
    HasNoNext format seen × (length seen < kept_length format) × (paused ≡ Some pause.Fault)
GivesNone Limit format seen at paused =
    HasNoNext format seen × (length seen < kept_length format) × (paused ≡ Some pause.Limit)

-- a picture up to the PSC of the next one; or the last one, behind which the source is at its end
abbrev pub GivesPicture : Format → (seen rest : List Bool) → Option Pause → Coding → Type 0
GivesPicture format seen rest paused coded =
    ((e : ℕ) × IsNext format seen e × HoldsAccepted format (take e seen) coded × (rest ≡ drop e seen))
    ⊎ ((paused ≡ Some pause.End) × HasNoNext format seen × HoldsAccepted format seen coded × (rest ≡ []))

-- a picture was given; or none, and why
abbrev pub Gives : Result Unit BareEnd → (old new : BareReading) → (seen : List Bool) → Coding → Type 0
Gives (Ok _) old new seen coded =
    GivesPicture new.format seen new.rest new.pause coded × IsFinished coded × (new.ended ≡ old.ended)
Gives (Err end) old new seen coded =
    GivesNone end new.format seen (8 * new.allowance.taken - length seen) new.pause × (new.rest ≡ seen)

-- what a call does: it takes octets, and gives what stands in front of the bits that are then there
pub record CallsBare (before after : Input) (old new : BareReading) (coded : Coding) (result : Result Unit BareEnd)
    : Type 0 where
  pub took : List ℕ
  pub takes : TakesOctets before after old.allowance new.allowance took
  pub asked : Asked old.pause new.pause took before after new.allowance
  pub gives : Gives result old new (old.rest ++ bits took) coded
  pub format : new.format ≡ old.format
  pub coded_format : coded.format ≡ old.format
