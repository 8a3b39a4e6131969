-- What a depacketiser holds and gives, by the list of all packets that it was fed.
use Rattle.std.specs.Prelude.{◌≡◌, ℕ, Bool, List, [], ◌∷◌, ◌++◌, length, map, Option, None, Some}
use Rattle.pel_model.specs.declared.Format.{Format}
use Rattle.pel_model.specs.Accepts.{Accepts}
use Rattle.pel_model.specs.Grammar.{next_within_limit}
use Rattle.pel_model.specs.Records.{Picture as Record}
use Rattle.pel_model.specs.Walk.{FirstFault}
use Rattle.h261_pic.specs.Coded.{Coding, nothing, coding, IsFinished}
use Rattle.picture_laws.specs.Laws.{kept_length}
use Rattle.rtp_h261.specs.declared.depack.Fed.{Fed}
use Rattle.rtp_h261.specs.declared.depack.Unit.{Unit as Ended}
use Rattle.rtp_h261.specs.declared.depack.Unit.TheVariants.{Picture, Gap}
use Rattle.rtp_h261.specs.Packets.{piece_of}
use Rattle.rtp_h261.specs.OneByOne.{State, state_of}
use Rattle.rtp_h261.specs.Units.{Given, fed}

-- what contracts see of a depacketiser
pub record Held : Type 0 where
  pub format : Format
  pub state : State

-- it was fed these packets, each a list of octets, and no others
abbrev pub WasFed : List (List ℕ) → Held → Type 0
WasFed packets d = d.state ≡ state_of (kept_length d.format) (map piece_of packets)

-- what a packet gives behind these
abbrev pub given_behind : List (List ℕ) → List ℕ → Given
given_behind packets packet = fed (map piece_of (packets ++ packet ∷ [])) (length packets)

-- a unit with these bits: a picture, which `coded` has, or a gap with the first fault of the bits, and `coded` is empty
abbrev pub IsUnit : Format → List Bool → Ended → Coding → Type 0
IsUnit format bits Picture coded = (picture : Record) × Accepts format bits picture × (coded ≡ coding format picture)
IsUnit format bits (Gap fault) coded =
    FirstFault (next_within_limit format) bits fault.place fault.why × (coded ≡ nothing format)

-- a unit where one ended, and none where none did, when `coded` stays as it was
abbrev pub HasUnit : Format → Option (List Bool) → Option Ended → (old new : Coding) → Type 0
HasUnit format None None old new = new ≡ old
HasUnit format (Some bits) (Some unit) old new = IsUnit format bits unit new
HasUnit format _ _ old new = ⊥

-- an answer is what was given
pub record AnswersGiven (format : Format) (given : Given) (answer : Fed) (old new : Coding) : Type 0 where
  pub lost : answer.lost ≡ given.lost
  pub unit : HasUnit format given.unit answer.unit old new

-- a picture has all its groups
abbrev pub FinishedAt : Option Ended → Coding → Type 0
FinishedAt (Some Picture) coded = IsFinished coded
FinishedAt _ coded = Unit {0}

-- What feeding a packet does: behind packets that it was fed, it was fed this one too, and the answer is what this one
-- gives there. The format of the picture stays that of the depacketiser.
pub record Feeds (packet : List ℕ) (answer : Fed) (old new : Held) (before now : Coding) : Type 0 where
  pub format : new.format ≡ old.format
  pub into : now.format ≡ before.format
  pub stands : (packets : List (List ℕ)) → WasFed packets old → WasFed (packets ++ packet ∷ []) new
  pub given : (packets : List (List ℕ)) → WasFed packets old
      → AnswersGiven old.format (given_behind packets packet) answer before now
  pub finished : FinishedAt answer.unit now
