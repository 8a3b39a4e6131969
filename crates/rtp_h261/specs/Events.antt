-- What happens as the packets of a stream come: losses, and units with what their bits are.
use Rattle.std.specs.Prelude.{◌≡◌, ℕ, Bool, true, false, if◌then◌else◌, List, [], ◌∷◌, ◌++◌, map, Option, None, Some}
use Rattle.pel_model.specs.declared.Format.{Format}
use Rattle.pel_model.specs.declared.Why.{Why}
use Rattle.pel_model.specs.Accepts.{Accepts}
use Rattle.pel_model.specs.Grammar.{next_within_limit}
use Rattle.pel_model.specs.Records.{Picture}
use Rattle.pel_model.specs.Walk.{FirstFault}
use Rattle.rtp_h261.specs.Packets.{piece_of}
use Rattle.rtp_h261.specs.Units.{Given, all_given}

-- packets are missing; a unit is a picture; a unit is none, and its bits have their first fault at this bit for this reason
pub data Event : Type 0 where
  Lost : Event
  Shown : Picture → Event
  Refused : ℕ → Why → Event

-- what a unit with these bits is
abbrev pub IsEvent : Format → List Bool → Event → Type 0
IsEvent format bits Lost = ⊥
IsEvent format bits (Shown picture) = Accepts format bits picture
IsEvent format bits (Refused place why) = FirstFault (next_within_limit format) bits place why

abbrev pub AreUnitEvents : Format → Option (List Bool) → List Event → Type 0
AreUnitEvents format None events = events ≡ []
AreUnitEvents format (Some bits) events = (unit : Event) × (events ≡ unit ∷ []) × IsEvent format bits unit

abbrev pub lost_events : Bool → List Event
lost_events lost = if lost then Lost ∷ [] else []

-- what happens at one packet: the loss that is seen at it comes before the unit that ends with it
pub record Happens (format : Format) (given : Given) (events : List Event) : Type 0 where
  pub unit : List Event
  pub is_unit : AreUnitEvents format given.unit unit
  pub order : events ≡ lost_events given.lost ++ unit

-- and at one after the other
abbrev pub HappenAt : Format → List Given → List Event → Type 0
HappenAt format [] events = events ≡ []
HappenAt format (given ∷ more) events =
    (first : List Event) × (rest : List Event) × Happens format given first × HappenAt format more rest
    × (events ≡ first ++ rest)

-- what happens at packets, each a list of octets
abbrev pub AreEvents : Format → List (List ℕ) → List Event → Type 0
AreEvents format packets events = HappenAt format (all_given (map piece_of packets)) events

-- the same happens however it is told
abbrev pub LawOfOneTelling : Type 0
LawOfOneTelling = (format : Format) (packets : List (List ℕ)) (es fs : List Event)
    → AreEvents format packets es → AreEvents format packets fs → es ≡ fs

-- what is counted
abbrev pub is_picture : Event → Bool
is_picture Lost = false
is_picture (Shown picture) = true
is_picture (Refused place why) = false

abbrev pub is_gap : Event → Bool
is_gap Lost = true
is_gap (Shown picture) = false
is_gap (Refused place why) = true
