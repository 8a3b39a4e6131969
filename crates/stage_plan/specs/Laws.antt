-- Laws of the plan of places.
use Rattle.std.specs.Prelude.{◌≡◌, ℕ, ◌<◌, Some, List, ◌∷◌, false}
use Rattle.pel_model.specs.declared.Quad.{Quad}
use Rattle.pel_model.specs.declared.chair.Command.{Command}
use Rattle.pel_model.specs.declared.chair.Command.TheVariants.{Speaker}
use Rattle.pel_model.specs.declared.chair.Reply.TheVariants.{Done}
use Rattle.pel_model.specs.Plan.{stage, at, answer, changed, is_done}

-- no lane stands in two places
abbrev pub OnePlace : Type 0
OnePlace =
    (lanes : ℕ) (commands : List Command) (p q : Quad) (c : ℕ) → at lanes commands p ≡ Some c
    → at lanes commands q ≡ Some c → p ≡ q

-- a lane that stands in a place is one of the conference
abbrev pub StandingLanes : Type 0
StandingLanes = (lanes : ℕ) (commands : List Command) (q : Quad) (c : ℕ) → at lanes commands q ≡ Some c → c < lanes

-- a refused command leaves the lanes in the places, the pins and the speakers as they are, and so changes no place
abbrev pub RefusalsChangeNothing : Type 0
RefusalsChangeNothing =
    (lanes : ℕ) (commands : List Command) (c : Command) → is_done (answer lanes commands c) ≡ false →
    (stage lanes (c ∷ commands) ≡ stage lanes commands) × ((q : Quad) → changed lanes (c ∷ commands) q ≡ false)

-- a speaker whose command is done stands in a place
abbrev pub SpeakersStand : Type 0
SpeakersStand =
    (lanes : ℕ) (commands : List Command) (c : ℕ) → answer lanes commands (Speaker c) ≡ Done →
    (q : Quad) × (at lanes (Speaker c ∷ commands) q ≡ Some c)
