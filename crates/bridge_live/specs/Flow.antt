-- The flow of a lane: what its packets make of the conference, if no call is given back.
use Rattle.std.specs.Prelude.{◌≡◌, ℕ, List, ◌++◌, map}
use mathlib.Core.List.{IsPrefix}
use Rattle.pel_model.specs.declared.Format.TheVariants.{Qcif}
use Rattle.pel_model.specs.History.{Step, Post, Gap}
use Rattle.rtp_h261.specs.Events.{Event, Lost, Shown, Refused, AreEvents}

-- a loss is a gap, and so is a unit that is no picture
abbrev pub step_of : ℕ → Event → Step
step_of lane Lost = Gap lane
step_of lane (Shown picture) = Post lane picture
step_of lane (Refused place why) = Gap lane

-- these packets of a lane make these steps, in their order
abbrev pub IsFlow : ℕ → List (List ℕ) → List Step → Type 0
IsFlow lane packets steps =
    (events : List Event) × AreEvents Qcif packets events × (steps ≡ map (step_of lane) events)

-- ---- laws

-- packets have one flow
abbrev pub LawOfOneFlow : Type 0
LawOfOneFlow =
    (lane : ℕ) (packets : List (List ℕ)) (steps others : List Step) → IsFlow lane packets steps → IsFlow lane packets others
    → steps ≡ others

-- the flow of the first of some packets is a front of the flow of all
abbrev pub LawOfFlowFronts : Type 0
LawOfFlowFronts =
    (lane : ℕ) (packets more : List (List ℕ)) (steps whole : List Step) → IsFlow lane packets steps
    → IsFlow lane (packets ++ more) whole → IsPrefix steps whole
