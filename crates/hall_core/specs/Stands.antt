-- The history of a conference that a hall stands for, and what its calls make of it.
use Rattle.std.specs.Prelude.{◌≡◌, ℕ, ◌<◌, Option, Some, None, ◌∷◌, length, map, slice_get, Result, is_err, IfOk, IfErr}
use Rattle.h261_pic.specs.Coded.{Coding, coding}
use Rattle.h261_pic.specs.declared.hand.Hand.{Hand}
use Rattle.lane_ring.specs.Arrivals.{held_as}
use Rattle.pel_model.specs.declared.Format.TheVariants.{Qcif}
use Rattle.pel_model.specs.declared.Quad.{Quad}
use Rattle.pel_model.specs.declared.Quad.TheVariants.{One, Two, Three, Four}
use Rattle.pel_model.specs.declared.held.Held.{Held}
use Rattle.pel_model.specs.History.{Step, History, arrivals, commands, total_of, has_ended}
use Rattle.pel_model.specs.Legal.{Legal}
use Rattle.pel_model.specs.Records.{Picture}
use Rattle.pel_model.specs.Takes.{last_taken, held_pictures, choice}
use Rattle.stage_plan.specs.Places.{IsPlanOf}
use Rattle.stage_plan.specs.PerPlace.{in_place}
use Rattle.h261_pic.specs.Hand.{box_of, HasTaken}
use Rattle.hall_core.specs.Hall.{RingView, HallView, lanes_of, is_over, IsSameConference}

-- a lane's ring behind a history: the codings of the pictures that are held, each under its serial, and how many serials
-- were given
abbrev pub ring_behind : ℕ → History → ℕ → RingView
ring_behind lanes H c = record {
  held = map (held_as (coding Qcif)) (held_pictures lanes H c);
  count = length (arrivals H c);
}

-- the hall stands for the history of its conference
pub record StandsFor (hall : HallView) (H : History) : Type 0 where
  pub rings : (c : ℕ) → c < lanes_of hall → slice_get hall.rings c ≡ Some (ring_behind (lanes_of hall) H c)
  pub plan : IsPlanOf hall.plan (commands H)
  pub last : (q : Quad) → in_place hall.last q ≡ last_taken (lanes_of hall) H q
  pub total : hall.total ≡ total_of H
  pub steps : hall.steps ≡ length H
  pub ended : hall.ended ≡ has_ended H

-- a call of the hall made this step: whatever history the hall stood for, it stands for that and the step behind it
abbrev pub Steps : HallView → HallView → Step → Type 0
Steps old new s = (H : History) → StandsFor old H → StandsFor new (s ∷ H)

-- the step is legal behind every legal history that the hall stands for
abbrev pub KeepsRules : HallView → Step → Type 0
KeepsRules hall s =
    (H : History) → StandsFor hall H → Legal (lanes_of hall) H → Legal (lanes_of hall) (s ∷ H)

-- the call made the step that its answer tells; or none may follow, and the hall stays as it was
pub record StepsOrStays {X E : Type 0} (old new : HallView) (result : Result X E) (step : X → Step) : Type 0 where
  pub ended : is_err result ≡ is_over old
  pub kept : IfErr result (λ _. new ≡ old)
  pub same : IsSameConference old new
  pub stands : IfOk result (λ x. Steps old new (step x))
  pub legal : IfOk result (λ x. KeepsRules old (step x))

-- ---- the hand of a tick

-- what stands in a box behind a tick: the coding of the picture that was taken, or else what stood there
abbrev pub box_behind : Option (Held Picture) → Coding → Coding
box_behind None former = former
box_behind (Some h) former = coding Qcif h.item

-- each box whose place took a picture has that picture's coding, and the others are as before
abbrev pub TakesInto : HallView → Hand → Hand → Type 0
TakesInto hall old new =
    (H : History) → StandsFor hall H →
    (q : Quad) → box_of new q ≡ box_behind (choice (lanes_of hall) H q) (box_of old q)

-- all four boxes have format QCIF
abbrev pub IsQcifHand : Hand → Type 0
IsQcifHand hand = (q : Quad) → (box_of hand q).format ≡ Qcif

-- what a tick put into a hand is what its places took
abbrev pub TakesLaw : Type 0
TakesLaw =
    (hall : HallView) (old new : Hand) (H : History) → StandsFor hall H → TakesInto hall old new →
    HasTaken (lanes_of hall) H new
