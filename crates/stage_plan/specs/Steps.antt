-- Inner contracts alone use this; nothing here has to be believed.
-- The stage that a plan has, and what a command makes of the plan.
use Rattle.std.specs.Prelude.{◌≡◌, ℕ, nat_lt, Bool, false, Option, Some, None, List, slice_index}
use Rattle.pel_model.specs.declared.Quad.{Quad}
use Rattle.pel_model.specs.declared.chair.Command.{Command}
use Rattle.pel_model.specs.declared.chair.Reply.{Reply}
use Rattle.pel_model.specs.Plan.{Stage, answer_at, ordered, is_done}
use Rattle.stage_plan.specs.Places.{PlanView, lane_in, is_pinned, IsInOrder, IsUnmoved}

abbrev pub is_lower : List ℕ → Option ℕ → Option ℕ → Bool
is_lower ranks (Some c) (Some d) = nat_lt (slice_index ranks c) (slice_index ranks d)
is_lower ranks (Some c) None = false
is_lower ranks None d = false

-- the lane in the first place has a lower rank than the one in the second
abbrev pub is_ranked_below : PlanView → Quad → Quad → Bool
is_ranked_below plan p q = is_lower plan.ranks (lane_in plan p) (lane_in plan q)

-- the plan has the places, the pins and the order of speakers of this stage
pub record HasStage (plan : PlanView) (s : Stage) : Type 0 where
  pub seats : (q : Quad) → lane_in plan q ≡ s.lane_in q
  pub pins : (q : Quad) → is_pinned plan q ≡ s.is_pinned q
  pub order : IsInOrder plan s.speakers

-- the stage of a plan, where these lanes spoke
abbrev pub stage_of : PlanView → List ℕ → Stage
stage_of plan spoke = record { lane_in = lane_in plan; is_pinned = is_pinned plan; speakers = spoke }

-- the command was obeyed, or refused for the reason that holds
pub record Obeys (command : Command) (old new : PlanView) (reply : Reply) : Type 0 where
  pub lanes : new.lanes ≡ old.lanes
  pub answered : (spoke : List ℕ) → IsInOrder old spoke → reply ≡ answer_at old.lanes (stage_of old spoke) command
  pub carried : (spoke : List ℕ) → IsInOrder old spoke → HasStage new (ordered old.lanes (stage_of old spoke) command)
  pub kept : is_done reply ≡ false → IsUnmoved old new
