-- What a plan has, and the commands that it stands for.
use Rattle.std.specs.Prelude.{◌≡◌, ◌⊎◌, ℕ, ◌<◌, ◌≤◌, nat_lt, Bool, Option, List, length, slice_index, count_by, IfSome}
use Rattle.pel_model.specs.declared.Quad.{Quad}
use Rattle.pel_model.specs.declared.chair.Command.{Command}
use Rattle.pel_model.specs.Plan.{silence, at, pinned, speakers, changed}
use Rattle.stage_plan.specs.declared.per_place.PerPlace.{PerPlace}
use Rattle.stage_plan.specs.PerPlace.{in_place}

-- the number of lanes, the lane in each place, the pins, a rank for each lane from 0 to 15, and the places whose
-- lane the last command changed. A lane's rank is 0 where it never spoke, and the greater the later it spoke.
pub record PlanView : Type 0 where
  pub lanes : ℕ
  pub seats : PerPlace (Option ℕ)
  pub pins : PerPlace Bool
  pub ranks : List ℕ
  pub changes : PerPlace Bool

-- the lane that stands in a place
abbrev pub lane_in : PlanView → Quad → Option ℕ
lane_in plan q = in_place plan.seats q

abbrev pub is_pinned : PlanView → Quad → Bool
is_pinned plan q = in_place plan.pins q

abbrev pub rank_of : PlanView → ℕ → ℕ
rank_of plan c = slice_index plan.ranks c

-- how many lanes have a rank
abbrev pub ranked : List ℕ → ℕ
ranked ranks = count_by (λ r. nat_lt 0 r) ranks

-- no rank is above the number of ranks, and no two lanes have the same
pub record IsRanking (ranks : List ℕ) : Type 0 where
  pub lanes : length ranks ≡ 16
  pub bound : (c : ℕ) → c < 16 → slice_index ranks c ≤ ranked ranks
  pub differ : (c d : ℕ) → c < 16 → d < 16 → slice_index ranks c ≡ slice_index ranks d → (slice_index ranks c ≡ 0)
      ⊎ (c ≡ d)

-- what holds of every plan
pub record IsPlan (plan : PlanView) : Type 0 where
  pub low : 1 ≤ plan.lanes
  pub high : plan.lanes ≤ 16
  pub seated : (q : Quad) → IfSome (lane_in plan q) (λ c. c < plan.lanes)
  pub ranking : IsRanking plan.ranks

-- one lane has a lower rank than another exactly where it spoke less recently
abbrev pub IsInOrder : PlanView → List ℕ → Type 0
IsInOrder plan spoke =
    (c d : ℕ) → c < 16 → d < 16 → nat_lt (rank_of plan c) (rank_of plan d) ≡ nat_lt (silence spoke d) (silence spoke c)

-- the plan stands for these commands, the newest first
pub record IsPlanOf (plan : PlanView) (commands : List Command) : Type 0 where
  pub seats : (q : Quad) → lane_in plan q ≡ at plan.lanes commands q
  pub pins : (q : Quad) → is_pinned plan q ≡ pinned plan.lanes commands q
  pub order : IsInOrder plan (speakers plan.lanes commands)
  pub changes : (q : Quad) → in_place plan.changes q ≡ changed plan.lanes commands q

-- nothing but the changes differs
pub record IsUnmoved (old new : PlanView) : Type 0 where
  pub lanes : new.lanes ≡ old.lanes
  pub seats : new.seats ≡ old.seats
  pub pins : new.pins ≡ old.pins
  pub ranks : new.ranks ≡ old.ranks
