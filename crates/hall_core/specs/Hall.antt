-- What contracts see of a hall.
use Rattle.std.specs.Prelude.{◌≡◌, ℕ, Bool, ◌||◌, nat_le, Option, List}
use Rattle.h261_pic.specs.Coded.{Coding}
use Rattle.pel_model.specs.declared.held.Held.{Held}
use Rattle.stage_plan.specs.Places.{PlanView}
use Rattle.stage_plan.specs.declared.per_place.PerPlace.{PerPlace}

-- a lane: the codings of the pictures that it holds, the oldest first, and the serial that was given last
pub record RingView : Type 0 where
  pub held : List (Held Coding)
  pub count : ℕ

-- a ring for each lane, the plan of the places, the serial that each place's tenancy took last, the sum of the steps of all
-- ticks, the number of steps, the most that may be made, and whether the conference has ended
pub record HallView : Type 0 where
  pub rings : List RingView
  pub plan : PlanView
  pub last : PerPlace (Option ℕ)
  pub total : ℕ
  pub steps : ℕ
  pub limit : ℕ
  pub ended : Bool

-- the number of lanes
abbrev pub lanes_of : HallView → ℕ
lanes_of hall = hall.plan.lanes

-- no step may follow: the conference has ended, or all steps are made
abbrev pub is_over : HallView → Bool
is_over hall = hall.ended || nat_le hall.limit hall.steps

-- the conference has the same lanes, and as many steps
pub record IsSameConference (old new : HallView) : Type 0 where
  pub lanes : new.plan.lanes ≡ old.plan.lanes
  pub limit : new.limit ≡ old.limit
