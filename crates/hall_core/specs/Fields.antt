-- Inner contracts alone use this; nothing here has to be believed.
-- What holds of a hall's fields.
use Rattle.std.specs.Prelude.{◌≡◌, ◌*◌, ◌^◌, ◌≤◌, List, length, map, All}
use Rattle.std.specs.Global.{Box}
use Rattle.h261_pic.specs.Coded.{Coding}
use Rattle.hall_core.specs.declared.hall.Hall.TheInside.{Inside}
use Rattle.lane_ring.specs.Ring.{LaneView}
use Rattle.pel_model.specs.declared.chair.Command.{Command}
use Rattle.stage_plan.specs.Places.{IsPlanOf}
use Rattle.hall_core.specs.Boxes.{ring_of, IsQcifLane}
use Rattle.hall_core.specs.Hall.{HallView}

abbrev pub hall_view : Inside → HallView
hall_view a = record {
  rings = map ring_of a.lanes.items;
  plan = a.plan;
  last = a.last;
  total = a.total;
  steps = a.steps;
  limit = a.limit;
  ended = a.ended;
}

pub record IsHall (a : Inside) : Type 0 where
  pub lanes : length a.lanes.items ≡ a.plan.lanes
  pub most : a.plan.lanes ≤ 16
  pub ordered : (commands : List Command) × IsPlanOf a.plan commands
  pub boxes : All IsQcifLane a.lanes.items
  pub counts : All (λ (l : LaneView (Box Coding)). l.count ≤ a.steps) a.lanes.items
  pub within : a.steps ≤ a.limit
  pub limit : a.limit ≤ 2 ^ 45
  pub total : a.total ≤ 31 * a.steps
