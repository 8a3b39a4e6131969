use Rattle.stage_plan.proofs.Standing.{seating}
use Rattle.stage_plan.proofs.laws.one_place_for_a_lane.Goals as goal

pub returns : goal.returns
returns c lanes commands p q lane e f = (seating lanes commands).once p q lane e f
