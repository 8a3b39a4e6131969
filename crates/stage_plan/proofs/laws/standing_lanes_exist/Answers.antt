use Rattle.stage_plan.proofs.Standing.{seating}
use Rattle.stage_plan.proofs.laws.standing_lanes_exist.Goals as goal

pub returns : goal.returns
returns c lanes commands q lane e = (seating lanes commands).real q lane e
