use Rattle.stage_plan.proofs.Standing.{refused_unchanged}
use Rattle.stage_plan.proofs.laws.refusals_change_nothing.Goals as goal

pub returns : goal.returns
returns c = refused_unchanged
