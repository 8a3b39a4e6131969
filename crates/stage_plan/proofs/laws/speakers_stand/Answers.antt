use Rattle.stage_plan.proofs.Finding.{speakers_stand}
use Rattle.stage_plan.proofs.laws.speakers_stand.Goals as goal

pub returns : goal.returns
returns c = speakers_stand
