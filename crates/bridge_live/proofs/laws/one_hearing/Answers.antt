-- The law.
use Rattle.bridge_live.proofs.Hearings as hearings
use Rattle.bridge_live.proofs.laws.one_hearing.Goals as goal

pub returns : goal.returns
returns c = hearings.one-hearing c.one_answer.ensures
