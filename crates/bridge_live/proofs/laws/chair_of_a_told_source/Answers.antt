use Rattle.bridge_live.proofs.ReadingChair.{chair-law}
use Rattle.bridge_live.proofs.laws.chair_of_a_told_source.Goals as goal

pub returns : goal.returns
returns c = chair-law c.one_hearing.ensures
