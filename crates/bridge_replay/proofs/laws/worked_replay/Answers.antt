use Rattle.bridge_replay.proofs.WorkedReplay.{one-empty-tick}
use Rattle.bridge_replay.proofs.laws.worked_replay.Goals as goal

pub returns : goal.returns
returns c = one-empty-tick
