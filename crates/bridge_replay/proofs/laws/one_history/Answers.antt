use Rattle.bridge_replay.proofs.OneHistory.{one-history}
use Rattle.bridge_replay.proofs.laws.one_history.Goals as goal

pub returns : goal.returns
returns c = one-history
