use Rattle.bridge_replay.proofs.OneAccount.{one-account}
use Rattle.bridge_replay.proofs.laws.one_account.Goals as goal

pub returns : goal.returns
returns c = one-account
