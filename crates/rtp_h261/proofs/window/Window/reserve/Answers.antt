-- Nothing was offered.
use Rattle.std.proofs.Common.{rules}
use Rattle.rtp_h261.proofs.QueueLemmas.{new-ordered}
use Rattle.rtp_h261.proofs.window.Window.reserve.Goals as goal

pub returns-clause-empty : goal.returns-clause-empty
returns-clause-empty c = new-ordered c.args.width _ (search rules)
