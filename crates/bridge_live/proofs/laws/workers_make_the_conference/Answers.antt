use Rattle.bridge_live.proofs.Completing.{gathered-is-complete}
use Rattle.bridge_live.proofs.Serving.{gathered-serves}
use Rattle.bridge_live.proofs.laws.workers_make_the_conference.Goals as goal

pub returns-clause-serves : goal.returns-clause-serves
returns-clause-serves c = gathered-serves

pub returns-clause-complete : goal.returns-clause-complete
returns-clause-complete c = gathered-is-complete
