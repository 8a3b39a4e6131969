use Rattle.update_laws.proofs.Runs.{overdue-law}
use Rattle.update_laws.proofs.laws.overdue.Goals as goal

pub returns : goal.returns
returns c = overdue-law
