use Rattle.history_laws.proofs.Cutting.{tenancies}
use Rattle.history_laws.proofs.laws.tenancies.Goals as goal

pub returns : goal.returns
returns c = tenancies
