use Rattle.update_laws.proofs.Induction.{updating-law}
use Rattle.update_laws.proofs.laws.updating.Goals as goal

pub returns : goal.returns
returns c = updating-law
