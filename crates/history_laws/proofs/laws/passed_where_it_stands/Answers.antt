use Rattle.history_laws.proofs.Standing.{passing-law}
use Rattle.history_laws.proofs.laws.passed_where_it_stands.Goals as goal

pub returns : goal.returns
returns c = passing-law
