use Rattle.history_laws.proofs.Cutting.{headline}
use Rattle.history_laws.proofs.laws.headline.Goals as goal

pub returns : goal.returns
returns c = headline
