use Rattle.cif_pack.proofs.Totals.{totals-are-small}
use Rattle.cif_pack.proofs.laws.totals_are_small.Goals as goal

pub returns : goal.returns
returns c = totals-are-small
