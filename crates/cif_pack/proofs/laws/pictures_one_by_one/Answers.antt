use Rattle.cif_pack.proofs.ListLaws.{nothing-sent, one-more-is-sent}
use Rattle.cif_pack.proofs.laws.pictures_one_by_one.Goals as goal

pub returns-clause-nothing : goal.returns-clause-nothing
returns-clause-nothing c = nothing-sent

pub returns-clause-one_more : goal.returns-clause-one_more
returns-clause-one_more c = one-more-is-sent
