use Rattle.cif_pack.proofs.ListLaws.{packets-go-on, numbers-go-on}
use Rattle.cif_pack.proofs.laws.packets_go_on.Goals as goal

pub returns-clause-joined : goal.returns-clause-joined
returns-clause-joined c = packets-go-on

pub returns-clause-numbers : goal.returns-clause-numbers
returns-clause-numbers c = numbers-go-on
