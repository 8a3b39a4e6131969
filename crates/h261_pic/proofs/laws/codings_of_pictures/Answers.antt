use Rattle.h261_pic.proofs.Codings.{equal-codings, finished-codings}
use Rattle.h261_pic.proofs.CutTexts.{cut-texts}
use Rattle.h261_pic.proofs.laws.codings_of_pictures.Goals as goal

pub returns-clause-equal : goal.returns-clause-equal
returns-clause-equal c = equal-codings

pub returns-clause-finished : goal.returns-clause-finished
returns-clause-finished c = finished-codings

pub returns-clause-cut : goal.returns-clause-cut
returns-clause-cut c = cut-texts
