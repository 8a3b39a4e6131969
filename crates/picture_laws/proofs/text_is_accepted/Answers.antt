use Rattle.picture_laws.proofs.Strict.{text-accepted}
use Rattle.picture_laws.proofs.text_is_accepted.Goals as goal

pub returns : goal.returns
returns c = text-accepted
