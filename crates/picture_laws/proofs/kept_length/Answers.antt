use Rattle.picture_laws.proofs.Kept.{kept-length}
use Rattle.picture_laws.proofs.kept_length.Goals as goal

pub returns : goal.returns
returns c = kept-length
