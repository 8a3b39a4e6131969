use Rattle.picture_laws.proofs.Pictures.{accepted-read}
use Rattle.picture_laws.proofs.accepted_text_is_read.Goals as goal

pub returns : goal.returns
returns c = accepted-read
