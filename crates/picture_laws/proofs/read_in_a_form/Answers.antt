use Rattle.picture_laws.proofs.FormProofs.{strict-read}
use Rattle.picture_laws.proofs.Pictures.{read-in-form}
use Rattle.picture_laws.proofs.ReadPictures.{walk-form}
use Rattle.picture_laws.proofs.read_in_a_form.Goals as goal

pub returns : goal.returns
returns c = record { accepted = read-in-form; walk = walk-form; strict = strict-read }
