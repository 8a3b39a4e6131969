use Rattle.picture_laws.proofs.ReadPictures.{walk-record}
use Rattle.picture_laws.proofs.walk_has_a_record.Goals as goal

pub returns : goal.returns
returns c = walk-record
