use Rattle.picture_laws.proofs.TextProofs.{valid-in-place}
use Rattle.picture_laws.proofs.groups_in_places.Goals as goal

pub returns : goal.returns
returns c = valid-in-place
