use Rattle.picture_laws.proofs.TextProofs.{texts-lengths}
use Rattle.picture_laws.proofs.text_lengths.Goals as goal

pub returns : goal.returns
returns c = texts-lengths
