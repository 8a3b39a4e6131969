use Rattle.picture_laws.proofs.FormProofs.{one-picture, strict-own}
use Rattle.picture_laws.proofs.one_picture_for_a_text.Goals as goal

pub returns : goal.returns
returns c = record { text = one-picture; accepted = strict-own }
