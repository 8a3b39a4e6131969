use Rattle.picture_laws.proofs.TextProofs.{marks-cut, marks-cut_text}
use Rattle.picture_laws.proofs.marks_cut_the_text.Goals as goal

pub returns : goal.returns
returns c = record { of_a_group = marks-cut; of_a_picture = marks-cut_text }
