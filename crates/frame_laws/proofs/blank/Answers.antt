use Rattle.frame_laws.proofs.Blanks.{blank-law, unchanged-law}
use Rattle.frame_laws.proofs.blank.Goals as goal

pub returns-clause-frame : goal.returns-clause-frame
returns-clause-frame c = blank-law

pub returns-clause-place : goal.returns-clause-place
returns-clause-place c = unchanged-law
