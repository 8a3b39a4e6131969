use Rattle.frame_laws.proofs.Quadrants.{law, valid-stays}
use Rattle.frame_laws.proofs.quadrant.Goals as goal

pub returns-clause-law : goal.returns-clause-law
returns-clause-law c = law

pub returns-clause-valid : goal.returns-clause-valid
returns-clause-valid c = valid-stays
