use Rattle.frame_laws.proofs.Refreshes.{refresh-law}
use Rattle.frame_laws.proofs.refresh.Goals as goal

pub returns : goal.returns
returns c = refresh-law
