-- What stands behind the front is left, or stands behind the fault.
use Rattle.conf_file.proofs.FileLemmas as law
use Rattle.conf_file.proofs.laws.fronts_decide.Goals as goal

pub returns : goal.returns
returns c = law.fronts_decide
