-- Entry by entry.
use Rattle.conf_file.proofs.FileLemmas as law
use Rattle.conf_file.proofs.laws.one_reading.Goals as goal

pub returns : goal.returns
returns c = law.one_reading
