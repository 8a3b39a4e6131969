-- Entry by entry.
use Rattle.conf_make.proofs.Valid.{made-files}
use Rattle.conf_make.proofs.laws.made_files_are_conferences.Goals as goal

pub returns : goal.returns
returns c = made-files
