-- By what the octets taken say behind those taken before.
use Rattle.conf_file.proofs.FileLemmas.{entries_are_read}
use Rattle.conf_file.proofs.laws.files_are_read.Goals as goal

pub returns : goal.returns
returns c = entries_are_read
