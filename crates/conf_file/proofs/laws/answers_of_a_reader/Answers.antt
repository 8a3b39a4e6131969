-- The octets that are left begin with one thing.
use Rattle.conf_file.proofs.NextLemmas as law
use Rattle.conf_file.proofs.laws.answers_of_a_reader.Goals as goal

pub returns : goal.returns
returns c = law.answers_are_told
