use Rattle.command_words.proofs.OneJob as law
use Rattle.command_words.proofs.laws.one_job.Goals as goal

pub returns : goal.returns
returns c = law.one_job
