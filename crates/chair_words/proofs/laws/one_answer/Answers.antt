use Rattle.chair_words.proofs.LineLemmas.{one_command, one_fault, not_both}
use Rattle.chair_words.proofs.laws.one_answer.Goals as goal

pub returns : goal.returns
returns c = record { one_command = one_command; one_fault = one_fault; not_both = not_both }
