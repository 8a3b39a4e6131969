use Rattle.pel_model.specs.Grammar.{next, next_within_limit}
use Rattle.pel_model.proofs.Walks as walks
use Rattle.pel_model.proofs.laws.one_answer.Goals as goal

pub returns-clause-within_the_limit : goal.returns-clause-within_the_limit
returns-clause-within_the_limit c = λ format. walks.one_answer (next_within_limit format)

pub returns-clause-of_any_length : goal.returns-clause-of_any_length
returns-clause-of_any_length c = λ format. walks.one_answer (next format)
