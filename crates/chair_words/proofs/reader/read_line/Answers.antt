use Rattle.chair_words.proofs.LineLemmas.{accepted, refused}
use Rattle.chair_words.proofs.reader.read_line.Goals as goal

pub returns-clause-accepts : goal.returns-clause-accepts
returns-clause-accepts c = accepted c.args.line.now c.answer.result c.answer.ensures

pub returns-clause-refuses : goal.returns-clause-refuses
returns-clause-refuses c = refused c.args.line.now c.answer.result c.answer.ensures
