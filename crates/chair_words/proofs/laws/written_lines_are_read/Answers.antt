use Rattle.chair_words.proofs.Written.{says_written}
use Rattle.chair_words.proofs.laws.written_lines_are_read.Goals as goal

pub returns : goal.returns
returns c = says_written
