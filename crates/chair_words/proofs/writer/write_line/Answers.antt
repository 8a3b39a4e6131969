use Rattle.std.proofs.Common.{subst, sym}
use Rattle.chair_words.specs.Line.{Says}
use Rattle.chair_words.proofs.Written.{says_written}
use Rattle.chair_words.proofs.writer.write_line.Goals as goal

pub returns-clause-reads_back : goal.returns-clause-reads_back
returns-clause-reads_back c =
    subst (λ bytes. Says bytes c.args.command) (sym c.words_of.ensures) (says_written c.args.command c.requires)
