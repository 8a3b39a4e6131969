use Rattle.std.proofs.Common.{map, string_bytes, sym, ◌∙◌}
use Rattle.command_words.proofs.Jobs.{job_asked, unformed}
use Rattle.command_words.proofs.reader.read_options.Goals as goal

pub returns-then-not-are_options_of : goal.returns-then-not-are_options_of
returns-then-not-are_options_of c =
    unformed c.args.command (map string_bytes c.args.options.now) (sym c.are_options_of.ensures ∙ c.if-not-are_options_of.true)

pub returns : goal.returns
returns c =
    job_asked c.args.command (map string_bytes c.args.options.now) c.read_job.result (sym c.are_options_of.ensures ∙ c.if-not-are_options_of.false)
    c.read_job.ensures
