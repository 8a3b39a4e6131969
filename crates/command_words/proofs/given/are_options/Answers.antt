use Rattle.std.proofs.Common.{◌∙◌, sym, string_bytes}
use Rattle.command_words.proofs.Finds.{options_are, options_are_not}
use Rattle.command_words.proofs.given.are_options.Goals as goal

pub returns-then-are_known : goal.returns-then-are_known
returns-then-are_known c =
    options_are string_bytes c.args.starts.now c.args.words.now c.are_single.result (sym c.if-are_known.true ∙ c.are_known.ensures) c.are_single.ensures

pub returns-else-are_known : goal.returns-else-are_known
returns-else-are_known c =
    options_are_not string_bytes c.args.starts.now c.args.words.now _ (sym c.if-are_known.false ∙ c.are_known.ensures) c.if-are_known.false
