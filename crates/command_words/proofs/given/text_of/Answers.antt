use Rattle.std.proofs.Common.{map, string_bytes}
use Rattle.command_words.proofs.Finds.{text_behind}
use Rattle.command_words.proofs.given.text_of.Goals as goal

pub returns : goal.returns
returns c =
    text_behind (map string_bytes c.args.words.now) c.args.start.now c.in_ok-word.word.now c.strip_prefix.result c.in_ok-word.ensures.found
    c.in_ok-word.ensures.begun c.strip_prefix.ensures.cases
