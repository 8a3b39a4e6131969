-- Words that were not read ask for no live conference, or there was not the memory.
use Rattle.std.proofs.Common.{Err, ap, map, string_bytes}
use Rattle.bridge_cli.proofs.Living.{words_unread}
use Rattle.bridge_cli.proofs.live.options_of.Goals as goal

pub returns-in-Err : goal.returns-in-Err
returns-in-Err c =
    words_unread (map string_bytes c.args.words.now) c.in-Err.fault c.of_words.result c.of_words.ensures
    (λ job asked is. c.in-Err.ensures.usage job asked (ap Err is))
