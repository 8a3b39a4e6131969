-- The conference that the words ask for, or why there is none.
use Rattle.std.proofs.Common.{map, refl, string_bytes}
use Rattle.bridge_cli.proofs.Living.{refused_words, refused_opening}
use Rattle.bridge_cli.proofs.live.obey.Goals as goal

pub returns-in-Ok-open_all : goal.returns-in-Ok-open_all
returns-in-Ok-open_all g c = c.hold.ensures (map string_bytes c.args.words.now) _ _ c.in-Ok.ensures.0 c.in-Ok-open_all.ensures

pub returns-in-Err : goal.returns-in-Err
returns-in-Err g c = (refused_words (map string_bytes c.args.words.now) _ c.in-Err.status c.in-Err.ensures, refl, refl)

pub returns : goal.returns
returns g c =
    (refused_opening (map string_bytes c.args.words.now) _ _ _ c.in-Err-open_all.status c.in-Ok.ensures.0 c.in-Err-open_all.ensures, refl, refl)
