use Rattle.std.proofs.Common.{◌∙◌, w8, arith, rules}
use Rattle.std.proofs.lemmas.Int.{to_z-of_z}
use Rattle.vlc_codes.proofs.CoefficientLaws.{escape-good}
use Rattle.vlc_codes.proofs.readers.escape.Goals as goal

pub returns : goal.returns
returns c =
    record { len = 20; good = escape-good c.args.r.now.0 c.args.top _ c.requires.top (omega arith) (to_z-of_z w8 c.level_of.result (search rules) ∙ c.level_of.ensures); behind = c.skip.ensures }
