use Rattle.std.proofs.Common.{◌+◌, ◌∙◌, w8, arith, rules}
use Rattle.std.proofs.lemmas.Int.{to_z-of_z}
use Rattle.vlc_codes.proofs.CoefficientLaws.{pair-good}
use Rattle.vlc_codes.proofs.readers.pair.Goals as goal

pub returns : goal.returns
returns c = λ code long.
    record { len = c.args.len + 1; good = pair-good c.args.r.now.0 code c.args.top c.args.len c.args.run c.args.level _ c.requires.top long (omega arith) c.requires.short (to_z-of_z w8 c.with_sign.result (search rules) ∙ c.with_sign.ensures); behind = c.skip.ensures }
