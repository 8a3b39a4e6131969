-- Three pushes.
use Rattle.std.proofs.Common.{◌∙◌, ap}
use Rattle.conf_make.specs.Writing.{with_bits}
use Rattle.conf_make.proofs.Drawn.{three-pushes, grey-is}
use Rattle.conf_make.proofs.pictures.push_grey_macroblock.Goals as goal

pub returns-clause-value : goal.returns-clause-value
returns-clause-value c =
    three-pushes _ _ _ _ _ _ _ c.push.ensures.value c.push-2.ensures.value c.push-3.ensures.value ∙ ap (with_bits c.args.bits.now) grey-is
