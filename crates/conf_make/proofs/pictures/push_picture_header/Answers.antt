-- Four fields.
use Rattle.std.proofs.Common.{◌∙◌, ap, ℕ, ◌++◌}
use Rattle.pel_bits.specs.Bits.{field}
use Rattle.conf_make.specs.Writing.{with_bits}
use Rattle.conf_make.proofs.Drawn.{four-pushes, header-is}
use Rattle.conf_make.proofs.pictures.push_picture_header.Goals as goal

pub returns-clause-value : goal.returns-clause-value
returns-clause-value c =
    four-pushes _ _ _ _ _ _ _ _ _ c.push.ensures.value c.push-2.ensures.value c.push-3.ensures.value c.push-4.ensures.value
    ∙ ap (λ (n : ℕ). with_bits c.args.bits.now (field 16 20 ++ (field n 5 ++ (field 3 6 ++ field 0 1)))) c.from.ensures
    ∙ ap (with_bits c.args.bits.now) (header-is c.args.tr)
