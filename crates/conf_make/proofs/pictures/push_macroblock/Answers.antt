-- By the draw's last bit.
use Rattle.std.proofs.Common.{◌≡◌, ◌%◌, ◌∙◌, ap, arith}
use Rattle.conf_make.specs.Writing.{with_bits}
use Rattle.conf_make.proofs.Drawn.{three-pushes, even-is, odd-is}
use Rattle.conf_make.proofs.pictures.push_macroblock.Goals as goal

pub returns-then-drawn-eq0-clause-value : goal.returns-then-drawn-eq0-clause-value
returns-then-drawn-eq0-clause-value c =
    three-pushes _ _ _ _ _ _ _ c.push.ensures.value c.push-then-drawn-eq0.ensures.value c.push-then-drawn-eq0-2.ensures.value
    ∙ ap (with_bits c.args.bits.now) (even-is c.args.drawn c.if-drawn-eq0.true)

pub returns-else-drawn-eq0-clause-value : goal.returns-else-drawn-eq0-clause-value
returns-else-drawn-eq0-clause-value c =
    let odd : c.args.drawn % 2 ≡ 1 = omega (arith, c.if-drawn-eq0.false) in
    c.push-else-drawn-eq0.ensures.value ∙ ap (with_bits c.args.bits.now) (odd-is c.args.drawn odd)
