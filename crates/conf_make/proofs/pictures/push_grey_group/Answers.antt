-- A header, and the macroblocks one by one.
use Rattle.std.proofs.Common.{◌≡◌, ℕ, ◌∙◌, refl, ap, arith}
use Rattle.pel_bits.specs.Buffer.{Buffer}
use Rattle.conf_make.specs.Pictures.{repeated, grey_macroblock}
use Rattle.conf_make.specs.Writing.{with_bits}
use Rattle.conf_make.proofs.Drawn.{none-pushed, more-pushed, two-pushes, grey-group-is}
use Rattle.conf_make.proofs.pictures.push_grey_group.Goals as goal

pub loop-i-init : goal.loop-i-init
loop-i-init c = record { bits = none-pushed c.push_group_header.new.bits; capacity = refl; long = omega arith }

pub loop-i-preserved : goal.loop-i-preserved
loop-i-preserved c = record {
  bits = more-pushed _ c.loop-i.bits c.push_grey_macroblock.new.bits c.loop-i._i c.loop-i.invariant.bits c.push_grey_macroblock.ensures.value;
  capacity = ap (λ (b : Buffer). b.capacity) c.push_grey_macroblock.ensures.value ∙ c.loop-i.invariant.capacity;
  long = omega (arith, c.push_grey_macroblock.ensures.long, c.loop-i.invariant.long);
}

pub returns-clause-value : goal.returns-clause-value
returns-clause-value c =
    let all : c.loop-i._i ≡ 33 = omega arith in
    two-pushes _ _ _ _ _ c.push_group_header.ensures.value
    (c.loop-i.invariant.bits ∙ ap (λ (n : ℕ). with_bits c.push_group_header.new.bits (repeated n grey_macroblock)) all)
    ∙ ap (with_bits c.args.bits.now) (grey-group-is c.args.number)
