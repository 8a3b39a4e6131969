-- One by one.
use Rattle.std.proofs.Common.{ℕ, ◌+◌, ◌-◌, ◌∙◌, sym, ap, subst, arith}
use Rattle.conf_make.specs.Pictures.{macroblock}
use Rattle.conf_make.specs.Writing.{with_bits}
use Rattle.conf_make.proofs.Drawn.{Pushes, at-first, one-more, all-pushed}
use Rattle.conf_make.proofs.pictures.push_macroblocks.Goals as goal

pub loop-i-init : goal.loop-i-init
loop-i-init c = record { pushes = at-first c.args.count c.args.state.now c.args.bits.now; long = omega arith }

pub loop-i-preserved : goal.loop-i-preserved
loop-i-preserved c = record {
  pushes =
      subst (Pushes c.args.count c.args.state.now c.args.bits.now c.push_macroblock.new.bits (c.args.count - (c.loop-i._i + 1))) (sym c.draw.ensures.state)
      (one-more c.args.count c.args.state.now c.args.bits.now c.loop-i.bits c.push_macroblock.new.bits c.loop-i._i c.loop-i.state c.loop-i-test.true c.loop-i.invariant.pushes
      (c.push_macroblock.ensures.value ∙ ap (λ (d : ℕ). with_bits c.loop-i.bits (macroblock d)) c.draw.ensures.drawn));
  long = omega (arith, c.push_macroblock.ensures.long, c.loop-i.invariant.long);
}

pub returns-clause-bits : goal.returns-clause-bits
returns-clause-bits c =
    (all-pushed c.args.count c.args.state.now c.args.bits.now c.loop-i.bits (c.args.count - c.loop-i._i) c.loop-i.state (omega (arith, c.loop-i-test.false)) c.loop-i.invariant.pushes).0

pub returns-clause-state : goal.returns-clause-state
returns-clause-state c =
    (all-pushed c.args.count c.args.state.now c.args.bits.now c.loop-i.bits (c.args.count - c.loop-i._i) c.loop-i.state (omega (arith, c.loop-i-test.false)) c.loop-i.invariant.pushes).1
