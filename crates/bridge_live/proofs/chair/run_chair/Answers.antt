-- Line by line.
use Rattle.std.proofs.Common.{◌≡◌, refl, sym, subst, arith}
use Rattle.hall_core.specs.Hall.{lanes_of}
use Rattle.io_edge.specs.Allowance.{AllowanceState}
use Rattle.bridge_live.specs.Hearing.{MayTakeLine, HasLines}
use Rattle.bridge_live.proofs.Ordering.{chair-begins}
use Rattle.bridge_live.proofs.chair.run_chair.Goals as goal

pub loop-stop-init : goal.loop-stop-init
loop-stop-init g c =
    let source = g.S.Source.tells c.args.source.now in
    let b = chair-begins c.args.lock.now source c.args.chair.now c.requires in
    let new = sym c.new-allowance.ensures in
    record {
      may = subst (λ (a : AllowanceState). MayTakeLine c.args.lock.now a c.args.chair.now) new b.1;
      lines = subst (λ (a : AllowanceState). HasLines (lanes_of c.args.lock.now.opening) source source c.args.chair.now.seat a c.args.chair.now) new b.0;
    }

pub loop-stop-preserved : goal.loop-stop-preserved
loop-stop-preserved g c =
    let next = c.in_default.ensures.hears (g.S.Source.tells c.args.source.now) c.args.chair.now.seat c.loop-stop.invariant.lines in
    record { may = next.1; lines = next.0 }

pub loop-stop-smaller : goal.loop-stop-smaller
loop-stop-smaller g c =
    let next = c.in_default.ensures.hears (g.S.Source.tells c.args.source.now) c.args.chair.now.seat c.loop-stop.invariant.lines in
    omega (arith, next.1.within, next.2)
