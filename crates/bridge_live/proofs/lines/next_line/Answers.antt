-- Octet by octet.
use Rattle.std.proofs.Common.{◌≡◌, ◌<◌, length, arith, ◌∙◌}
use Rattle.std.proofs.lemmas.Bool.Decides.{nat_tests}
use Rattle.std.proofs.lemmas.Result.{err_from_is_err_and}
use Rattle.bridge_live.proofs.Lining.{took-line, took-rest, kept-more, kept-full, took-more, nothing-taken}
use Rattle.bridge_live.proofs.lines.next_line.Goals as goal

pub loop-next-init : goal.loop-next-init
loop-next-init g c = nothing-taken (g.S.Source.tells c.args.source.now) c.args.allowance.now _ c.clear.ensures

pub returns-then-next-eq10 : goal.returns-then-next-eq10
returns-then-next-eq10 g c = took-line _ _ _ _ _ _ _ c.in_ok-next.next c.loop-next.invariant c.in_ok-next.ensures c.if-next-eq10.true

pub returns-in_err-next : goal.returns-in_err-next
returns-in_err-next g c =
    let p = err_from_is_err_and c.from_residual.result c.from_residual.ensures.1 in
    rw (p.1, p.2) (took-rest _ _ _ _ _ _ _ c.in_err-next.field-0.0 c.loop-next.invariant c.in_err-next.ensures)

pub loop-next-preserved-then-not-is_full : goal.loop-next-preserved-then-not-is_full
loop-next-preserved-then-not-is_full g c =
    let i = c.loop-next.invariant in
    let b = c.in_ok-next.next in
    let room : length c.loop-next.line.items < 256 = grind (arith, nat_tests) in
    took-more _ _ _ _ _ _ _ _ b i c.in_ok-next.ensures c.if-next-eq10.false (c.push.ensures.items ∙ kept-more i.line c.loop-next.line.items b i.kept room)

pub loop-next-preserved : goal.loop-next-preserved
loop-next-preserved g c =
    let i = c.loop-next.invariant in
    let b = c.in_ok-next.next in
    let full : length c.loop-next.line.items ≡ 256 = grind (arith, nat_tests) in
    took-more _ _ _ _ _ _ _ _ b i c.in_ok-next.ensures c.if-next-eq10.false (kept-full i.line c.loop-next.line.items b i.kept full)

pub loop-next-smaller-then-not-is_full : goal.loop-next-smaller-then-not-is_full
loop-next-smaller-then-not-is_full g c = let o = c.in_ok-next.ensures.0 in omega (arith, o.taken, o.budget, o.within)

pub loop-next-smaller : goal.loop-next-smaller
loop-next-smaller g c = let o = c.in_ok-next.ensures.0 in omega (arith, o.taken, o.budget, o.within)
