-- The lanes are opened one after the other.
use Rattle.std.proofs.Common.{◌≡◌, ◌≤◌, ◌∙◌, ◌+◌, length, map, ap, subst, arith, take_all, ℕ}
use Rattle.bridge_cli.specs.Opening.{ReachesAll}
use Rattle.bridge_cli.proofs.Openings.{reaches_next, fails_next}
use Rattle.bridge_cli.proofs.opening.open_lanes.Goals as goal

pub overflow_cast-lane : goal.overflow_cast-lane
overflow_cast-lane g c =
    let place : c.len-lane.result ≡ c.loop-name.name-index = c.len-lane.ensures ∙ c.loop-name.invariant.0 in
    let inside = c.loop-name-test.true in
    let few : length c.args.names.now ≤ 16 = c.requires in
    omega arith

pub returns-in_default : goal.returns-in_default
returns-in_default g c = c.in-Ok.ensures.cause.kept ∙ c.loop-name.invariant.1.kept

pub returns-in-Err : goal.returns-in-Err
returns-in-Err g c = (
  c.loop-name.name-index,
  c.len-lane.ensures ∙ c.loop-name.invariant.0,
  fails_next c.in-Err.field-0 g.P.Src.Source.tells c.args.names.now c.loop-name.name-index _ c.loop-name.lanes.items _
      (g.P.Opener.tells c.loop-name.house)
      (g.P.Opener.tells c.reach.new.self)
      c.loop-name-test.true c.loop-name.invariant.1 c.in-Err.ensures.entry c.in-Err.ensures.cause.failed,
)

pub loop-name-preserved : goal.loop-name-preserved
loop-name-preserved g c = (
  c.in-Ok-push.ensures.len ∙ ap (λ (n : ℕ). n + 1) c.loop-name.invariant.0,
  reaches_next g.P.Src.Source.tells c.args.names.now c.loop-name.name-index _ c.loop-name.lanes.items _ c.in-Ok.source _
      (g.P.Opener.tells c.loop-name.house)
      (g.P.Opener.tells c.reach.new.self)
      c.loop-name-test.true c.loop-name.invariant.1 c.in-Ok.ensures.entry c.in-Ok.ensures.anew c.in-Ok.ensures.cause.kept c.in-Ok-push.ensures.items,
)

pub returns : goal.returns
returns g c =
    subst (λ ns. ReachesAll (map (λ n. n.now) ns) (map g.P.Src.Source.tells c.loop-name.lanes.items)
    (g.P.Opener.tells c.args.house.now)
    (g.P.Opener.tells c.loop-name.house))
    (take_all c.loop-name.name-index c.args.names.now c.loop-name-test.false) c.loop-name.invariant.1
