-- Tick by tick.
use Rattle.std.proofs.Common.{◌≡◌, ℕ, ◌+◌, ◌-◌, ◌*◌, refl, ap, arith}
use Rattle.conf_make.specs.Made.{tick_entries, behind_tick, all_ticks}
use Rattle.conf_make.proofs.Going.{all-ticks, tick-step}
use Rattle.conf_make.proofs.Making.{none-made, rest-made, more-made, failed-made, fewer-made, all-made, tick-made}
use Rattle.conf_make.proofs.maker.Maker.write_ticks.Goals as goal

pub loop-before-init : goal.loop-before-init
loop-before-init g c =
    let old = c.args.self.now in
    let all = all_ticks c.args.ticks old.lanes 1 old.state in
    rest-made 0 all all _ _ _ old old (all-ticks c.args.ticks old.lanes old.state) (none-made all (g.K.Sink.tells c.args.sink.now) old)

pub loop-before-preserved : goal.loop-before-preserved
loop-before-preserved g c =
    let old = c.args.self.now in
    let all = all_ticks c.args.ticks old.lanes 1 old.state in
    let i = c.loop-before.before in
    let state = c.loop-before.self.state in
    let next = c.write_tick.new.self.state in
    let less = c.loop-before-test.true in
    let w = tick-made old.lanes (i + 1) _ _ c.loop-before.self _ _ c.loop-before.invariant.lanes c.in_ok-write_tick.ensures in
    more-made (18 * (i + 1)) (18 * i) 18 all (tick_entries old.lanes (i + 1) state) (all_ticks (c.args.ticks - (i + 1)) old.lanes (i + 1 + 1) next) _ _ _ _ old _ _
    _ (omega arith)
    (rest-made (18 * i) all _ _ _ _ old _ (tick-step c.args.ticks old.lanes i state next less w.state) c.loop-before.invariant) w

pub returns-in_err-write_tick : goal.returns-in_err-write_tick
returns-in_err-write_tick g c =
    let old = c.args.self.now in
    let all = all_ticks c.args.ticks old.lanes 1 old.state in
    let i = c.loop-before.before in
    let state = c.loop-before.self.state in
    let next = behind_tick old.lanes (i + 1) state in
    let less = c.loop-before-test.true in
    let w = tick-made old.lanes (i + 1) _ _ c.loop-before.self _ _ c.loop-before.invariant.lanes c.in_err-write_tick.ensures in
    (failed-made (18 * c.args.ticks) (18 * i) 18 all (tick_entries old.lanes (i + 1) state) (all_ticks (c.args.ticks - (i + 1)) old.lanes (i + 1 + 1) next) _ 0 _ _ _ old _ _
    c.from_residual.result _ c.from_residual.ensures.0 (omega (arith, less))
    (rest-made (18 * i) all _ _ _ _ old _ (tick-step c.args.ticks old.lanes i state next less refl) c.loop-before.invariant) w).puts

pub returns : goal.returns
returns g c =
    let old = c.args.self.now in
    let all = all_ticks c.args.ticks old.lanes 1 old.state in
    let i = c.loop-before.before in
    let state = c.loop-before.self.state in
    let none = ap (λ (k : ℕ). all_ticks k old.lanes (i + 1) state) (let e : c.args.ticks - i ≡ 0 = omega (arith, c.loop-before-test.false) in e) in
    (all-made (18 * c.args.ticks) all _ _ _ _ old _ _ none refl (fewer-made (18 * c.args.ticks) (18 * i) all _ _ _ old _ (omega (arith, c.loop-before-test.false)) c.loop-before.invariant)).puts
