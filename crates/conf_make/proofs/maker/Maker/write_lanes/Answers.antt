-- Lane by lane.
use Rattle.std.proofs.Common.{◌≡◌, ℕ, ◌+◌, ◌-◌, refl, ap, arith}
use Rattle.conf_make.specs.Made.{sent, all_sent, behind_lane}
use Rattle.conf_make.proofs.Going.{all-lanes, behind-all-lanes, lane-step, lane-behind, lanes-behind}
use Rattle.conf_make.proofs.Making.{none-made, rest-made, more-made, failed-made, fewer-made, all-made}
use Rattle.conf_make.proofs.maker.Maker.write_lanes.Goals as goal

pub loop-lane-init : goal.loop-lane-init
loop-lane-init g c =
    let old = c.args.self.now in
    let all = all_sent old.lanes c.args.tick 0 old.state in
    record {
      made = rest-made 0 all all _ _ _ old old (all-lanes old.lanes c.args.tick old.state) (none-made all (g.K.Sink.tells c.args.sink.now) old);
      behind = behind-all-lanes old.lanes c.args.tick old.state;
    }

pub loop-lane-preserved : goal.loop-lane-preserved
loop-lane-preserved g c =
    let old = c.args.self.now in
    let all = all_sent old.lanes c.args.tick 0 old.state in
    let lane = c.loop-lane.lane in
    let state = c.loop-lane.self.state in
    let next = c.write_lane.new.self.state in
    let less = c.loop-lane-test.true in
    let w = c.in_ok-write_lane.ensures in
    let here = sent c.args.tick lane state in
    let rest = all_sent (old.lanes - (lane + 1)) c.args.tick (lane + 1) next in
    record {
      made =
          more-made (lane + 1) lane 1 all here rest _ _ _ _ old _ _ _ (omega arith)
          (rest-made lane all _ _ _ _ old _ (lane-step old.lanes c.args.tick lane state next less w.state) c.loop-lane.invariant.made) w;
      behind = lane-behind old.lanes c.args.tick lane state next _ less w.state c.loop-lane.invariant.behind;
    }

pub returns-in_err-write_lane : goal.returns-in_err-write_lane
returns-in_err-write_lane g c =
    let old = c.args.self.now in
    let all = all_sent old.lanes c.args.tick 0 old.state in
    let lane = c.loop-lane.lane in
    let state = c.loop-lane.self.state in
    let next = behind_lane c.args.tick lane state in
    let less = c.loop-lane-test.true in
    failed-made 16 lane 1 all (sent c.args.tick lane state) (all_sent (old.lanes - (lane + 1)) c.args.tick (lane + 1) next) _ _ _ _ _ old _ _
    c.from_residual.result _ c.from_residual.ensures.0 (omega (arith, less, old.fits))
    (rest-made lane all _ _ _ _ old _ (lane-step old.lanes c.args.tick lane state next less refl) c.loop-lane.invariant.made)
    c.in_err-write_lane.ensures

pub returns : goal.returns
returns g c =
    let old = c.args.self.now in
    let all = all_sent old.lanes c.args.tick 0 old.state in
    let lane = c.loop-lane.lane in
    let state = c.loop-lane.self.state in
    let none = ap (λ (k : ℕ). all_sent k c.args.tick lane state) (let e : old.lanes - lane ≡ 0 = omega (arith, c.loop-lane-test.false) in e) in
    all-made 16 all _ _ _ _ old _ _ none (lanes-behind (old.lanes - lane) c.args.tick lane state _ (omega (arith, c.loop-lane-test.false)) c.loop-lane.invariant.behind)
    (fewer-made 16 lane all _ _ _ old _ (omega (arith, old.fits)) c.loop-lane.invariant.made)
