-- A lane more has its end.
use Rattle.std.proofs.Common.{◌≡◌, ◌<◌, ◌∷◌, ◌++◌, [], arith, subst, sym, length, ap}
use Rattle.std.proofs.lemmas.Grind.{common_steps}
use Rattle.bridge_live.specs.declared.worker.Worker.TheVariants.{Lane}
use Rattle.bridge_live.specs.Ending.{CrewDid, LanesJoined}
use Rattle.bridge_live.proofs.Joining.{joined-none, joined-more, lane-first, lane-next, none-left}
use Rattle.bridge_live.proofs.run.join_lanes.Goals as goal

pub loop-workers-init : goal.loop-workers-init
loop-workers-init g c = record {
  room = omega (arith, c.requires.room, ap length c.requires.ends);
  did = λ set given did. (given.lanes, joined-none _ _ _ c.args.lock.now set given c.args.seat.now c.args.ends.now.items c.args.workers.now.items c.requires.ends c.requires.seat did);
}

pub pop_lane-worker-requires : goal.pop_lane-worker-requires
pop_lane-worker-requires g c =
    let begun = c.requires.did in
    let j = c.loop-workers.invariant.did begun.0 begun.1 begun.2 in
    let more : 2 < length c.loop-workers.workers.items = grind (arith, common_steps) in
    lane-first _ _ _ c.args.lock.now begun.0 begun.1 (length j.1.done) j.0 c.loop-workers.workers.items j.1.rest more

pub join_lane-end-requires : goal.join_lane-end-requires
join_lane-end-requires g c =
    let begun = c.requires.did in
    let set = begun.0 in
    let given = begun.1 in
    let j = c.loop-workers.invariant.did set given begun.2 in
    let reads = g.S.Source.tells in
    let ticks = g.C.Ticker.tells in
    let writes = g.K.Sink.tells in
    let lock = c.args.lock.now in
    let rest = subst (λ ws. CrewDid reads ticks writes lock set given (length j.1.done) j.0 ws) c.pop_lane-worker.ensures j.1.rest in
    let next = lane-next reads ticks writes lock set given (length j.1.done) j.0 c.pop_lane-worker.result c.pop_lane-worker.new.workers.items rest in
    (j.1.same, next.lane.seat)

pub loop-workers-preserved : goal.loop-workers-preserved
loop-workers-preserved g c =
    let reads = g.S.Source.tells in
    let ticks = g.C.Ticker.tells in
    let writes = g.K.Sink.tells in
    let lock = c.args.lock.now in
    let old = c.args.seat.now in
    let end = c.join_lane-end.result in
    let e = c.join_lane-end.ensures in
    let worker = c.pop_lane-worker.result in
    let rest = c.pop_lane-worker.new.workers.items in
    let ends = c.loop-workers.ends.items in
    record {
      room = grind (arith, common_steps);
      did = λ set given did.
          let j = c.loop-workers.invariant.did set given did in
          let before = subst (λ ws. LanesJoined reads ticks writes lock set given old c.loop-workers.seat j.0 ends ws) c.pop_lane-worker.ensures j.1 in
          let after = joined-more reads ticks writes lock set given old c.loop-workers.seat c.join_lane-end.new.seat j.0 ends worker rest end before e.joins e.source e.end.0 e.end.1 in
          (after.0, subst (λ es. LanesJoined reads ticks writes lock set given old c.join_lane-end.new.seat after.0 es rest) (sym c.push_reserved.ensures.items) after.1);
    }

pub returns : goal.returns
returns g c = λ set given did.
    let reads = g.S.Source.tells in
    let ticks = g.C.Ticker.tells in
    let writes = g.K.Sink.tells in
    let j = c.loop-workers.invariant.did set given did in
    let few : length c.loop-workers.workers.items < 3 = grind (arith, common_steps) in
    none-left reads ticks writes c.args.lock.now set given c.args.seat.now c.loop-workers.seat j.0 c.loop-workers.ends.items c.loop-workers.workers.items j.1 few
