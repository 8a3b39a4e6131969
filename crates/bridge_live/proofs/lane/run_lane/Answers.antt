-- Packet by packet.
use Rattle.std.proofs.Common.{ℕ, ◌∙◌, refl, subst, arith}
use Rattle.hall_core.specs.Hall.{lanes_of}
use Rattle.bridge_live.specs.Lane.{RunsLane}
use Rattle.bridge_live.proofs.Flowing.{within-reader, lane-begins}
use Rattle.bridge_live.proofs.lane.run_lane.Goals as goal

pub loop-spare-init : goal.loop-spare-init
loop-spare-init g c =
    let b = lane-begins c.args.lock.now (g.S.Source.tells c.args.source.now) c.args.reader.now c.args.lane.now c.requires in
    record { number = refl; may = b.1; flowed = b.0 }

pub loop-spare-preserved : goal.loop-spare-preserved
loop-spare-preserved g c =
    let i = c.loop-spare.invariant in
    let e = c.in-Ok.ensures in
    let next = e.reads (g.S.Source.tells c.args.source.now) c.args.lane.now.seat i.flowed in
    record { number = e.number ∙ i.number; may = next.1; flowed = next.0 }

pub loop-spare-smaller : goal.loop-spare-smaller
loop-spare-smaller g c =
    let i = c.loop-spare.invariant in
    let next = c.in-Ok.ensures.reads (g.S.Source.tells c.args.source.now) c.args.lane.now.seat i.flowed in
    omega (arith, within-reader _ _ _ _ next.1, next.2)

pub returns-in-Err : goal.returns-in-Err
returns-in-Err g c =
    let i = c.loop-spare.invariant in
    let e = c.in-Err.ensures in
    record {
      at_lock = e.at_lock;
      number = e.number ∙ i.number;
      runs = subst (λ (n : ℕ). RunsLane (lanes_of c.args.lock.now.opening) n (g.S.Source.tells c.args.source.now) (g.S.Source.tells c.take_packet.new.source) c.args.lane.now.seat
          c.take_packet.new.lane.seat c.in-Err.stop c.take_packet.new.lane.counts) (e.number ∙ i.number)
          (e.reads (g.S.Source.tells c.args.source.now) c.args.lane.now.seat i.flowed);
    }
