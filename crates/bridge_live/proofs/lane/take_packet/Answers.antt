-- A packet more, or the end of the source.
use Rattle.std.proofs.Common.{◌≤◌, length, Result, sym, ap, subst, ◌∙◌}
use Rattle.h261_pic.specs.Coded.{Coding}
use Rattle.pel_model.specs.Valid.{limit}
use Rattle.bridge_live.specs.declared.ends.LaneStop.{LaneStop}
use Rattle.bridge_live.specs.declared.qcif.QcifBox.{QcifBox}
use Rattle.bridge_live.specs.Posting.{TakesPacket}
use Rattle.bridge_live.proofs.Flowing.{fed-so, packet-taken, lane-ended}
use Rattle.bridge_live.proofs.lane.take_packet.Goals as goal

pub give-requires-clause-gives : goal.give-requires-clause-gives
give-requires-clause-gives g c =
    let short = subst (λ (b : Coding). length b.bits ≤ limit b.format) c.deref.ensures c.tell_length.ensures in
    fed-so c.args.lock.now (g.S.Source.tells c.args.source.now) (g.S.Source.tells c.next.new.source) c.args.reader.now c.next.new.self c.args.lane.now c.args.lane.now
    c.deref_mut.result.now c.next.new.into c.in-Ok.fed c.requires c.in-Ok.ensures (ap (λ (b : Coding). b.format) c.deref_mut.ensures.value ∙ c.args.item.qcif) short

pub returns-in-Ok : goal.returns-in-Ok
returns-in-Ok g c =
    let short = subst (λ (b : Coding). length b.bits ≤ limit b.format) c.deref.ensures c.tell_length.ensures in
    let source = g.S.Source.tells c.args.source.now in
    let now = g.S.Source.tells c.next.new.source in
    subst (λ (r : Result QcifBox LaneStop). TakesPacket c.args.lock.now source now c.args.reader.now c.next.new.self c.args.lane.now c.give.new.self r) (sym c.halted.ensures)
    (packet-taken c.args.lock.now source now c.args.reader.now c.next.new.self c.args.lane.now c.give.new.self c.deref_mut.result.now c.next.new.into c.give.result c.in-Ok.fed
    c.requires c.in-Ok.ensures (ap (λ (b : Coding). b.format) c.deref_mut.ensures.value ∙ c.args.item.qcif) short c.give.ensures)

pub returns-in-Err : goal.returns-in-Err
returns-in-Err g c =
    lane-ended c.in-Err.end c.close.result c.args.lock.now (g.S.Source.tells c.args.source.now) (g.S.Source.tells c.next.new.source) c.args.reader.now c.next.new.self c.args.lane.now
    c.close.new.self c.deref_mut.result.now c.next.new.into c.in-Err.ensures c.close.ensures
