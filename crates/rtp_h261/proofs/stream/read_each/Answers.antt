-- Packet by packet.
use Rattle.std.proofs.Common.{Result, Ok, Err, refl, sym, subst}
use Rattle.io_edge.specs.declared.edges.Failed.{Failed}
use Rattle.io_edge.specs.Outside.{outside}
use Rattle.rtp_h261.specs.declared.depack.Fed.{Fed}
use Rattle.rtp_h261.specs.declared.unit_end.UnitStop.{UnitStop}
use Rattle.rtp_h261.specs.ToldSoFar.{TellsPacket, TellsRead}
use Rattle.rtp_h261.specs.UnitReader.{ReadsOn}
use Rattle.rtp_wire.specs.declared.frames.FrameEnd.{FrameEnd}
use Rattle.rtp_h261.proofs.PacketsRead.{packet-read, no-packet-read}
use Rattle.rtp_h261.proofs.StreamEnds.{at-start, can-tell, next-told, failed-told, ended-told}
use Rattle.rtp_h261.proofs.stream.read_each.Goals as goal

pub loop-fed-init : goal.loop-fed-init
loop-fed-init g c =
    at-start c.args.into.now.format c.args.reader.now.framer.allowance.budget (outside (g.S.Source.tells c.args.source.now) (g.K.Sink.tells c.args.sink.now)) c.args.reader.now c.args.into.now c.no_units-tally.result
    (g.T.Teller.duty c.args.teller.now) c.requires.reader c.no_units-tally.ensures refl c.requires.format

pub tell-requires : goal.tell-requires
tell-requires g c =
    let h = c.loop-fed.invariant in
    let format = c.args.into.now.format in
    let budget = c.args.reader.now.framer.allowance.budget in
    let first = g.S.Source.tells c.args.source.now in
    let mid = g.S.Source.tells c.loop-fed.source in
    let now = g.S.Source.tells c.next.new.source in
    let reads : ReadsOn mid now c.loop-fed.reader c.next.new.self c.loop-fed.into c.next.new.into (Ok c.in-Ok.fed) =
    subst (λ (r : Result Fed FrameEnd). ReadsOn mid now c.loop-fed.reader c.next.new.self c.loop-fed.into c.next.new.into r) c.in-Ok.is c.next.ensures in
    let p = packet-read format budget first mid now c.loop-fed.reader c.next.new.self c.loop-fed.into c.next.new.into c.in-Ok.fed h.packets h.events h.read reads h.coded_is in
    can-tell format budget _ _ _ now c.loop-fed.reader c.next.new.self c.loop-fed.into c.next.new.into c.loop-fed.tally (g.T.Teller.duty c.loop-fed.teller) c.in-Ok.fed h p c.requires.few

pub returns-in-Err-tell : goal.returns-in-Err-tell
returns-in-Err-tell g c =
    let h = c.loop-fed.invariant in
    let format = c.args.into.now.format in
    let budget = c.args.reader.now.framer.allowance.budget in
    let first = g.S.Source.tells c.args.source.now in
    let mid = g.S.Source.tells c.loop-fed.source in
    let now = g.S.Source.tells c.next.new.source in
    let duty = g.T.Teller.duty c.loop-fed.teller in
    let later = g.T.Teller.duty c.tell.new.teller in
    let reads : ReadsOn mid now c.loop-fed.reader c.next.new.self c.loop-fed.into c.next.new.into (Ok c.in-Ok.fed) =
    subst (λ (r : Result Fed FrameEnd). ReadsOn mid now c.loop-fed.reader c.next.new.self c.loop-fed.into c.next.new.into r) c.in-Ok.is c.next.ensures in
    let p = packet-read format budget first mid now c.loop-fed.reader c.next.new.self c.loop-fed.into c.next.new.into c.in-Ok.fed h.packets h.events h.read reads h.coded_is in
    let told : TellsPacket duty later c.loop-fed.tally c.tell.new.tally p.more (g.K.Sink.tells c.loop-fed.sink) (g.K.Sink.tells c.tell.new.sink) (Err c.in-Err-tell.field-0) =
    subst (λ (r : Result Unit Failed). TellsPacket duty later c.loop-fed.tally c.tell.new.tally p.more (g.K.Sink.tells c.loop-fed.sink) (g.K.Sink.tells c.tell.new.sink) r) c.in-Err-tell.is (c.tell.ensures p.more p.told) in
    failed-told c.in-Err-tell.field-0 format budget (g.T.Teller.duty c.args.teller.now) (outside first (g.K.Sink.tells c.args.sink.now)) (outside mid (g.K.Sink.tells c.loop-fed.sink))
    (outside now (g.K.Sink.tells c.tell.new.sink)) c.loop-fed.reader c.next.new.self c.loop-fed.into c.next.new.into c.loop-fed.tally c.tell.new.tally duty later c.in-Ok.fed h p told
    (λ n. g.met.T.Teller.nothing_more c.loop-fed.teller n)

pub loop-fed-preserved : goal.loop-fed-preserved
loop-fed-preserved g c =
    let h = c.loop-fed.invariant in
    let format = c.args.into.now.format in
    let budget = c.args.reader.now.framer.allowance.budget in
    let first = g.S.Source.tells c.args.source.now in
    let mid = g.S.Source.tells c.loop-fed.source in
    let now = g.S.Source.tells c.next.new.source in
    let duty = g.T.Teller.duty c.loop-fed.teller in
    let later = g.T.Teller.duty c.tell.new.teller in
    let reads : ReadsOn mid now c.loop-fed.reader c.next.new.self c.loop-fed.into c.next.new.into (Ok c.in-Ok.fed) =
    subst (λ (r : Result Fed FrameEnd). ReadsOn mid now c.loop-fed.reader c.next.new.self c.loop-fed.into c.next.new.into r) c.in-Ok.is c.next.ensures in
    let p = packet-read format budget first mid now c.loop-fed.reader c.next.new.self c.loop-fed.into c.next.new.into c.in-Ok.fed h.packets h.events h.read reads h.coded_is in
    let told : TellsPacket duty later c.loop-fed.tally c.tell.new.tally p.more (g.K.Sink.tells c.loop-fed.sink) (g.K.Sink.tells c.tell.new.sink) (Ok c.in_default.field-0) =
    subst (λ (r : Result Unit Failed). TellsPacket duty later c.loop-fed.tally c.tell.new.tally p.more (g.K.Sink.tells c.loop-fed.sink) (g.K.Sink.tells c.tell.new.sink) r) c.in_default.is (c.tell.ensures p.more p.told) in
    next-told c.in_default.field-0 format budget (g.T.Teller.duty c.args.teller.now) (outside first (g.K.Sink.tells c.args.sink.now)) (outside mid (g.K.Sink.tells c.loop-fed.sink))
    (outside now (g.K.Sink.tells c.tell.new.sink)) c.loop-fed.reader c.next.new.self c.loop-fed.into c.next.new.into c.loop-fed.tally c.tell.new.tally duty later c.in-Ok.fed h p told

pub returns-in-Err : goal.returns-in-Err
returns-in-Err g c =
    let h = c.loop-fed.invariant in
    let format = c.args.into.now.format in
    let budget = c.args.reader.now.framer.allowance.budget in
    let first = g.S.Source.tells c.args.source.now in
    let mid = g.S.Source.tells c.loop-fed.source in
    let now = g.S.Source.tells c.next.new.source in
    let first_duty = g.T.Teller.duty c.args.teller.now in
    let before = outside first (g.K.Sink.tells c.args.sink.now) in
    let after = outside now (g.K.Sink.tells c.loop-fed.sink) in
    let reads : ReadsOn mid now c.loop-fed.reader c.next.new.self c.loop-fed.into c.next.new.into (Err c.in-Err.end) =
    subst (λ (r : Result Fed FrameEnd). ReadsOn mid now c.loop-fed.reader c.next.new.self c.loop-fed.into c.next.new.into r) c.in-Err.is c.next.ensures in
    let p = no-packet-read format budget first mid now c.loop-fed.reader c.next.new.self c.loop-fed.into c.next.new.into c.in-Err.end h.packets h.events h.read reads in
    subst (λ (stop : UnitStop). TellsRead format budget first_duty (g.T.Teller.duty c.loop-fed.teller) before after (record { stop = stop; tally = c.loop-fed.tally })) (sym c.stop_for.ensures)
    (ended-told c.in-Err.end format budget first_duty before (outside mid (g.K.Sink.tells c.loop-fed.sink)) after c.loop-fed.reader c.loop-fed.into c.loop-fed.tally (g.T.Teller.duty c.loop-fed.teller) h p refl
    (λ n. g.met.T.Teller.nothing_more c.loop-fed.teller n))
