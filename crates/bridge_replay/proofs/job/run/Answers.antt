use Rattle.std.proofs.Common.{inr, refl, ap, subst}
use Rattle.bridge_replay.specs.UnderWay.{beginning}
use Rattle.io_edge.specs.Outside.{outside}
use Rattle.bridge_replay.proofs.Starting.{begins-so}
use Rattle.bridge_replay.proofs.job.run.Goals as goal

pub read_on-stop-requires : goal.read_on-stop-requires
read_on-stop-requires g c =
    let was = g.S.Source.tells c.args.source.now in
    let now = g.S.Source.tells c.start.new.source in
    let sink = g.K.Sink.tells c.args.sink.now in
    let k = begins-so c.args.budget was now sink c.in-Ok.reader c.start.new.self c.in-Ok.ensures c.args.set c.in-Ok-start.lanes c.in-Ok-reserve.conference c.requires.budget
    c.in-Ok-start.ensures.header (c.in-Ok-reserve.ensures sink) in
    (c.args.set, c.args.budget, outside was sink, (beginning c.args.set c.in-Ok-start.lanes, k.0, k.1))

pub returns : goal.returns
returns g c =
    let was = g.S.Source.tells c.args.source.now in
    let now = g.S.Source.tells c.start.new.source in
    let sink = g.K.Sink.tells c.args.sink.now in
    let k = begins-so c.args.budget was now sink c.in-Ok.reader c.start.new.self c.in-Ok.ensures c.args.set c.in-Ok-start.lanes c.in-Ok-reserve.conference c.requires.budget
    c.in-Ok-start.ensures.header (c.in-Ok-reserve.ensures sink) in
    inr (c.read_on-stop.ensures c.args.set c.args.budget (outside was sink) (beginning c.args.set c.in-Ok-start.lanes, k.0, k.1))
