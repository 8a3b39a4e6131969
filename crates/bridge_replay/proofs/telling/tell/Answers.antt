use Rattle.std.proofs.Common.{inr}
use Rattle.io_edge.specs.Outside.{outside}
use Rattle.bridge_replay.proofs.Told.{begins-telling}
use Rattle.bridge_replay.proofs.telling.tell.Goals as goal

pub tell_on-requires : goal.tell_on-requires
tell_on-requires g c =
    let was = g.S.Source.tells c.args.source.now in
    let now = g.S.Source.tells c.start.new.source in
    let sink = g.K.Sink.tells c.args.sink.now in (
      c.args.budget,
      outside was sink,
      begins-telling c.args.budget was now sink c.in-Ok.reader c.start.new.self c.in-Ok-start.lanes c.in-Ok-reserve.account c.in-Ok.ensures c.requires
          c.in-Ok-start.ensures.header c.in-Ok-reserve.ensures,
    )

pub returns : goal.returns
returns g c =
    let was = g.S.Source.tells c.args.source.now in
    let now = g.S.Source.tells c.start.new.source in
    let sink = g.K.Sink.tells c.args.sink.now in
    inr (c.tell_on.ensures c.args.budget (outside was sink)
    (begins-telling c.args.budget was now sink c.in-Ok.reader c.start.new.self c.in-Ok-start.lanes c.in-Ok-reserve.account c.in-Ok.ensures c.requires
    c.in-Ok-start.ensures.header c.in-Ok-reserve.ensures))
