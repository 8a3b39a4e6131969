use Rattle.std.proofs.Common.{sym, ◌∙◌}
use Rattle.io_edge.specs.Outside.{outside}
use Rattle.bridge_replay.proofs.Stopping.{none-of}
use Rattle.bridge_replay.proofs.Told.{all-told}
use Rattle.bridge_replay.proofs.telling.tell_on.Goals as goal

pub loop-account-preserved : goal.loop-account-preserved
loop-account-preserved g c =
    let was = c.loop-account.invariant in
    let on = was.stands in
    record {
      stands = (on.0, on.1, c.in-Ok.ensures.steps on.0 on.1 on.2);
      goes = λ budget before first. c.in-Ok.ensures.steps budget before (was.goes budget before first);
    }

pub returns : goal.returns
returns g c = λ budget before first.
    all-told budget before (outside (g.S.Source.tells c.loop-account.source) (g.K.Sink.tells c.loop-account.sink)) c.loop-account.reader c.loop-account.account c.loop-account.tally
    (c.loop-account.invariant.goes budget before first) (none-of c.loop-account.reader.lanes (sym c.is_reading.ensures ∙ c.loop-account-test.false))
