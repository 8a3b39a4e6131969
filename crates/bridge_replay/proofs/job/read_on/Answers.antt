use Rattle.std.proofs.Common.{sym, ◌∙◌}
use Rattle.io_edge.specs.Outside.{outside}
use Rattle.bridge_replay.proofs.Stopping.{done-so, none-of}
use Rattle.bridge_replay.proofs.job.read_on.Goals as goal

pub loop-conference-preserved : goal.loop-conference-preserved
loop-conference-preserved g c =
    let was = c.loop-conference.invariant in
    let on = was.stands in
    record {
      stands = (on.0, on.1, on.2, c.in-Ok.ensures.steps on.0 on.1 on.2 on.3);
      goes = λ set budget before first. c.in-Ok.ensures.steps set budget before (was.goes set budget before first);
    }

pub returns : goal.returns
returns g c = λ set budget before first.
    let on = c.loop-conference.invariant.goes set budget before first in
    done-so set budget before (outside (g.S.Source.tells c.loop-conference.source) (g.K.Sink.tells c.loop-conference.sink)) on.0 on.1 c.loop-conference.reader c.loop-conference.conference on.2
    (none-of c.loop-conference.reader.lanes (sym c.is_reading.ensures ∙ c.loop-conference-test.false))
