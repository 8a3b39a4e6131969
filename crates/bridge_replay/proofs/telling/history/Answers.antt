use Rattle.bridge_replay.proofs.Complete.{complete-telling}
use Rattle.io_edge.specs.Outside.{outside}
use Rattle.bridge_replay.proofs.telling.history.Goals as goal

pub returns-clause-complete : goal.returns-clause-complete
returns-clause-complete g c =
    complete-telling c.one_reading.ensures c.fronts_decide.ensures c.args.budget
    (outside (g.S.Source.tells c.args.source.now) (g.K.Sink.tells c.args.sink.now)) (outside (g.S.Source.tells c.tell.new.source) (g.K.Sink.tells c.tell.new.sink))
    c.tell.result c.tell.ensures
