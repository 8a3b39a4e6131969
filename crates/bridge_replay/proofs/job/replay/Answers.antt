use Rattle.bridge_replay.proofs.Complete.{complete}
use Rattle.bridge_replay.proofs.WrittenReadsBack.{reads-back}
use Rattle.io_edge.specs.Outside.{outside}
use Rattle.bridge_replay.proofs.job.replay.Goals as goal

pub returns-clause-complete : goal.returns-clause-complete
returns-clause-complete g c =
    complete c.one_reading.ensures c.fronts_decide.ensures c.args.set c.args.budget
    (outside (g.S.Source.tells c.args.source.now) (g.K.Sink.tells c.args.sink.now)) (outside (g.S.Source.tells c.run.new.source) (g.K.Sink.tells c.run.new.sink))
    c.run.result c.run.ensures

pub returns-clause-read_back : goal.returns-clause-read_back
returns-clause-read_back g c lanes history legal =
    reads-back c.packets_are_read_back.ensures.pictures c.args.set lanes history legal
