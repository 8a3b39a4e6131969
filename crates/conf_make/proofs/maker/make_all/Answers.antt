-- As the writing ended.
use Rattle.std.proofs.Common.{sym, subst}
use Rattle.conf_make.specs.declared.maker.MakeStop.{MakeStop}
use Rattle.conf_make.specs.Ends.{MakeStopsBy}
use Rattle.conf_make.proofs.Filing.{ended}
use Rattle.conf_make.proofs.maker.make_all.Goals as goal

pub returns : goal.returns
returns g c =
    let before = g.K.Sink.tells c.args.sink.now in
    let after = g.K.Sink.tells c.write_file.new.sink in
    let maker = c.args.maker.now in
    subst (λ (s : MakeStop). MakeStopsBy s maker.state c.args.ticks maker.lanes before after c.write_file.new.self.tally) (sym c.written_stop-stop.ensures)
    (ended c.write_file.result before after maker.state c.args.ticks maker.lanes c.write_file.new.self.tally c.write_file.ensures.file c.write_file.ensures.cause)
