-- A stretch ends, and nothing is written.
use Rattle.update_watch.proofs.Lines.{refused-told}
use Rattle.update_watch.proofs.frames.WatcherTeller.gap.Goals as goal

pub returns : goal.returns
returns g c = refused-told c.args.self.now.counts c.clear.new.self c.args.self.now.lines c.args._number c.args._fault.place c.args._fault.why _ c.clear.ensures
