-- A stretch ends, and nothing is written.
use Rattle.update_watch.proofs.Lines.{lost-told}
use Rattle.update_watch.proofs.frames.WatcherTeller.loss.Goals as goal

pub returns : goal.returns
returns g c = lost-told c.args.self.now.counts c.clear.new.self c.args.self.now.lines c.args._number _ c.clear.ensures
