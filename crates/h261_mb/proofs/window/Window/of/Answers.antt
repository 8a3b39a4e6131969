use Rattle.h261_mb.proofs.Windows.{seen-whole}
use Rattle.h261_mb.proofs.window.Window.of.Goals as goal

pub returns : goal.returns
returns c = seen-whole c.window.result c.args.r.now.0 c.requires c.window.ensures
