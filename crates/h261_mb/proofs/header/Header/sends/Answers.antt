use Rattle.h261_mb.proofs.Patterns.{bit-of-six}
use Rattle.h261_mb.proofs.header.Header.sends.Goals as goal

pub returns : goal.returns
returns c = bit-of-six c.args.self.now.pattern c.args.block c.requires
