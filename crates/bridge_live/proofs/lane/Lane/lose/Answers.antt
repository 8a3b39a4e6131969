-- A loss is a gap.
use Rattle.bridge_live.proofs.lane.Lane.lose.Goals as goal

pub returns-then-lost : goal.returns-then-lost
returns-then-lost g c = rw c.if-lost.true c.gap.ensures
