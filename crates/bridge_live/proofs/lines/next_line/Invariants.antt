-- What was taken of the line, octet by octet.
use Rattle.std.proofs.Common.{◌-◌}
use Rattle.bridge_live.proofs.Lining.{TookSoFar}
use Rattle.bridge_live.proofs.lines.next_line.Given as goal

abbrev pub invariant-loop-next : goal.invariant-loop-next
invariant-loop-next g l = TookSoFar (g.S.Source.tells l.fn.source) (g.S.Source.tells l.source) l.fn.allowance l.allowance l.line.items

abbrev pub decreases-loop-next : goal.decreases-loop-next
decreases-loop-next g l = l.allowance.budget - l.allowance.taken
