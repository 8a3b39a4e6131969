use Rattle.std.proofs.Common.{◌-◌, length}
use Rattle.h261_pic.proofs.EmptyGroups.{IsEmptied}
use Rattle.h261_pic.proofs.coded.Coded.add_empty_groups.Given as goal

abbrev pub invariant-loop-self : goal.invariant-loop-self
invariant-loop-self l = IsEmptied l.initial.self l.self l.place

abbrev pub decreases-loop-self : goal.decreases-loop-self
decreases-loop-self l = l.place - length l.self.groups
