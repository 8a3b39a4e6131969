use Rattle.std.proofs.Common.{◌≤◌, ◌-◌, length, All}
use Rattle.bridge_replay.proofs.Reserving.{IsFresh}
use Rattle.bridge_replay.proofs.conference.empty_depacks.Given as goal

abbrev pub invariant-loop-alloc : goal.invariant-loop-alloc
invariant-loop-alloc l = (length l.depacks.items ≤ l.lanes) × All IsFresh l.depacks.items

abbrev pub decreases-loop-alloc : goal.decreases-loop-alloc
decreases-loop-alloc l = l.lanes - length l.depacks.items
