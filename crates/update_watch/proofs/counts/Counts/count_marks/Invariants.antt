-- What the marks that are left make of the counts and of what is told is what all of them make of it.
use Rattle.std.proofs.Common.{◌≡◌, drop, None}
use Rattle.update_watch.specs.Counting.{counts_behind, late_marks, told_behind}
use Rattle.update_watch.proofs.counts.Counts.count_marks.Given as goal

abbrev pub invariant-loop-mark : goal.invariant-loop-mark
invariant-loop-mark l =
    (l.self.format ≡ l.fn.self.format)
    × (counts_behind l.self.counts (drop l.mark-index l.marks) ≡ counts_behind l.fn.self.counts l.fn.marks)
    × (told_behind l.overdue (late_marks l.self.counts (drop l.mark-index l.marks)) ≡ told_behind None (late_marks l.fn.self.counts l.fn.marks))
