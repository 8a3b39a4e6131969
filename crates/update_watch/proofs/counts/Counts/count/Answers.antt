-- The marks are those of the picture's macroblocks.
use Rattle.std.proofs.Common.{◌≡◌, length, ap, sym, ◌∙◌}
use Rattle.h261_pic.specs.Coded.{Coding}
use Rattle.update_watch.specs.Counting.{Counts}
use Rattle.update_watch.proofs.Counted.{counts-picture}
use Rattle.update_watch.proofs.counts.Counts.count.Goals as goal

pub returns-clause-counted : goal.returns-clause-counted
returns-clause-counted c p valid is =
    let long : length c.args.self.now.counts ≡ 396 = ap (λ (k : Counts). length k.counts) (sym c.self.view_is) ∙ sym c.self.inside.counts.ok.0 ∙ c.self.invariant in
    counts-picture c.args.self.now.format p c.marks.result.now c.args.self.now c.count_marks.new.self c.count_marks.result valid long
    (c.marks.ensures ∙ ap (λ (k : Coding). k.marks) is) c.count_marks.ensures.counted c.count_marks.ensures.late
