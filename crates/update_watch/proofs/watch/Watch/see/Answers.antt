-- Where a place is overdue, forced updating is broken.
use Rattle.std.proofs.Common.{◌≡◌, true, false, sym, subst, ◌∙◌}
use Rattle.h261_pic.specs.Coded.{coding}
use Rattle.pel_model.specs.Records.{Picture}
use Rattle.pel_model.specs.Valid.{IsValid}
use Rattle.update_watch.specs.Stands.{WatchState, Sees}
use Rattle.update_watch.proofs.Standing.{sees, knows-broken, knows-same}
use Rattle.update_watch.proofs.watch.Watch.see.Goals as goal

pub returns-then-is_some-clause-sees : goal.returns-then-is_some-clause-sees
returns-then-is_some-clause-sees c =
    let old : WatchState = record { format = c.self.inside.counts.format; counts = c.self.inside.counts.counts; kept = c.self.inside.kept } in
    let new : WatchState = record { format = c.count-overdue.new.self.format; counts = c.count-overdue.new.self.counts; kept = false } in
    subst (λ (w : WatchState). (p : Picture) → IsValid w.format p → c.args.picture.now ≡ coding w.format p → Sees p w new c.count-overdue.result) c.self.view_is
    (λ p valid is.
    sees old.format p old new c.count-overdue.result valid (c.count-overdue.ensures.counted p valid is)
    (knows-broken old.kept c.count-overdue.result (sym c.is_some.ensures ∙ c.if-is_some.true)))

pub returns-else-is_some-clause-sees : goal.returns-else-is_some-clause-sees
returns-else-is_some-clause-sees c =
    let old : WatchState = record { format = c.self.inside.counts.format; counts = c.self.inside.counts.counts; kept = c.self.inside.kept } in
    let new : WatchState = record { format = c.count-overdue.new.self.format; counts = c.count-overdue.new.self.counts; kept = c.self.inside.kept } in
    subst (λ (w : WatchState). (p : Picture) → IsValid w.format p → c.args.picture.now ≡ coding w.format p → Sees p w new c.count-overdue.result) c.self.view_is
    (λ p valid is.
    sees old.format p old new c.count-overdue.result valid (c.count-overdue.ensures.counted p valid is)
    (knows-same old.kept c.count-overdue.result (sym c.is_some.ensures ∙ c.if-is_some.false)))
