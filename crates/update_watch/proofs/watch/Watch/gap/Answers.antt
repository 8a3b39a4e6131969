-- A stretch ends.
use Rattle.std.proofs.Common.{sym, subst}
use Rattle.update_watch.specs.Counting.{Counts}
use Rattle.update_watch.specs.Stands.{WatchState, PassesGap}
use Rattle.update_watch.proofs.Standing.{passes-gap}
use Rattle.update_watch.proofs.watch.Watch.gap.Goals as goal

pub returns : goal.returns
returns c =
    let old : WatchState = record { format = c.self.inside.counts.format; counts = c.self.inside.counts.counts; kept = c.self.inside.kept } in
    subst (λ (w : WatchState). PassesGap w (record { format = c.clear.new.self.format; counts = c.clear.new.self.counts; kept = c.self.inside.kept })) c.self.view_is
    (subst (λ (k : Counts). PassesGap old (record { format = k.format; counts = k.counts; kept = c.self.inside.kept })) (sym c.clear.ensures) (passes-gap old))
