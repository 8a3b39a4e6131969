-- All counts are 0.
use Rattle.std.proofs.Common.{ℕ, List, ap}
use Rattle.update_watch.specs.Counting.{Counts}
use Rattle.update_watch.proofs.counts.Counts.reserve.Goals as goal

pub returns : goal.returns
returns c =
    ap (λ (counts : List ℕ). record { format = c.args.format; counts = counts }) (c.in_ok-vec.ensures.items_if_clones_equal (λ y same. same))
