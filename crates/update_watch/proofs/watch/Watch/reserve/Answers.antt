-- Nothing was seen.
use Rattle.std.proofs.Common.{true, [], sym, subst}
use Rattle.update_watch.specs.Counting.{Counts}
use Rattle.update_watch.specs.Stands.{StandsFor}
use Rattle.update_watch.proofs.Standing.{stands-nothing}
use Rattle.update_watch.proofs.watch.Watch.reserve.Goals as goal

pub returns-clause-stands : goal.returns-clause-stands
returns-clause-stands c =
    subst (λ (k : Counts). StandsFor (record { format = k.format; counts = k.counts; kept = true }) []) (sym c.in_ok-reserve.ensures) (stands-nothing c.args.format)
