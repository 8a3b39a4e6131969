use Rattle.std.proofs.Common.{ℕ, List, Bool, length, ap, arith}
use Rattle.h261_mb.proofs.Windows.{seen_long, five-seen}
use Rattle.h261_mb.proofs.window.Window.mquant.Goals as goal

pub skip-requires : goal.skip-requires
skip-requires c =
    let w = c.self.inside in
    omega (arith, seen_long w.rest w.left c.self.invariant, ap (λ (r : List Bool × ℕ). length r.0) c.self.view_is)

pub returns-clause-taken : goal.returns-clause-taken
returns-clause-taken c =
    let w = c.self.inside in
    let good = five-seen w.rest w.left (omega arith) c.self.invariant (omega arith) in
    record { len = 5; good = rw (← c.self.view_is) good; behind = c.skip.ensures }
