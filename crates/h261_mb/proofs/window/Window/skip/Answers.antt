use Rattle.std.proofs.Common.{ℕ, ◌≤◌, List, Bool, length, ap, arith}
use Rattle.h261_mb.proofs.Windows.{seen_long, seen-skipped}
use Rattle.h261_mb.proofs.window.Window.skip.Goals as goal

pub returns : goal.returns
returns c =
    let w = c.self.inside in
    let inside : c.args.count ≤ w.left = omega (arith, c.requires, seen_long w.rest w.left c.self.invariant, ap (λ (r : List Bool × ℕ). length r.0) c.self.view_is) in
    rw (← c.self.view_is) (seen-skipped w.rest w.left c.args.count c.self.invariant inside)
