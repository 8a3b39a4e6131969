use Rattle.std.proofs.Common.{◌≡◌, ℕ, ◌+◌, ◌%◌, ◌^◌, List, [], ◌∷◌, sum_by, ap, ◌∙◌, arith, zero-add}
use Rattle.std.proofs.lemmas.List.Sums.{sum_by-cons}
use Rattle.hall_lock.specs.declared.view.Turn.{Turn}
use Rattle.hall_lock.specs.declared.tests.Total.{Total}
use Rattle.hall_lock.specs.Turns.{Goes}
use Rattle.hall_lock.proofs.tests.close_at_the_sum.Goals as goal

abbrev steps : Total → ℕ → ℕ → Total → Type 0
steps m c r n = (r ≡ (m.total + c) % 2 ^ 64) × (n.total ≡ r)

call_of : Turn ℕ ℕ → ℕ
call_of t = t.call

sums : (m n : Total) (ts : List (Turn ℕ ℕ)) (a : ℕ) → m.total ≡ a % 2 ^ 64 → Goes steps m ts n → n.total ≡ (a + sum_by (λ t. t.call) ts) % 2 ^ 64
sums m n [] a is g = omega (arith, ap (λ (x : Total). x.total) g, is)
sums m n (t ∷ ts) a is g = sums g.0 n ts (a + t.call) (omega (arith, g.1.0, g.1.1)) g.2 ∙ omega (arith, sum_by-cons (λ (u : Turn ℕ ℕ). u.call) t ts)

pub returns : goal.returns
returns c =
    let sum = sums _ _ c.args.seat.seen 0 c.requires.2 c.close.ensures.closes.history.goes in
    ap (λ (x : Total). x.total) c.deref.ensures ∙ (sum ∙ ap (λ (n : ℕ). n % 2 ^ 64) (zero-add (sum_by (λ (u : Turn ℕ ℕ). u.call) c.args.seat.seen)))
