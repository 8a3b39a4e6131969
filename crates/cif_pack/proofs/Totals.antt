-- The steps of all ticks of a conference.
use Rattle.std.proofs.Common.{ℕ, ◌+◌, ◌≤◌, [], ◌∷◌, arith}
use Rattle.cif_pack.specs.Laws.{TotalsAreSmall}
use Rattle.pel_model.specs.History.{History, Step, Tick, Post, Gap, Order, End, total_of}
use Rattle.pel_model.specs.Legal.{Legal}

one-step : (lanes : ℕ) (s : Step) (H : History) → Legal lanes (s ∷ H) → total_of (s ∷ H) ≤ total_of H + 31
one-step lanes (Post lane picture) H legal = omega arith
one-step lanes (Gap lane) H legal = omega arith
one-step lanes (Order command reply) H legal = omega arith
one-step lanes (Tick note) H legal = omega (arith, legal.2.high)
one-step lanes End H legal = omega arith

pub totals-are-small : TotalsAreSmall
totals-are-small lanes [] legal = omega arith
totals-are-small lanes (s ∷ H) legal = omega (arith, one-step lanes s H legal, totals-are-small lanes H legal.0)
