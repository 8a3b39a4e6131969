-- The sum is taken modulo 2^64 at once or after the product.
use Rattle.std.proofs.Common.{ℕ, ◌/◌, ◌^◌, ap}
use Rattle.conf_make.proofs.Drawn.{draws-on}
use Rattle.conf_make.proofs.draws.draw.Goals as goal

pub returns-clause-state : goal.returns-clause-state
returns-clause-state c = draws-on c.args.state.now

pub returns-clause-drawn : goal.returns-clause-drawn
returns-clause-drawn c = ap (λ (s : ℕ). s / 2 ^ 33) (draws-on c.args.state.now)
