-- A reader or a writer of `std::io` with the count of its faults.
use Rattle.std.specs.Prelude.{ℕ, refl}
use Rattle.std.specs.Coded.{Coded, code_by, coded×, coded_ℕ}

pub record EdgeState (Inner : Type 0) : Type 0 where
  pub inner : Inner
  pub faults : ℕ

-- such a pair is stored as a pair
abbrev pub edge_code : {Inner : Type 0} → Coded Inner → Coded (EdgeState Inner)
edge_code {Inner} inner_code =
    code_by (Inner × ℕ) (coded× inner_code coded_ℕ) (λ e. (e.inner, e.faults))
    (λ p. record { inner = p.0; faults = p.1 }) (λ _. refl)
