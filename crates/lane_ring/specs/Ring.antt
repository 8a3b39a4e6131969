-- What contracts see of a lane.
use Rattle.std.specs.Prelude.{ℕ, Bool, List, refl}
use Rattle.std.specs.Coded.{Coded, code_by, coded×, coded_list, coded_ℕ, coded_bool}
use Rattle.pel_model.specs.declared.held.Held.{Held}

-- the held items, the oldest first, the spare ones, and the serial that was given last
pub record LaneView (T : Type 0) : Type 0 where
  pub held : List (Held T)
  pub spares : List T
  pub count : ℕ

module _ {T : Type 0} where
  abbrev pub held_code : Coded T → Coded (Held T)
  held_code c =
      code_by (ℕ × (Bool × T)) (coded× coded_ℕ (coded× coded_bool c)) (λ h. (h.serial, (h.refresh, h.item)))
      (λ p. record { serial = p.0; refresh = p.1.0; item = p.1.1 }) (λ _. refl)

  abbrev pub lane_code : Coded T → Coded (LaneView T)
  lane_code c =
      code_by (List (Held T) × (List T × ℕ)) (coded× (coded_list (held_code c)) (coded× (coded_list c) coded_ℕ))
      (λ l. (l.held, (l.spares, l.count)))
      (λ p. record { held = p.0; spares = p.1.0; count = p.1.1 }) (λ _. refl)
