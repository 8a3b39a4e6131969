-- Items seen as other items: their serials, and what may be shown, stay the same.
use Rattle.std.proofs.Common.{◌≡◌, ℕ, ◌+◌, ◌-◌, true, false, cond, Option, Some, None, List, [], ◌∷◌, length, map, filter, drop, refl, ap, ◌∙◌}
use Rattle.std.proofs.lemmas.List.{length-map}
use Rattle.std.specs.List.{drop-map}
use Rattle.std.specs.Option.{option_map}
use Rattle.pel_model.specs.declared.held.Held.{Held}
use Rattle.pel_model.specs.Lanes.{Arrival, Received, Missing, last_of, with_serials, is_above, held_above, may_follow, first_to_show, last_serial, low_by, low_after}
use Rattle.lane_ring.specs.Arrivals.{arrival_as, held_as, ViewLaw}

module _ {T U : Type 0} (f : T → U) where
  serials-seen : (n : ℕ) (xs : List (Arrival T)) → with_serials n (map (arrival_as f) xs) ≡ map (held_as f) (with_serials n xs)
  serials-seen n [] = refl
  serials-seen n (Received refresh x ∷ xs) =
      ap (λ hs. record { serial = n; refresh = refresh; item = f x } ∷ hs) (serials-seen (n + 1) xs)
  serials-seen n (Missing ∷ xs) = serials-seen (n + 1) xs

  above-seen : (low : ℕ) (hs : List (Held T)) → filter (is_above low) (map (held_as f) hs) ≡ map (held_as f) (filter (is_above low) hs)
  above-seen low [] = refl
  above-seen low (h ∷ hs) =
      elim (is_above low h) as (λ v. cond v (held_as f h ∷ filter (is_above low) (map (held_as f) hs)) (filter (is_above low) (map (held_as f) hs))
      ≡ map (held_as f) (cond v (h ∷ filter (is_above low) hs) (filter (is_above low) hs))) [
        | true ↦ ap (λ ks. held_as f h ∷ ks) (above-seen low hs)
        | false ↦ above-seen low hs
      ]

  last-seen : (n : ℕ) (hs : List (Held T)) → last_of n (map (held_as f) hs) ≡ map (held_as f) (last_of n hs)
  last-seen n hs =
      ap (λ k. drop (k - n) (map (held_as f) hs)) (length-map hs (held_as f)) ∙ drop-map (held_as f) (length hs - n) hs

  held-seen : (low : ℕ) (xs : List (Arrival T)) → held_above low (map (arrival_as f) xs) ≡ map (held_as f) (held_above low xs)
  held-seen low xs =
      ap (λ hs. last_of 8 (filter (is_above low) hs)) (serials-seen 1 xs)
      ∙ ap (last_of 8) (above-seen low (with_serials 1 xs))
      ∙ last-seen 8 (filter (is_above low) (with_serials 1 xs))

  first-seen : (last : Option ℕ) (hs : List (Held T)) → first_to_show last (map (held_as f) hs) ≡ option_map (held_as f) (first_to_show last hs)
  first-seen last [] = refl
  first-seen last (h ∷ hs) =
      elim (may_follow last h) as (λ v. cond v (Some (held_as f h)) (first_to_show last (map (held_as f) hs))
      ≡ option_map (held_as f) (cond v (Some h) (first_to_show last hs))) [
        | true ↦ refl
        | false ↦ first-seen last hs
      ]

  last_serial-seen : (hs : List (Held T)) (low : ℕ) → last_serial (map (held_as f) hs) low ≡ last_serial hs low
  last_serial-seen [] low = refl
  last_serial-seen (h ∷ hs) low = last_serial-seen hs h.serial

  by-seen : (found : Option (Held T)) (hs : List (Held T)) (low : ℕ) → low_by (option_map (held_as f) found) (map (held_as f) hs) low ≡ low_by found hs low
  by-seen None hs low = last_serial-seen hs low
  by-seen (Some h) hs low = refl

  low-seen : (last : Option ℕ) (hs : List (Held T)) (low : ℕ) → low_after last (map (held_as f) hs) low ≡ low_after last hs low
  low-seen last hs low =
      ap (λ found. low_by found (map (held_as f) hs) low) (first-seen last hs) ∙ by-seen (first_to_show last hs) hs low

pub view_law : {T U : Type 0} → ViewLaw T U
view_law = record {
  held = held-seen;
  first = first-seen;
  low = low-seen;
}
