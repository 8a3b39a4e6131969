-- Each place of a macroblock of CIF is one of QCIF in one of the four places.
use Rattle.std.proofs.Common.{◌≡◌, inl, inr, ℕ, ◌+◌, ◌-◌, ◌*◌, ◌/◌, ◌%◌, ◌<◌, ◌==◌, Bool, true, false, cond, Option, None, refl, ap, arith}
use Rattle.std.proofs.lemmas.Bool.{cases_lt}
use Rattle.pel_model.specs.declared.Quad.{Quad}
use Rattle.pel_model.specs.declared.Quad.TheVariants.{One, Two, Three, Four}
use Rattle.pel_model.specs.Decode.{Quantised, group_of, address_of}
use Rattle.pel_model.specs.Regions.{right, below, blank}
use Rattle.update_laws.specs.Kept.{IsPlace, macroblock_of, sent_at}

-- the group and the address in the CIF picture of what stands in this column and row of a place
abbrev pub group_there : Quad → (column row : ℕ) → ℕ
group_there q column row = group_of (column + 11 * right q) (row + 9 * below q)

abbrev pub address_there : Quad → (column row : ℕ) → ℕ
address_there q column row = address_of (column + 11 * right q) (row + 9 * below q)

pub record StandsThere (group address : ℕ) : Type 0 where
  pub quad : Quad
  pub column : ℕ
  pub row : ℕ
  pub across : column < 11
  pub down : row < 9
  pub group_is : group_there quad column row ≡ group
  pub address_is : address_there quad column row ≡ address

abbrev column_of : ℕ → ℕ
column_of address = (address - 1) % 11

abbrev row_in : (group address : ℕ) → ℕ
row_in group address = 3 * ((group - 1) % 6 / 2) + (address - 1) / 11

quad-at : (r b : ℕ) → r < 2 → b < 2 → (q : Quad) × (right q ≡ r) × (below q ≡ b)
quad-at r b r_less b_less =
    elim (cases_lt r 1) as (λ _. (q : Quad) × (right q ≡ r) × (below q ≡ b)) [
      | inl left ↦
          elim (cases_lt b 1) as (λ _. (q : Quad) × (right q ≡ r) × (below q ≡ b)) [
            | inl high ↦ (One, omega (arith, left), omega (arith, high))
            | inr low ↦ (Three, omega (arith, left), omega (arith, low, b_less))
          ]
      | inr other ↦
          elim (cases_lt b 1) as (λ _. (q : Quad) × (right q ≡ r) × (below q ≡ b)) [
            | inl high ↦ (Two, omega (arith, other, r_less), omega (arith, high))
            | inr low ↦ (Four, omega (arith, other, r_less), omega (arith, low, b_less))
          ]
    ]

group-from : (group address r b : ℕ) → IsPlace group address → r ≡ (group - 1) % 2 → b ≡ (group - 1) / 6
    → group_of (column_of address + 11 * r) (row_in group address + 9 * b) ≡ group
group-from group address r b place across down =
    omega (arith, across, down, place.group_from, place.group_to, place.address_from, place.address_to)

address-from : (group address r b : ℕ) → IsPlace group address → r < 2
    → address_of (column_of address + 11 * r) (row_in group address + 9 * b) ≡ address
address-from group address r b place less =
    omega (arith, less, place.group_from, place.group_to, place.address_from, place.address_to)

pub stands-there : (group address : ℕ) → IsPlace group address → StandsThere group address
stands-there group address place =
    let q = quad-at ((group - 1) % 2) ((group - 1) / 6) (omega arith) (omega (arith, place.group_to)) in
    record {
      quad = q.0;
      column = column_of address;
      row = row_in group address;
      across = omega arith;
      down = omega (arith, place.address_from, place.address_to);
      group_is = group-from group address (right q.0) (below q.0) place q.1 q.2;
      address_is = address-from group address (right q.0) (below q.0) place (omega (arith, q.1));
    }

pub place-there : (q : Quad) (column row : ℕ) → column < 11 → row < 9 → IsPlace (group_there q column row) (address_there q column row)
place-there One column row across down = record { group_from = omega arith; group_to = omega arith; address_from = omega arith; address_to = omega arith }
place-there Two column row across down = record { group_from = omega arith; group_to = omega arith; address_from = omega arith; address_to = omega arith }
place-there Three column row across down = record { group_from = omega arith; group_to = omega arith; address_from = omega arith; address_to = omega arith }
place-there Four column row across down = record { group_from = omega arith; group_to = omega arith; address_from = omega arith; address_to = omega arith }

pub place-in-qcif : (column row : ℕ) → column < 11 → row < 9 → IsPlace (group_of column row) (address_of column row)
place-in-qcif column row across down = record { group_from = omega arith; group_to = omega arith; address_from = omega arith; address_to = omega arith }

-- a picture that sends nothing sends nothing there
none-either : (test : Bool) (rest : Option Quantised) → rest ≡ None → ◌≡◌ {A = Option Quantised} (cond test None rest) None
none-either true rest none = refl
none-either false rest none = none

pub blank-sends : (group address : ℕ) → sent_at group address blank ≡ None
blank-sends group address = ap macroblock_of
    (none-either (1 == group) (cond (3 == group) None (cond (5 == group) None None))
    (none-either (3 == group) (cond (5 == group) None None) (none-either (5 == group) None refl)))
