-- Sums over a list, where one element changes or stands alone.
use Rattle.std.proofs.Common.{◌≡◌, ◌≢◌, ℕ, zero, suc, ◌+◌, ◌≤◌, List, [], ◌∷◌, sum_by, set, sym, ap, refl, arith}
use Rattle.std.proofs.lemmas.List.Sums.{sum_by-cons}
use mathlib.Core.Option.{some, some-injective, some-ne-none}
use lib.ListN.{get_elem?}

module _ {X : Type 0} (f : X → ℕ) where
  pub sum_by-put : (xs : List X) (i : ℕ) (v w : X) → get_elem? xs i ≡ some v → sum_by f (set xs i w) + f v ≡ sum_by f xs + f w
  sum_by-put [] i v w at = absurd (some-ne-none v (sym at))
  sum_by-put (x ∷ xs) zero v w at = omega (arith, sum_by-cons f w xs, sum_by-cons f x xs, ap f (some-injective x v at))
  sum_by-put (x ∷ xs) (suc i) v w at = omega (arith, sum_by-cons f x (set xs i w), sum_by-cons f x xs, sum_by-put xs i v w at)

  pub sum_by-kept : (xs : List X) (i : ℕ) (v w : X) → get_elem? xs i ≡ some v → f w ≡ f v → sum_by f (set xs i w) ≡ sum_by f xs
  sum_by-kept xs i v w at e = omega (arith, sum_by-put xs i v w at)

  pub at_least : (xs : List X) (i : ℕ) (v : X) → get_elem? xs i ≡ some v → f v ≤ sum_by f xs
  at_least [] i v at = absurd (some-ne-none v (sym at))
  at_least (x ∷ xs) zero v at = omega (arith, sum_by-cons f x xs, ap f (some-injective x v at))
  at_least (x ∷ xs) (suc i) v at = omega (arith, sum_by-cons f x xs, at_least xs i v at)

  pub two_at_least : (xs : List X) (i j : ℕ) (v w : X) → j ≢ i → get_elem? xs i ≡ some v → get_elem? xs j ≡ some w → f v + f w ≤ sum_by f xs
  two_at_least [] i j v w apart at at' = absurd (some-ne-none v (sym at))
  two_at_least (x ∷ xs) zero zero v w apart at at' = absurd (apart refl)
  two_at_least (x ∷ xs) zero (suc j) v w apart at at' = omega (arith, sum_by-cons f x xs, ap f (some-injective x v at), at_least xs j w at')
  two_at_least (x ∷ xs) (suc i) zero v w apart at at' = omega (arith, sum_by-cons f x xs, ap f (some-injective x w at'), at_least xs i v at)
  two_at_least (x ∷ xs) (suc i) (suc j) v w apart at at' = omega (arith, sum_by-cons f x xs, two_at_least xs i j v w (λ e. apart (ap suc e)) at at')

  pub none_counts : (xs : List X) → ((j : ℕ) (w : X) → get_elem? xs j ≡ some w → f w ≡ 0) → sum_by f xs ≡ 0
  none_counts [] each = refl
  none_counts (x ∷ xs) each = omega (arith, sum_by-cons f x xs, each 0 x refl, none_counts xs (λ j w at. each (suc j) w at))

  pub one_counts : (xs : List X) (i : ℕ) (v : X) → get_elem? xs i ≡ some v → ((j : ℕ) (w : X) → j ≢ i → get_elem? xs j ≡ some w → f w ≡ 0) → sum_by f xs ≡ f v
  one_counts [] i v at each = absurd (some-ne-none v (sym at))
  one_counts (x ∷ xs) zero v at each = omega (arith, sum_by-cons f x xs, ap f (some-injective x v at), none_counts xs (λ j w at'. each (suc j) w (λ e. omega arith) at'))
  one_counts (x ∷ xs) (suc i) v at each = omega (arith, sum_by-cons f x xs, each 0 x (λ e. omega arith) refl, one_counts xs i v at (λ j w apart at'. each (suc j) w (λ e. apart (omega arith)) at'))
