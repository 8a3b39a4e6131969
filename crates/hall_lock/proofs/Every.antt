-- What holds of each element of a list, by recursion on the list.
use Rattle.std.proofs.Common.{List, [], ◌∷◌, ◌++◌}
use Rattle.std.specs.List.{AllByRecursion}

module _ {X : Type 0} (P : X → Type 0) where
  pub every_append : (xs ys : List X) → AllByRecursion P xs → AllByRecursion P ys → AllByRecursion P (xs ++ ys)
  every_append [] ys a b = b
  every_append (x ∷ xs) ys a b = (a.0, every_append xs ys a.1 b)

  pub every_push : (xs : List X) (x : X) → AllByRecursion P xs → P x → AllByRecursion P (xs ++ x ∷ [])
  every_push xs x a p = every_append xs (x ∷ []) a (p, tt)

  pub every_front : (xs ys : List X) → AllByRecursion P (xs ++ ys) → AllByRecursion P xs
  every_front [] ys a = tt
  every_front (x ∷ xs) ys a = (a.0, every_front xs ys a.1)

  pub every_back : (xs ys : List X) → AllByRecursion P (xs ++ ys) → AllByRecursion P ys
  every_back [] ys a = a
  every_back (x ∷ xs) ys a = every_back xs ys a.1

module _ {X : Type 0} where
  pub every_weaker : (P Q : X → Type 0) → ((x : X) → P x → Q x) → (xs : List X) → AllByRecursion P xs → AllByRecursion Q xs
  every_weaker P Q to [] a = tt
  every_weaker P Q to (x ∷ xs) a = (to x a.0, every_weaker P Q to xs a.1)
