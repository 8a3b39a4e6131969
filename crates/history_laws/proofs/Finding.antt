-- What is held was received under its serial, and what is found in a list passes the test.
use Rattle.std.proofs.Common.{◌≡◌, ℕ, zero, suc, ◌+◌, ◌-◌, ◌<◌, ◌≤◌, Bool, true, false, cond, Option, Some, None, List, [], ◌∷◌, ◌++◌, length, filter, find, drop, slice_get, refl, sym, ap, subst, ◌∙◌, arith, length-append, append_assoc}
use Rattle.std.proofs.lemmas.Bool.Decides.{nat_tests}
use Rattle.std.proofs.lemmas.Option.{none-some}
use Rattle.pel_model.specs.declared.held.Held.{Held}
use Rattle.pel_model.specs.Lanes.{Arrival, Received, Missing, last_of, with_serials, is_above, held_above, may_follow, first_to_show}

-- ---- a fact of each element, by recursion

abbrev pub Each : {X : Type 0} → (X → Type 0) → List X → Type 0
Each P [] = Unit {0}
Each P (x ∷ xs) = P x × Each P xs

pub each-append : {X : Type 0} (P : X → Type 0) (xs ys : List X) → Each P xs → Each P ys → Each P (xs ++ ys)
each-append P [] ys e f = f
each-append P (x ∷ xs) ys e f = (e.0, each-append P xs ys e.1 f)

pub each-filter : {X : Type 0} (P : X → Type 0) (p : X → Bool) (xs : List X) → Each P xs → Each P (filter p xs)
each-filter P p [] e = tt
each-filter P p (x ∷ xs) e =
    elim (p x) as (λ v. Each P (cond v (x ∷ filter p xs) (filter p xs))) [
      | true ↦ (e.0, each-filter P p xs e.1)
      | false ↦ each-filter P p xs e.1
    ]

pub each-drop : {X : Type 0} (P : X → Type 0) (n : ℕ) (xs : List X) → Each P xs → Each P (drop n xs)
each-drop P zero xs e = e
each-drop P (suc n) [] e = tt
each-drop P (suc n) (x ∷ xs) e = each-drop P n xs e.1

pub each-get : {X : Type 0} (P : X → Type 0) (xs : List X) (n : ℕ) (x : X) → Each P xs → slice_get xs n ≡ Some x → P x
each-get P [] n x e found = absurd (none-some x found)
each-get P (y ∷ ys) zero x e found = let same : y ≡ x = cc in subst P same e.0
each-get P (y ∷ ys) (suc n) x e found = each-get P ys n x e.1 found

pub each-find : {X : Type 0} (P : X → Type 0) (p : X → Bool) (xs : List X) (x : X) → Each P xs → find p xs ≡ Some x → P x × (p x ≡ true)
each-find P p [] x e found = absurd (none-some x found)
each-find P p (y ∷ ys) x e found =
    elim (p y) as (λ v. p y ≡ v → cond v (Some y) (find p ys) ≡ Some x → P x × (p x ≡ true)) [
      | true ↦ λ passes here. let same : y ≡ x = cc in (subst P same e.0, ap p (sym same) ∙ passes)
      | false ↦ λ fails there. each-find P p ys x e.1 there
    ] refl found

-- ---- held items

module _ {T : Type 0} where
  -- the item was received under its serial
  pub record IsFrom (came : List (Arrival T)) (low : ℕ) (h : Held T) : Type 0 where
    pub from_one : 1 ≤ h.serial
    pub above : low < h.serial
    pub given : h.serial ≤ length came
    pub received : slice_get came (h.serial - 1) ≡ Some (Received h.refresh h.item)

  -- behind as many arrivals as `front` has
  get-behind : (front : List (Arrival T)) (x : Arrival T) (xs : List (Arrival T)) → slice_get (front ++ x ∷ xs) (length front) ≡ Some x
  get-behind [] x xs = refl
  get-behind (y ∷ ys) x xs = get-behind ys x xs

  abbrev WasReceived : List (Arrival T) → Held T → Type 0
  WasReceived came h = (1 ≤ h.serial) × (h.serial ≤ length came) × (slice_get came (h.serial - 1) ≡ Some (Received h.refresh h.item))

  were-received : (came front : List (Arrival T)) (n : ℕ) (xs : List (Arrival T)) → front ++ xs ≡ came → n ≡ length front + 1 →
      Each (WasReceived came) (with_serials n xs)
  were-received came front n [] whole at = tt
  were-received came front n (Received refresh x ∷ xs) whole at = (
    (
      omega arith,
      omega (arith, sym (ap length whole) ∙ length-append front (Received refresh x ∷ xs)),
      ap (slice_get came) (omega arith) ∙ ap (λ ys. slice_get ys (length front)) (sym whole) ∙ get-behind front (Received refresh x) xs,
    ),
    were-received came (front ++ Received refresh x ∷ []) (n + 1) xs (append_assoc front (Received refresh x ∷ []) xs ∙ whole)
        (omega (arith, length-append front (Received refresh x ∷ []))),
  )
  were-received came front n (Missing ∷ xs) whole at =
      were-received came (front ++ Missing ∷ []) (n + 1) xs (append_assoc front (Missing ∷ []) xs ∙ whole)
      (omega (arith, length-append front (Missing ∷ [])))

  each-above : (came : List (Arrival T)) (low : ℕ) (hs : List (Held T)) → Each (WasReceived came) hs → Each (IsFrom came low) (filter (is_above low) hs)
  each-above came low [] e = tt
  each-above came low (h ∷ hs) e =
      elim (is_above low h) as (λ v. is_above low h ≡ v → Each (IsFrom came low) (cond v (h ∷ filter (is_above low) hs) (filter (is_above low) hs))) [
        | true ↦ λ passes. (
          record { from_one = e.0.0; above = grind (arith, nat_tests); given = e.0.1; received = e.0.2 },
          each-above came low hs e.1,
        )
        | false ↦ λ fails. each-above came low hs e.1
      ] refl

  pub each-held : (came : List (Arrival T)) (low : ℕ) → Each (IsFrom came low) (held_above low came)
  each-held came low =
      each-drop (IsFrom came low) _ (filter (is_above low) (with_serials 1 came))
      (each-above came low (with_serials 1 came) (were-received came [] 1 came refl refl))

  -- the item that is taken was received, and may be shown
  pub first-from : (came : List (Arrival T)) (low : ℕ) (last : Option ℕ) (h : Held T) → first_to_show last (held_above low came) ≡ Some h →
      IsFrom came low h × (may_follow last h ≡ true)
  first-from came low last h found = each-find (IsFrom came low) (may_follow last) (held_above low came) h (each-held came low) found
