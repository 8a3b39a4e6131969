-- Beginnings of a history, the turns that lead on, and the counts of places.
use Rattle.std.proofs.Common.{◌≡◌, ℕ, zero, suc, ◌+◌, ◌≤◌, ◌<◌, Bool, true, false, cond, eqb, leb, List, [], ◌∷◌, ◌++◌, length, set, sym, ap, refl, ◌∙◌, subst, arith, append_assoc, append-nil, length-append, Option, Some, None}
use Rattle.std.proofs.lemmas.List.Sums.{sum_by-cons, sum_by-append}
use Rattle.std.proofs.lemmas.List.Elements.{All-push}
use Rattle.std.proofs.lemmas.Bool.Decides.{nat_tests}
use mathlib.Core.List.{IsPrefix}
use mathlib.Core.Option.{some, some-ne-none}
use lib.ListN.{get_elem?}
use Rattle.hall_lock.specs.Rule.{waits, is_at}
use Rattle.hall_lock.specs.declared.view.Turn.{Turn}
use Rattle.hall_lock.specs.Turns.{Goes, Leads}
use Rattle.hall_lock.specs.Places.{times, one_below}
use Rattle.hall_lock.specs.AtTable.{LeadsFrom, FitsFrom, turn_of}

module _ {A : Type 0} where
  -- each list begins with itself
  pub prefix_self : (xs : List A) → IsPrefix xs xs
  prefix_self xs = ([], append-nil xs)

  pub prefix_more : (xs ys : List A) → IsPrefix xs (xs ++ ys)
  prefix_more xs ys = (ys, refl)

  pub prefix_trans : (xs ys zs : List A) → IsPrefix xs ys → IsPrefix ys zs → IsPrefix xs zs
  prefix_trans xs ys zs p q = (p.0 ++ q.0, sym (append_assoc xs p.0 q.0) ∙ (ap (λ w. w ++ q.0) p.1 ∙ q.1))

  -- of two beginnings of one list the shorter begins the longer
  pub prefix_shorter : (xs ys zs : List A) → IsPrefix xs zs → IsPrefix ys zs → length xs ≤ length ys → IsPrefix xs ys
  prefix_shorter [] ys zs p q le = (ys, refl)
  prefix_shorter (x ∷ xs) [] zs p q le = absurd (omega arith)
  prefix_shorter (x ∷ xs) (y ∷ ys) [] p q le = absurd (cc (p.1))
  prefix_shorter (x ∷ xs) (y ∷ ys) (z ∷ zs) p q le =
      let heads : x ≡ y = cc (p.1, q.1) in
      let rest = prefix_shorter xs ys zs (p.0, cc (p.1)) (q.0, cc (q.1)) (omega arith) in
      (rest.0, cc (heads, rest.1))

  -- a beginning as long as the whole is the whole
  pub prefix_whole : (xs ys : List A) → IsPrefix xs ys → length ys ≤ length xs → xs ≡ ys
  prefix_whole [] [] p le = refl
  prefix_whole [] (y ∷ ys) p le = absurd (omega arith)
  prefix_whole (x ∷ xs) [] p le = absurd (cc (p.1))
  prefix_whole (x ∷ xs) (y ∷ ys) p le =
      let rest = prefix_whole xs ys (p.0, cc (p.1)) (omega arith) in cc (p.1, rest)

  pub prefix_length : (xs ys : List A) → IsPrefix xs ys → length xs ≤ length ys
  prefix_length xs ys p = omega (arith, sym (ap length p.1) ∙ length-append xs p.0)

  -- the longer and the shorter of two beginnings of one list
  pub of_two : (xs ys zs : List A) → IsPrefix xs zs → IsPrefix ys zs → (b : Bool) → leb (length xs) (length ys) ≡ b
      → IsPrefix (cond b ys xs) zs × IsPrefix (cond b xs ys) (cond b ys xs)
  of_two xs ys zs p q true e = (q, prefix_shorter xs ys zs p q (grind (arith, nat_tests)))
  of_two xs ys zs p q false e = (p, prefix_shorter ys xs zs q p (grind (arith, nat_tests)))

  -- neither is longer than the longer one
  pub longest : (xs ys : List A) (b : Bool) → leb (length xs) (length ys) ≡ b → (length xs ≤ length (cond b ys xs)) × (length ys ≤ length (cond b ys xs))
  longest xs ys true e = (grind (arith, nat_tests), omega arith)
  longest xs ys false e = (omega arith, grind (arith, nat_tests))

module _ {M C R S : Type 0} (shape : M → S) (fits : S → C → Type 0) (steps : M → C → R → M → Type 0) where
  goes_on : (m n k : M) (ts : List (Turn C R)) (t : Turn C R) → Goes steps m ts n → steps n t.call t.reply k → Goes steps m (ts ++ t ∷ []) k
  goes_on m n k [] t g st = (k, subst (λ x. steps x t.call t.reply k) (sym g) st, refl)
  goes_on m n k (u ∷ us) t g st = (g.0, g.1, goes_on g.0 n k us t g.2 st)

  -- one turn more
  pub leads_on : (m n k : M) (ts : List (Turn C R)) (t : Turn C R) → Leads shape fits steps m ts n → fits (shape m) t.call → steps n t.call t.reply k → Leads shape fits steps m (ts ++ t ∷ []) k
  leads_on m n k ts t l fit st = record { calls_fit = All-push (λ (u : Turn C R). fits (shape m) u.call) ts t l.calls_fit fit; goes = goes_on m n k ts t l.goes st }

  -- the shape stays
  pub shape_stays : ((m : M) (c : C) (r : R) (n : M) → steps m c r n → shape n ≡ shape m) → (m n : M) (ts : List (Turn C R)) → Goes steps m ts n → shape n ≡ shape m
  shape_stays law m n [] g = ap shape (sym g)
  shape_stays law m n (t ∷ ts) g = shape_stays law g.0 n ts g.2 ∙ law m t.call t.reply g.0 g.1

  module _ (law : (m : M) (c : C) (r : R) (n : M) → steps m c r n → shape n ≡ shape m) where
    -- a call that the opening machine may be asked may be asked of each later one
    pub fits_there : (o : Option M) (ts : List (Turn C R)) (n : M) (c : C) → LeadsFrom shape fits steps o ts n → FitsFrom shape fits steps o c → fits (shape n) c
    fits_there o ts n c led asked = subst (λ (x : S). fits x c) (ap shape (cc (asked.1, led.1)) ∙ sym (shape_stays law led.0 n ts led.2.goes)) asked.2

    pub led_on : (o : Option M) (ts : List (Turn C R)) (n k : M) (c : C) (r : R) → LeadsFrom shape fits steps o ts n → FitsFrom shape fits steps o c → steps n c r k → LeadsFrom shape fits steps o (ts ++ turn_of c r ∷ []) k
    led_on o ts n k c r led asked st = (led.0, led.1, leads_on led.0 n k ts (turn_of c r) led.2 (subst (λ (x : M). fits (shape x) c) (cc (asked.1, led.1)) asked.2) st)

pub times-append : (x : ℕ) (xs ys : List ℕ) → times x (xs ++ ys) ≡ times x xs + times x ys
times-append x xs ys = sum_by-append (λ (y : ℕ). cond (eqb y x) 1 0) xs ys

pub times_one : (x y : ℕ) → times x (y ∷ []) ≡ cond (eqb y x) 1 0
times_one x y = omega (arith, sum_by-cons (λ (z : ℕ). cond (eqb z x) 1 0) y [])

pub one_below-yes : (n x : ℕ) → x < n → one_below n x ≡ 1
one_below-yes n x lt = grind (arith, nat_tests)

pub one_below-no : (n x : ℕ) → n ≤ x → one_below n x ≡ 0
one_below-no n x le = grind (arith, nat_tests)

pub one_below-le : (n x : ℕ) → one_below n x ≤ 1
one_below-le n x = grind (arith, nat_tests)

-- one place more
pub one_below-more : (n x : ℕ) → one_below n x + cond (eqb n x) 1 0 ≡ one_below (n + 1) x
one_below-more n x = grind (arith, nat_tests)

-- one ticket more is drawn
pub waits-drawn : (turn k x : ℕ) → turn ≤ k → waits turn k x + cond (eqb k x) 1 0 ≡ waits turn (k + 1) x
waits-drawn turn k x le = grind (arith, nat_tests)

-- one ticket more is passed
pub waits-passed : (turn k x : ℕ) → turn < k → waits (turn + 1) k x + cond (eqb turn x) 1 0 ≡ waits turn k x
waits-passed turn k x lt = grind (arith, nat_tests)

pub waits-le : (turn k x : ℕ) → waits turn k x ≤ 1
waits-le turn k x = grind (arith, nat_tests)

pub waits-here : (turn k : ℕ) → 1 ≤ waits turn k turn → turn < k
waits-here turn k h = grind (arith, nat_tests)

pub is_at-yes : (x : ℕ) (o : Option ℕ) → is_at x o ≡ true → o ≡ Some x
is_at-yes x None e = absurd cc
is_at-yes x (Some k) e = ap Some (grind (arith, nat_tests))

pub is_at-here : (x : ℕ) → is_at x (Some x) ≡ true
is_at-here x = grind (arith, nat_tests)

pub set_at_here : {A : Type 0} (l : List A) (i : ℕ) (a b : A) → get_elem? l i ≡ some a → get_elem? (set l i b) i ≡ some b
set_at_here [] i a b e = absurd (some-ne-none a (sym e))
set_at_here (x ∷ xs) zero a b e = refl
set_at_here (x ∷ xs) (suc i) a b e = set_at_here xs i a b e
