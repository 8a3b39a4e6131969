-- Ranks, when a lane's rank becomes the greatest.
use Rattle.std.proofs.Common.{◌≡◌, ◌≢◌, ◌⊎◌, inl, inr, ℕ, ◌+◌, ◌-◌, ◌<◌, ◌≤◌, nat_lt, nat_eq, true, false, ◌&&◌, cond, List, [], ◌∷◌, length, map, get_or, set, refl, sym, ap, ap₂, subst, ◌∙◌, arith, length-set, length-append, length-drop, take, drop, ◌++◌, replicate, if◌then◌else◌}
use Rattle.std.proofs.lemmas.Bool.{false≢true}
use Rattle.std.proofs.lemmas.Bool.Decides.{nat_tests}
use Rattle.std.proofs.lemmas.List.{get_or-replicate, get_or-set_same, get_or-set_other, get_or-map, length-map, length-take-le}
use Rattle.std.proofs.lemmas.List.Sums.{sum_by-set, sum_by-cons}
use Rattle.stage_plan.specs.Places.{IsRanking, ranked}
use Rattle.stage_plan.specs.Ranks.{closed_up, Raises}

-- the cases of a rank that closes up
by_gap : (P : ℕ → Type 0) (gone r : ℕ) → (gone ≡ 0 → P r) → (0 < gone → gone < r → P (r - 1)) → (0 < gone → r ≤ gone → P r) → P (closed_up gone r)
by_gap P gone r none above under =
    elim (nat_lt 0 gone) as (λ v. nat_lt 0 gone ≡ v → P (if v && nat_lt gone r then r - 1 else r)) [
      | true ↦ λ some.
          let low : 0 < gone = grind (arith, nat_tests) in
          elim (nat_lt gone r) as (λ w. nat_lt gone r ≡ w → P (if w then r - 1 else r)) [
            | true ↦ λ e. above low (grind (arith, nat_tests))
            | false ↦ λ e. under low (grind (arith, nat_tests))
          ] refl
      | false ↦ λ e. none (grind (arith, nat_tests))
    ] refl

same_test : (a b c d : ℕ) → (a < b → c < d) → (c < d → a < b) → nat_lt a b ≡ nat_lt c d
same_test a b c d there back =
    elim (nat_lt a b) as (λ v. nat_lt a b ≡ v → v ≡ nat_lt c d) [
      | true ↦ λ e. let lower : c < d = there (grind (arith, nat_tests)) in grind (arith, nat_tests)
      | false ↦ λ e. elim (nat_lt c d) as (λ w. nat_lt c d ≡ w → false ≡ w) [
        | true ↦ λ f. let lower : a < b = back (grind (arith, nat_tests)) in grind (arith, nat_tests)
        | false ↦ λ f. refl
      ] refl
    ] refl

-- the rank that is taken away is another one, if any is
abbrev IsApart : ℕ → ℕ → Type 0
IsApart gone r = (gone ≡ 0) ⊎ (r ≢ gone)

strictly : (gone r : ℕ) → IsApart gone r → 0 < gone → r ≤ gone → r < gone
strictly gone r (inl e) low under = absurd (omega arith)
strictly gone r (inr differ) low under =
    elim (nat_lt r gone) as (λ v. nat_lt r gone ≡ v → r < gone) [
      | true ↦ λ e. grind (arith, nat_tests)
      | false ↦ λ e. let upper : gone ≤ r = grind (arith, nat_tests) in absurd (differ (omega arith))
    ] refl

closed_up-below : (gone r k n : ℕ) → IsApart gone r → r ≤ k → gone ≤ k → n + cond (nat_lt 0 gone) 1 0 ≡ k → closed_up gone r < n + 1
closed_up-below gone r k n apart within gone_within counted =
    by_gap (λ x. x < n + 1) gone r
    (λ e. let none : nat_lt 0 gone ≡ false = grind (arith, nat_tests) in
    let same : n + 0 ≡ k = subst (λ b. n + cond b 1 0 ≡ k) none counted in omega arith)
    (λ low above. let some : nat_lt 0 gone ≡ true = grind (arith, nat_tests) in
    let same : n + 1 ≡ k = subst (λ b. n + cond b 1 0 ≡ k) some counted in omega arith)
    (λ low under. let some : nat_lt 0 gone ≡ true = grind (arith, nat_tests) in
    let same : n + 1 ≡ k = subst (λ b. n + cond b 1 0 ≡ k) some counted in
    let other : r < gone = strictly gone r apart low under in omega arith)

closed_up-order : (gone a b : ℕ) → IsApart gone a → IsApart gone b → nat_lt (closed_up gone a) (closed_up gone b) ≡ nat_lt a b
closed_up-order gone a b apart_a apart_b =
    by_gap (λ x. nat_lt x (closed_up gone b) ≡ nat_lt a b) gone a
    (λ e. by_gap (λ y. nat_lt a y ≡ nat_lt a b) gone b (λ _. refl) (λ low above. absurd (omega arith)) (λ low under. refl))
    (λ low above. by_gap (λ y. nat_lt (a - 1) y ≡ nat_lt a b) gone b
    (λ e. absurd (omega arith))
    (λ low' above'. same_test (a - 1) (b - 1) a b (λ h. omega arith) (λ h. omega arith))
    (λ low' under. let other = strictly gone b apart_b low under in same_test (a - 1) b a b (λ h. omega arith) (λ h. omega arith)))
    (λ low under. let other = strictly gone a apart_a low under in by_gap (λ y. nat_lt a y ≡ nat_lt a b) gone b
    (λ e. refl)
    (λ low' above. same_test a (b - 1) a b (λ h. omega arith) (λ h. omega arith))
    (λ low' under'. refl))

closed_up-same : (gone a b : ℕ) → IsApart gone a → IsApart gone b → closed_up gone a ≡ closed_up gone b → a ≡ b
closed_up-same gone a b apart_a apart_b =
    by_gap (λ x. x ≡ closed_up gone b → a ≡ b) gone a
    (λ e. by_gap (λ y. a ≡ y → a ≡ b) gone b (λ _ h. h) (λ low above. absurd (omega arith)) (λ low under h. h))
    (λ low above. by_gap (λ y. a - 1 ≡ y → a ≡ b) gone b
    (λ e. absurd (omega arith))
    (λ low' above' h. omega arith)
    (λ low' under h. let other = strictly gone b apart_b low under in omega arith))
    (λ low under. let other = strictly gone a apart_a low under in by_gap (λ y. a ≡ y → a ≡ b) gone b
    (λ e h. h)
    (λ low' above h. omega arith)
    (λ low' under' h. h))

closed_up-zero : (gone r : ℕ) → closed_up gone r ≡ 0 → r ≡ 0
closed_up-zero gone r = by_gap (λ x. x ≡ 0 → r ≡ 0) gone r (λ _ h. h) (λ low above h. omega arith) (λ _ _ h. h)

closed_up-nothing : (gone : ℕ) → closed_up gone 0 ≡ 0
closed_up-nothing gone = by_gap (λ x. x ≡ 0) gone 0 (λ _. refl) (λ low above. absurd (omega arith)) (λ _ _. refl)

closed_up-some : (gone r : ℕ) → nat_lt 0 (closed_up gone r) ≡ nat_lt 0 r
closed_up-some gone r = by_gap (λ x. nat_lt 0 x ≡ nat_lt 0 r) gone r
    (λ _. refl) (λ low above. same_test 0 (r - 1) 0 r (λ h. omega arith) (λ h. omega arith)) (λ _ _. refl)

closed_up-own : (gone : ℕ) → closed_up gone gone ≡ gone
closed_up-own gone = by_gap (λ x. x ≡ gone) gone gone (λ _. refl) (λ low above. absurd (omega arith)) (λ _ _. refl)

-- no lane has a rank at first
abbrev pub unranked : List ℕ
unranked = replicate 16 0

no_rank : (c : ℕ) → c < 16 → get_or unranked c 0 ≡ 0
no_rank c within = get_or-replicate 16 c 0 0 within

pub IsRanking-none : IsRanking unranked
IsRanking-none = record {
  lanes = refl;
  bound = λ c within. omega (arith, no_rank c within);
  differ = λ c d hc hd same. inl (no_rank c hc);
}

pub order-none : (c d : ℕ) → c < 16 → d < 16 → nat_lt (get_or unranked c 0) (get_or unranked d 0) ≡ false
order-none c d hc hd = ap₂ nat_lt (no_rank c hc) (no_rank d hd)

-- a list keeps its length while it is mapped
pub length-mapped : (f : ℕ → ℕ) (xs : List ℕ) (i : ℕ) → i ≤ length xs → length (map f (take i xs) ++ drop i xs) ≡ length xs
length-mapped f xs i within =
    omega (arith, length-append (map f (take i xs)) (drop i xs), length-map (take i xs) f, length-take-le i xs within, length-drop i xs)

-- closing up keeps how many lanes have a rank
ranked-map : (gone : ℕ) (ranks : List ℕ) → ranked (map (closed_up gone) ranks) ≡ ranked ranks
ranked-map gone [] = refl
ranked-map gone (r ∷ ranks) =
    rw (
      sum_by-cons (λ x. cond (nat_lt 0 x) 1 0) (closed_up gone r) (map (closed_up gone) ranks),
      sum_by-cons (λ x. cond (nat_lt 0 x) 1 0) r ranks,
      closed_up-some gone r,
      ranked-map gone ranks,
    ) refl

-- the ranks after a lane spoke
abbrev pub raised : List ℕ → ℕ → List ℕ
raised old lane =
    set (set (map (closed_up (get_or old lane 0)) old) lane 0) lane
    (ranked (set (map (closed_up (get_or old lane 0)) old) lane 0) + 1)

module _ (old : List ℕ) (lane : ℕ) (r : IsRanking old) (inside : lane < 16) where
  abbrev gone : ℕ
  gone = get_or old lane 0

  abbrev closed : List ℕ
  closed = map (closed_up gone) old

  abbrev cleared : List ℕ
  cleared = set closed lane 0

  abbrev greatest : ℕ
  greatest = ranked cleared + 1

  abbrev after : List ℕ
  after = set cleared lane greatest

  length-closed : length closed ≡ 16
  length-closed = length-map old (closed_up gone) ∙ r.lanes

  length-cleared : length cleared ≡ 16
  length-cleared = length-set closed lane 0 ∙ length-closed

  at_lane : get_or after lane 0 ≡ greatest
  at_lane = get_or-set_same cleared lane greatest 0 (omega (arith, length-cleared))

  at_other : (c : ℕ) → c < 16 → c ≢ lane → get_or after c 0 ≡ closed_up gone (get_or old c 0)
  at_other c within differ =
      get_or-set_other cleared lane c greatest 0 differ
      ∙ get_or-set_other closed lane c 0 0 differ
      ∙ get_or-map (closed_up gone) old c 0 0 (omega (arith, r.lanes))

  apart : (c : ℕ) → c < 16 → c ≢ lane → IsApart gone (get_or old c 0)
  apart c within differ =
      elim (nat_eq gone 0) as (λ v. nat_eq gone 0 ≡ v → IsApart gone (get_or old c 0)) [
        | true ↦ λ e. inl (grind (arith, nat_tests))
        | false ↦ λ e. inr (λ same. elim (r.differ c lane within inside same) [
          | inl none ↦ some_gone e (sym same ∙ none)
          | inr equal ↦ differ equal
        ])
      ] refl
    where
      some_gone : nat_eq gone 0 ≡ false → gone ≡ 0 → ⊥
      some_gone e z = let f : nat_eq gone 0 ≡ true = grind (arith, nat_tests) in false≢true (sym e ∙ f)

  counted : ranked cleared + cond (nat_lt 0 gone) 1 0 ≡ ranked old
  counted =
      let own : get_or closed lane 0 ≡ gone =
      get_or-map (closed_up gone) old lane 0 0 (omega (arith, r.lanes)) ∙ closed_up-own gone in
      let sums = sum_by-set (λ x. cond (nat_lt 0 x) 1 0) closed lane 0 0 (omega (arith, length-closed)) in
      let whole : ranked closed ≡ ranked old = ranked-map gone old in
      let here : ranked cleared + cond (nat_lt 0 gone) 1 0 ≡ ranked closed + 0 =
      subst (λ x. ranked cleared + cond (nat_lt 0 x) 1 0 ≡ ranked closed + 0) own sums in
      omega arith

  ranked-after : ranked after ≡ greatest
  ranked-after =
      let none : get_or cleared lane 0 ≡ 0 = get_or-set_same closed lane 0 0 (omega (arith, length-closed)) in
      let sums = sum_by-set (λ x. cond (nat_lt 0 x) 1 0) cleared lane greatest 0 (omega (arith, length-cleared)) in
      let some : nat_lt 0 greatest ≡ true = grind (arith, nat_tests) in
      let left : ranked after + 0 ≡ ranked cleared + cond (nat_lt 0 greatest) 1 0 =
      subst (λ x. ranked after + cond (nat_lt 0 x) 1 0 ≡ ranked cleared + cond (nat_lt 0 greatest) 1 0) none sums in
      let whole : ranked after + 0 ≡ ranked cleared + 1 =
      subst (λ b. ranked after + 0 ≡ ranked cleared + cond b 1 0) some left in
      omega arith

  below_greatest : (c : ℕ) → c < 16 → c ≢ lane → get_or after c 0 < greatest
  below_greatest c within differ =
      subst (λ x. x < greatest) (sym (at_other c within differ))
      (closed_up-below gone (get_or old c 0) (ranked old) (ranked cleared) (apart c within differ) (r.bound c within) (r.bound lane inside) counted)

  by_lane : (P : ℕ → Type 0) → P lane → ((c : ℕ) → c < 16 → c ≢ lane → P c) → (c : ℕ) → c < 16 → P c
  by_lane P here there c within =
      elim (nat_eq c lane) as (λ v. nat_eq c lane ≡ v → P c) [
        | true ↦ λ e. let same : lane ≡ c = grind (arith, nat_tests) in subst P same here
        | false ↦ λ e. there c within (λ same. other e same)
      ] refl
    where
      other : nat_eq c lane ≡ false → c ≡ lane → ⊥
      other e same = let f : nat_eq c lane ≡ true = grind (arith, nat_tests) in false≢true (sym e ∙ f)

  others_differ : (c d : ℕ) → c < 16 → d < 16 → c ≢ lane → d ≢ lane → get_or after c 0 ≡ get_or after d 0 → (get_or after c 0 ≡ 0) ⊎ (c ≡ d)
  others_differ c d hc hd differ differ' same =
      let moved = sym (at_other c hc differ) ∙ same ∙ at_other d hd differ' in
      let before = closed_up-same gone (get_or old c 0) (get_or old d 0) (apart c hc differ) (apart d hd differ') moved in
      elim (r.differ c d hc hd before) [
        | inl none ↦ inl (at_other c hc differ ∙ ap (closed_up gone) none ∙ closed_up-nothing gone)
        | inr equal ↦ inr equal
      ]

  pub ranking_raised : IsRanking after
  ranking_raised = record {
    lanes = length-set cleared lane greatest ∙ length-cleared;
    bound = by_lane (λ c. get_or after c 0 ≤ ranked after)
        (omega (arith, at_lane, ranked-after))
        (λ c within differ. omega (arith, below_greatest c within differ, ranked-after));
    differ = λ c d hc hd. by_lane (λ c. get_or after c 0 ≡ get_or after d 0 → (get_or after c 0 ≡ 0) ⊎ (c ≡ d))
        (by_lane (λ d. get_or after lane 0 ≡ get_or after d 0 → (get_or after lane 0 ≡ 0) ⊎ (lane ≡ d))
        (λ _. inr refl)
        (λ d hd differ same. absurd (omega (arith, at_lane, below_greatest d hd differ, same)))
        d hd)
        (λ c hc differ. by_lane (λ d. get_or after c 0 ≡ get_or after d 0 → (get_or after c 0 ≡ 0) ⊎ (c ≡ d))
        (λ same. absurd (omega (arith, at_lane, below_greatest c hc differ, same)))
        (λ d hd differ' same. others_differ c d hc hd differ differ' same)
        d hd)
        c hc;
  }

  pub raises : Raises lane old after
  raises = record {
    greatest = λ c within differ. omega (arith, at_lane, below_greatest c within differ);
    others = λ c d hc hd differ differ'.
        ap₂ nat_lt (at_other c hc differ) (at_other d hd differ')
        ∙ closed_up-order gone (get_or old c 0) (get_or old d 0) (apart c hc differ) (apart d hd differ');
  }
