-- Runs of transmissions without an Intra one, and what they say of windows of 132.
use Rattle.std.proofs.Common.{◌≡◌, ◌⊎◌, inl, inr, ℕ, ◌+◌, ◌<◌, ◌≤◌, ◌==◌, ◌||◌, ◌&&◌, Bool, true, false, cond, Option, Some, None, is_some, List, [], ◌∷◌, ◌++◌, length, take, drop, filter_map, refl, sym, ap, subst, ◌∙◌, arith, length-append}
use Rattle.std.specs.List.{list_any}
use Rattle.std.proofs.lemmas.Bool.{true≢false, cases_lt, cases_Bool}
use Rattle.std.proofs.lemmas.Bool.Decides.{nat_tests}
use Rattle.std.proofs.lemmas.List.{append-nil, append_assoc, take-append-drop, length-take-le, length_push, same_from_push}
use Rattle.std.proofs.lemmas.List.Elements.{filter_map-append}
use Rattle.std.proofs.lemmas.List.Folds.{list_any-append}
use Rattle.pel_model.specs.Records.{Macroblock, Picture}
use Rattle.update_laws.specs.Kept.{IsPlace, sent_at, transmissions, is_update, AreUpdated, Kept, run, is_overdue, NeverOverdue, OverdueLaw}

-- ---- runs

or-left : (a b : Bool) → (a || b) ≡ false → a ≡ false
or-left true b e = absurd (true≢false e)
or-left false b e = refl

or-false : (b : Bool) → (b || false) ≡ b
or-false true = refl
or-false false = refl

and-false : (a b : Bool) → b ≡ false → (a && b) ≡ false
and-false true b e = e
and-false false b e = refl

at-true : (b : Bool) (n m : ℕ) → b ≡ true → cond b n m ≡ n
at-true true n m e = refl
at-true false n m e = absurd (true≢false (sym e))

at-false : (b : Bool) (n m : ℕ) → b ≡ false → cond b n m ≡ m
at-false true n m e = absurd (true≢false e)
at-false false n m e = refl

at-least : (b : Bool) (k n m : ℕ) → k ≤ n → k ≤ m → k ≤ cond b n m
at-least true k n m h l = h
at-least false k n m h l = l

run-none : (ms : List Macroblock) → list_any is_update ms ≡ false → run ms ≡ length ms
run-none [] none = refl
run-none (m ∷ ms) none = at-false (list_any is_update (m ∷ ms)) (run ms) (length (m ∷ ms)) none

-- one transmission more
abbrev pub counted : ℕ → Bool → ℕ
counted n update = cond update 0 (n + 1)

run-cons : (any some update : Bool) (before n k more : ℕ) → any ≡ (some || update) → n ≡ counted before update → more ≡ k + 1
    → cond any n more ≡ counted (cond some before k) update
run-cons true true update before n k more e h l = h
run-cons true false true before n k more e h l = h
run-cons true false false before n k more e h l = absurd (true≢false e)
run-cons false true update before n k more e h l = absurd (true≢false (sym e))
run-cons false false true before n k more e h l = absurd (true≢false (sym e))
run-cons false false false before n k more e h l = l

any-push : (ms : List Macroblock) (m : Macroblock) → list_any is_update (ms ++ m ∷ []) ≡ (list_any is_update ms || is_update m)
any-push ms m = list_any-append is_update ms (m ∷ []) ∙ ap (λ (b : Bool). list_any is_update ms || b) (or-false (is_update m))

run-one : (update : Bool) → ◌≡◌ {A = ℕ} (cond (update || false) 0 1) (cond update 0 1)
run-one true = refl
run-one false = refl

pub run-push : (ms : List Macroblock) (m : Macroblock) → run (ms ++ m ∷ []) ≡ counted (run ms) (is_update m)
run-push [] m = run-one (is_update m)
run-push (x ∷ ms) m =
    run-cons (list_any is_update (x ∷ (ms ++ m ∷ []))) (list_any is_update (x ∷ ms)) (is_update m) (run ms) (run (ms ++ m ∷ [])) (length (x ∷ ms)) (length (x ∷ (ms ++ m ∷ [])))
    (any-push (x ∷ ms) m) (run-push ms m) (length_push (x ∷ ms) m)

-- transmissions that are all not Intra are counted, whatever stands before them
run-behind : (before ws : List Macroblock) → list_any is_update ws ≡ false → length ws ≤ run (before ++ ws)
run-behind [] ws none = omega (arith, run-none ws none)
run-behind (b ∷ bs) ws none =
    at-least (list_any is_update (b ∷ (bs ++ ws))) (length ws) (run (bs ++ ws)) (length (b ∷ (bs ++ ws)))
    (run-behind bs ws none) (omega (arith, length-append bs ws))

-- what stands behind the last Intra one
abbrev BehindLast : List Macroblock → Type 0
BehindLast ms = (front rest : List Macroblock) × (ms ≡ front ++ rest) × (list_any is_update rest ≡ false) × (run ms ≡ length rest)

behind-cons : (m : Macroblock) (ms : List Macroblock) → BehindLast ms → (list_any is_update (m ∷ ms) ≡ true) ⊎ (list_any is_update (m ∷ ms) ≡ false) → BehindLast (m ∷ ms)
behind-cons m ms h (inl some) = (
  m ∷ h.0,
  h.1,
  ap (λ (xs : List Macroblock). m ∷ xs) h.2,
  h.3,
  at-true (list_any is_update (m ∷ ms)) (run ms) (length (m ∷ ms)) some ∙ h.4,
)
behind-cons m ms h (inr none) = ([], m ∷ ms, refl, none, run-none (m ∷ ms) none)

behind-last : (ms : List Macroblock) → BehindLast ms
behind-last [] = ([], [], refl, refl, refl)
behind-last (m ∷ ms) = behind-cons m ms (behind-last ms) (cases_Bool (list_any is_update (m ∷ ms)))

-- ---- windows

updated-front : (xs ys : List Macroblock) → AreUpdated (xs ++ ys) → AreUpdated xs
updated-front xs ys updated before window after e long =
    updated before window (after ++ ys) (ap (λ (l : List Macroblock). l ++ ys) e ∙ append_assoc (before ++ window) after ys) long

run-long : (ms : List Macroblock) → AreUpdated ms → BehindLast ms → 132 ≤ run ms → ⊥
run-long ms updated h long =
    let window = take 132 h.1 in
    let parts : window ++ drop 132 h.1 ≡ h.1 = take-append-drop 132 h.1 in
    let none : list_any is_update window ≡ false =
    or-left (list_any is_update window) (list_any is_update (drop 132 h.1))
    (sym (list_any-append is_update window (drop 132 h.1)) ∙ ap (list_any is_update) parts ∙ h.3) in
    let here : ms ≡ h.0 ++ window ++ drop 132 h.1 =
    h.2 ∙ ap (λ (l : List Macroblock). h.0 ++ l) (sym parts) ∙ sym (append_assoc h.0 window (drop 132 h.1)) in
    true≢false (sym (updated h.0 window (drop 132 h.1) here (length-take-le 132 h.1 (omega (arith, h.4, long)))) ∙ none)

-- no run is as long as a window
pub run-below : (ms : List Macroblock) → AreUpdated ms → run ms < 132
run-below ms updated =
    elim (cases_lt (run ms) 132) as (λ _. run ms < 132) [
      | inl below ↦ below
      | inr long ↦ absurd (run-long ms updated (behind-last ms) long)
    ]

pub last-or : {X : Type 0} (xs : List X) → (xs ≡ []) ⊎ ((front : List X) × (x : X) × (xs ≡ front ++ x ∷ []))
last-or [] = inl refl
last-or {X} (x ∷ xs) =
    elim (last-or xs) as (λ _. (x ∷ xs ≡ []) ⊎ ((front : List X) × (y : X) × (x ∷ xs ≡ front ++ y ∷ []))) [
      | inl none ↦ inr ([], x, ap (λ (l : List X). x ∷ l) none)
      | inr more ↦ inr (x ∷ more.0, more.1, ap (λ (l : List X). x ∷ l) more.2)
    ]

-- a window at the end
at-end : (ms before window : List Macroblock) → ms ≡ before ++ window → length window ≡ 132 → run ms < 132
    → (list_any is_update window ≡ true) ⊎ (list_any is_update window ≡ false) → list_any is_update window ≡ true
at-end ms before window e long below (inl some) = some
at-end ms before window e long below (inr none) = absurd (omega (arith, below, long, ap run e, run-behind before window none))

pub updated-more : (ms : List Macroblock) (m : Macroblock) → AreUpdated ms → run (ms ++ m ∷ []) < 132 → AreUpdated (ms ++ m ∷ [])
updated-more ms m updated below before window after e long =
    elim (last-or after) as (λ _. list_any is_update window ≡ true) [
      | inl none ↦
          at-end (ms ++ m ∷ []) before window (e ∙ ap (λ (l : List Macroblock). before ++ window ++ l) none ∙ append-nil (before ++ window)) long below
          (cases_Bool (list_any is_update window))
      | inr more ↦
          updated before window more.0
          (same_from_push ms (before ++ window ++ more.0) m more.1
          (e ∙ ap (λ (l : List Macroblock). before ++ window ++ l) more.2 ∙ sym (append_assoc (before ++ window) more.0 (more.1 ∷ [])))).0 long
    ]

-- ---- pictures

-- the run behind a picture that sends this at the place
abbrev pub counted_by : ℕ → Option Macroblock → ℕ
counted_by n None = n
counted_by n (Some m) = counted n (is_update m)

run-option : (ms : List Macroblock) (sent : Option Macroblock) → run (ms ++ filter_map (λ (s : Option Macroblock). s) (sent ∷ [])) ≡ counted_by (run ms) sent
run-option ms None = ap run (append-nil ms)
run-option ms (Some m) = run-push ms m

pub run-sent : (group address : ℕ) (ps : List Picture) (p : Picture)
    → run (transmissions group address (ps ++ p ∷ [])) ≡ counted_by (run (transmissions group address ps)) (sent_at group address p)
run-sent group address ps p =
    ap run (filter_map-append (sent_at group address) ps (p ∷ []))
    ∙ run-option (transmissions group address ps) (sent_at group address p)

updated-option : (ms : List Macroblock) (sent : Option Macroblock) → AreUpdated ms → counted_by (run ms) sent < 132
    → AreUpdated (ms ++ filter_map (λ (s : Option Macroblock). s) (sent ∷ []))
updated-option ms None updated below = subst AreUpdated (sym (append-nil ms)) updated
updated-option ms (Some m) updated below = updated-more ms m updated (omega (arith, below, run-push ms m))

pub kept-more : (ps : List Picture) (p : Picture) → Kept ps
    → ((group address : ℕ) → IsPlace group address → run (transmissions group address (ps ++ p ∷ [])) < 132)
    → Kept (ps ++ p ∷ [])
kept-more ps p kept below group address place =
    subst AreUpdated (sym (filter_map-append (sent_at group address) ps (p ∷ [])))
    (updated-option (transmissions group address ps) (sent_at group address p) (kept group address place)
    (omega (arith, below group address place, run-sent group address ps p)))

pub kept-front : (ps qs : List Picture) → Kept (ps ++ qs) → Kept ps
kept-front ps qs kept group address place =
    updated-front (transmissions group address ps) (transmissions group address qs)
    (subst AreUpdated (filter_map-append (sent_at group address) ps qs) (kept group address place))

pub kept-run : (ps : List Picture) → Kept ps → (group address : ℕ) → IsPlace group address → run (transmissions group address ps) < 132
kept-run ps kept group address place = run-below (transmissions group address ps) (kept group address place)

-- ---- overdue places

pub never-overdue : (stretch : List Picture) → Kept stretch → NeverOverdue stretch
never-overdue stretch kept before after p e group address place =
    let front : Kept (before ++ p ∷ []) = kept-front (before ++ p ∷ []) after (subst Kept (e ∙ sym (append_assoc before (p ∷ []) after)) kept) in
    let short : run (transmissions group address (before ++ p ∷ [])) < 132 = kept-run (before ++ p ∷ []) front group address place in
    and-false (is_some (sent_at group address p)) (run (transmissions group address (before ++ p ∷ [])) == 132) (grind (arith, nat_tests))

below-counted : (n k : ℕ) (update : Bool) → n < 132 → k ≡ counted n update → (k == 132) ≡ false → k < 132
below-counted n k true less e test = omega (arith, e)
below-counted n k false less e test = grind (arith, nat_tests)

below-at : (n k : ℕ) (sent : Option Macroblock) → n < 132 → k ≡ counted_by n sent → (is_some sent && (k == 132)) ≡ false → k < 132
below-at n k None less e test = omega (arith, e, less)
below-at n k (Some m) less e test = below-counted n k (is_update m) less e test

-- where no place is overdue at a picture more
pub kept-on : (ps : List Picture) (p : Picture) → Kept ps → ((group address : ℕ) → IsPlace group address → is_overdue ps p group address ≡ false)
    → Kept (ps ++ p ∷ [])
kept-on ps p kept never =
    kept-more ps p kept
    (λ group address place. below-at (run (transmissions group address ps)) (run (transmissions group address (ps ++ p ∷ []))) (sent_at group address p)
    (kept-run ps kept group address place) (run-sent group address ps p) (never group address place))

kept-behind : (front rest : List Picture) → Kept front → NeverOverdue (front ++ rest) → Kept (front ++ rest)
kept-behind front [] kept never = subst Kept (sym (append-nil front)) kept
kept-behind front (p ∷ rest) kept never =
    let same : front ++ p ∷ [] ++ rest ≡ front ++ p ∷ rest = append_assoc front (p ∷ []) rest in
    subst Kept same
    (kept-behind (front ++ p ∷ []) rest (kept-on front p kept (never front rest p refl)) (subst NeverOverdue (sym same) never))

pub kept-nothing : Kept []
kept-nothing group address place before window after e long = absurd (omega (arith, ap length e, length-append (before ++ window) after, length-append before window, long))

pub overdue-law : OverdueLaw
overdue-law = record { none = never-overdue; kept = λ stretch never. kept-behind [] stretch kept-nothing never }
