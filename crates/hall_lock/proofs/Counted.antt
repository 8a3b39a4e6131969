-- How many places there are where each number below n stands once.
use Rattle.std.proofs.Common.{◌≡◌, ℕ, zero, suc, ◌+◌, ◌≤◌, ◌<◌, Bool, true, false, cond, eqb, List, [], ◌∷◌, length, refl, sym, ap, ◌∙◌, arith}
use Rattle.std.proofs.lemmas.List.Sums.{sum_by-cons}
use Rattle.std.proofs.lemmas.Bool.Decides.{nat_tests}
use Rattle.std.specs.List.{AllByRecursion}
use Rattle.hall_lock.specs.Places.{times, one_below, EachOnce}
use Rattle.hall_lock.proofs.Histories.{one_below-yes, one_below-no}

abbrev pub one_if : Bool → ℕ
one_if true = 1
one_if false = 0

one_as : (b : Bool) → cond {A = ℕ} b 1 0 ≡ one_if b
one_as true = refl
one_as false = refl

pub times-cons : (x p : ℕ) (ps : List ℕ) → times x (p ∷ ps) ≡ one_if (eqb p x) + times x ps
times-cons x p ps =
    sum_by-cons (λ (y : ℕ). cond (eqb y x) 1 0) p ps ∙ ap (λ (n : ℕ). n + times x ps) (one_as (eqb p x))

pub times-yes : (x p : ℕ) (ps : List ℕ) → eqb p x ≡ true → times x (p ∷ ps) ≡ 1 + times x ps
times-yes x p ps e = times-cons x p ps ∙ ap (λ (b : Bool). one_if b + times x ps) e

pub times-no : (x p : ℕ) (ps : List ℕ) → eqb p x ≡ false → times x (p ∷ ps) ≡ times x ps
times-no x p ps e = omega (arith, times-cons x p ps ∙ ap (λ (b : Bool). one_if b + times x ps) e)

-- how often the numbers below n stand in the list
abbrev pub tally : ℕ → List ℕ → ℕ
tally zero ps = 0
tally (suc n) ps = tally n ps + times n ps

one_step : (n p : ℕ) → one_below n p + one_if (eqb p n) ≡ one_below (suc n) p
one_step n p =
    let step : one_below n p + cond {A = ℕ} (eqb p n) 1 0 ≡ one_below (suc n) p = grind (arith, nat_tests) in
    ap (λ (m : ℕ). one_below n p + m) (sym (one_as (eqb p n))) ∙ step

tally-none : (n : ℕ) → tally n [] ≡ 0
tally-none zero = refl
tally-none (suc n) = omega (arith, tally-none n)

tally-cons : (n p : ℕ) (ps : List ℕ) → tally n (p ∷ ps) ≡ one_below n p + tally n ps
tally-cons zero p ps = omega (arith, one_below-no 0 p (omega arith))
tally-cons (suc n) p ps = omega (arith, tally-cons n p ps, times-cons n p ps, one_step n p)

tally-length : (n : ℕ) (ps : List ℕ) → AllByRecursion (λ p. p < n) ps → tally n ps ≡ length ps
tally-length n [] below = tally-none n
tally-length n (p ∷ ps) below = omega (arith, tally-cons n p ps, one_below-yes n p below.0, tally-length n ps below.1)

tally-ones : (n k : ℕ) (ps : List ℕ) → EachOnce n ps → k ≤ n → tally k ps ≡ k
tally-ones n zero ps once le = refl
tally-ones n (suc k) ps once le = omega (arith, tally-ones n k ps once (omega arith), once k, one_below-yes n k (omega arith))

pub times-here : (p : ℕ) (ps : List ℕ) → 1 ≤ times p (p ∷ ps)
times-here p ps =
    let same : eqb p p ≡ true = grind (arith, nat_tests) in omega (arith, times-yes p p ps same)

all_below : (n : ℕ) (ps : List ℕ) → ((x : ℕ) → 1 ≤ times x ps → x < n) → AllByRecursion (λ p. p < n) ps
all_below n [] each = tt
all_below n (p ∷ ps) each = (each p (times-here p ps), all_below n ps (λ x h. each x (omega (arith, h, times-cons x p ps))))

below_by : (n x : ℕ) → 1 ≤ one_below n x → x < n
below_by n x h = grind (arith, nat_tests)

pub counted : (n : ℕ) (ps : List ℕ) → EachOnce n ps → length ps ≡ n
counted n ps once =
    let below : AllByRecursion (λ (p : ℕ). p < n) ps = all_below n ps (λ x h. below_by n x (omega (arith, h, once x))) in
    sym (tally-length n ps below) ∙ tally-ones n n ps once (omega arith)
