-- The two passes are the transform's double sum; and how large they are.
use Rattle.std.proofs.Common.{◌≡◌, ℕ, zero, suc, ◌+◌, ◌*◌, ◌/◌, ◌%◌, ◌<◌, ◌≤◌, ◌&&◌, Bool, true, false, ℤ, pos, negsuc, ◌*ℤ◌, List, [], ◌∷◌, refl, sym, ◌∙◌, ap, ap₂, arith}
use Rattle.std.specs.Prelude.{unsigned_abs, nat_le}
use Rattle.std.proofs.lemmas.Int.{unsigned_abs-mul}
use Rattle.std.proofs.lemmas.List.FromFn.{get_or-map-range_with_len}
use Rattle.std.proofs.Math.Nat.{mul-le-mul}
use Rattle.std.proofs.lemmas.Bool.Decides.{nat_tests}
use Rattle.std.proofs.Math.IntN.{*ℤ-zero}
use Rattle.pel_model.specs.Transform.{sum_below, kernel, kernel_rows, fixed, clipped}
use Rattle.ref_decode.specs.Passes.{at_place, by_rows, by_columns, combination, rounded}
use Rattle.ref_decode.proofs.Sums.{turned, sum_same, sum_times, sum_zero, sum_front, sum_small}

-- ---- the tables

pub by_rows-at : (u x : ℕ) → u < 8 → x < 8 → at_place by_rows (8 * u + x) ≡ kernel u x
unfolding by_rows
by_rows-at u x hu hx =
    let a : (8 * u + x) / 8 ≡ u = omega arith in
    let b : (8 * u + x) % 8 ≡ x = omega arith in
    get_or-map-range_with_len (λ k. kernel (k / 8) (k % 8)) 0 64 (8 * u + x) (8 * u + x) (pos 0) (omega arith) (omega arith)
    ∙ ap₂ kernel a b

pub by_columns-at : (y v : ℕ) → y < 8 → v < 8 → at_place by_columns (8 * y + v) ≡ kernel v y
unfolding by_columns
by_columns-at y v hy hv =
    let a : (8 * y + v) / 8 ≡ y = omega arith in
    let b : (8 * y + v) % 8 ≡ v = omega arith in
    get_or-map-range_with_len (λ k. kernel (k % 8) (k / 8)) 0 64 (8 * y + v) (8 * y + v) (pos 0) (omega arith) (omega arith)
    ∙ ap₂ kernel b a

all_small : List ℤ → Bool
all_small [] = true
all_small (z ∷ zs) = nat_le (unsigned_abs z) 4017 && all_small zs

and_both : (a b : Bool) → (a && b) ≡ true → (a ≡ true) × (b ≡ true)
and_both true true h = (refl, refl)
and_both true false h = absurd cc
and_both false b h = absurd cc

le_true : (a b : ℕ) → nat_le a b ≡ true → a ≤ b
le_true a b h = grind (arith, nat_tests)

small_at : (zs : List ℤ) (k : ℕ) → all_small zs ≡ true → unsigned_abs (at_place zs k) ≤ 4017
unfolding all_small
small_at [] k h = omega arith
small_at (z ∷ zs) zero h = le_true (unsigned_abs z) 4017 (and_both _ _ h).0
small_at (z ∷ zs) (suc k) h = small_at zs k (and_both _ _ h).1

pub rows_small : (k : ℕ) → unsigned_abs (at_place by_rows k) ≤ 4017
unfolding by_rows kernel_rows all_small
rows_small k = small_at by_rows k refl

pub columns_small : (k : ℕ) → unsigned_abs (at_place by_columns k) ≤ 4017
unfolding by_columns kernel_rows all_small
columns_small k = small_at by_columns k refl

-- ---- sizes

pub product_small : (a b : ℤ) (m n : ℕ) → unsigned_abs a ≤ m → unsigned_abs b ≤ n → unsigned_abs (a *ℤ b) ≤ m * n
product_small a b m n ha hb = let le : unsigned_abs a * unsigned_abs b ≤ m * n = mul-le-mul ha hb in omega (arith, unsigned_abs-mul a b, le)

-- a row of the first pass
pub row_small : (coefs : List ℤ) (v x : ℕ) → ((k : ℕ) → k < 64 → unsigned_abs (at_place coefs k) ≤ 2048) → v < 8 → unsigned_abs (combination coefs (8 * v) by_rows 8 x) ≤ 65814528
row_small coefs v x small hv =
    let term = λ (u : ℕ) (h : u < 8). product_small (at_place coefs (8 * v + u)) (at_place by_rows (8 * u + x)) 2048 4017 (small (8 * v + u) (omega arith)) (rows_small (8 * u + x)) in
    omega (arith, sum_small 8 8226816 (λ u. at_place coefs (8 * v + u) *ℤ at_place by_rows (8 * u + x)) term)

-- ---- the sums

abbrev pub rows_of : List ℤ → List ℤ → ℕ → Type 0
rows_of coefs rows used = (v x : ℕ) → v < used → x < 8 → at_place rows (8 * v + x) ≡ combination coefs (8 * v) by_rows 8 x

-- a line of the second pass
pub line_small : (coefs rows : List ℤ) (used y x : ℕ) → ((k : ℕ) → k < 64 → unsigned_abs (at_place coefs k) ≤ 2048) → used ≤ 8 → rows_of coefs rows used → y < 8 → x < 8 → unsigned_abs (combination by_columns (8 * y) rows used x) ≤ 8 * (4017 * 65814528)
line_small coefs rows used y x small within are hy hx =
    let row = λ (v : ℕ) (h : v < used). let e = are v x h hx in let s : unsigned_abs (at_place rows (8 * v + x)) ≤ 65814528 = omega (arith, row_small coefs v x small (omega arith), ap unsigned_abs e) in s in
    let term = λ (v : ℕ) (h : v < used). product_small (at_place by_columns (8 * y + v)) (at_place rows (8 * v + x)) 4017 65814528 (columns_small (8 * y + v)) (row v h) in
    omega (arith, sum_small used (4017 * 65814528) (λ v. at_place by_columns (8 * y + v) *ℤ at_place rows (8 * v + x)) term, within)

abbrev term_of : List ℤ → ℕ → ℕ → ℕ → ℤ
term_of coefs x y v = sum_below 8 (λ u. (kernel u x *ℤ kernel v y) *ℤ at_place coefs (8 * v + u))

row_term : (coefs : List ℤ) (x y v : ℕ) → x < 8 → kernel v y *ℤ combination coefs (8 * v) by_rows 8 x ≡ term_of coefs x y v
row_term coefs x y v hx =
    sum_times 8 (kernel v y) (λ u. at_place coefs (8 * v + u) *ℤ at_place by_rows (8 * u + x))
    ∙ sum_same 8 (λ u. kernel v y *ℤ (at_place coefs (8 * v + u) *ℤ at_place by_rows (8 * u + x))) (λ u. (kernel u x *ℤ kernel v y) *ℤ at_place coefs (8 * v + u))
    (λ u h. ap (λ z. kernel v y *ℤ (at_place coefs (8 * v + u) *ℤ z)) (by_rows-at u x h hx) ∙ turned (kernel u x) (kernel v y) (at_place coefs (8 * v + u)))

pub line_is : (coefs rows : List ℤ) (used x y : ℕ) → used ≤ 8 → ((k : ℕ) → 8 * used ≤ k → k < 64 → at_place coefs k ≡ pos 0) → rows_of coefs rows used → x < 8 → y < 8 → combination by_columns (8 * y) rows used x ≡ sum_below 8 (term_of coefs x y)
line_is coefs rows used x y within zeros are hx hy =
    sum_same used (λ v. at_place by_columns (8 * y + v) *ℤ at_place rows (8 * v + x)) (term_of coefs x y)
    (λ v h. ap₂ (λ (a b : ℤ). a *ℤ b) (by_columns-at y v hy (omega arith)) (are v x h hx) ∙ row_term coefs x y v hx)
    ∙ sym (sum_front 8 used (term_of coefs x y) within (λ v h l. sum_zero 8 (λ u. (kernel u x *ℤ kernel v y) *ℤ at_place coefs (8 * v + u))
    (λ u m. ap (λ z. (kernel u x *ℤ kernel v y) *ℤ z) (zeros (8 * v + u) (omega arith) (omega arith)) ∙ *ℤ-zero (kernel u x *ℤ kernel v y))))

pub residual_is : (coefs rows : List ℤ) (used x y : ℕ) → used ≤ 8 → ((k : ℕ) → 8 * used ≤ k → k < 64 → at_place coefs k ≡ pos 0) → rows_of coefs rows used → x < 8 → y < 8 → rounded (combination by_columns (8 * y) rows used x) ≡ clipped (negsuc 255) (pos 255) (fixed coefs x y)
unfolding fixed
residual_is coefs rows used x y within zeros are hx hy = ap rounded (line_is coefs rows used x y within zeros are hx hy)
