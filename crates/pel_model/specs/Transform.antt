-- Inverse transforms (H.261, 3.2.4): what a decoder makes of a block's 64 coefficients, and one that is said exactly.
use Rattle.std.specs.Prelude.{ℕ, zero, suc, ◌+◌, ◌*◌, ◌^◌, ℤ, pos, ◌+ℤ◌, ◌*ℤ◌, neg_ℤ, int_lt, List, [], ◌∷◌, slice_index_or, if◌then◌else◌}
use Rattle.std.specs.Int.{int_div_euclid}

-- any function of the 64 coefficients of a block, and of the column x and the row y in the block; the coefficient of
-- horizontal index u and vertical index v stands at 8v + u
abbrev pub Transform : Type 0
Transform = List ℤ → (x y : ℕ) → ℤ

abbrev pub clipped : (low high : ℤ) → ℤ → ℤ
clipped low high n = if int_lt n low then low else if int_lt high n then high else n

-- ---- the transform `fixed`, which is this project's own; nothing is said of its accuracy

-- f 0 + f 1 + .. + f (n - 1)
unfoldable pub sum_below : ℕ → (ℕ → ℤ) → ℤ
sum_below zero f = pos 0
sum_below (suc n) f = sum_below n f +ℤ f n

abbrev pub minus : ℕ → ℤ
minus n = neg_ℤ (pos n)

-- a row for each index, a column for each place in the block
unfoldable pub kernel_rows : List (List ℤ)
kernel_rows =
    (pos 2896 ∷ pos 2896 ∷ pos 2896 ∷ pos 2896 ∷ pos 2896 ∷ pos 2896 ∷ pos 2896 ∷ pos 2896 ∷ [])
    ∷ (pos 4017 ∷ pos 3406 ∷ pos 2276 ∷ pos 799 ∷ minus 799 ∷ minus 2276 ∷ minus 3406 ∷ minus 4017 ∷ [])
    ∷ (pos 3784 ∷ pos 1567 ∷ minus 1567 ∷ minus 3784 ∷ minus 3784 ∷ minus 1567 ∷ pos 1567 ∷ pos 3784 ∷ [])
    ∷ (pos 3406 ∷ minus 799 ∷ minus 4017 ∷ minus 2276 ∷ pos 2276 ∷ pos 4017 ∷ pos 799 ∷ minus 3406 ∷ [])
    ∷ (pos 2896 ∷ minus 2896 ∷ minus 2896 ∷ pos 2896 ∷ pos 2896 ∷ minus 2896 ∷ minus 2896 ∷ pos 2896 ∷ [])
    ∷ (pos 2276 ∷ minus 4017 ∷ pos 799 ∷ pos 3406 ∷ minus 3406 ∷ minus 799 ∷ pos 4017 ∷ minus 2276 ∷ [])
    ∷ (pos 1567 ∷ minus 3784 ∷ pos 3784 ∷ minus 1567 ∷ minus 1567 ∷ pos 3784 ∷ minus 3784 ∷ pos 1567 ∷ [])
    ∷ (pos 799 ∷ minus 2276 ∷ pos 3406 ∷ minus 4017 ∷ pos 4017 ∷ minus 3406 ∷ pos 2276 ∷ minus 799 ∷ [])
    ∷ []

abbrev pub kernel : ℕ → ℕ → ℤ
kernel u x = slice_index_or (slice_index_or kernel_rows u []) x (pos 0)

-- the sum over u and v of K[u][x] K[v][y] F[u][v], divided by 2^26 and rounded, halves up
unfoldable pub fixed : Transform
fixed coefficients x y =
    int_div_euclid
    (sum_below 8 (λ v. sum_below 8 (λ u. (kernel u x *ℤ kernel v y) *ℤ slice_index_or coefficients (8 * v + u) (pos 0))) +ℤ pos (2 ^ 25))
    (pos (2 ^ 26))
