-- What a block adds to the prediction (H.261, 3.2.4 and 4.2.4): its coefficients are reconstructed, put into their
-- places, and transformed.
use Rattle.std.specs.Prelude.{ℕ, zero, suc, ◌+◌, ◌*◌, ◌%◌, ◌==◌, ℤ, pos, negsuc, ◌+ℤ◌, ◌-ℤ◌, neg_ℤ, List, [], ◌∷◌, ◌++◌, map, replicate, slice_index_or, Option, None, Some, if◌then◌else◌}
use Rattle.std.specs.List.{position_or_len, range_with_len}
use Rattle.pel_model.specs.Records.{Coefficient, Block}
use Rattle.pel_model.specs.Transform.{Transform, clipped}

-- ---- reconstruction (4.2.4.1)

-- 1 where the quantiser is even
abbrev pub one_if_even : ℕ → ℕ
one_if_even quant = if quant % 2 == 0 then 1 else 0

-- QUANT (2 level + 1), less 1 where QUANT is even; the same with the other sign for a level below 0
abbrev pub scaled : (quant : ℕ) → ℤ → ℤ
scaled quant (pos zero) = pos 0
scaled quant (pos (suc n)) = pos (quant * (2 * (n + 1) + 1)) -ℤ pos (one_if_even quant)
scaled quant (negsuc n) = neg_ℤ (pos (quant * (2 * (n + 1) + 1))) +ℤ pos (one_if_even quant)

unfoldable pub reconstructed : (quant : ℕ) → ℤ → ℤ
reconstructed quant level = clipped (negsuc 2047) (pos 2047) (scaled quant level)

-- INTRADC: 11111111 is 1024, any other n is 8n
abbrev pub intra_dc : ℕ → ℤ
intra_dc n = if n == 255 then pos 1024 else pos (8 * n)

-- ---- the coefficients' places (4.2.4.1)

-- each behind the zeros before it, in the order of transmission
unfoldable pub with_zeros : (quant : ℕ) → List Coefficient → List ℤ
with_zeros quant [] = []
with_zeros quant (c ∷ cs) = replicate c.run (pos 0) ++ reconstructed quant c.level ∷ with_zeros quant cs

abbrev pub dc_before : Option ℕ → List ℤ → List ℤ
dc_before None rest = rest
dc_before (Some n) rest = intra_dc n ∷ rest

-- INTRADC comes first, where it is there
abbrev pub in_transmission : (quant : ℕ) → Block → List ℤ
in_transmission quant b = dc_before b.dc (with_zeros quant b.coefficients)

-- 8v + u for the horizontal index u and the vertical index v of each coefficient, in the order of transmission
unfoldable pub transmission_order : List ℕ
transmission_order =
    0 ∷ 1 ∷ 8 ∷ 16 ∷ 9 ∷ 2 ∷ 3 ∷ 10 ∷ 17 ∷ 24 ∷ 32 ∷ 25 ∷ 18 ∷ 11 ∷ 4 ∷ 5
    ∷ 12 ∷ 19 ∷ 26 ∷ 33 ∷ 40 ∷ 48 ∷ 41 ∷ 34 ∷ 27 ∷ 20 ∷ 13 ∷ 6 ∷ 7 ∷ 14 ∷ 21 ∷ 28
    ∷ 35 ∷ 42 ∷ 49 ∷ 56 ∷ 57 ∷ 50 ∷ 43 ∷ 36 ∷ 29 ∷ 22 ∷ 15 ∷ 23 ∷ 30 ∷ 37 ∷ 44 ∷ 51
    ∷ 58 ∷ 59 ∷ 52 ∷ 45 ∷ 38 ∷ 31 ∷ 39 ∷ 46 ∷ 53 ∷ 60 ∷ 61 ∷ 54 ∷ 47 ∷ 55 ∷ 62 ∷ 63
    ∷ []

-- the 64 coefficients of a block, that of the indices u and v at 8v + u; what is not sent is 0
unfoldable pub coefficients_of : (quant : ℕ) → Block → List ℤ
coefficients_of quant b =
    map (λ place. slice_index_or (in_transmission quant b) (position_or_len (λ k. k == place) transmission_order) (pos 0)) (range_with_len 0 64)

-- ---- the residual

-- what a block adds at a column and row of its own, clipped to -256..255; nothing where the block is not sent
unfoldable pub residual : Transform → (quant : ℕ) → Option Block → (x y : ℕ) → ℤ
residual t quant None x y = pos 0
residual t quant (Some b) x y = clipped (negsuc 255) (pos 255) (t (coefficients_of quant b) x y)
