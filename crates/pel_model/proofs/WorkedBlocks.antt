-- Worked values of transforms and residuals, that were computed apart from these definitions.
use Rattle.std.specs.Prelude.{◌≡◌, ℕ, ◌/◌, ◌%◌, ℤ, pos, List, [], ◌∷◌, ◌++◌, map, replicate, Some, None, true, false, refl}
use Rattle.std.specs.List.{range_with_len}
use Rattle.pel_model.specs.Records.{Coefficient}
use Rattle.pel_model.specs.Residual.{reconstructed, with_zeros, transmission_order, coefficients_of, residual}
use Rattle.pel_model.specs.Transform.{minus, fixed, sum_below, kernel_rows}

-- what is given at the 64 places of a block, by rows
abbrev in_rows : (ℕ → ℕ → ℤ) → List ℤ
in_rows values = map (λ k. values (k % 8) (k / 8)) (range_with_len 0 64)

abbrev first_alone : ℤ → List ℤ
first_alone n = n ∷ replicate 63 (pos 0)

-- a first coefficient alone is spread evenly
pub evenly_spread : (in_rows (fixed (first_alone (pos 1024))) ≡ replicate 64 (pos 128)) × (in_rows (fixed (first_alone (pos 23))) ≡ replicate 64 (pos 3))
unfolding fixed sum_below kernel_rows
evenly_spread = (refl, refl)

-- one coefficient alone, of this horizontal index: the first row that it gives, at values by which each entry of the kernel shows
-- in both directions
abbrev first_row : ℕ × ℤ → List ℤ
first_row a = map (λ x. fixed (replicate a.0 (pos 0) ++ a.1 ∷ []) x 0) (range_with_len 0 8)

pub kernel_values : map first_row
    ((0, minus 4) ∷ (0, minus 1797) ∷ (1, minus 972) ∷ (1, minus 1405) ∷ (1, minus 779) ∷ (2, minus 732) ∷ (2, minus 1191)
    ∷ (3, minus 972) ∷ (3, minus 1405) ∷ (3, minus 779) ∷ (4, minus 4) ∷ (4, minus 1797) ∷ (5, minus 972) ∷ (5, minus 1405)
    ∷ (5, minus 779) ∷ (6, minus 732) ∷ (6, minus 1191) ∷ (7, minus 972) ∷ (7, minus 1405) ∷ (7, minus 779) ∷ [])
    ≡ (pos 0 ∷ pos 0 ∷ pos 0 ∷ pos 0 ∷ pos 0 ∷ pos 0 ∷ pos 0 ∷ pos 0 ∷ [])
    ∷ (minus 225 ∷ minus 225 ∷ minus 225 ∷ minus 225 ∷ minus 225 ∷ minus 225 ∷ minus 225 ∷ minus 225 ∷ [])
    ∷ (minus 168 ∷ minus 143 ∷ minus 95 ∷ minus 34 ∷ pos 34 ∷ pos 95 ∷ pos 143 ∷ pos 168 ∷ [])
    ∷ (minus 244 ∷ minus 207 ∷ minus 138 ∷ minus 48 ∷ pos 48 ∷ pos 138 ∷ pos 207 ∷ pos 244 ∷ [])
    ∷ (minus 135 ∷ minus 114 ∷ minus 77 ∷ minus 27 ∷ pos 27 ∷ pos 77 ∷ pos 114 ∷ pos 135 ∷ [])
    ∷ (minus 120 ∷ minus 49 ∷ pos 49 ∷ pos 120 ∷ pos 120 ∷ pos 49 ∷ minus 49 ∷ minus 120 ∷ [])
    ∷ (minus 194 ∷ minus 81 ∷ pos 81 ∷ pos 194 ∷ pos 194 ∷ pos 81 ∷ minus 81 ∷ minus 194 ∷ [])
    ∷ (minus 143 ∷ pos 34 ∷ pos 168 ∷ pos 95 ∷ minus 95 ∷ minus 168 ∷ minus 34 ∷ pos 143 ∷ [])
    ∷ (minus 207 ∷ pos 48 ∷ pos 244 ∷ pos 138 ∷ minus 138 ∷ minus 244 ∷ minus 48 ∷ pos 207 ∷ [])
    ∷ (minus 114 ∷ pos 27 ∷ pos 135 ∷ pos 77 ∷ minus 77 ∷ minus 135 ∷ minus 27 ∷ pos 114 ∷ [])
    ∷ (pos 0 ∷ pos 0 ∷ pos 0 ∷ pos 0 ∷ pos 0 ∷ pos 0 ∷ pos 0 ∷ pos 0 ∷ [])
    ∷ (minus 225 ∷ pos 225 ∷ pos 225 ∷ minus 225 ∷ minus 225 ∷ pos 225 ∷ pos 225 ∷ minus 225 ∷ [])
    ∷ (minus 95 ∷ pos 168 ∷ minus 34 ∷ minus 143 ∷ pos 143 ∷ pos 34 ∷ minus 168 ∷ pos 95 ∷ [])
    ∷ (minus 138 ∷ pos 244 ∷ minus 48 ∷ minus 207 ∷ pos 207 ∷ pos 48 ∷ minus 244 ∷ pos 138 ∷ [])
    ∷ (minus 77 ∷ pos 135 ∷ minus 27 ∷ minus 114 ∷ pos 114 ∷ pos 27 ∷ minus 135 ∷ pos 77 ∷ [])
    ∷ (minus 49 ∷ pos 120 ∷ minus 120 ∷ pos 49 ∷ pos 49 ∷ minus 120 ∷ pos 120 ∷ minus 49 ∷ [])
    ∷ (minus 81 ∷ pos 194 ∷ minus 194 ∷ pos 81 ∷ pos 81 ∷ minus 194 ∷ pos 194 ∷ minus 81 ∷ [])
    ∷ (minus 34 ∷ pos 95 ∷ minus 143 ∷ pos 168 ∷ minus 168 ∷ pos 143 ∷ minus 95 ∷ pos 34 ∷ [])
    ∷ (minus 48 ∷ pos 138 ∷ minus 207 ∷ pos 244 ∷ minus 244 ∷ pos 207 ∷ minus 138 ∷ pos 48 ∷ [])
    ∷ (minus 27 ∷ pos 77 ∷ minus 114 ∷ pos 135 ∷ minus 135 ∷ pos 114 ∷ minus 77 ∷ pos 27 ∷ [])
    ∷ []
unfolding fixed sum_below kernel_rows
kernel_values = refl

-- 64 coefficients that were drawn at random
abbrev drawn : List ℤ
drawn =
    minus 30 ∷ pos 15 ∷ pos 9 ∷ minus 44 ∷ minus 13 ∷ pos 57 ∷ pos 17 ∷ pos 0 ∷ pos 20 ∷ pos 14 ∷ minus 52 ∷ pos 17 ∷ minus 59 ∷ pos 56 ∷ pos 47 ∷ pos 0
    ∷ minus 27 ∷ pos 10 ∷ minus 31 ∷ minus 36 ∷ pos 31 ∷ pos 0 ∷ pos 9 ∷ pos 47 ∷ pos 10 ∷ pos 0 ∷ minus 10 ∷ pos 21 ∷ pos 50 ∷ minus 41 ∷ minus 31 ∷ pos 21
    ∷ minus 41 ∷ pos 51 ∷ pos 58 ∷ pos 6 ∷ minus 11 ∷ pos 34 ∷ minus 59 ∷ pos 25 ∷ pos 39 ∷ minus 52 ∷ minus 40 ∷ pos 37 ∷ pos 15 ∷ minus 55 ∷ minus 22 ∷ pos 39
    ∷ minus 57 ∷ pos 45 ∷ pos 50 ∷ minus 26 ∷ pos 0 ∷ pos 16 ∷ pos 32 ∷ pos 57 ∷ pos 52 ∷ minus 11 ∷ pos 31 ∷ pos 40 ∷ pos 57 ∷ minus 6 ∷ minus 10 ∷ pos 33 ∷ []

pub drawn_values : in_rows (fixed drawn)
    ≡ pos 14 ∷ minus 33 ∷ pos 33 ∷ minus 10 ∷ pos 20 ∷ minus 46 ∷ pos 8 ∷ minus 40 ∷ minus 37 ∷ minus 25 ∷ pos 51 ∷ pos 61 ∷ minus 63 ∷ pos 49 ∷ minus 10 ∷ minus 30
    ∷ pos 23 ∷ minus 40 ∷ pos 52 ∷ minus 9 ∷ minus 34 ∷ pos 23 ∷ pos 9 ∷ pos 2 ∷ minus 31 ∷ pos 18 ∷ pos 1 ∷ pos 4 ∷ minus 46 ∷ pos 23 ∷ pos 31 ∷ minus 35
    ∷ pos 58 ∷ pos 22 ∷ minus 37 ∷ pos 7 ∷ minus 33 ∷ minus 26 ∷ pos 26 ∷ pos 6 ∷ minus 16 ∷ minus 10 ∷ pos 8 ∷ minus 15 ∷ minus 27 ∷ minus 34 ∷ minus 39 ∷ pos 10
    ∷ minus 25 ∷ minus 2 ∷ minus 33 ∷ pos 25 ∷ pos 94 ∷ pos 22 ∷ pos 4 ∷ pos 60 ∷ pos 6 ∷ minus 15 ∷ pos 13 ∷ minus 20 ∷ minus 82 ∷ minus 100 ∷ minus 15 ∷ minus 9 ∷ []
unfolding fixed sum_below kernel_rows
drawn_values = refl

-- levels with their quantisers, odd and even, of both signs, and clipped at both ends
abbrev levels : List (ℤ × ℕ)
levels = (pos 1, 8) ∷ (minus 1, 8) ∷ (pos 1, 7) ∷ (minus 1, 7) ∷ (pos 5, 1) ∷ (minus 5, 2) ∷ (pos 127, 31) ∷ (minus 127, 31) ∷ (pos 33, 31) ∷ (minus 33, 31) ∷ (pos 0, 6) ∷ (pos 32, 31) ∷ (minus 32, 30) ∷ []

pub level_values : map (λ (row : ℤ × ℕ). reconstructed row.1 row.0) levels
    ≡ pos 23 ∷ minus 23 ∷ pos 21 ∷ minus 21 ∷ pos 11 ∷ minus 21 ∷ pos 2047 ∷ minus 2048 ∷ pos 2047 ∷ minus 2048 ∷ pos 0 ∷ pos 2015 ∷ minus 1949 ∷ []
unfolding reconstructed
level_values = refl

-- the levels 1 to 64 one behind another at quantiser 1: each stands at its place
abbrev rising : List Coefficient
rising = map (λ (k : ℕ). record { run = 0; level = pos k; long = true }) (range_with_len 1 64)

pub rising_values : coefficients_of 1 (record { dc = None; coefficients = rising })
    ≡ pos 3 ∷ pos 5 ∷ pos 13 ∷ pos 15 ∷ pos 31 ∷ pos 33 ∷ pos 57 ∷ pos 59 ∷ pos 7 ∷ pos 11 ∷ pos 17 ∷ pos 29 ∷ pos 35 ∷ pos 55 ∷ pos 61 ∷ pos 87
    ∷ pos 9 ∷ pos 19 ∷ pos 27 ∷ pos 37 ∷ pos 53 ∷ pos 63 ∷ pos 85 ∷ pos 89 ∷ pos 21 ∷ pos 25 ∷ pos 39 ∷ pos 51 ∷ pos 65 ∷ pos 83 ∷ pos 91 ∷ pos 109
    ∷ pos 23 ∷ pos 41 ∷ pos 49 ∷ pos 67 ∷ pos 81 ∷ pos 93 ∷ pos 107 ∷ pos 111 ∷ pos 43 ∷ pos 47 ∷ pos 69 ∷ pos 79 ∷ pos 95 ∷ pos 105 ∷ pos 113 ∷ pos 123
    ∷ pos 45 ∷ pos 71 ∷ pos 77 ∷ pos 97 ∷ pos 103 ∷ pos 115 ∷ pos 121 ∷ pos 125 ∷ pos 73 ∷ pos 75 ∷ pos 99 ∷ pos 101 ∷ pos 117 ∷ pos 119 ∷ pos 127 ∷ pos 129 ∷ []
unfolding coefficients_of with_zeros transmission_order reconstructed
rising_values = refl

abbrev coefficient : ℕ → ℤ → Coefficient
coefficient run level = record { run = run; level = level; long = false }

-- INTRADC comes before the coefficients; 255 is 1024
pub dc_values : (coefficients_of 2 (record { dc = Some 3; coefficients = coefficient 0 (pos 1) ∷ coefficient 1 (minus 1) ∷ [] })
    ≡ pos 24 ∷ pos 5 ∷ pos 0 ∷ pos 0 ∷ pos 0 ∷ pos 0 ∷ pos 0 ∷ pos 0 ∷ pos 0 ∷ pos 0 ∷ pos 0 ∷ pos 0 ∷ pos 0 ∷ pos 0 ∷ pos 0 ∷ pos 0
    ∷ minus 5 ∷ pos 0 ∷ pos 0 ∷ pos 0 ∷ pos 0 ∷ pos 0 ∷ pos 0 ∷ pos 0 ∷ pos 0 ∷ pos 0 ∷ pos 0 ∷ pos 0 ∷ pos 0 ∷ pos 0 ∷ pos 0 ∷ pos 0
    ∷ pos 0 ∷ pos 0 ∷ pos 0 ∷ pos 0 ∷ pos 0 ∷ pos 0 ∷ pos 0 ∷ pos 0 ∷ pos 0 ∷ pos 0 ∷ pos 0 ∷ pos 0 ∷ pos 0 ∷ pos 0 ∷ pos 0 ∷ pos 0
    ∷ pos 0 ∷ pos 0 ∷ pos 0 ∷ pos 0 ∷ pos 0 ∷ pos 0 ∷ pos 0 ∷ pos 0 ∷ pos 0 ∷ pos 0 ∷ pos 0 ∷ pos 0 ∷ pos 0 ∷ pos 0 ∷ pos 0 ∷ pos 0 ∷ [])
    × (coefficients_of 8 (record { dc = Some 255; coefficients = [] }) ≡ first_alone (pos 1024))
unfolding coefficients_of with_zeros transmission_order reconstructed
dc_values = (refl, refl)

-- a block of five coefficients, and one whose residual is clipped at both ends
pub block_values : (in_rows (residual fixed 9 (Some (record { dc = None; coefficients = coefficient 0 (pos 3) ∷ coefficient 1 (minus 2) ∷ coefficient 0 (pos 5) ∷ coefficient 10 (minus 7) ∷ coefficient 4 (pos 1) ∷ [] })))
    ≡ pos 4 ∷ pos 37 ∷ pos 36 ∷ pos 0 ∷ minus 2 ∷ pos 30 ∷ pos 29 ∷ minus 5 ∷ minus 14 ∷ pos 21 ∷ pos 22 ∷ minus 10 ∷ minus 8 ∷ pos 27 ∷ pos 29 ∷ minus 4
    ∷ minus 25 ∷ pos 10 ∷ pos 11 ∷ minus 21 ∷ minus 19 ∷ pos 16 ∷ pos 18 ∷ minus 15 ∷ minus 22 ∷ pos 11 ∷ pos 10 ∷ minus 26 ∷ minus 28 ∷ pos 4 ∷ pos 3 ∷ minus 31
    ∷ minus 19 ∷ pos 14 ∷ pos 13 ∷ minus 23 ∷ minus 25 ∷ pos 7 ∷ pos 6 ∷ minus 28 ∷ minus 16 ∷ pos 19 ∷ pos 20 ∷ minus 12 ∷ minus 10 ∷ pos 25 ∷ pos 26 ∷ minus 7
    ∷ pos 0 ∷ pos 34 ∷ pos 35 ∷ pos 3 ∷ pos 5 ∷ pos 41 ∷ pos 42 ∷ pos 9 ∷ pos 20 ∷ pos 53 ∷ pos 51 ∷ pos 16 ∷ pos 14 ∷ pos 46 ∷ pos 45 ∷ pos 10 ∷ [])
    × (in_rows (residual fixed 31 (Some (record { dc = None; coefficients = coefficient 0 (pos 127) ∷ coefficient 0 (pos 127) ∷ coefficient 0 (pos 127) ∷ [] })))
    ≡ pos 255 ∷ pos 255 ∷ pos 255 ∷ pos 255 ∷ pos 255 ∷ pos 255 ∷ pos 255 ∷ pos 255 ∷ pos 255 ∷ pos 255 ∷ pos 255 ∷ pos 255 ∷ pos 255 ∷ pos 255 ∷ pos 255 ∷ pos 202
    ∷ pos 255 ∷ pos 255 ∷ pos 255 ∷ pos 255 ∷ pos 255 ∷ pos 255 ∷ pos 156 ∷ pos 102 ∷ pos 255 ∷ pos 255 ∷ pos 255 ∷ pos 255 ∷ pos 255 ∷ pos 125 ∷ pos 26 ∷ minus 28
    ∷ pos 255 ∷ pos 255 ∷ pos 255 ∷ pos 255 ∷ pos 115 ∷ minus 16 ∷ minus 116 ∷ minus 170 ∷ pos 255 ∷ pos 255 ∷ pos 255 ∷ pos 125 ∷ minus 16 ∷ minus 146 ∷ minus 246 ∷ minus 256
    ∷ pos 255 ∷ pos 255 ∷ pos 156 ∷ pos 26 ∷ minus 116 ∷ minus 246 ∷ minus 256 ∷ minus 256 ∷ pos 255 ∷ pos 202 ∷ pos 102 ∷ minus 28 ∷ minus 170 ∷ minus 256 ∷ minus 256 ∷ minus 256 ∷ [])
unfolding residual coefficients_of with_zeros transmission_order reconstructed fixed sum_below kernel_rows
block_values = (refl, refl)

-- no residual where no block is sent
pub no_block_values : in_rows (residual fixed 8 None) ≡ replicate 64 (pos 0)
unfolding residual
no_block_values = refl
