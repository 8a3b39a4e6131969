-- Inner contracts alone use this; nothing here has to be believed.
-- The transform in two passes: rows, then columns.
use Rattle.std.specs.Prelude.{ℕ, ◌+◌, ◌*◌, ◌/◌, ◌%◌, ◌^◌, ℤ, pos, negsuc, ◌+ℤ◌, ◌*ℤ◌, List, map, slice_index_or}
use Rattle.std.specs.List.{range_with_len}
use Rattle.std.specs.Int.{int_div_euclid}
use Rattle.pel_model.specs.Transform.{clipped, sum_below, kernel}

-- the number at a place of a list, 0 past its end
abbrev pub at_place : List ℤ → ℕ → ℤ
at_place numbers k = slice_index_or numbers k (pos 0)

-- the kernel by its rows, and by its columns
unfoldable pub by_rows : List ℤ
by_rows = map (λ k. kernel (k / 8) (k % 8)) (range_with_len 0 64)

unfoldable pub by_columns : List ℤ
by_columns = map (λ k. kernel (k % 8) (k / 8)) (range_with_len 0 64)

-- so many factors from a place on, each times that row of a table of eight columns, summed at a column
abbrev pub combination : List ℤ → (from : ℕ) → List ℤ → (count : ℕ) → ℕ → ℤ
combination factors from table count x = sum_below count (λ k. at_place factors (from + k) *ℤ at_place table (8 * k + x))

-- a sum divided by 2^26, halves up, and clipped
abbrev pub rounded : ℤ → ℤ
rounded s = clipped (negsuc 255) (pos 255) (int_div_euclid (s +ℤ pos (2 ^ 25)) (pos (2 ^ 26)))
