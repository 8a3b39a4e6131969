-- Inner contracts alone use this; nothing here has to be believed.
-- The codeword of a list that was found, and how the codewords stand in the code.
use Rattle.std.specs.Prelude.{◌≡◌, ℕ, ◌+◌, ◌-◌, ◌*◌, ◌/◌, ◌^◌, ◌==◌, Bool, List, Result, Ok, Err, if◌then◌else◌, nat_lt, slice_index}
use Rattle.std.specs.Int.{leading_zeros, w32}
use Rattle.pel_bits.specs.Bits.{field}
use Rattle.pel_bits.specs.Reading.{skipped}
use Rattle.pel_model.specs.Walk.{cause}
use Rattle.pel_model.specs.declared.Why.{Why}
use Rattle.vlc_codes.specs.declared.lookup.Cell.{Cell}
use Rattle.vlc_codes.specs.Lookup.{no_cell, cell_of}

-- the word of a list that was found, or why none stands there
abbrev pub cell_or_cause : List (List Bool) → List Bool → Cell → Result Cell Why
cell_or_cause words bits cell = if cell.len == 0 then Err (cause words bits) else Ok cell

abbrev pub found_cell : List (List Bool) → List Bool → Result Cell Why
found_cell words bits = cell_or_cause words bits (cell_of words 0 bits)

-- the codeword of this index stands there, and was taken
pub record IsIndexTaken (words : List (List Bool)) (index : ℕ) (old new : List Bool × ℕ) : Type 0 where
  pub len : ℕ
  pub cell : found_cell words old.0 ≡ Ok (record { len = len; value = index })
  pub behind : new ≡ skipped len old

-- no codeword stands there, and nothing was taken
pub record IsNoIndex (words : List (List Bool)) (why : Why) (old new : List Bool × ℕ) : Type 0 where
  pub none : found_cell words old.0 ≡ Err why
  pub kept : new ≡ old

abbrev pub TakesIndex : List (List Bool) → Result ℕ Why → List Bool × ℕ → List Bool × ℕ → Type 0
TakesIndex words (Ok index) old new = IsIndexTaken words index old new
TakesIndex words (Err why) old new = IsNoIndex words why old new

-- ---- how the words stand in the code

abbrev pub code_word : ℕ × ℕ → List Bool
code_word code = field code.0 code.1

-- the cell of the number of zeros before the first 1 of 32 bits, and the five bits behind it
abbrev pub cell_in : (lens indices : List ℕ) → ℕ → Cell
cell_in lens indices top =
    let index = 32 * leading_zeros w32 top + top / 2 ^ (26 - leading_zeros w32 top) - 32 in
    if nat_lt 9 (leading_zeros w32 top) then no_cell
    else record { len = slice_index lens index; value = slice_index indices index }
