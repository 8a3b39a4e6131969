-- Inner contracts alone use this; nothing here has to be believed.
-- A machine that reads the rest of a block bit by bit.
use Rattle.std.specs.Prelude.{ℕ, zero, suc, ◌+◌, ◌^◌, ◌||◌, Bool, true, false, cond, List, [], ◌∷◌, ◌++◌, Option, Some, None}
use Rattle.std.specs.List.{find, list_any}
use Rattle.pel_model.specs.Codes.{tcoeff_table, later_one_word, escape_word, end_of_block_word, is_prefix}

-- what is pending of a word: all of it, at the beginning of a block without INTRADC; all but these bits of its code; its sign;
-- of an escape so many bits of the run, its level, or so many of the level's last seven bits, and whether one before was 1.
-- Or no word begins as the bits do
pub data Pending : Type 0 where
  First : Pending
  Code : List Bool → Pending
  Sign : Pending
  Run : ℕ → Pending
  Top : Pending
  Level : ℕ → Bool → Pending
  Faulty : Pending

-- what is pending behind a bit, how many coefficients it adds, and whether the block ends with it
pub record BitStep : Type 0 where
  pub next : Pending
  pub fills : ℕ
  pub ends : Bool

abbrev pub on : Pending → ℕ → BitStep
on next fills = record { next = next; fills = fills; ends = false }

abbrev pub same : List Bool → List Bool → Bool
same [] [] = true
same (true ∷ v) (true ∷ w) = same v w
same (false ∷ v) (false ∷ w) = same v w
same _ _ = false

-- the codes that a sign follows, where the block has coefficients
unfoldable pub codes : List (List Bool × (ℕ × ℕ))
codes = (later_one_word, (0, 1)) ∷ tcoeff_table

unfoldable pub begins : List Bool → Bool
begins word = list_any (λ row. is_prefix word row.0) codes || (is_prefix word escape_word || is_prefix word end_of_block_word)

abbrev pub by_code : List Bool → Option (List Bool × (ℕ × ℕ)) → BitStep
by_code word (Some row) = on Sign (row.1.0 + 1)
by_code word None = cond (begins word) (on (Code word) 0) (on Faulty 127)

abbrev pub by_bits : List Bool → BitStep
by_bits word =
    cond (same word end_of_block_word) (record { next = First; fills = 0; ends = true })
    (cond (same word escape_word) (on (Run 6) 0) (by_code word (find (λ row. same row.0 word) codes)))

abbrev pub bit_step : Pending → Bool → BitStep
bit_step First true = on Sign 1
bit_step First false = on (Code (false ∷ [])) 0
bit_step (Code word) b = by_bits (word ++ b ∷ [])
bit_step Sign b = on (Code []) 0
bit_step (Run (suc zero)) b = on Top (cond b 1 0 + 1)
bit_step (Run (suc (suc n))) b = on (Run (suc n)) (cond b (2 ^ suc n) 0)
bit_step Top b = on (Level 7 false) 0
bit_step (Level (suc zero) some) b = cond (some || b) (on (Code []) 0) (on Faulty 127)
bit_step (Level (suc (suc n)) some) b = on (Level (suc n) (some || b)) 0
bit_step Faulty b = on Faulty 0
bit_step _ b = on Faulty 127
