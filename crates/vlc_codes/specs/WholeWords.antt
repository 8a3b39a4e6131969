-- Whole words: a codeword and the bits that follow it, as the sign of a coefficient, or the run and the level of an
-- escape.
use Rattle.std.specs.Prelude.{◌≡◌, ◌+◌, Bool, true, List, length, Any}
use Rattle.pel_model.specs.Codes.{is_prefix}
use Rattle.pel_model.specs.Walk.{Row}

-- the bits are a whole word of the row
pub record IsWordOf {E : Type 0} (row : Row E) (word : List Bool) : Type 0 where
  pub front : is_prefix row.code word ≡ true
  pub long : length word ≡ length row.code + row.tail

abbrev pub IsWord : {E : Type 0} → List (Row E) → List Bool → Type 0
IsWord rows word = Any (λ row. IsWordOf row word) rows

-- no whole word is a prefix of another: one that is a prefix of one is that one
abbrev pub ArePrefixFree : {E : Type 0} → List (Row E) → Type 0
ArePrefixFree rows = (word other : List Bool) → IsWord rows word → IsWord rows other → is_prefix word other ≡ true → word ≡ other
