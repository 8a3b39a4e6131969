-- The words of a line: its runs of bytes other than space, tab and carriage return, each as long as it can be.
use Rattle.std.specs.Prelude.{ℕ, ◌-◌, ◌==◌, Bool, not, ◌&&◌, ◌||◌, List, map, filter, length, slice_index, take_while, drop}
use Rattle.std.specs.List.{range_with_len}

-- a word, and where its first byte stands in the line
pub record Word : Type 0 where
  pub start : ℕ
  pub text : List ℕ

abbrev pub word_from : ℕ → List ℕ → Word
word_from start text = record { start = start; text = text }

-- a space, a tab or a carriage return
abbrev pub is_blank : ℕ → Bool
is_blank b = (b == 32) || (b == 9) || (b == 13)

-- a word begins at byte i: it is no blank, and it is the first byte or a blank stands before it
abbrev pub begins_at : List ℕ → ℕ → Bool
begins_at line i = not (is_blank (slice_index line i)) && ((i == 0) || is_blank (slice_index line (i - 1)))

-- the word that begins at byte i: it goes on to the next blank, or to the end
abbrev pub word_begun_at : List ℕ → ℕ → Word
word_begun_at line i = word_from i (take_while (λ b. not (is_blank b)) (drop i line))

-- the words that begin at byte i or behind it
abbrev pub words_from : List ℕ → ℕ → List Word
words_from line i = map (word_begun_at line) (filter (begins_at line) (range_with_len i (length line - i)))

-- the words of the line, in order
abbrev pub words_in : List ℕ → List Word
words_in line = words_from line 0
