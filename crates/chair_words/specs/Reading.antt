-- Inner contracts alone use this; nothing here has to be believed.
-- The bytes, the names and the answer, as the reader tells them apart.
use Rattle.std.specs.Prelude.{ℕ, ◌-◌, nat_le, Bool, ◌||◌, if◌then◌else◌, Option, Some, None, Result, Ok, Err, List, length, slice_index, codes}
use Rattle.std.specs.Char.{is_ascii_digit}
use Rattle.pel_model.specs.declared.chair.Command.{Command}
use Rattle.chair_words.specs.declared.reader.LineFault.{LineFault}
use Rattle.chair_words.specs.declared.reader.Name.{Name}
use Rattle.chair_words.specs.declared.reader.Name.TheVariants.{Place, Clear, Swap, Speaker, Pin, Unpin}
use Rattle.chair_words.specs.Words.{is_blank, begins_at}
use Rattle.chair_words.specs.Line.{Says, HasFaultAt}

-- the value of a decimal digit
abbrev pub digit_in : ℕ → Option ℕ
digit_in b = if is_ascii_digit b then Some (b - 48) else None

-- the place is not inside a word, nor at its end where no blank follows
abbrev pub is_between_words : List ℕ → ℕ → Bool
is_between_words line i = nat_le (length line) i || is_blank (slice_index line i) || begins_at line i

-- the names, as the reader tells them apart
abbrev pub text_of : Name → List ℕ
text_of Place = codes "place"
text_of Clear = codes "clear"
text_of Swap = codes "swap"
text_of Speaker = codes "speaker"
text_of Pin = codes "pin"
text_of Unpin = codes "unpin"

-- the answer is the command that the line says, or its first fault
abbrev pub AnswersLine : List ℕ → Result Command LineFault → Type 0
AnswersLine line (Ok c) = Says line c
AnswersLine line (Err e) = HasFaultAt line e.place e.why
