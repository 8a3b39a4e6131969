-- Inner contracts alone use this; nothing here has to be believed.
-- A word of a list, as a table of the code has it: 16 times its index, and its length; 0 is no word.
use Rattle.std.specs.Prelude.{ℕ, ◌/◌, ◌%◌}
use Rattle.vlc_codes.specs.declared.lookup.Cell.{Cell}

abbrev pub as_word : ℕ → Cell
as_word n = record { len = n % 16; value = n / 16 }
