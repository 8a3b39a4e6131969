-- Inner contracts alone use this; nothing here has to be believed.
-- What the words of TCOEFF are to a block.
use Rattle.std.specs.Prelude.{ℕ, ◌+◌, ℤ, Option, Some, None}
use Rattle.vlc_codes.specs.declared.readers.CoefRow.{CoefRow}
use Rattle.vlc_codes.specs.declared.readers.CoefRow.TheVariants.{Pair, Escape, Eob}

-- the number of coefficients behind a word, the zeros among them, from that before it
abbrev pub filled_after : ℕ → CoefRow → ℕ
filled_after filled (Pair run level) = filled + run + 1
filled_after filled (Escape run level) = filled + run + 1
filled_after filled Eob = filled

abbrev pub run_and_level_of : CoefRow → Option (ℕ × ℤ)
run_and_level_of (Pair run level) = Some (run, level)
run_and_level_of (Escape run level) = Some (run, level)
run_and_level_of Eob = None
