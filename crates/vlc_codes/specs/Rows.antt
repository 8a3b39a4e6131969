-- The elements of the grammar that the readers' answers stand for.
use Rattle.std.specs.Prelude.{true, false}
use Rattle.pel_model.specs.Grammar.{Element, Mba, Stuffing, Tcoeff, Eob as end_of_block}
use Rattle.vlc_codes.specs.declared.readers.MbaRow.{MbaRow}
use Rattle.vlc_codes.specs.declared.readers.MbaRow.TheVariants as mba_row
use Rattle.vlc_codes.specs.declared.readers.CoefRow.{CoefRow}
use Rattle.vlc_codes.specs.declared.readers.CoefRow.TheVariants.{Pair, Escape, Eob}

abbrev pub mba_element : MbaRow → Element
mba_element (mba_row.Difference n) = Mba n
mba_element mba_row.Stuffing = Stuffing

abbrev pub coefficient_element : CoefRow → Element
coefficient_element (Pair run level) = Tcoeff (record { run = run; level = level; long = false })
coefficient_element (Escape run level) = Tcoeff (record { run = run; level = level; long = true })
coefficient_element Eob = end_of_block
