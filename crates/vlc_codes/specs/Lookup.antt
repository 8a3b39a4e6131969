-- The lists of codewords, and which codeword of a list is a prefix of some bits.
use Rattle.std.specs.Prelude.{ℕ, ◌+◌, Bool, List, [], ◌∷◌, length, map, if◌then◌else◌}
use Rattle.pel_model.specs.Codes.{is_prefix, mtype_table, mvd_table, cbp_table}
use Rattle.pel_model.specs.Grammar as grammar
use Rattle.pel_model.specs.Grammar.{mba_rows, table_rows, first_rows, later_rows}
use Rattle.pel_model.specs.Records.{Across}
use Rattle.pel_model.specs.Walk.{Row}
use Rattle.vlc_codes.specs.declared.lookup.Cell.{Cell}
use Rattle.vlc_codes.specs.declared.lookup.Table.{Table}
use Rattle.vlc_codes.specs.declared.lookup.Table.TheVariants.{Mba, Mtype, Mvd, Cbp, CoefFirst, Coef}

-- the codewords of some rows of the grammar, without sign and without what follows an escape
abbrev pub codes_of_rows : {E : Type 0} → List (Row E) → List (List Bool)
codes_of_rows rows = map (λ row. row.code) rows

-- the codewords of a list, in the order of the grammar's rows; both components of MVD have the same
unfoldable pub words : Table → List (List Bool)
words Mba = codes_of_rows mba_rows
words Mtype = codes_of_rows (table_rows mtype_table grammar.Mtype)
words Mvd = codes_of_rows (table_rows mvd_table (grammar.Mvd Across))
words Cbp = codes_of_rows (table_rows cbp_table grammar.Cbp)
words CoefFirst = codes_of_rows first_rows
words Coef = codes_of_rows later_rows

abbrev pub no_cell : Cell
no_cell = record { len = 0; value = 0 }

-- length and index, from i on, of the first codeword that is a prefix of the bits
abbrev pub cell_of : List (List Bool) → ℕ → List Bool → Cell
cell_of [] i bits = no_cell
cell_of (w ∷ ws) i bits = if is_prefix w bits then record { len = length w; value = i } else cell_of ws (i + 1) bits
