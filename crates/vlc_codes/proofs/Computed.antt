-- What is computed of the six tables.
use Rattle.std.proofs.Common.{◌≡◌, ℕ, ℤ, pos, negsuc, ◌≤ℤ◌, ◌≤◌, ◌&&◌, arith, ◌+◌, ◌^◌, ◌<◌, Bool, true, false, cond, List, [], ◌∷◌, ◌++◌, refl, sym, ap, ◌∙◌, map, take, get_or, length, nat_le, nat_lt}
use Rattle.std.specs.List.{list_all}
use Rattle.std.proofs.lemmas.Bool.{leb-true, and_parts}
use Rattle.std.proofs.lemmas.List.{get_or_append_left, get_or-take}
use Rattle.std.proofs.lemmas.Int.{ints}
use Rattle.pel_bits.specs.Bits.{field}
use Rattle.pel_bits.specs.Reading.{zeros}
use Rattle.pel_model.specs.Codes.{is_prefix_free, end_of_block_word, mba_table, mtype_table, mvd_table, cbp_table, tcoeff_table}
use Rattle.vlc_codes.specs.declared.cells.Cells.{Cells}
use Rattle.vlc_codes.specs.declared.cells.TheConstants as cells
use Rattle.vlc_codes.specs.declared.codes.TheConstants as codes
use Rattle.vlc_codes.specs.declared.lookup.Table.{Table}
use Rattle.vlc_codes.specs.declared.lookup.Table.TheVariants as table
use Rattle.vlc_codes.specs.declared.readers.MbaRow.{MbaRow}
use Rattle.vlc_codes.specs.declared.readers.MbaRow.TheVariants as mba_row
use Rattle.pel_model.specs.Records.{Axis}
use Rattle.pel_model.specs.Walk.{Row}
use Rattle.pel_model.specs.Grammar as grammar
use Rattle.pel_model.specs.Grammar.{Element, Eob, Slot, AtPsc, AtTr, AtPtype, AtPei, AtPspare, AtGroup, AtGn, AtGquant, AtGei, AtGspare, AtMacroblock, AtMtype, AtMquant, AtCbp, AtDc, AtFirst, AtCoefficient, AtMvd, rows, mba_rows, table_rows, first_rows, later_rows, coefficient_row, escape_row, word_row}
use Rattle.vlc_codes.specs.Rows.{mba_element}
use Rattle.vlc_codes.proofs.WordLaws.{all_at}
use Rattle.vlc_codes.specs.declared.lookup.Table.TheVariants.{Mba, Mtype, Mvd, Cbp, CoefFirst, Coef}
use Rattle.vlc_codes.specs.Lookup.{words, codes_of_rows, cell_of, no_cell}
use Rattle.vlc_codes.specs.Inner.{cell_in, code_word}
use Rattle.vlc_codes.proofs.CellLaws.{front, listed, listed_at, all_settled, cell-in}

abbrev pub cells_of : Table → Cells
cells_of Mba = cells.MBA
cells_of Mtype = cells.MTYPE
cells_of Mvd = cells.MVD
cells_of Cbp = cells.CBP
cells_of CoefFirst = cells.FIRST_COEFFICIENT
cells_of Coef = cells.COEFFICIENT

abbrev pub codes_of : Table → List (ℕ × ℕ)
codes_of Mba = codes.MBA
codes_of Mtype = codes.MTYPE
codes_of Mvd = codes.MVD
codes_of Cbp = codes.CBP
codes_of CoefFirst = codes.FIRST_COEFFICIENT
codes_of Coef = codes.COEFFICIENT

-- no word of a list is a front of another
pub words_free : (table : Table) → is_prefix_free (words table) ≡ true
unfolding words field mba_table mtype_table mvd_table cbp_table tcoeff_table
words_free Mba = refl
words_free Mtype = refl
words_free Mvd = refl
words_free Cbp = refl
words_free CoefFirst = refl
words_free Coef = refl

-- nor is one of what may stand behind some elements
pub slots_free : (slot : Slot) → is_prefix_free (codes_of_rows (rows slot)) ≡ true
unfolding rows mba_table mtype_table mvd_table cbp_table tcoeff_table
slots_free AtPsc = refl
slots_free AtTr = refl
slots_free AtPtype = refl
slots_free AtPei = refl
slots_free AtPspare = refl
slots_free AtGroup = refl
slots_free AtGn = refl
slots_free AtGquant = refl
slots_free AtGei = refl
slots_free AtGspare = refl
slots_free AtMacroblock = refl
slots_free AtMtype = refl
slots_free AtMquant = refl
slots_free AtCbp = refl
slots_free AtDc = refl
slots_free AtFirst = refl
slots_free AtCoefficient = refl
slots_free (AtMvd axis) = refl

-- no word is longer than 16 bits
pub words_short : (table : Table) → list_all (λ w. nat_le (length w) 16) (words table) ≡ true
unfolding words field mba_table mtype_table mvd_table cbp_table tcoeff_table
words_short Mba = refl
words_short Mtype = refl
words_short Mvd = refl
words_short Cbp = refl
words_short CoefFirst = refl
words_short Coef = refl

-- the cells are those of the words
pub lens_computed : (table : Table) → (cells_of table).lens ≡ listed (λ k. (cell_of (words table) 0 (front k)).len) 0 320
unfolding words field mba_table mtype_table mvd_table cbp_table tcoeff_table
lens_computed Mba = refl
lens_computed Mtype = refl
lens_computed Mvd = refl
lens_computed Cbp = refl
lens_computed CoefFirst = refl
lens_computed Coef = refl

pub indices_computed : (table : Table) → (cells_of table).indices ≡ listed (λ k. (cell_of (words table) 0 (front k)).value) 0 320
unfolding words field mba_table mtype_table mvd_table cbp_table tcoeff_table
indices_computed Mba = refl
indices_computed Mtype = refl
indices_computed Mvd = refl
indices_computed Cbp = refl
indices_computed CoefFirst = refl
indices_computed Coef = refl

-- an index decides each word
pub cells_settled : (table : Table) → listed (λ k. all_settled (words table) (front k)) 0 320 ≡ listed (λ k. true) 0 320
unfolding words field mba_table mtype_table mvd_table cbp_table tcoeff_table
cells_settled Mba = refl
cells_settled Mtype = refl
cells_settled Mvd = refl
cells_settled Cbp = refl
cells_settled CoefFirst = refl
cells_settled Coef = refl

-- no word begins with ten zeros
pub zeros_settled : (table : Table) → all_settled (words table) (zeros 10) ≡ true
unfolding words field mba_table mtype_table mvd_table cbp_table tcoeff_table
zeros_settled Mba = refl
zeros_settled Mtype = refl
zeros_settled Mvd = refl
zeros_settled Cbp = refl
zeros_settled CoefFirst = refl
zeros_settled Coef = refl

pub zeros_none : (table : Table) → cell_of (words table) 0 (zeros 10) ≡ no_cell
unfolding words field mba_table mtype_table mvd_table cbp_table tcoeff_table
zeros_none Mba = refl
zeros_none Mtype = refl
zeros_none Mvd = refl
zeros_none Cbp = refl
zeros_none CoefFirst = refl
zeros_none Coef = refl

-- the words of the code are those of the lists
pub codes_computed : (table : Table) → map code_word (codes_of table) ≡ words table
unfolding words field mba_table mtype_table mvd_table cbp_table tcoeff_table
codes_computed Mba = refl
codes_computed Mtype = refl
codes_computed Mvd = refl
codes_computed Cbp = refl
codes_computed CoefFirst = refl
codes_computed Coef = refl

pub looked : (table : Table) (top : ℕ) → top < 2 ^ 32 → cell_in (cells_of table).lens (cells_of table).indices top ≡ cell_of (words table) 0 (field top 32)
looked table top fits =
    cell-in (cells_of table).lens (cells_of table).indices (words table) (lens_computed table) (indices_computed table) (cells_settled table) (zeros_settled table) (zeros_none table) top fits

pub words_within_32 : (table : Table) → list_all (λ w. nat_le (length w) 32) (words table) ≡ true
unfolding words field mba_table mtype_table mvd_table cbp_table tcoeff_table
words_within_32 Mba = refl
words_within_32 Mtype = refl
words_within_32 Mvd = refl
words_within_32 Cbp = refl
words_within_32 CoefFirst = refl
words_within_32 Coef = refl

pub words_some : (table : Table) → list_all (λ w. nat_lt 0 (length w)) (words table) ≡ true
unfolding words field mba_table mtype_table mvd_table cbp_table tcoeff_table
words_some Mba = refl
words_some Mtype = refl
words_some Mvd = refl
words_some Cbp = refl
words_some CoefFirst = refl
words_some Coef = refl

abbrev pub word_count : Table → ℕ
word_count Mba = 34
word_count Mtype = 10
word_count Mvd = 32
word_count Cbp = 63
word_count CoefFirst = 64
word_count Coef = 65

pub words_counted : (table : Table) → length (words table) ≡ word_count table
unfolding words mba_table mtype_table mvd_table cbp_table tcoeff_table
words_counted Mba = refl
words_counted Mtype = refl
words_counted Mvd = refl
words_counted Cbp = refl
words_counted CoefFirst = refl
words_counted Coef = refl

-- ---- the rows of the grammar: their codes are the words, and their meanings those of the code

pub mba_codes : codes_of_rows mba_rows ≡ words Mba
unfolding words mba_table mtype_table mvd_table cbp_table tcoeff_table
mba_codes = refl

pub mba_tails : map (λ row. row.tail) mba_rows ≡ map (λ row. 0) mba_rows
unfolding words mba_table mtype_table mvd_table cbp_table tcoeff_table
mba_tails = refl

abbrev pub mba_meanings : List MbaRow
mba_meanings = listed (λ k. mba_row.Difference (k + 1)) 0 33 ++ mba_row.Stuffing ∷ []

pub mba_makes : map (λ row. row.make 0) mba_rows ≡ map mba_element mba_meanings
unfolding words mba_table mtype_table mvd_table cbp_table tcoeff_table
mba_makes = refl

pub mtype_codes : codes_of_rows (table_rows mtype_table grammar.Mtype) ≡ words table.Mtype
unfolding words mba_table mtype_table mvd_table cbp_table tcoeff_table
mtype_codes = refl

pub mtype_tails : map (λ row. row.tail) (table_rows mtype_table grammar.Mtype) ≡ map (λ row. 0) (table_rows mtype_table grammar.Mtype)
unfolding words mba_table mtype_table mvd_table cbp_table tcoeff_table
mtype_tails = refl

pub mtype_makes : map (λ row. row.make 0) (table_rows mtype_table grammar.Mtype) ≡ map grammar.Mtype codes.KINDS
unfolding words mba_table mtype_table mvd_table cbp_table tcoeff_table
mtype_makes = refl

pub mvd_codes : (axis : Axis) → codes_of_rows (table_rows mvd_table (grammar.Mvd axis)) ≡ words table.Mvd
unfolding words mba_table mtype_table mvd_table cbp_table tcoeff_table
mvd_codes axis = refl

pub mvd_tails : (axis : Axis) → map (λ row. row.tail) (table_rows mvd_table (grammar.Mvd axis)) ≡ map (λ row. 0) (table_rows mvd_table (grammar.Mvd axis))
unfolding words mba_table mtype_table mvd_table cbp_table tcoeff_table
mvd_tails axis = refl

pub mvd_makes : (axis : Axis) → map (λ row. row.make 0) (table_rows mvd_table (grammar.Mvd axis)) ≡ map (grammar.Mvd axis) codes.DIFFERENCES
unfolding words mba_table mtype_table mvd_table cbp_table tcoeff_table
mvd_makes axis = refl

pub cbp_codes : codes_of_rows (table_rows cbp_table grammar.Cbp) ≡ words table.Cbp
unfolding words mba_table mtype_table mvd_table cbp_table tcoeff_table
cbp_codes = refl

pub cbp_tails : map (λ row. row.tail) (table_rows cbp_table grammar.Cbp) ≡ map (λ row. 0) (table_rows cbp_table grammar.Cbp)
unfolding words mba_table mtype_table mvd_table cbp_table tcoeff_table
cbp_tails = refl

pub cbp_makes : map (λ row. row.make 0) (table_rows cbp_table grammar.Cbp) ≡ map grammar.Cbp codes.PATTERNS
unfolding words mba_table mtype_table mvd_table cbp_table tcoeff_table
cbp_makes = refl

abbrev pub rows_at : Bool → List (Row Element)
rows_at first = cond first first_rows later_rows

abbrev pub table_at : Bool → Table
table_at first = cond first CoefFirst Coef

pub coefficient_codes : (first : Bool) → codes_of_rows (rows_at first) ≡ words (table_at first)
unfolding words mba_table mtype_table mvd_table cbp_table tcoeff_table
coefficient_codes true = refl
coefficient_codes false = refl

-- the first 63 rows are codes
abbrev pub pair_row : Bool → ℕ → Row Element
pair_row first k = coefficient_row (get_or (words (table_at first)) k []) (get_or codes.PAIRS k (0, 0)).0 (get_or codes.PAIRS k (0, 0)).1

pub coefficient_pairs : (first : Bool) → take 63 (rows_at first) ≡ listed (λ k. pair_row first k) 0 63
unfolding words mba_table mtype_table mvd_table cbp_table tcoeff_table
coefficient_pairs true = refl
coefficient_pairs false = refl

pub coefficient_escape : (first : Bool) (d : Row Element) → get_or (rows_at first) 63 d ≡ escape_row
unfolding words mba_table mtype_table mvd_table cbp_table tcoeff_table
coefficient_escape true d = refl
coefficient_escape false d = refl

pub coefficient_end : (d : Row Element) → get_or later_rows 64 d ≡ word_row end_of_block_word Eob
unfolding words mba_table mtype_table mvd_table cbp_table tcoeff_table
coefficient_end d = refl

-- levels are small
pub levels_small : list_all (λ pair. nat_le pair.1 15) codes.PAIRS ≡ true
levels_small = refl

-- differences lie from -30 to 30
abbrev is_near : ℤ → Bool
is_near (pos n) = nat_le n 30
is_near (negsuc n) = nat_le n 29

near_bounds : (z : ℤ) → is_near z ≡ true → (negsuc 29 ≤ℤ z) × (z ≤ℤ pos 30)
near_bounds (pos n) h = let le : n ≤ 30 = leb-true n 30 h in (omega (arith, ints), omega (arith, ints))
near_bounds (negsuc n) h = let le : n ≤ 29 = leb-true n 29 h in (omega (arith, ints), omega (arith, ints))

abbrev both_near : ℤ × ℤ → Bool
both_near v = is_near v.0 && is_near v.1

differences_near : list_all both_near codes.DIFFERENCES ≡ true
differences_near = refl

pub differences_bounds : (k : ℕ) (d : ℤ × ℤ) → k < 32 → (negsuc 29 ≤ℤ (get_or codes.DIFFERENCES k d).0) × ((get_or codes.DIFFERENCES k d).0 ≤ℤ pos 30) × (negsuc 29 ≤ℤ (get_or codes.DIFFERENCES k d).1) × ((get_or codes.DIFFERENCES k d).1 ≤ℤ pos 30)
differences_bounds k d inside =
    let v : ℤ × ℤ = get_or codes.DIFFERENCES k d in
    let near = all_at both_near codes.DIFFERENCES k d differences_near inside in
    let first = near_bounds v.0 (and_parts (is_near v.0) (is_near v.1) near).0 in
    let second = near_bounds v.1 (and_parts (is_near v.0) (is_near v.1) near).1 in
    (first.0, first.1, second.0, second.1)

pub level_bound : (k : ℕ) (d : ℕ × ℕ) → k < 63 → (get_or codes.PAIRS k d).1 ≤ 15
level_bound k d inside =
    leb-true (get_or codes.PAIRS k d).1 15 (all_at (λ pair. nat_le pair.1 15) codes.PAIRS k d levels_small inside)

pub mba_step : (k : ℕ) (d : MbaRow) → k < 33 → get_or mba_meanings k d ≡ mba_row.Difference (k + 1)
mba_step k d inside =
    get_or_append_left (listed (λ k. mba_row.Difference (k + 1)) 0 33) (mba_row.Stuffing ∷ []) d k inside ∙ listed_at (λ k. mba_row.Difference (k + 1)) 33 k d inside

pub mba_stuffing : (k : ℕ) (d : MbaRow) → k ≡ 33 → get_or mba_meanings k d ≡ mba_row.Stuffing
mba_stuffing k d last = ap (λ (k : ℕ). get_or mba_meanings k d) last

pub coefficient_short : (first : Bool) (k : ℕ) → k < length (words (table_at first)) → length (get_or (words (table_at first)) k []) ≤ 16
coefficient_short first k inside =
    leb-true (length (get_or (words (table_at first)) k [])) 16 (all_at (λ w. nat_le (length w) 16) (words (table_at first)) k [] (words_short (table_at first)) inside)

-- the row of a code, of the escape, and of the end of a block
pub row-pair : (first : Bool) (k : ℕ) (d : Row Element) → k < 63 → get_or (rows_at first) k d ≡ pair_row first k
row-pair first k d inside =
    sym (get_or-take 63 (rows_at first) k d inside)
    ∙ (ap (λ (rows : List (Row Element)). get_or rows k d) (coefficient_pairs first) ∙ listed_at (λ k. pair_row first k) 63 k d inside)

pub row-escape : (first : Bool) (k : ℕ) (d : Row Element) → k ≡ 63 → get_or (rows_at first) k d ≡ escape_row
row-escape first k d is = ap (λ (k : ℕ). get_or (rows_at first) k d) is ∙ coefficient_escape first d

pub row-end : (first : Bool) (k : ℕ) (d : Row Element) → k < length (words (table_at first)) → 63 < k → get_or (rows_at first) k d ≡ word_row end_of_block_word Eob
row-end true k d inside far = absurd (omega (arith, words_counted CoefFirst))
row-end false k d inside far =
    let is : k ≡ 64 = omega (arith, words_counted Coef) in
    ap (λ (k : ℕ). get_or later_rows k d) is ∙ coefficient_end d
