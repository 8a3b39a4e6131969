use Rattle.std.proofs.Common.{◌≡◌, ◌≢◌, ◌≤◌, ℕ, ◌<◌, [], length, get_or, ap, refl, sym, ◌∙◌, subst, arith}
use Rattle.std.proofs.lemmas.Result.{err_from_is_err_and}
use Rattle.pel_model.specs.Codes.{end_of_block_word}
use Rattle.pel_model.specs.Walk.{Standing, Row, TakesWord, whole_word}
use Rattle.pel_model.specs.Grammar.{Element, Eob, word_row}
use Rattle.pel_bits.specs.Reading.{skipped}
use Rattle.vlc_codes.specs.Lookup.{words}
use Rattle.vlc_codes.specs.Rows.{coefficient_element}
use Rattle.vlc_codes.proofs.Computed.{rows_at, table_at, coefficient_codes, coefficient_short, row-pair, row-escape, row-end, words_some, level_bound}
use Rattle.vlc_codes.proofs.WordLaws.{read-found, read-none, cell_within, cell_length, whole-good}
use Rattle.vlc_codes.proofs.readers.tcoeff.Goals as goal

pub returns-in_err-cell : goal.returns-in_err-cell
returns-in_err-cell c =
    let p = err_from_is_err_and c.from_residual.result c.from_residual.ensures.1 in
    let none = sym (rw c.coefficient_table.ensures at c.in_err-cell.ensures) in
    rw (p.1, p.2) (record { bad = read-none (rows_at c.args.first) (words (table_at c.args.first)) c.args.r.now.0 _ (coefficient_codes c.args.first) (words_some (table_at c.args.first)) none; kept = refl })

past : (n : ℕ) → 63 ≤ n → n ≢ 63 → 63 < n
past n least other = omega arith

pub pair-requires-clause-short : goal.pair-requires-clause-short
pair-requires-clause-short c =
    let found = sym (rw c.coefficient_table.ensures at c.in_ok-cell.ensures) in
    let ws = words (table_at c.args.first) in
    omega (arith, c.from-len.ensures, cell_length ws c.args.r.now.0 c.in_ok-cell.cell found, coefficient_short c.args.first c.in_ok-cell.cell.value (cell_within ws c.args.r.now.0 c.in_ok-cell.cell found).0)

pub pair-requires-clause-inside : goal.pair-requires-clause-inside
pair-requires-clause-inside c =
    let found = sym (rw c.coefficient_table.ensures at c.in_ok-cell.ensures) in
    omega (arith, c.from-len.ensures, (cell_within (words (table_at c.args.first)) c.args.r.now.0 c.in_ok-cell.cell found).1)

pub pair-requires-clause-small : goal.pair-requires-clause-small
pair-requires-clause-small c = level_bound c.from.result _ (omega (arith, c.from.ensures))

pub skip-requires : goal.skip-requires
skip-requires c =
    let found = sym (rw c.coefficient_table.ensures at c.in_ok-cell.ensures) in
    omega (arith, c.from-len.ensures, (cell_within (words (table_at c.args.first)) c.args.r.now.0 c.in_ok-cell.cell found).1)

pub returns-then-cell-lt63 : goal.returns-then-cell-lt63
returns-then-cell-lt63 c =
    let bits = c.args.r.now.0 in
    let ws = words (table_at c.args.first) in
    let index = c.in_ok-cell.cell.value in
    let found = sym (rw c.coefficient_table.ensures at c.in_ok-cell.ensures) in
    let here = read-found (rows_at c.args.first) ws bits c.in_ok-cell.cell (coefficient_codes c.args.first) found in
    let row = sym (here.at here.row) ∙ row-pair c.args.first index here.row c.if-cell-lt63.true in
    let here_is = here.is ∙ ap (λ (row : Row Element). whole_word row bits) row in
    let long = cell_length ws bits c.in_ok-cell.cell found ∙ sym c.from-len.ensures in
    let took = rw c.from.ensures at c.pair.ensures in
    subst (λ (stands : Standing Element). TakesWord coefficient_element stands c.pair.result c.args.r.now c.pair.new.r) (sym here_is) (took (get_or ws index []) long)

pub returns-then-cell-eq63 : goal.returns-then-cell-eq63
returns-then-cell-eq63 c =
    let bits = c.args.r.now.0 in
    let found = sym (rw c.coefficient_table.ensures at c.in_ok-cell.ensures) in
    let here = read-found (rows_at c.args.first) (words (table_at c.args.first)) bits c.in_ok-cell.cell (coefficient_codes c.args.first) found in
    let row = sym (here.at here.row) ∙ row-escape c.args.first c.in_ok-cell.cell.value here.row c.if-cell-eq63.true in
    let here_is = here.is ∙ ap (λ (row : Row Element). whole_word row bits) row in
    subst (λ (stands : Standing Element). TakesWord coefficient_element stands c.escape.result c.args.r.now c.escape.new.r) (sym here_is) c.escape.ensures

pub returns-else-cell-eq63 : goal.returns-else-cell-eq63
returns-else-cell-eq63 c =
    let bits = c.args.r.now.0 in
    let ws = words (table_at c.args.first) in
    let cell = c.in_ok-cell.cell in
    let found = sym (rw c.coefficient_table.ensures at c.in_ok-cell.ensures) in
    let here = read-found (rows_at c.args.first) ws bits cell (coefficient_codes c.args.first) found in
    let inside = cell_within ws bits cell found in
    let row = sym (here.at here.row) ∙ row-end c.args.first cell.value here.row inside.0 (past cell.value c.if-cell-lt63.false c.if-cell-eq63.false) in
    let long : 2 ≡ cell.len = ap (λ (row : Row Element). length row.code) (sym row) ∙ here.long in
    let here_is = here.is ∙ (ap (λ (row : Row Element). whole_word row bits) row ∙ whole-good (word_row end_of_block_word Eob) bits (omega (arith, long, inside.1))) in
    record { len = 2; good = here_is; behind = c.skip.ensures ∙ ap (λ (n : ℕ). skipped n c.args.r.now) (c.from-len.ensures ∙ sym long) }
