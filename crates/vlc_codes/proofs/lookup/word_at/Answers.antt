use Rattle.std.proofs.Common.{◌≡◌, ℕ, List, Bool, ◌++◌, take, ap, sym, ◌∙◌, arith}
use Rattle.pel_bits.specs.Bits.{field, number}
use Rattle.pel_bits.specs.Reading.{zeros}
use Rattle.vlc_codes.specs.declared.lookup.Cell.{Cell}
use Rattle.vlc_codes.specs.Lookup.{words, cell_of}
use Rattle.vlc_codes.proofs.Computed.{words_free, words_within_32}
use Rattle.vlc_codes.proofs.WordLaws.{field-peeked, cell_found, cell_found-found, cell_found-none, cell_found-longer, err_is}
use Rattle.vlc_codes.proofs.lookup.word_at.Goals as goal
use Rattle.vlc_codes.proofs.lookup.word_at.Goals.{then-cell-eq0-via-then-cell-eq0, then-cell-eq0-via-else-cell-eq0+then-left-from}

-- the cell of the next 32 bits
peeked : (ws : List (List Bool)) (bits : List Bool) (top : ℕ) (cell : Cell) → top ≡ number (take 32 (bits ++ zeros 32)) → cell ≡ cell_of ws 0 (field top 32) → cell ≡ cell_of ws 0 (take 32 (bits ++ zeros 32))
peeked ws bits top cell is found = found ∙ ap (cell_of ws 0) (ap (λ (n : ℕ). field n 32) is ∙ field-peeked bits 32)

pub returns-then-cell-eq0 : goal.returns-then-cell-eq0
returns-then-cell-eq0 c =
    let ws = words c.args.table in
    let bits = c.args.r.now.0 in
    let cell = c.look_up-cell.result in
    let index = cell_found ws bits cell (words_free c.args.table) (words_within_32 c.args.table) (peeked ws bits c.args.top cell c.requires c.look_up-cell.ensures) in
    elim c.then-cell-eq0.branch [
      | then-cell-eq0-via-then-cell-eq0 w ↦ err_is c.why_none.ensures (index ∙ cell_found-none ws bits cell w.if-cell-eq0.true)
      | then-cell-eq0-via-else-cell-eq0+then-left-from w ↦ err_is c.why_none.ensures (index ∙ cell_found-longer ws bits cell (omega arith))
    ]

pub returns : goal.returns
returns c =
    let ws = words c.args.table in
    let bits = c.args.r.now.0 in
    let cell = c.look_up-cell.result in
    let index = cell_found ws bits cell (words_free c.args.table) (words_within_32 c.args.table) (peeked ws bits c.args.top cell c.requires c.look_up-cell.ensures) in
    sym (index ∙ cell_found-found ws bits cell c.if-cell-eq0.false (omega arith))
