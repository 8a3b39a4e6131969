-- A window of bits, and the words that stand whole in it.
use Rattle.std.proofs.Common.{◌≡◌, ◌≢◌, ℕ, ◌-◌, ◌*◌, ◌/◌, ◌%◌, ◌^◌, ◌<◌, ◌≤◌, Bool, List, ◌++◌, length, take, drop, Ok, sym, ◌∙◌, ap, arith, length-take}
use Rattle.std.proofs.lemmas.List.{take-take, take-append-drop}
use Rattle.pel_bits.specs.Bits.{field, number}
use Rattle.pel_bits.specs.Reading.{skipped}
use Rattle.pel_bits.proofs.Fields.{length-field, field-number, number-fits}
use Rattle.pel_model.specs.Bits as model
use Rattle.pel_model.specs.Walk.{Good, read}
use Rattle.pel_model.specs.Grammar.{Mquant, field_rows}
use Rattle.pel_model.proofs.Steps.{field-good}
use Rattle.vlc_codes.specs.declared.lookup.Cell.{Cell}
use Rattle.vlc_codes.specs.declared.lookup.Table.{Table}
use Rattle.vlc_codes.specs.Lookup.{words, cell_of}
use Rattle.vlc_codes.specs.Inner.{found_cell, cell_or_cause}
use Rattle.vlc_codes.proofs.Computed.{words_free, words_within_32}
use Rattle.vlc_codes.proofs.CoefficientLaws.{same_number}
use Rattle.vlc_codes.proofs.WordLaws.{within, cell-cut, cell_found-found}
use Rattle.h261_block.proofs.WindowLaws.{first-bits, shifted, window-up}

-- the bits that are left, which stand first in a word, and how many were taken
abbrev pub seen : ℕ → ℕ → List Bool × ℕ
seen rest left = (take left (field rest 64), 56 - left)

pub seen_long : (rest left : ℕ) → left ≤ 56 → length (take left (field rest 64)) ≡ left
seen_long rest left fits = length-take left (field rest 64) ∙ omega (arith, length-field rest 64)

-- some bits further on
pub seen-skipped : (rest left count : ℕ) → left ≤ 56 → count ≤ left → seen (rest * 2 ^ count % 2 ^ 64) (left - count) ≡ skipped count (seen rest left)
seen-skipped rest left count fits inside =
    ap (λ (t : List Bool). (t, 56 - (left - count))) (shifted rest count left inside (omega arith))
    ∙ ap (λ (k : ℕ). (drop count (take left (field rest 64)), k)) (omega arith)

-- those of a reader
pub seen-whole : (window : ℕ) (bits : List Bool) → 56 ≤ length bits → window ≡ number (take 56 bits) → seen (window * 2 ^ 8 % 2 ^ 64) 56 ≡ (take 56 bits, 0)
seen-whole window bits long is =
    ap (λ (t : List Bool). (t, 0))
    (window-up window
    ∙ (ap (λ (n : ℕ). field n 56) is ∙ (ap (field (number (take 56 bits))) (omega (arith, length-take 56 bits, long)) ∙ field-number (take 56 bits))))

-- the codeword with which the next 32 bits begin stands there where it is no longer than what is left
pub word-seen : (table : Table) (rest left : ℕ) (cell : Cell) → left ≤ 56 → cell ≡ cell_of (words table) 0 (field (rest / 2 ^ 32) 32) → cell.len ≢ 0 → cell.len ≤ left → found_cell (words table) (take left (field rest 64)) ≡ Ok cell
word-seen table rest left cell fits is some inside =
    let ws : List (List Bool) = words table in
    let bits : List Bool = take left (field rest 64) in
    let more : List Bool = drop left (field rest 64) in
    let next : take 32 (bits ++ more) ≡ field (rest / 2 ^ 32) 32 = ap (take 32) (take-append-drop left (field rest 64)) ∙ first-bits rest 32 (omega arith) in
    let here : cell_of ws 0 (take 32 (bits ++ more)) ≡ cell = ap (cell_of ws 0) next ∙ sym is in
    ap (cell_or_cause ws bits) (cell-cut ws 0 bits more 32 (words_free table) (words_within_32 table) ∙ ap (within (length bits)) here)
    ∙ cell_found-found ws bits cell some (omega (arith, inside, seen_long rest left fits))

-- five bits
pub five-seen : (rest left : ℕ) → rest < 2 ^ 64 → left ≤ 56 → 5 ≤ left → read (field_rows 5 Mquant) (take left (field rest 64)) ≡ Good (Mquant (rest / 2 ^ 59)) 5
five-seen rest left whole fits some =
    let bits : List Bool = take left (field rest 64) in
    let next : take 5 bits ≡ field (rest / 2 ^ 59) 5 = take-take 5 left (field rest 64) some ∙ first-bits rest 5 (omega arith) in
    let is : model.number (take 5 bits) ≡ rest / 2 ^ 59 = same_number (take 5 bits) ∙ (ap number next ∙ number-fits (rest / 2 ^ 59) 5 (omega (arith, whole))) in
    field-good 5 Mquant bits (omega (arith, some, seen_long rest left fits)) ∙ ap (λ (q : ℕ). Good (Mquant q) 5) is
