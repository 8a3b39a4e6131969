-- The tables of the words of a header, computed from the lists, and what they say of any bits.
use Rattle.std.proofs.Common.{◌≡◌, ℕ, zero, suc, ◌+◌, ◌/◌, ◌^◌, ◌<◌, Bool, true, List, [], ◌∷◌, ◌++◌, map, get_or, refl, sym, ◌∙◌, ap, arith}
use Rattle.pel_bits.specs.Bits.{field}
use Rattle.pel_bits.proofs.Fields.{field-add}
use Rattle.pel_model.specs.Codes.{mba_table, mtype_table, mvd_table, cbp_table}
use Rattle.vlc_codes.specs.declared.lookup.Cell.{Cell}
use Rattle.vlc_codes.specs.declared.lookup.Table.TheVariants.{Mba, Mtype, Mvd, Cbp}
use Rattle.vlc_codes.specs.Lookup.{words, cell_of, no_cell}
use Rattle.vlc_codes.proofs.CellLaws.{listed, listed_at, all_settled, cell-settled}
use Rattle.h261_mb.specs.declared.direct.TheConstants as direct
use Rattle.h261_mb.specs.Looks.{as_word}

word-at : (ns : List ℕ) (k : ℕ) → get_or (map as_word ns) k no_cell ≡ as_word (get_or ns k 0)
word-at [] k = refl
word-at (n ∷ ns) zero = refl
word-at (n ∷ ns) (suc k) = word-at ns k

-- where each of so many bits' cells is that of these bits, and they decide, a cell is that of all bits that begin with them
found : (ws : List (List Bool)) (ns : List ℕ) (wide up many : ℕ) → map as_word ns ≡ listed (λ k. cell_of ws 0 (field k wide)) 0 many
    → listed (λ k. all_settled ws (field k wide)) 0 many ≡ listed (λ k. true) 0 many
    → wide + up ≡ 32 → (top k : ℕ) → k ≡ top / 2 ^ up → k < many → as_word (get_or ns k 0) ≡ cell_of ws 0 (field top 32)
found ws ns wide up many computed settled sum top k k_is inside =
    let here : as_word (get_or ns k 0) ≡ cell_of ws 0 (field k wide) =
    sym (word-at ns k) ∙ (ap (λ (cs : List Cell). get_or cs k no_cell) computed ∙ listed_at (λ k. cell_of ws 0 (field k wide)) many k no_cell inside) in
    let decided : all_settled ws (field k wide) ≡ true =
    sym (listed_at (λ k. all_settled ws (field k wide)) many k true inside) ∙ (ap (λ (bs : List Bool). get_or bs k true) settled ∙ listed_at (λ k. true) many k true inside) in
    let bits : field top 32 ≡ field k wide ++ field top up =
    ap (field top) (sym sum) ∙ (field-add top wide up ∙ ap (λ (n : ℕ). field n wide ++ field top up) (sym k_is)) in
    here ∙ sym (ap (cell_of ws 0) bits ∙ cell-settled ws 0 (field k wide) (field top up) decided)

-- ---- MBA, MTYPE, MVD and CBP

mba_computed : map as_word direct.MBA ≡ listed (λ k. cell_of (words Mba) 0 (field k 11)) 0 2048
unfolding words field mba_table mtype_table mvd_table cbp_table
mba_computed = refl

mba_settled : listed (λ k. all_settled (words Mba) (field k 11)) 0 2048 ≡ listed (λ k. true) 0 2048
unfolding words field mba_table mtype_table mvd_table cbp_table
mba_settled = refl

mtype_computed : map as_word direct.MTYPE ≡ listed (λ k. cell_of (words Mtype) 0 (field k 10)) 0 1024
unfolding words field mba_table mtype_table mvd_table cbp_table
mtype_computed = refl

mtype_settled : listed (λ k. all_settled (words Mtype) (field k 10)) 0 1024 ≡ listed (λ k. true) 0 1024
unfolding words field mba_table mtype_table mvd_table cbp_table
mtype_settled = refl

mvd_computed : map as_word direct.MVD ≡ listed (λ k. cell_of (words Mvd) 0 (field k 11)) 0 2048
unfolding words field mba_table mtype_table mvd_table cbp_table
mvd_computed = refl

mvd_settled : listed (λ k. all_settled (words Mvd) (field k 11)) 0 2048 ≡ listed (λ k. true) 0 2048
unfolding words field mba_table mtype_table mvd_table cbp_table
mvd_settled = refl

cbp_computed : map as_word direct.CBP ≡ listed (λ k. cell_of (words Cbp) 0 (field k 9)) 0 512
unfolding words field mba_table mtype_table mvd_table cbp_table
cbp_computed = refl

cbp_settled : listed (λ k. all_settled (words Cbp) (field k 9)) 0 512 ≡ listed (λ k. true) 0 512
unfolding words field mba_table mtype_table mvd_table cbp_table
cbp_settled = refl

pub mba-word : (rest : ℕ) → rest < 2 ^ 64 → as_word (get_or direct.MBA (rest / 2 ^ 53) 0) ≡ cell_of (words Mba) 0 (field (rest / 2 ^ 32) 32)
mba-word rest fits = found (words Mba) direct.MBA 11 21 2048 mba_computed mba_settled refl (rest / 2 ^ 32) (rest / 2 ^ 53) (omega arith) (omega (arith, fits))

pub mtype-word : (rest : ℕ) → rest < 2 ^ 64 → as_word (get_or direct.MTYPE (rest / 2 ^ 54) 0) ≡ cell_of (words Mtype) 0 (field (rest / 2 ^ 32) 32)
mtype-word rest fits = found (words Mtype) direct.MTYPE 10 22 1024 mtype_computed mtype_settled refl (rest / 2 ^ 32) (rest / 2 ^ 54) (omega arith) (omega (arith, fits))

pub mvd-word : (rest : ℕ) → rest < 2 ^ 64 → as_word (get_or direct.MVD (rest / 2 ^ 53) 0) ≡ cell_of (words Mvd) 0 (field (rest / 2 ^ 32) 32)
mvd-word rest fits = found (words Mvd) direct.MVD 11 21 2048 mvd_computed mvd_settled refl (rest / 2 ^ 32) (rest / 2 ^ 53) (omega arith) (omega (arith, fits))

pub cbp-word : (rest : ℕ) → rest < 2 ^ 64 → as_word (get_or direct.CBP (rest / 2 ^ 55) 0) ≡ cell_of (words Cbp) 0 (field (rest / 2 ^ 32) 32)
cbp-word rest fits = found (words Cbp) direct.CBP 9 23 512 cbp_computed cbp_settled refl (rest / 2 ^ 32) (rest / 2 ^ 55) (omega arith) (omega (arith, fits))
