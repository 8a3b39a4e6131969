-- Worked words: the word of every meaning of the code tables, in the order of the meanings, as another implementation of H.261
-- has them.
use Rattle.std.specs.Prelude.{◌≡◌, ℕ, zero, suc, ◌+◌, ◌==◌, ◌||◌, Bool, cond, List, [], ◌∷◌, ◌++◌, map, codes, refl, pos, ◌-ℤ◌}
use Rattle.std.specs.List.{flat_map}
use Rattle.std.specs.Ordering.{int_eq}
use Rattle.pel_model.specs.declared.MbKind.TheVariants.{Intra, IntraQuant, Inter, InterQuant, Mc, McCoded, McQuant, McFil, McFilCoded, McFilQuant}
use Rattle.pel_model.specs.Codes.{mba_table, mtype_table, mvd_table, cbp_table, tcoeff_table, first_one_word, later_one_word}
use Rattle.pel_model.specs.Text.{word_of, mtype_word, pair_word}

-- the digits of words, with a space behind each
abbrev spaced : List (List Bool) → List ℕ
spaced words = flat_map (λ word. map (λ b. cond b 49 48) word ++ 32 ∷ []) words

-- the numbers from `first` on
abbrev from : (first count : ℕ) → List ℕ
from first zero = []
from first (suc count) = first ∷ from (first + 1) count

-- MBA: the differences 1 to 33
pub words_of_mba : spaced (map (λ n. word_of (λ k. k == n) mba_table) (from 1 33)) ≡
    codes "1 011 010 0011 0010 00011 00010 0000111 0000110 00001011 00001010 00001001 00001000 00000111 "
    ++ codes "00000110 0000010111 0000010110 0000010101 0000010100 0000010011 0000010010 00000100011 "
    ++ codes "00000100010 00000100001 00000100000 00000011111 00000011110 00000011101 00000011100 00000011011 "
    ++ codes "00000011010 00000011001 00000011000 "
unfolding mba_table
words_of_mba = refl

-- MTYPE: the kinds in the order of the table
pub words_of_mtype :
    spaced (map mtype_word (Intra ∷ IntraQuant ∷ Inter ∷ InterQuant ∷ Mc ∷ McCoded ∷ McQuant ∷ McFil ∷ McFilCoded ∷ McFilQuant ∷ []))
    ≡ codes "0001 0000001 1 00001 000000001 00000001 0000000001 001 01 000001 "
unfolding mtype_table
words_of_mtype = refl

-- MVD: the differences -30 to 30
pub words_of_mvd :
    spaced (map (λ n. word_of (λ v. int_eq v.0 (pos n -ℤ pos 30) || int_eq v.1 (pos n -ℤ pos 30)) mvd_table) (from 0 61)) ≡
    codes "0010 00010 0000110 00001010 00001000 00000110 0000010110 0000010100 0000010010 00000100010 "
    ++ codes "00000100000 00000011110 00000011100 00000011010 00000011001 00000011011 00000011101 00000011111 "
    ++ codes "00000100001 00000100011 0000010011 0000010101 0000010111 00000111 00001001 00001011 0000111 "
    ++ codes "00011 0011 011 1 010 0010 00010 0000110 00001010 00001000 00000110 0000010110 0000010100 "
    ++ codes "0000010010 00000100010 00000100000 00000011110 00000011100 00000011010 00000011001 00000011011 "
    ++ codes "00000011101 00000011111 00000100001 00000100011 0000010011 0000010101 0000010111 00000111 "
    ++ codes "00001001 00001011 0000111 00011 0011 "
unfolding mvd_table
words_of_mvd = refl

-- CBP: 1 to 63
pub words_of_cbp : spaced (map (λ n. word_of (λ k. k == n) cbp_table) (from 1 63)) ≡
    codes "01011 01001 001101 1101 0010111 0010011 00011111 1100 0010110 0010010 00011110 10011 00011011 "
    ++ codes "00010111 00010011 1011 0010101 0010001 00011101 10001 00011001 00010101 00010001 001111 00001111 "
    ++ codes "00001101 000000011 01111 00001011 00000111 000000111 1010 0010100 0010000 00011100 001110 "
    ++ codes "00001110 00001100 000000010 10000 00011000 00010100 00010000 01110 00001010 00000110 000000110 "
    ++ codes "10010 00011010 00010110 00010010 01101 00001001 00000101 000000101 01100 00001000 00000100 "
    ++ codes "000000100 111 01010 01000 001100 "
unfolding cbp_table
words_of_cbp = refl

-- TCOEFF: the levels from 1 on of the runs 0, 1, 2 .., of which so many have a code; the first of a block and later ones
abbrev greatest_levels : List ℕ
greatest_levels = 15 ∷ 7 ∷ 5 ∷ 4 ∷ 3 ∷ 3 ∷ 2 ∷ 2 ∷ 2 ∷ 2 ∷ 2 ∷ 1 ∷ 1 ∷ 1 ∷ 1 ∷ 1 ∷ 1 ∷ 1 ∷ 1 ∷ 1 ∷ 1 ∷ 1 ∷ 1 ∷ 1 ∷ 1 ∷ 1 ∷ 1 ∷ []

abbrev words_of_runs : List Bool → (run : ℕ) → List ℕ → List (List Bool)
words_of_runs one run [] = []
words_of_runs one run (level ∷ levels) = map (λ l. pair_word one run l) (from 1 level) ++ words_of_runs one (run + 1) levels

pub words_of_tcoeff : spaced (words_of_runs later_one_word 0 greatest_levels) ≡
    codes "11 0100 00101 0000110 00100110 00100001 0000001010 000000011101 000000011000 000000010011 "
    ++ codes "000000010000 0000000011010 0000000011001 0000000011000 0000000010111 011 000110 00100101 "
    ++ codes "0000001100 000000011011 0000000010110 0000000010101 0101 0000100 0000001011 000000010100 "
    ++ codes "0000000010100 00111 00100100 000000011100 0000000010011 00110 0000001111 000000010010 000111 "
    ++ codes "0000001001 0000000010010 000101 000000011110 000100 000000010101 0000111 000000010001 0000101 "
    ++ codes "0000000010001 00100111 0000000010000 00100011 00100010 00100000 0000001110 0000001101 0000001000 "
    ++ codes "000000011111 000000011010 000000011001 000000010111 000000010110 0000000011111 0000000011110 "
    ++ codes "0000000011101 0000000011100 0000000011011 "
unfolding tcoeff_table
words_of_tcoeff = refl

pub first_word_of_tcoeff : spaced (pair_word first_one_word 0 1 ∷ pair_word first_one_word 0 2 ∷ pair_word first_one_word 1 1 ∷ []) ≡
    codes "1 0100 011 "
unfolding tcoeff_table
first_word_of_tcoeff = refl
