-- The elements that a slot takes, and the word of each.
use Rattle.std.proofs.Common.{◌≡◌, ℕ, ◌<◌, ◌≤◌, ◌==◌, ◌&&◌, Bool, true, false, List, [], ◌∷◌, ◌++◌, nat_lt, nat_le, refl, ap, ◌⊎◌, ℤ, pos, negsuc, nat_abs, codes, MatchBool, IsTrue}
use Rattle.std.specs.List.{list_all}
use Rattle.std.specs.Ordering.{int_eq}
use Rattle.vlc_codes.specs.Lookup.{codes_of_rows}
use Rattle.pel_model.specs.Bits.{field, number}
use Rattle.pel_model.specs.declared.MbKind.{MbKind}
use Rattle.pel_model.specs.Codes.{word, is_prefix_free, mba_table, stuffing_word, mtype_table, mvd_table, cbp_table, tcoeff_table, first_one_word, later_one_word, end_of_block_word}
use Rattle.pel_model.specs.Records.{Coefficient}
use Rattle.pel_model.specs.Text.{word_of, coefficient_word, mtype_word}
use Rattle.pel_model.specs.Valid.{has_code}
use Rattle.pel_model.specs.Grammar.{Element, Psc, Tr, Ptype, Pei, Pspare, Gbsc, Gn, Gquant, Gei, Gspare, Stuffing, Mba, Mtype, Mquant, Mvd, Cbp, Dc, Tcoeff, Eob, Slot, AtPsc, AtTr, AtPtype, AtPei, AtPspare, AtGroup, AtGn, AtGquant, AtGei, AtGspare, AtMacroblock, AtMtype, AtMquant, AtMvd, AtCbp, AtDc, AtFirst, AtCoefficient, rows, signed}
use Rattle.vlc_codes.proofs.FoundRows.{Among}

-- ---- words of elements

abbrev pub psc : List Bool
psc = word (codes "00000000000000010000")

abbrev pub gbsc : List Bool
gbsc = word (codes "0000000000000001")

-- the code of run 0 and level 1 at a slot
abbrev pub one_at : Slot → List Bool
one_at AtFirst = first_one_word
one_at _ = later_one_word

abbrev pub same_pair : ℤ × ℤ → ℤ × ℤ → Bool
same_pair v w = int_eq v.0 w.0 && int_eq v.1 w.1

abbrev pub word_at : Slot → Element → List Bool
word_at s Psc = psc
word_at s (Tr n) = field n 5
word_at s (Ptype n) = field n 6
word_at s (Pei b) = b ∷ []
word_at s (Pspare n) = field n 8
word_at s Gbsc = gbsc
word_at s (Gn n) = field n 4
word_at s (Gquant q) = field q 5
word_at s (Gei b) = b ∷ []
word_at s (Gspare n) = field n 8
word_at s Stuffing = stuffing_word
word_at s (Mba n) = word_of (λ k. k == n) mba_table
word_at s (Mtype k) = mtype_word k
word_at s (Mquant q) = field q 5
word_at s (Mvd axis v) = word_of (λ w. same_pair w v) mvd_table
word_at s (Cbp c) = word_of (λ k. k == c) cbp_table
word_at s (Dc n) = field n 8
word_at s (Tcoeff c) = coefficient_word (one_at s) c
word_at s Eob = end_of_block_word

-- ---- what a slot takes

-- a level in 8 bits of two's complement
abbrev pub IsByteLevel : ℤ → Type 0
IsByteLevel (pos n) = n < 128
IsByteLevel (negsuc n) = n < 128

abbrev pub IsSent : Coefficient → Type 0
IsSent c = MatchBool c.long ((c.run ≤ 63) × IsByteLevel c.level) (IsTrue (has_code c.run (nat_abs c.level)))

abbrev pub IsStep : ℕ → Type 0
IsStep n = (0 < n) × (n ≤ 33)

abbrev pub IsPattern : ℕ → Type 0
IsPattern c = (0 < c) × (c < 64)

abbrev pub Takes : Slot → Element → Type 0
Takes AtPsc e = e ≡ Psc
Takes AtTr e = (n : ℕ) × (n < 32) × (e ≡ Tr n)
Takes AtPtype e = (n : ℕ) × (n < 64) × (e ≡ Ptype n)
Takes AtPei e = (b : Bool) × (e ≡ Pei b)
Takes AtPspare e = (n : ℕ) × (n < 256) × (e ≡ Pspare n)
Takes AtGroup e = e ≡ Gbsc
Takes AtGn e = (n : ℕ) × (n < 16) × (e ≡ Gn n)
Takes AtGquant e = (n : ℕ) × (n < 32) × (e ≡ Gquant n)
Takes AtGei e = (b : Bool) × (e ≡ Gei b)
Takes AtGspare e = (n : ℕ) × (n < 256) × (e ≡ Gspare n)
Takes AtMacroblock e = ((n : ℕ) × IsStep n × (e ≡ Mba n)) ⊎ ((e ≡ Stuffing) ⊎ (e ≡ Gbsc))
Takes AtMtype e = (k : MbKind) × (e ≡ Mtype k)
Takes AtMquant e = (n : ℕ) × (n < 32) × (e ≡ Mquant n)
Takes (AtMvd axis) e = (row : List Bool × (ℤ × ℤ)) × Among row mvd_table × (e ≡ Mvd axis row.1)
Takes AtCbp e = (c : ℕ) × IsPattern c × (e ≡ Cbp c)
Takes AtDc e = (n : ℕ) × (n < 256) × (e ≡ Dc n)
Takes AtFirst e = (c : Coefficient) × IsSent c × (e ≡ Tcoeff c)
Takes AtCoefficient e = ((c : Coefficient) × IsSent c × (e ≡ Tcoeff c)) ⊎ (e ≡ Eob)

-- ---- lists of bits, compared

abbrev pub same_bits : List Bool → List Bool → Bool
same_bits [] [] = true
same_bits (true ∷ a) (true ∷ b) = same_bits a b
same_bits (false ∷ a) (false ∷ b) = same_bits a b
same_bits _ _ = false

pub same_bits-true : (a b : List Bool) → same_bits a b ≡ true → a ≡ b
same_bits-true [] [] h = refl
same_bits-true (true ∷ a) (true ∷ b) h = ap (λ t. true ∷ t) (same_bits-true a b h)
same_bits-true (false ∷ a) (false ∷ b) h = ap (λ t. false ∷ t) (same_bits-true a b h)
same_bits-true [] (b ∷ bs) h = absurd cc
same_bits-true (true ∷ a) (false ∷ b) h = absurd cc
same_bits-true (true ∷ a) [] h = absurd cc
same_bits-true (false ∷ a) (true ∷ b) h = absurd cc
same_bits-true (false ∷ a) [] h = absurd cc

-- ---- what is computed of the tables

pub mba_words : list_all (λ row. same_bits (word_of (λ k. k == row.1) mba_table) row.0 && (nat_lt 0 row.1 && nat_le row.1 33)) mba_table ≡ true
unfolding mba_table
mba_words = refl

pub mtype_words : list_all (λ row. same_bits (mtype_word row.1) row.0) mtype_table ≡ true
unfolding mtype_table
mtype_words = refl

pub mvd_words : list_all (λ row. same_bits (word_of (λ w. same_pair w row.1) mvd_table) row.0) mvd_table ≡ true
unfolding mvd_table
mvd_words = refl

pub cbp_words : list_all (λ row. same_bits (word_of (λ k. k == row.1) cbp_table) row.0 && (nat_lt 0 row.1 && nat_lt row.1 64)) cbp_table ≡ true
unfolding cbp_table
cbp_words = refl

abbrev pub pair : ℕ → ℕ → Bool → Coefficient
pair run level b = record { run = run; level = signed level (number (b ∷ [])); long = false }

abbrev pub pair_is_sent : List Bool → Bool → List Bool × (ℕ × ℕ) → Bool
pair_is_sent one b row = same_bits (coefficient_word one (pair row.1.0 row.1.1 b)) (row.0 ++ b ∷ []) && has_code row.1.0 (nat_abs (signed row.1.1 (number (b ∷ []))))

pub pair_words : (b : Bool) → list_all (pair_is_sent first_one_word b) ((first_one_word, (0, 1)) ∷ tcoeff_table) ≡ true
unfolding tcoeff_table number coefficient_word
pair_words true = refl
pair_words false = refl

pub pair_words_later : (b : Bool) → list_all (pair_is_sent later_one_word b) ((later_one_word, (0, 1)) ∷ tcoeff_table) ≡ true
unfolding tcoeff_table number coefficient_word
pair_words_later true = refl
pair_words_later false = refl

pub rows_free : (s : Slot) → is_prefix_free (codes_of_rows (rows s)) ≡ true
unfolding rows mba_table mtype_table mvd_table cbp_table tcoeff_table
rows_free AtPsc = refl
rows_free AtTr = refl
rows_free AtPtype = refl
rows_free AtPei = refl
rows_free AtPspare = refl
rows_free AtGroup = refl
rows_free AtGn = refl
rows_free AtGquant = refl
rows_free AtGei = refl
rows_free AtGspare = refl
rows_free AtMacroblock = refl
rows_free AtMtype = refl
rows_free AtMquant = refl
rows_free (AtMvd axis) = refl
rows_free AtCbp = refl
rows_free AtDc = refl
rows_free AtFirst = refl
rows_free AtCoefficient = refl
