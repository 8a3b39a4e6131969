-- The longest words.
use Rattle.std.proofs.Common.{◌≡◌, ℕ, zero, suc, ◌+◌, ◌-◌, ◌*◌, ◌^◌, ◌<◌, ◌≤◌, ◌==◌, ◌&&◌, ◌||◌, ◌-ℤ◌, nat_le, Bool, true, false, if◌then◌else◌, List, [], ◌∷◌, ◌++◌, length, Option, Some, None, refl, ap, subst, sym, ◌∙◌, arith, length-append}
use Rattle.std.specs.Ordering.{int_eq}
use Rattle.std.proofs.lemmas.Bool.{leb-true, and_parts}
use Rattle.pel_model.specs.declared.MbKind.{MbKind}
use Rattle.pel_model.specs.Bits.{field}
use Rattle.pel_model.specs.Codes.{mba_table, mtype_table, mvd_table, cbp_table, tcoeff_table, first_one_word, later_one_word, escape_word, end_of_block_word, row_of, has_vector, has_cbp}
use Rattle.pel_model.specs.Records.{Axis, Across, Down, Coefficient, Macroblock, component}
use Rattle.pel_model.specs.Text.{word_of, address_of, predictor, coded_block_pattern, mba_word, mtype_word, mquant_text, mvd_word, mvd_text, cbp_text, coefficient_word, pair_word, twos_complement, is_negative}
use Rattle.picture_laws.proofs.Words.{length-field}
use Rattle.std.specs.Prelude.{nat_abs}

-- no codeword of the rows is longer
abbrev short_rows : {A : Type 0} → ℕ → List (List Bool × A) → Bool
short_rows n [] = true
short_rows n (r ∷ rs) = nat_le (length r.0) n && short_rows n rs

word_is_short : {A : Type 0} (test : A → Bool) (n : ℕ) (rows : List (List Bool × A)) → short_rows n rows ≡ true → length (word_of test rows) ≤ n
word_is_short test n [] h = omega arith
word_is_short test n (r ∷ rs) h = pick (test r.1) r.0 (word_of test rs) n (leb-true _ _ (and_parts _ _ h).0) (word_is_short test n rs (and_parts _ _ h).1)
  where
    pick : (b : Bool) (xs ys : List Bool) (n : ℕ) → length xs ≤ n → length ys ≤ n → length (if b then xs else ys) ≤ n
    pick true xs ys n h k = h
    pick false xs ys n h k = k

pub mba_is_short : (last : Option Macroblock) (m : Macroblock) → length (mba_word last m) ≤ 11
unfolding mba_table
mba_is_short last m = word_is_short (λ n. n == m.address - address_of last) 11 mba_table refl

pub mtype_is_short : (kind : MbKind) → length (mtype_word kind) ≤ 10
unfolding mtype_table
mtype_is_short kind = word_is_short (λ k. row_of k == row_of kind) 10 mtype_table refl

pub mquant_is_short : (q : Option ℕ) → length (mquant_text q) ≤ 5
mquant_is_short None = omega arith
mquant_is_short (Some q) = omega (arith, length-field q 5)

mvd_word_is_short : (axis : Axis) (last : Option Macroblock) (m : Macroblock) → length (mvd_word axis last m) ≤ 11
unfolding mvd_table
mvd_word_is_short axis last m =
    word_is_short (λ v. int_eq v.0 (component axis m -ℤ predictor axis last m) || int_eq v.1 (component axis m -ℤ predictor axis last m)) 11 mvd_table refl

pub mvd_is_short : (last : Option Macroblock) (m : Macroblock) → length (mvd_text last m) ≤ 22
mvd_is_short last m = pick (has_vector m.kind) (mvd_word Across last m) (mvd_word Down last m) (mvd_word_is_short Across last m) (mvd_word_is_short Down last m)
  where
    pick : (b : Bool) (xs ys : List Bool) → length xs ≤ 11 → length ys ≤ 11 → length (if b then xs ++ ys else []) ≤ 22
    pick true xs ys h k = omega (arith, h, k, length-append xs ys)
    pick false xs ys h k = omega arith

pub cbp_is_short : (m : Macroblock) → length (cbp_text m) ≤ 9
unfolding cbp_table
cbp_is_short m =
    let test = λ (n : ℕ). n == coded_block_pattern m.blocks in
    pick (has_cbp m.kind) (word_of test cbp_table) (word_is_short test 9 cbp_table refl)
  where
    pick : (b : Bool) (xs : List Bool) → length xs ≤ 9 → length (if b then xs else []) ≤ 9
    pick true xs h = h
    pick false xs h = omega arith

pair_is_short : (one : List Bool) (run level : ℕ) → length one ≤ 13 → length (pair_word one run level) ≤ 13
unfolding tcoeff_table
pair_is_short one run level h =
    let test = λ (pair : ℕ × ℕ). pair.0 == run && pair.1 == level in
    pick (run == 0 && level == 1) one (word_of test tcoeff_table) h (word_is_short test 13 tcoeff_table refl)
  where
    pick : (b : Bool) (xs ys : List Bool) → length xs ≤ 13 → length ys ≤ 13 → length (if b then xs else ys) ≤ 13
    pick true xs ys h k = h
    pick false xs ys h k = k

pub coefficient_is_short : (one : List Bool) (c : Coefficient) → length one ≤ 13 → length (coefficient_word one c) ≤ 20
unfolding coefficient_word
coefficient_is_short one c h =
    pick c.long (pair_word one c.run (nat_abs c.level)) (is_negative c.level) (field c.run 6) (field (twos_complement c.level) 8)
    (pair_is_short one c.run (nat_abs c.level) h) (length-field c.run 6) (length-field (twos_complement c.level) 8)
  where
    pick : (long : Bool) (pair : List Bool) (sign : Bool) (run level : List Bool) → length pair ≤ 13 → length run ≡ 6 → length level ≡ 8
        → length (if long then escape_word ++ run ++ level else pair ++ sign ∷ []) ≤ 20
    pick true pair sign run level p r l = omega (arith, r, l, length-append run level)
    pick false pair sign run level p r l = omega (arith, p, length-append pair (sign ∷ []))
