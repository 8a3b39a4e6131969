-- Vectors: what MVD's table holds, computed over all components and predictors from -15 to 15.
use Rattle.std.proofs.Common.{◌≡◌, ◌≢◌, ℕ, zero, suc, ◌-◌, ◌<◌, ◌≤◌, ◌==◌, ◌&&◌, ◌||◌, not, Bool, true, false, cond, List, [], ◌∷◌, ◌++◌, map, Option, Some, None, refl, sym, ◌∙◌, ap, inl, inr, ℤ, pos, negsuc, ◌-ℤ◌, nat_abs, arith}
use Rattle.std.specs.List.{list_any, list_all}
use Rattle.std.specs.Ordering.{int_eq}
use Rattle.std.proofs.lemmas.Bool.{false≢true, ltb-true, eqb-true, eq-eqb, lt-ltb, and_parts, cases_Bool, cond-false, cond-true}
use Rattle.std.proofs.lemmas.Bool.Decides.{Decides-int_eq}
use Rattle.pel_model.specs.Codes.{mvd_table, has_vector}
use Rattle.pel_model.specs.Records.{Axis, Macroblock, component}
use Rattle.pel_model.specs.Text.{word_of, address_of, predictor, resets_predictor}
use Rattle.pel_model.specs.Grammar.{Mvd, AtMvd, in_range, component_from}
use Rattle.picture_laws.specs.SoFar.{IsSentBefore, last_component}
use Rattle.picture_laws.specs.PictureElements.{pair_in}
use Rattle.vlc_codes.proofs.FoundRows.{Among, among-all, among-left, among-right, among-mapped}
use Rattle.picture_laws.proofs.Slots.{word_at, same_pair, same_bits-true, mvd_words}
use Rattle.picture_laws.proofs.Written.{below}

pub int_same : (x y : ℤ) → int_eq x y ≡ true → x ≡ y
int_same x y h = (Decides-int_eq x y).0 h

-- ---- components

abbrev pub components : List ℤ
components = map (λ n. pos n) (below 16) ++ map (λ n. negsuc n) (below 15)

among_below : (m n : ℕ) → n < m → Among n (below m)
among_below zero n h = absurd (omega arith)
among_below (suc m) n h = elim (cases_Bool (n == m)) [
  | inl same ↦ inl (eqb-true n m same)
  | inr other ↦ let e : n ≢ m = λ same. false≢true (sym other ∙ eq-eqb n m same) in inr (among_below m n (omega (arith, e, h)))
]

pub among-components : (z : ℤ) → nat_abs z ≤ 15 → Among z components
among-components (pos n) h = among-left (pos n) (map (λ n. pos n) (below 16)) (map (λ n. negsuc n) (below 15)) (among-mapped (λ n. pos n) n (below 16) (among_below 16 n (omega (arith, h))))
among-components (negsuc n) h = among-right (negsuc n) (map (λ n. pos n) (below 16)) (map (λ n. negsuc n) (below 15)) (among-mapped (λ n. negsuc n) n (below 15) (among_below 15 n (omega (arith, h))))

-- ---- what is computed

abbrev has_difference : ℤ → List Bool × (ℤ × ℤ) → Bool
has_difference d row = int_eq row.1.0 d || int_eq row.1.1 d

abbrev reaches : ℤ → ℤ → Bool
reaches p c = list_any (has_difference (c -ℤ p)) mvd_table && int_eq (component_from p (pair_in (c -ℤ p) mvd_table)) c

all_reached : list_all (λ p. list_all (reaches p) components) components ≡ true
unfolding mvd_table
all_reached = refl

abbrev comes_back : ℤ → List Bool × (ℤ × ℤ) → Bool
comes_back p row = same_pair (pair_in (component_from p row.1 -ℤ p) mvd_table) row.1

all_back : list_all (λ p. list_all (comes_back p) mvd_table) components ≡ true
unfolding mvd_table
all_back = refl

pair_found : (d : ℤ) (table : List (List Bool × (ℤ × ℤ))) → list_any (has_difference d) table ≡ true → (row : List Bool × (ℤ × ℤ)) × Among row table × (row.1 ≡ pair_in d table) × (word_of (λ v. int_eq v.0 d || int_eq v.1 d) table ≡ row.0)
pair_found d [] h = absurd cc
pair_found d (row ∷ table) h = elim (cases_Bool (has_difference d row)) [
  | inl here ↦ (row, inl refl, sym (cond-true (has_difference d row) row.1 (pair_in d table) here), cond-true (has_difference d row) row.0 (word_of (λ v. int_eq v.0 d || int_eq v.1 d) table) here)
  | inr no_ ↦
      let r = pair_found d table (sym (ap (λ b. b || list_any (has_difference d) table) no_) ∙ h) in
      (r.0, inr r.1, r.2 ∙ sym (cond-false (has_difference d row) row.1 (pair_in d table) no_), cond-false (has_difference d row) row.0 (word_of (λ v. int_eq v.0 d || int_eq v.1 d) table) no_ ∙ r.3)
]

-- the pair of a difference, its word, and the component that it gives
pub record IsPairOf (axis : Axis) (p c : ℤ) : Type 0 where
  pub row : List Bool × (ℤ × ℤ)
  pub among : Among row mvd_table
  pub is : row.1 ≡ pair_in (c -ℤ p) mvd_table
  pub word : word_at (AtMvd axis) (Mvd axis (pair_in (c -ℤ p) mvd_table)) ≡ word_of (λ v. int_eq v.0 (c -ℤ p) || int_eq v.1 (c -ℤ p)) mvd_table
  pub gives : component_from p (pair_in (c -ℤ p) mvd_table) ≡ c

pub pair-of : (axis : Axis) (p c : ℤ) → nat_abs p ≤ 15 → nat_abs c ≤ 15 → IsPairOf axis p c
pair-of axis p c small small' =
    let all = among-all (reaches p) c components (among-all (λ p. list_all (reaches p) components) p components all_reached (among-components p small)) (among-components c small') in
    let f = pair_found (c -ℤ p) mvd_table (and_parts _ _ all).0 in
    record {
      row = f.0;
      among = f.1;
      is = f.2;
      word = ap (λ v. word_of (λ w. same_pair w v) mvd_table) (sym f.2) ∙ (same_bits-true _ _ (among-all _ f.0 mvd_table mvd_words f.1) ∙ sym f.3);
      gives = int_same (component_from p (pair_in (c -ℤ p) mvd_table)) c (and_parts _ _ all).1;
    }

-- a pair that was read is that of the difference of what it gives
pub pair-back : (p : ℤ) (row : List Bool × (ℤ × ℤ)) → nat_abs p ≤ 15 → Among row mvd_table → pair_in (component_from p row.1 -ℤ p) mvd_table ≡ row.1
pair-back p row small among =
    let all = among-all (comes_back p) row mvd_table (among-all (λ p. list_all (comes_back p) mvd_table) p components all_back (among-components p small)) among in
    let a : (pair_in (component_from p row.1 -ℤ p) mvd_table).0 ≡ row.1.0 = int_same _ row.1.0 (and_parts _ _ all).0 in
    let b : (pair_in (component_from p row.1 -ℤ p) mvd_table).1 ≡ row.1.1 = int_same _ row.1.1 (and_parts _ _ all).1 in
    ap (λ (x : ℤ). (x, (pair_in (component_from p row.1 -ℤ p) mvd_table).1)) a ∙ ap (λ (y : ℤ). (row.1.0, y)) b

-- ---- tests

pub in-range : (z : ℤ) → nat_abs z ≤ 15 → in_range z ≡ true
in-range (pos n) h = lt-ltb n 16 (omega (arith, h))
in-range (negsuc n) h = lt-ltb n 15 (omega (arith, h))

pub range-in : (z : ℤ) → in_range z ≡ true → nat_abs z ≤ 15
range-in (pos n) h = omega (arith, ltb-true n 16 h)
range-in (negsuc n) h = omega (arith, ltb-true n 15 h)

-- ---- predictors

same_either : (b : Bool) (z : ℤ) → z ≡ pos 0 → cond b (pos 0) z ≡ pos 0
same_either true z h = refl
same_either false z h = h

or_nothing : (b : Bool) → (b || false) ≡ b
or_nothing true = refl
or_nothing false = refl

-- the vector before, or nothing, predicts
pub predicted : (axis : Axis) (last : Option Macroblock) (m : Macroblock) → IsSentBefore last → predictor axis last m ≡ cond (resets_predictor (m.address - address_of last) m.address) (pos 0) (last_component axis last)
predicted axis None m is = sym (same_either (resets_predictor (m.address - 0) m.address) (pos 0) refl)
predicted axis (Some l) m is = elim (cases_Bool (has_vector l.kind)) [
  | inl has ↦
      ap (λ b. cond (resets_predictor (m.address - l.address) m.address || not b) (pos 0) (component axis l)) has
      ∙ ap (λ b. cond b (pos 0) (component axis l)) (or_nothing (resets_predictor (m.address - l.address) m.address))
  | inr none ↦
      same_either _ (component axis l) (is.2 axis none)
      ∙ sym (same_either (resets_predictor (m.address - l.address) m.address) (component axis l) (is.2 axis none))
]

small_either : (b : Bool) (z : ℤ) → nat_abs z ≤ 15 → nat_abs (cond b (pos 0) z) ≤ 15
small_either true z h = omega arith
small_either false z h = h

pub predictor-small : (axis : Axis) (last : Option Macroblock) (m : Macroblock) → IsSentBefore last → nat_abs (predictor axis last m) ≤ 15
predictor-small axis None m is = omega arith
predictor-small axis (Some l) m is = small_either (resets_predictor (m.address - l.address) m.address || not (has_vector l.kind)) (component axis l) (is.1 axis)
