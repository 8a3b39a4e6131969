-- What is known of the words of MBA and CBP that stand at a place.
use Rattle.std.proofs.Common.{◌≡◌, ℕ, ◌+◌, ◌<◌, Bool, true, false, cond, List, [], ◌∷◌, ◌++◌, length, Option, Some, None, nat_lt, if◌then◌else◌, ◌⊎◌, inl, inr, refl, sym, subst}
use Rattle.std.proofs.lemmas.List.{append-nil}
use Rattle.std.specs.List.{find, list_any, list_all}
use Rattle.std.proofs.lemmas.Bool.{ltb-true, and_parts, cases_Bool}
use Rattle.pel_model.specs.declared.Why.TheVariants.{Cut}
use Rattle.pel_model.specs.Codes.{is_prefix, mba_table, stuffing_word, cbp_table}
use Rattle.pel_model.specs.Walk.{Good, Bad, Row, read, word_at}
use Rattle.pel_model.specs.Grammar.{Element, Mba, Stuffing, Cbp, word_row, table_rows, mba_rows}

module _ (bits : List Bool) (e : Element) (n : ℕ) where
  abbrev front : List (Row Element) → Option (Row Element)
  front rows = find (λ row. is_prefix row.code bits) rows

  -- a row is found or passed over, whatever the whole list
  pick : (all all' : List (Row Element)) (row : Row Element) (rest rest' : Option (Row Element)) (here : Bool) → word_at all bits (cond here (Some row) rest) ≡ Good e n → (word_at all bits rest ≡ Good e n → word_at all' bits rest' ≡ Good e n) → word_at all' bits (cond here (Some row) rest') ≡ Good e n
  pick all all' row rest rest' true is next = is
  pick all all' row rest rest' false is next = next is

  read_front_in : (all all' rows more : List (Row Element)) → word_at all bits (front rows) ≡ Good e n → word_at all' bits (front (rows ++ more)) ≡ Good e n
  read_front_in all all' [] more is = absurd cc
  read_front_in all all' (row ∷ rows) more is =
      pick all all' row (front rows) (front (rows ++ more)) (is_prefix row.code bits) is (λ (later : word_at all bits (front rows) ≡ Good e n). read_front_in all all' rows more later)

  -- a word of a list is one of a longer list
  pub read_front : (rows more : List (Row Element)) → read rows bits ≡ Good e n → read (rows ++ more) bits ≡ Good e n
  read_front rows more is = read_front_in rows (rows ++ more) rows more is

  whole_is : (code : List Bool) (e' : Element) (m : ℕ) (short : Bool) → (if short then Bad Cut else Good e' m) ≡ Good e n → e ≡ e'
  whole_is code e' m true is = absurd cc
  whole_is code e' m false is = cc

  -- a word of a table means what its row says; else it stands further on in the list
  pub meaning : {A : Type 0} (table : List (List Bool × A)) (make : A → Element) (test : A → Bool) (all more : List (Row Element)) → list_all (λ row. test row.1) table ≡ true → word_at all bits (front (table_rows table make ++ more)) ≡ Good e n → ((a : A) × (e ≡ make a) × (test a ≡ true)) ⊎ (word_at all bits (front more) ≡ Good e n)
  meaning [] make test all more holds is = inr is
  meaning {A} (row ∷ table) make test all more holds is =
      elim (cases_Bool (is_prefix row.0 bits)) [
        | inl here ↦
            let word = subst (λ (b : Bool). word_at all bits (cond b (Some (word_row row.0 (make row.1))) (front (table_rows table make ++ more))) ≡ Good e n) here is in
            inl (row.1, whole_is row.0 (make row.1) _ (nat_lt (length bits) (length row.0 + 0)) word, (and_parts (test row.1) _ holds).0)
        | inr other ↦
            let later = subst (λ (b : Bool). word_at all bits (cond b (Some (word_row row.0 (make row.1))) (front (table_rows table make ++ more))) ≡ Good e n) other is in
            meaning table make test all more (and_parts (test row.1) _ holds).1 later
      ]

one_in_front : (word bits : List Bool) → is_prefix word bits ≡ true → list_any (λ b. b) word ≡ true → list_any (λ b. b) bits ≡ true
one_in_front [] bits front one = absurd cc
one_in_front (b ∷ word) [] front one = absurd cc
one_in_front (true ∷ word) (true ∷ bits) front one = refl
one_in_front (false ∷ word) (false ∷ bits) front one = one_in_front word bits front one
one_in_front (true ∷ word) (false ∷ bits) front one = absurd cc
one_in_front (false ∷ word) (true ∷ bits) front one = refl

one_in_word : (all rows : List (Row Element)) (bits : List Bool) (e : Element) (n : ℕ) → list_all (λ row. list_any (λ b. b) row.code) rows ≡ true → word_at all bits (find (λ row. is_prefix row.code bits) rows) ≡ Good e n → list_any (λ b. b) bits ≡ true
one_in_word all [] bits e n ones is = absurd cc
one_in_word all (row ∷ rows) bits e n ones is =
    elim (cases_Bool (is_prefix row.code bits)) [
      | inl here ↦ one_in_front row.code bits here (and_parts (list_any (λ b. b) row.code) _ ones).0
      | inr other ↦ one_in_word all rows bits e n (and_parts (list_any (λ b. b) row.code) _ ones).1 (subst (λ (b : Bool). word_at all bits (cond b (Some row) (find (λ row. is_prefix row.code bits) rows)) ≡ Good e n) other is)
    ]

mba_ones : list_all (λ row. list_any (λ b. b) row.code) mba_rows ≡ true
unfolding mba_table
mba_ones = refl

-- where a word of MBA stands, not all bits are 0
pub mba_has_one : (bits : List Bool) (e : Element) (n : ℕ) → read mba_rows bits ≡ Good e n → list_any (λ b. b) bits ≡ true
mba_has_one bits e n is = one_in_word mba_rows mba_rows bits e n mba_ones is

mba_positive : list_all (λ row. nat_lt 0 row.1) mba_table ≡ true
unfolding mba_table
mba_positive = refl

cbp_below : list_all (λ row. nat_lt row.1 64) cbp_table ≡ true
unfolding cbp_table
cbp_below = refl

same_mba : (a b : ℕ) → Mba a ≡ Mba b → a ≡ b
same_mba a b is = cc

same_cbp : (a b : ℕ) → Cbp a ≡ Cbp b → a ≡ b
same_cbp a b is = cc

not_stuffing : (bits : List Bool) (d n : ℕ) (here : Bool) → word_at mba_rows bits (cond here (Some (word_row stuffing_word Stuffing)) None) ≡ Good (Mba d) n → ⊥
not_stuffing bits d n false is = cc
not_stuffing bits d n true is = no_mba (nat_lt (length bits) 11) is
  where
    no_mba : (short : Bool) → (if short then Bad Cut else Good Stuffing 11) ≡ Good (Mba d) n → ⊥
    no_mba true is = cc
    no_mba false is = cc

-- a difference of addresses is not 0
pub mba_above : (bits : List Bool) (d n : ℕ) → read mba_rows bits ≡ Good (Mba d) n → 0 < d
mba_above bits d n is =
    elim (meaning bits (Mba d) n mba_table Mba (λ k. nat_lt 0 k) mba_rows (word_row stuffing_word Stuffing ∷ []) mba_positive is) [
      | inl row ↦ subst (λ (k : ℕ). 0 < k) (sym (same_mba d row.0 row.1)) (ltb-true 0 row.0 row.2)
      | inr stuffing ↦ absurd (not_stuffing bits d n (is_prefix stuffing_word bits) stuffing)
    ]

none_left : (all : List (Row Element)) (bits : List Bool) (e : Element) (n : ℕ) → word_at all bits None ≡ Good e n → ⊥
none_left all bits e n is = cc

-- CBP has six bits
pub cbp_within : (bits : List Bool) (c n : ℕ) → read (table_rows cbp_table Cbp) bits ≡ Good (Cbp c) n → c < 64
cbp_within bits c n is =
    let all : List (Row Element) = table_rows cbp_table Cbp in
    let again = subst (λ (rows : List (Row Element)). word_at all bits (find (λ row. is_prefix row.code bits) rows) ≡ Good (Cbp c) n) (sym (append-nil all)) is in
    elim (meaning bits (Cbp c) n cbp_table Cbp (λ k. nat_lt k 64) all [] cbp_below again) [
      | inl row ↦ subst (λ (k : ℕ). k < 64) (sym (same_cbp c row.0 row.1)) (ltb-true row.0 64 row.2)
      | inr none ↦ absurd (none_left all bits (Cbp c) n none)
    ]
