-- Words at the front of bits, and of bits with zeros behind them.
use Rattle.std.proofs.Common.{◌≡◌, ◌≢◌, Result, Ok, Err, Option, Some, None, ℕ, zero, suc, ◌+◌, ◌-◌, ◌*◌, ◌/◌, ◌%◌, ◌^◌, ◌<◌, ◌≤◌, ◌==◌, ◌||◌, Bool, true, false, List, [], ◌∷◌, ◌++◌, length, map, take, drop, get_or, nat_lt, nat_le, if◌then◌else◌, refl, sym, ◌∙◌, ap, subst, inl, inr, min, zero-add, arith}
use Rattle.std.proofs.lemmas.Bool.{false≢true, ltb-true, lt-ltb, leb-true, leb-false, le-leb, eqb-true, eq-eqb, and_parts, cases_Bool, cond-false, cond-true, le-ltb, not-true, or_parts}
use Rattle.std.specs.List.{list_any, list_all, find}
use Rattle.std.proofs.lemmas.Nat.{one_shl}
use Rattle.std.proofs.Math.Nat.{pow-le-pow_right, div-eq_of_lt, min-eq_left, min-eq_right}
use Rattle.pel_bits.specs.Bits.{field, number}
use Rattle.pel_bits.proofs.Fields.{length-field, field-add, field-mod, number-field, number-fits, field-number}
use Rattle.pel_model.specs.Codes.{is_prefix, is_prefix_free}
use Rattle.vlc_codes.specs.declared.lookup.Cell.{Cell}
use Rattle.vlc_codes.specs.Lookup.{cell_of, no_cell, codes_of_rows}
use Rattle.vlc_codes.specs.Inner.{code_word, cell_or_cause, found_cell, TakesIndex}
use Rattle.pel_model.specs.Bits as model
use Rattle.pel_model.specs.Walk.{Standing, Good, Bad, Row, cause, read, whole_word, word_at, TakesWord}
use Rattle.pel_model.specs.declared.Why.{Why}
use Rattle.pel_model.specs.declared.Why.TheVariants.{Cut, NoCode}
use Rattle.pel_bits.specs.Reading.{zeros}
use Rattle.std.proofs.lemmas.List.{take_at, length-take-le, length-append, length-replicate, length-map, get_or-map}

pub is_prefix_length : (w bits : List Bool) → is_prefix w bits ≡ true → length w ≤ length bits
is_prefix_length [] bits h = omega arith
is_prefix_length (b ∷ w) [] h = absurd cc
is_prefix_length (true ∷ w) (true ∷ bits) h = omega (arith, is_prefix_length w bits h)
is_prefix_length (false ∷ w) (false ∷ bits) h = omega (arith, is_prefix_length w bits h)
is_prefix_length (true ∷ w) (false ∷ bits) h = absurd cc
is_prefix_length (false ∷ w) (true ∷ bits) h = absurd cc

-- a longer list is no front
pub is_prefix_longer : (w bits : List Bool) → length bits < length w → is_prefix w bits ≡ false
is_prefix_longer [] bits h = absurd (omega arith)
is_prefix_longer (b ∷ w) [] h = refl
is_prefix_longer (true ∷ w) (true ∷ bits) h = is_prefix_longer w bits (omega arith)
is_prefix_longer (false ∷ w) (false ∷ bits) h = is_prefix_longer w bits (omega arith)
is_prefix_longer (true ∷ w) (false ∷ bits) h = refl
is_prefix_longer (false ∷ w) (true ∷ bits) h = refl

-- what stands behind the bits, and where they are cut, is nothing to a word that is no longer
pub is_prefix-cut : (w bits more : List Bool) (n : ℕ) → length w ≤ n → length w ≤ length bits → is_prefix w (take n (bits ++ more)) ≡ is_prefix w bits
is_prefix-cut [] bits more n p q = refl
is_prefix-cut (b ∷ w) [] more n p q = absurd (omega arith)
is_prefix-cut (b ∷ w) (c ∷ bits) more zero p q = absurd (omega arith)
is_prefix-cut (true ∷ w) (true ∷ bits) more (suc n) p q = is_prefix-cut w bits more n (omega arith) (omega arith)
is_prefix-cut (false ∷ w) (false ∷ bits) more (suc n) p q = is_prefix-cut w bits more n (omega arith) (omega arith)
is_prefix-cut (true ∷ w) (false ∷ bits) more (suc n) p q = refl
is_prefix-cut (false ∷ w) (true ∷ bits) more (suc n) p q = refl

-- of two fronts of the same bits the shorter is a front of the longer
pub is_prefix_both : (v w bits : List Bool) → is_prefix v bits ≡ true → is_prefix w bits ≡ true → length v ≤ length w → is_prefix v w ≡ true
is_prefix_both [] w bits p q h = refl
is_prefix_both (b ∷ v) [] bits p q h = absurd (omega arith)
is_prefix_both (b ∷ v) (c ∷ w) [] p q h = absurd cc
is_prefix_both (true ∷ v) (true ∷ w) (true ∷ bits) p q h = is_prefix_both v w bits p q (omega arith)
is_prefix_both (true ∷ v) (true ∷ w) (false ∷ bits) p q h = absurd cc
is_prefix_both (true ∷ v) (false ∷ w) (true ∷ bits) p q h = absurd cc
is_prefix_both (true ∷ v) (false ∷ w) (false ∷ bits) p q h = absurd cc
is_prefix_both (false ∷ v) (true ∷ w) (true ∷ bits) p q h = absurd cc
is_prefix_both (false ∷ v) (true ∷ w) (false ∷ bits) p q h = absurd cc
is_prefix_both (false ∷ v) (false ∷ w) (true ∷ bits) p q h = absurd cc
is_prefix_both (false ∷ v) (false ∷ w) (false ∷ bits) p q h = is_prefix_both v w bits p q (omega arith)

-- no word of the list stands at the front of the bits: a word w that no other is a front of reaches past them
none_left : (w : List Bool) (ws : List (List Bool)) (i : ℕ) (bits more : List Bool) (n : ℕ) → list_any (λ v. is_prefix w v || is_prefix v w) ws ≡ false → is_prefix w (take n (bits ++ more)) ≡ true → length bits < length w → list_all (λ v. nat_le (length v) n) ws ≡ true → cell_of ws i bits ≡ no_cell
none_left w [] i bits more n free front longer short = refl
none_left w (v ∷ ws) i bits more n free front longer short =
    let rest : cell_of ws (i + 1) bits ≡ no_cell = none_left w ws (i + 1) bits more n (or_parts _ _ free).1 front longer (and_parts _ _ short).1 in
    let fits : length v ≤ n = leb-true (length v) n (and_parts _ _ short).0 in
    elim (cases_Bool (is_prefix v bits)) [
      | inl here ↦
          let seen : is_prefix v (take n (bits ++ more)) ≡ true = is_prefix-cut v bits more n fits (is_prefix_length v bits here) ∙ here in
          let inner : is_prefix v w ≡ true = is_prefix_both v w (take n (bits ++ more)) seen front (omega (arith, is_prefix_length v bits here)) in
          absurd (false≢true (sym (or_parts (is_prefix w v) (is_prefix v w) (or_parts _ _ free).0).1 ∙ inner))
      | inr other ↦ subst (λ (b : Bool). (if b then record { len = length v; value = i } else cell_of ws (i + 1) bits) ≡ no_cell) (sym other) rest
    ]

-- a word that is no longer than n
abbrev pub within : ℕ → Cell → Cell
within n cell = if nat_le cell.len n then cell else no_cell

within-none : (n : ℕ) → within n no_cell ≡ no_cell
within-none n = elim (cases_Bool (nat_le 0 n)) [ inl h ↦ cond-true (nat_le 0 n) no_cell no_cell h | inr h ↦ cond-false (nat_le 0 n) no_cell no_cell h ]

no_front : (w bits more : List Bool) (n : ℕ) → length w ≤ n → is_prefix w (take n (bits ++ more)) ≡ false → is_prefix w bits ≡ false
no_front w bits more n fits other =
    elim (cases_Bool (is_prefix w bits)) [
      | inl here ↦ absurd (false≢true (sym other ∙ (is_prefix-cut w bits more n fits (is_prefix_length w bits here) ∙ here)))
      | inr h ↦ h
    ]

-- the word of the bits, from that of the bits with more behind them, cut
pub cell-cut : (ws : List (List Bool)) (i : ℕ) (bits more : List Bool) (n : ℕ) → is_prefix_free ws ≡ true → list_all (λ v. nat_le (length v) n) ws ≡ true → cell_of ws i bits ≡ within (length bits) (cell_of ws i (take n (bits ++ more)))
cell-cut [] i bits more n free short = sym (within-none (length bits))
cell-cut (w ∷ ws) i bits more n free short =
    let fits : length w ≤ n = leb-true (length w) n (and_parts _ _ short).0 in
    let padded : List Bool = take n (bits ++ more) in
    let word : Cell = record { len = length w; value = i } in
    let front = is_prefix w padded in
    let later = cell_of ws (i + 1) padded in
    let few = nat_le (length w) (length bits) in
    elim (cases_Bool (is_prefix w (take n (bits ++ more)))) [
      | inl here ↦
          let seen : within (length bits) (if front then word else later) ≡ within (length bits) word = ap (within (length bits)) (cond-true front word later here) in
          elim (cases_Bool (nat_le (length w) (length bits))) [
            | inl whole ↦
                let there : is_prefix w bits ≡ true = sym (is_prefix-cut w bits more n fits (leb-true (length w) (length bits) whole)) ∙ here in
                cond-true (is_prefix w bits) word (cell_of ws (i + 1) bits) there ∙ sym (seen ∙ cond-true few word no_cell whole)
            | inr longer ↦
                let long : length bits < length w = leb-false (length w) (length bits) longer in
                cond-false (is_prefix w bits) word (cell_of ws (i + 1) bits) (is_prefix_longer w bits long)
                ∙ (none_left w ws (i + 1) bits more n (not-true _ (and_parts _ _ free).0) here long (and_parts _ _ short).1 ∙ sym (seen ∙ cond-false few word no_cell longer))
          ]
      | inr other ↦
          cond-false (is_prefix w bits) word (cell_of ws (i + 1) bits) (no_front w bits more n fits other)
          ∙ (cell-cut ws (i + 1) bits more n (and_parts _ _ free).1 (and_parts _ _ short).1 ∙ ap (within (length bits)) (sym (cond-false front word later other)))
    ]

-- ---- words as their bits and the number of these

pub is_prefix_self : (w more : List Bool) → is_prefix w (w ++ more) ≡ true
is_prefix_self [] more = refl
is_prefix_self (true ∷ w) more = is_prefix_self w more
is_prefix_self (false ∷ w) more = is_prefix_self w more

is_prefix_same : (v w more : List Bool) → length v ≡ length w → is_prefix v (w ++ more) ≡ true → v ≡ w
is_prefix_same [] [] more len h = refl
is_prefix_same [] (c ∷ w) more len h = absurd cc
is_prefix_same (b ∷ v) [] more len h = absurd cc
is_prefix_same (true ∷ v) (true ∷ w) more len h = ap (λ (t : List Bool). true ∷ t) (is_prefix_same v w more (omega arith) h)
is_prefix_same (false ∷ v) (false ∷ w) more len h = ap (λ (t : List Bool). false ∷ t) (is_prefix_same v w more (omega arith) h)
is_prefix_same (true ∷ v) (false ∷ w) more len h = absurd cc
is_prefix_same (false ∷ v) (true ∷ w) more len h = absurd cc

-- a number's last bits are the front of bits exactly where they spell it
is_prefix-field : (front q len : ℕ) (more : List Bool) → front < 2 ^ len → (q % 2 ^ len == front) ≡ is_prefix (field front len) (field q len ++ more)
is_prefix-field front q len more fits =
    elim (cases_Bool (q % 2 ^ len == front)) [
      | inl same ↦
          let e : field q len ≡ field front len = sym (field-mod q 0 len) ∙ (ap (λ (k : ℕ). field (q % 2 ^ k) len) (zero-add len) ∙ ap (λ (n : ℕ). field n len) (eqb-true (q % 2 ^ len) front same)) in
          same ∙ sym (ap (λ (t : List Bool). is_prefix (field front len) (t ++ more)) e ∙ is_prefix_self (field front len) more)
      | inr other ↦
          other ∙ sym (elim (cases_Bool (is_prefix (field front len) (field q len ++ more))) [
            | inl here ↦
                let e = is_prefix_same (field front len) (field q len) more (length-field front len ∙ sym (length-field q len)) here in
                let n : q % 2 ^ len ≡ front = sym (number-field q len) ∙ (ap number (sym e) ∙ number-fits front len fits) in
                absurd (false≢true (sym other ∙ eq-eqb (q % 2 ^ len) front n))
            | inr h ↦ h
          ])
    ]

-- a shift by more than all bits
shift-min : (bits s : ℕ) → bits < 2 ^ 16 → bits / 2 ^ min s 16 ≡ bits / 2 ^ s
shift-min bits s fits =
    elim (cases_Bool (nat_le s 16)) [
      | inl h ↦ ap (λ (k : ℕ). bits / 2 ^ k) (min-eq_left (leb-true s 16 h))
      | inr h ↦
          let far : 16 ≤ s = omega (arith, leb-false s 16 h) in
          let most : 2 ^ 16 ≤ 2 ^ s = pow-le-pow_right (omega arith) far in
          let none : bits / 2 ^ s ≡ 0 = div-eq_of_lt (omega arith) in
          ap (λ (k : ℕ). bits / 2 ^ k) (min-eq_right far) ∙ (div-eq_of_lt fits ∙ sym none)
    ]

pub front-of-code : (bits width front len : ℕ) → len ≤ 16 → front < 2 ^ len → bits < 2 ^ 16 → len ≤ width → (bits / 2 ^ min (width - len) 16 % (1 * 2 ^ len % 2 ^ 32) == front) ≡ is_prefix (field front len) (field bits width)
front-of-code bits width front len short fits word inside =
    let one : 1 * 2 ^ len % 2 ^ 32 ≡ 2 ^ len = one_shl len 32 (omega arith) in
    let sum : len + (width - len) ≡ width = omega arith in
    let parts : field bits width ≡ field (bits / 2 ^ (width - len)) len ++ field bits (width - len) = ap (field bits) (sym sum) ∙ field-add bits len (width - len) in
    ap (λ (m : ℕ). bits / 2 ^ min (width - len) 16 % m == front) one
    ∙ (ap (λ (q : ℕ). q % 2 ^ len == front) (shift-min bits (width - len) word)
    ∙ (is_prefix-field front (bits / 2 ^ (width - len)) len (field bits (width - len)) fits ∙ ap (is_prefix (field front len)) (sym parts)))

pub no_front-of-code : (bits width front len : ℕ) → width < len → nat_le len width ≡ is_prefix (field front len) (field bits width)
no_front-of-code bits width front len longer =
    let no : nat_le len width ≡ false = elim (cases_Bool (nat_le len width)) [ inl h ↦ absurd (omega (arith, leb-true len width h)) | inr h ↦ h ] in
    no ∙ sym (is_prefix_longer (field front len) (field bits width) (omega (arith, length-field front len, length-field bits width)))

-- the bits are the front of one of the words
abbrev pub is_prefix_any : ℕ → ℕ → List (ℕ × ℕ) → Bool
is_prefix_any front len codes = list_any (λ w. is_prefix (field front len) w) (map code_word codes)

-- ---- why no word stands at the front

pub cause-cut : (ws : List (List Bool)) (bits : List Bool) → list_any (λ w. is_prefix bits w) ws ≡ true → cause ws bits ≡ Cut
cause-cut ws bits h = cond-true (list_any (λ w. is_prefix bits w) ws) Cut NoCode h

pub cause-none : (ws : List (List Bool)) (bits : List Bool) → list_any (λ w. is_prefix bits w) ws ≡ false → cause ws bits ≡ NoCode
cause-none ws bits h = cond-false (list_any (λ w. is_prefix bits w) ws) Cut NoCode h

-- bits longer than all words are the front of none
pub none_longer : (ws : List (List Bool)) (bits : List Bool) (n : ℕ) → list_all (λ w. nat_le (length w) n) ws ≡ true → n < length bits → list_any (λ w. is_prefix bits w) ws ≡ false
none_longer [] bits n short long = refl
none_longer (w ∷ ws) bits n short long =
    let fits : length w ≤ n = leb-true (length w) n (and_parts _ _ short).0 in
    ap (λ (b : Bool). b || list_any (λ w. is_prefix bits w) ws) (is_prefix_longer bits w (omega arith)) ∙ none_longer ws bits n (and_parts _ _ short).1 long

-- ---- the word of the bits, by that of the next 32

-- what is peeked at are the bits that are left, where all of them are
pub front-peeked : (bits : List Bool) (n : ℕ) → n ≡ length bits → number (take n (bits ++ zeros n)) ≡ number bits
front-peeked bits n is = ap number (take_at bits (zeros n) n (sym is))

pub field-peeked : (bits : List Bool) (n : ℕ) → field (number (take n (bits ++ zeros n))) n ≡ take n (bits ++ zeros n)
field-peeked bits n =
    let seen : List Bool = take n (bits ++ zeros n) in
    let len : length seen ≡ n = length-take-le n (bits ++ zeros n) (omega (arith, length-append bits (zeros n), length-replicate n false)) in
    ap (field (number seen)) (sym len) ∙ field-number seen

pub cell_found : (ws : List (List Bool)) (bits : List Bool) (cell : Cell) → is_prefix_free ws ≡ true → list_all (λ v. nat_le (length v) 32) ws ≡ true → cell ≡ cell_of ws 0 (take 32 (bits ++ zeros 32)) → found_cell ws bits ≡ cell_or_cause ws bits (within (length bits) cell)
cell_found ws bits cell free short is =
    ap (cell_or_cause ws bits) (cell-cut ws 0 bits (zeros 32) 32 free short ∙ ap (within (length bits)) (sym is))

pub cell_found-found : (ws : List (List Bool)) (bits : List Bool) (cell : Cell) → cell.len ≢ 0 → cell.len ≤ length bits → cell_or_cause ws bits (within (length bits) cell) ≡ Ok cell
cell_found-found ws bits cell some fits =
    ap (cell_or_cause ws bits) (cond-true (nat_le cell.len (length bits)) cell no_cell (le-leb cell.len (length bits) fits))
    ∙ elim (cases_Bool (cell.len == 0)) [
      | inl none ↦ absurd (some (eqb-true cell.len 0 none))
      | inr h ↦ cond-false (cell.len == 0) (Err (cause ws bits)) (Ok cell) h
    ]

pub cell_found-none : (ws : List (List Bool)) (bits : List Bool) (cell : Cell) → cell.len ≡ 0 → cell_or_cause ws bits (within (length bits) cell) ≡ Err (cause ws bits)
cell_found-none ws bits cell none =
    ap (cell_or_cause ws bits) (cond-true (nat_le cell.len (length bits)) cell no_cell (le-leb cell.len (length bits) (omega arith)))
    ∙ cond-true (cell.len == 0) (Err (cause ws bits)) (Ok cell) (eq-eqb cell.len 0 none)

pub cell_found-longer : (ws : List (List Bool)) (bits : List Bool) (cell : Cell) → length bits < cell.len → cell_or_cause ws bits (within (length bits) cell) ≡ Err (cause ws bits)
cell_found-longer ws bits cell longer =
    elim (cases_Bool (nat_le cell.len (length bits))) [
      | inl h ↦ absurd (omega (arith, leb-true cell.len (length bits) h))
      | inr h ↦ ap (cell_or_cause ws bits) (cond-false (nat_le cell.len (length bits)) cell no_cell h)
    ]

pub err_is : {why other : Why} {index : Result Cell Why} → why ≡ other → index ≡ Err other → ◌≡◌ {A = Result Cell Why} (Err why) index
err_is same is = cc

-- ---- the word of some rows

abbrev word_of_rows : {E : Type 0} → List (Row E) → List Bool → Option (Row E) → Standing E
word_of_rows rows bits row = word_at rows bits row

-- the row whose code stands at the front
pub record IsFound {E : Type 0} (rows : List (Row E)) (bits : List Bool) (cell : Cell) : Type 0 where
  pub row : Row E
  pub at : (d : Row E) → get_or rows cell.value d ≡ row
  pub inside : cell.value < length rows
  pub long : length row.code ≡ cell.len
  pub fits : cell.len ≤ length bits
  pub is : read rows bits ≡ whole_word row bits

find_some : {E : Type 0} (rows : List (Row E)) (i : ℕ) (bits : List Bool) → (cell_of (codes_of_rows rows) i bits).len ≢ 0 → (row : Row E) × (k : ℕ) × (find (λ row. is_prefix row.code bits) rows ≡ Some row) × ((d : Row E) → get_or rows k d ≡ row) × (k < length rows) × ((cell_of (codes_of_rows rows) i bits).value ≡ i + k) × (length row.code ≡ (cell_of (codes_of_rows rows) i bits).len) × (is_prefix row.code bits ≡ true)
find_some [] i bits some = absurd (some refl)
find_some (row ∷ rows) i bits some =
    let word : Cell = record { len = length row.code; value = i } in
    let later = cell_of (codes_of_rows rows) (i + 1) bits in
    let front = is_prefix row.code bits in
    elim (cases_Bool (is_prefix row.code bits)) [
      | inl here ↦
          let is : (if front then word else later) ≡ word = cond-true front word later here in
          (row, 0, cond-true front (Some row) (find (λ row. is_prefix row.code bits) rows) here, λ d. refl, omega arith, ap (λ (c : Cell). c.value) is ∙ omega arith, sym (ap (λ (c : Cell). c.len) is), here)
      | inr other ↦
          let is : (if front then word else later) ≡ later = cond-false front word later other in
          let rest = find_some rows (i + 1) bits (λ none. some (ap (λ (c : Cell). c.len) is ∙ none)) in
          (rest.0, suc rest.1, cond-false front (Some row) (find (λ row. is_prefix row.code bits) rows) other ∙ rest.2, rest.3, omega (arith, rest.4), ap (λ (c : Cell). c.value) is ∙ (rest.5 ∙ omega arith), rest.6 ∙ sym (ap (λ (c : Cell). c.len) is), rest.7)
    ]

find_none : {E : Type 0} (rows : List (Row E)) (i : ℕ) (bits : List Bool) → list_all (λ w. nat_lt 0 (length w)) (codes_of_rows rows) ≡ true → (cell_of (codes_of_rows rows) i bits).len ≡ 0 → find (λ row. is_prefix row.code bits) rows ≡ None
find_none [] i bits some none = refl
find_none (row ∷ rows) i bits some none =
    let word : Cell = record { len = length row.code; value = i } in
    let later = cell_of (codes_of_rows rows) (i + 1) bits in
    let front = is_prefix row.code bits in
    let long : 0 < length row.code = ltb-true 0 (length row.code) (and_parts _ _ some).0 in
    elim (cases_Bool (is_prefix row.code bits)) [
      | inl here ↦ absurd (omega (arith, ap (λ (c : Cell). c.len) (cond-true front word later here), none, long))
      | inr other ↦
          cond-false front (Some row) (find (λ row. is_prefix row.code bits) rows) other
          ∙ find_none rows (i + 1) bits (and_parts _ _ some).1 (sym (ap (λ (c : Cell). c.len) (cond-false front word later other)) ∙ none)
    ]

index_ok : (ws : List (List Bool)) (bits : List Bool) (cell : Cell) → found_cell ws bits ≡ Ok cell → (cell_of ws 0 bits ≡ cell) × (cell.len ≢ 0)
index_ok ws bits cell is =
    let found = cell_of ws 0 bits in
    elim (cases_Bool ((cell_of ws 0 bits).len == 0)) [
      | inl none ↦
          let e : found_cell ws bits ≡ Err (cause ws bits) = cond-true (found.len == 0) (Err (cause ws bits)) (Ok found) none in
          absurd cc
      | inr some ↦
          let e : found_cell ws bits ≡ Ok found = cond-false (found.len == 0) (Err (cause ws bits)) (Ok found) some in
          let same : found ≡ cell = cc in
          (same, λ zero_long. false≢true (sym some ∙ eq-eqb found.len 0 (ap (λ (c : Cell). c.len) same ∙ zero_long)))
    ]

index_err : (ws : List (List Bool)) (bits : List Bool) (why : Why) → found_cell ws bits ≡ Err why → ((cell_of ws 0 bits).len ≡ 0) × (cause ws bits ≡ why)
index_err ws bits why is =
    let found = cell_of ws 0 bits in
    elim (cases_Bool ((cell_of ws 0 bits).len == 0)) [
      | inl none ↦
          let e : found_cell ws bits ≡ Err (cause ws bits) = cond-true (found.len == 0) (Err (cause ws bits)) (Ok found) none in
          (eqb-true found.len 0 none, cc)
      | inr some ↦
          let e : found_cell ws bits ≡ Ok found = cond-false (found.len == 0) (Err (cause ws bits)) (Ok found) some in
          absurd cc
    ]

pub read-found : {E : Type 0} (rows : List (Row E)) (ws : List (List Bool)) (bits : List Bool) (cell : Cell) → codes_of_rows rows ≡ ws → found_cell ws bits ≡ Ok cell → IsFound rows bits cell
read-found rows ws bits cell codes is =
    let index = index_ok (codes_of_rows rows) bits cell (ap (λ (ws : List (List Bool)). found_cell ws bits) codes ∙ is) in
    let found = find_some rows 0 bits (λ none. index.1 (sym (ap (λ (c : Cell). c.len) index.0) ∙ none)) in
    let value : cell.value ≡ found.1 = sym (ap (λ (c : Cell). c.value) index.0) ∙ (found.5 ∙ zero-add found.1) in
    let long : length found.0.code ≡ cell.len = found.6 ∙ ap (λ (c : Cell). c.len) index.0 in
    record {
      row = found.0;
      at = λ d. ap (λ (k : ℕ). get_or rows k d) value ∙ found.3 d;
      inside = omega (arith, value, found.4);
      long = long;
      fits = omega (arith, long, is_prefix_length found.0.code bits found.7);
      is = ap (word_of_rows rows bits) found.2;
    }

pub read-none : {E : Type 0} (rows : List (Row E)) (ws : List (List Bool)) (bits : List Bool) (why : Why) → codes_of_rows rows ≡ ws → list_all (λ w. nat_lt 0 (length w)) ws ≡ true → found_cell ws bits ≡ Err why → read rows bits ≡ Bad why
read-none rows ws bits why codes some is =
    let index = index_err (codes_of_rows rows) bits why (ap (λ (ws : List (List Bool)). found_cell ws bits) codes ∙ is) in
    ap (word_of_rows rows bits) (find_none rows 0 bits (ap (list_all (λ w. nat_lt 0 (length w))) codes ∙ some) index.0) ∙ ap Bad index.1

pub whole-good : {E : Type 0} (row : Row E) (bits : List Bool) → length row.code + row.tail ≤ length bits → whole_word row bits ≡ Good (row.make (model.number (take row.tail (drop (length row.code) bits)))) (length row.code + row.tail)
whole-good row bits fits =
    cond-false (nat_lt (length bits) (length row.code + row.tail)) (Bad Cut) (Good (row.make (model.number (take row.tail (drop (length row.code) bits)))) (length row.code + row.tail)) (le-ltb (length bits) (length row.code + row.tail) fits)

pub whole-cut : {E : Type 0} (row : Row E) (bits : List Bool) → length bits < length row.code + row.tail → whole_word row bits ≡ Bad Cut
whole-cut row bits short =
    cond-true (nat_lt (length bits) (length row.code + row.tail)) (Bad Cut) (Good (row.make (model.number (take row.tail (drop (length row.code) bits)))) (length row.code + row.tail)) (lt-ltb (length bits) (length row.code + row.tail) short)

-- ---- rows that are their code alone

abbrev plain_row : List Bool → Row ℕ
plain_row w = record { code = w; tail = 0; make = λ n. n }

codes-plain : (ws : List (List Bool)) → codes_of_rows (map (λ w. plain_row w) ws) ≡ ws
codes-plain [] = refl
codes-plain (w ∷ ws) = ap (λ (t : List (List Bool)). w ∷ t) (codes-plain ws)

-- the word that stands at the front is one of the list, and is no longer than the bits
pub cell_within : (ws : List (List Bool)) (bits : List Bool) (cell : Cell) → found_cell ws bits ≡ Ok cell → (cell.value < length ws) × (cell.len ≤ length bits)
cell_within ws bits cell is =
    let found = read-found (map (λ w. plain_row w) ws) ws bits cell (codes-plain ws) is in
    (omega (arith, found.inside, length-map ws (λ w. plain_row w)), found.fits)

pub all_at : {A : Type 0} (test : A → Bool) (xs : List A) (k : ℕ) (d : A) → list_all test xs ≡ true → k < length xs → test (get_or xs k d) ≡ true
all_at test [] k d all inside = absurd (omega arith)
all_at test (x ∷ xs) zero d all inside = (and_parts (test x) (list_all test xs) all).0
all_at test (x ∷ xs) (suc k) d all inside = all_at test xs k d (and_parts (test x) (list_all test xs) all).1 (omega arith)

-- its length is that of the list's word
pub cell_length : (ws : List (List Bool)) (bits : List Bool) (cell : Cell) → found_cell ws bits ≡ Ok cell → length (get_or ws cell.value []) ≡ cell.len
cell_length ws bits cell is =
    let found = read-found (map (λ w. plain_row w) ws) ws bits cell (codes-plain ws) is in
    let inside : cell.value < length ws = omega (arith, found.inside, length-map ws (λ w. plain_row w)) in
    let row : plain_row (get_or ws cell.value []) ≡ found.row = sym (get_or-map (λ w. plain_row w) ws cell.value [] found.row inside) ∙ found.at found.row in
    ap (λ (row : Row ℕ). length row.code) row ∙ found.long

module _ {E X : Type 0} (rows : List (Row E)) (ws : List (List Bool)) (element : X → E) (meanings : List X) (codes : codes_of_rows rows ≡ ws) where
  -- the meaning of the word that stands at the front
  pub took_word : map (λ row. row.tail) rows ≡ map (λ row. 0) rows → map (λ row. row.make 0) rows ≡ map element meanings → (index : ℕ) (d : X) (old new : List Bool × ℕ) → TakesIndex ws (Ok index) old new → TakesWord element (read rows old.0) (Ok (get_or meanings index d)) old new
  unfolding model.number
  took_word tails makes index d old new took =
      let found = read-found rows ws old.0 (record { len = took.len; value = index }) codes took.cell in
      let row = found.row in
      let at : get_or rows index row ≡ row = found.at row in
      let tail : row.tail ≡ 0 =
      ap (λ (row : Row E). row.tail) (sym at) ∙ (sym (get_or-map (λ (row : Row E). row.tail) rows index row 0 found.inside)
      ∙ (ap (λ (ns : List ℕ). get_or ns index 0) tails ∙ get_or-map (λ (row : Row E). 0) rows index row 0 found.inside)) in
      let inside : index < length meanings =
      omega (arith, found.inside, length-map rows (λ row. row.make 0), ap length makes, length-map meanings element) in
      let make : row.make 0 ≡ element (get_or meanings index d) =
      ap (λ (row : Row E). row.make 0) (sym at) ∙ (sym (get_or-map (λ (row : Row E). row.make 0) rows index row (row.make 0) found.inside)
      ∙ (ap (λ (es : List E). get_or es index (row.make 0)) makes ∙ get_or-map element meanings index d (row.make 0) inside)) in
      let size : length row.code + row.tail ≡ took.len = omega (arith, found.long, tail) in
      let good : whole_word row old.0 ≡ Good (row.make (model.number (take row.tail (drop (length row.code) old.0)))) (length row.code + row.tail) = whole-good row old.0 (omega (arith, size, found.fits)) in
      let element_is : row.make (model.number (take row.tail (drop (length row.code) old.0))) ≡ element (get_or meanings index d) =
      ap (λ (n : ℕ). row.make (model.number (take n (drop (length row.code) old.0)))) tail ∙ make in
      record {
        len = took.len;
        good = found.is ∙ (good ∙ (ap (λ (e : E). Good e (length row.code + row.tail)) element_is ∙ ap (Good (element (get_or meanings index d))) size));
        behind = took.behind;
      }

  -- no word stands there
  pub took_none : list_all (λ w. nat_lt 0 (length w)) ws ≡ true → (why : Why) (old new : List Bool × ℕ) → TakesIndex ws (Err why) old new → TakesWord {X = X} element (read rows old.0) (Err why) old new
  took_none some why old new took = record { bad = read-none rows ws old.0 why codes some took.none; kept = took.kept }
