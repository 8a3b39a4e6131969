-- The word of a list of rows that stands at the front of bits, for every list of which no code is a front of another.
use Rattle.std.proofs.Common.{◌≡◌, ℕ, ◌+◌, ◌||◌, Bool, true, false, List, [], ◌∷◌, ◌++◌, length, map, take, drop, Option, Some, None, nat_lt, zero, suc, ◌<◌, ◌≤◌, slice_index_or, refl, sym, ◌∙◌, ap, inl, inr, ◌⊎◌, arith}
use Rattle.std.proofs.lemmas.Option.{same_Some}
use Rattle.std.specs.List.{list_any, list_all, find}
use Rattle.std.proofs.lemmas.Bool.{false≢true, ltb-true, ltb-false, and_parts, cases_Bool, cond-false, cond-true, not-true, or_parts}
use Rattle.std.proofs.lemmas.List.{length-take-le, length-append, length-drop, drop-drop, drop_at, take-append-drop, take_at, drop_all, append_assoc, append-nil}
use Rattle.pel_model.specs.Bits.{number}
use Rattle.pel_model.specs.Codes.{is_prefix, is_prefix_free}
use Rattle.pel_model.specs.Walk.{Good, Bad, Row, read, word_at, whole_word}
use Rattle.pel_model.specs.declared.Why.{Why}
use Rattle.pel_model.specs.declared.Why.TheVariants.{Cut}
use Rattle.pel_model.proofs.Walks.{good_same}
use Rattle.vlc_codes.specs.Lookup.{codes_of_rows}
use Rattle.vlc_codes.specs.WholeWords.{IsWordOf, ArePrefixFree}
use Rattle.vlc_codes.proofs.WordLaws.{is_prefix_self, is_prefix_both, whole-good}

-- an element of a list
abbrev pub Among : {A : Type 0} → A → List A → Type 0
Among x [] = ⊥
Among x (y ∷ ys) = (x ≡ y) ⊎ Among x ys

pub among-right : {A : Type 0} (x : A) (xs ys : List A) → Among x ys → Among x (xs ++ ys)
among-right x [] ys h = h
among-right x (y ∷ xs) ys h = inr (among-right x xs ys h)

pub among-left : {A : Type 0} (x : A) (xs ys : List A) → Among x xs → Among x (xs ++ ys)
among-left x [] ys h = absurd h
among-left x (y ∷ xs) ys h = elim h [ inl e ↦ inl e | inr t ↦ inr (among-left x xs ys t) ]

pub among-either : {A : Type 0} (x : A) (xs ys : List A) → Among x (xs ++ ys) → Among x xs ⊎ Among x ys
among-either x [] ys h = inr h
among-either x (y ∷ xs) ys h = elim h [ inl e ↦ inl (inl e) | inr t ↦ elim (among-either x xs ys t) [ inl a ↦ inl (inr a) | inr b ↦ inr b ] ]

pub among-map : {A B : Type 0} (f : A → B) (y : B) (xs : List A) → Among y (map f xs) → (x : A) × Among x xs × (y ≡ f x)
among-map f y [] h = absurd h
among-map f y (x ∷ xs) h = elim h [ inl e ↦ (x, inl refl, e) | inr t ↦ let r = among-map f y xs t in (r.0, inr r.1, r.2) ]

pub among-mapped : {A B : Type 0} (f : A → B) (x : A) (xs : List A) → Among x xs → Among (f x) (map f xs)
among-mapped f x [] h = absurd h
among-mapped f x (y ∷ xs) h = elim h [ inl e ↦ inl (ap f e) | inr t ↦ inr (among-mapped f x xs t) ]

pub among-all : {A : Type 0} (test : A → Bool) (x : A) (xs : List A) → list_all test xs ≡ true → Among x xs → test x ≡ true
among-all test x [] all h = absurd h
among-all test x (y ∷ xs) all h = elim h [
  | inl e ↦ ap test e ∙ (and_parts (test y) (list_all test xs) all).0
  | inr t ↦ among-all test x xs (and_parts (test y) (list_all test xs) all).1 t
]

-- ---- fronts

pub is_prefix-front : (w bits : List Bool) → is_prefix w bits ≡ true → bits ≡ w ++ drop (length w) bits
is_prefix-front [] bits h = refl
is_prefix-front (b ∷ w) [] h = absurd cc
is_prefix-front (true ∷ w) (true ∷ bits) h = ap (λ t. true ∷ t) (is_prefix-front w bits h)
is_prefix-front (false ∷ w) (false ∷ bits) h = ap (λ t. false ∷ t) (is_prefix-front w bits h)
is_prefix-front (true ∷ w) (false ∷ bits) h = absurd cc
is_prefix-front (false ∷ w) (true ∷ bits) h = absurd cc

-- ---- what is read

-- the element is the word of a row and so many bits behind its code
pub record IsRead {E : Type 0} (rows : List (Row E)) (bits : List Bool) (e : E) (n : ℕ) : Type 0 where
  pub row : Row E
  pub among : Among row rows
  pub tail : List Bool
  pub long : length tail ≡ row.tail
  pub front : bits ≡ row.code ++ (tail ++ drop n bits)
  pub is : e ≡ row.make (number tail)
  pub size : n ≡ length row.code + row.tail

find_among : {A : Type 0} (test : A → Bool) (xs : List A) (x : A) → find test xs ≡ Some x → Among x xs × (test x ≡ true)
find_among test [] x h = absurd cc
find_among test (y ∷ xs) x h = elim (cases_Bool (test y)) [
  | inl yes_ ↦ let e : y ≡ x = same_Some y x (sym (cond-true (test y) (Some y) (find test xs) yes_) ∙ h) in (inl (sym e), ap test (sym e) ∙ yes_)
  | inr no_ ↦ let r = find_among test xs x (sym (cond-false (test y) (Some y) (find test xs) no_) ∙ h) in (inr r.0, r.1)
]

bad_good : {E : Type 0} {why : Why} {e : E} {n : ℕ} → Bad why ≡ Good e n → ⊥
bad_good h = cc

whole_read : {E : Type 0} (rows : List (Row E)) (row : Row E) (bits : List Bool) (e : E) (n : ℕ) → Among row rows → is_prefix row.code bits ≡ true → whole_word row bits ≡ Good e n → IsRead rows bits e n
whole_read rows row bits e n among front h =
    elim (cases_Bool (nat_lt (length bits) (length row.code + row.tail))) [
      | inl short ↦ absurd (bad_good (sym (cond-true (nat_lt (length bits) (length row.code + row.tail)) (Bad Cut) (Good (row.make (number (take row.tail (drop (length row.code) bits)))) (length row.code + row.tail)) short) ∙ h))
      | inr fits ↦
          let parts = good_same _ e _ n (sym (cond-false (nat_lt (length bits) (length row.code + row.tail)) (Bad Cut) (Good (row.make (number (take row.tail (drop (length row.code) bits)))) (length row.code + row.tail)) fits) ∙ h) in
          let size : n ≡ length row.code + row.tail = sym parts.1 in
          let left : drop row.tail (drop (length row.code) bits) ≡ drop n bits = drop-drop row.tail (length row.code) bits ∙ ap (λ k. drop k bits) (sym size) in
          record {
            row = row;
            among = among;
            tail = take row.tail (drop (length row.code) bits);
            long = length-take-le row.tail (drop (length row.code) bits) (omega (arith, ltb-false (length bits) (length row.code + row.tail) fits, length-drop (length row.code) bits));
            front = is_prefix-front row.code bits front ∙ ap (λ t. row.code ++ t) (sym (take-append-drop row.tail (drop (length row.code) bits)) ∙ ap (λ t. take row.tail (drop (length row.code) bits) ++ t) left);
            is = sym parts.0;
            size = size;
          }
    ]

read_found : {E : Type 0} (rows : List (Row E)) (bits : List Bool) (e : E) (n : ℕ) (row : Option (Row E)) → find (λ row. is_prefix row.code bits) rows ≡ row → word_at rows bits row ≡ Good e n → IsRead rows bits e n
read_found rows bits e n None is h = absurd (bad_good h)
read_found rows bits e n (Some row) is h =
    let a = find_among (λ row. is_prefix row.code bits) rows row is in
    whole_read rows row bits e n a.0 a.1 h

pub read-is : {E : Type 0} (rows : List (Row E)) (bits : List Bool) (e : E) (n : ℕ) → read rows bits ≡ Good e n → IsRead rows bits e n
read-is rows bits e n h = read_found rows bits e n (find (λ row. is_prefix row.code bits) rows) refl h

-- ---- what is written is read

-- neither of two words of a prefix-free list is a front of the other
pub apart : (w : List Bool) (ws : List (List Bool)) (v : List Bool) → list_any (λ v. is_prefix w v || is_prefix v w) ws ≡ false → Among v ws → (is_prefix w v ≡ false) × (is_prefix v w ≡ false)
apart w [] v none h = absurd h
apart w (u ∷ ws) v none h = elim h [
  | inl e ↦ or_parts (is_prefix w v) (is_prefix v w) (ap (λ v. is_prefix w v || is_prefix v w) e ∙ (or_parts (is_prefix w u || is_prefix u w) (list_any (λ v. is_prefix w v || is_prefix v w) ws) none).0)
  | inr t ↦ apart w ws v (or_parts (is_prefix w u || is_prefix u w) (list_any (λ v. is_prefix w v || is_prefix v w) ws) none).1 t
]

-- two words at the front of the same bits
one_front : (v w rest : List Bool) → is_prefix v (w ++ rest) ≡ true → is_prefix v w ≡ false → is_prefix w v ≡ false → ⊥
one_front v w rest front a b = elim (cases_Bool (nat_lt (length v) (length w))) [
  | inl short ↦ false≢true (sym a ∙ is_prefix_both v w (w ++ rest) front (is_prefix_self w rest) (omega (arith, ltb-true (length v) (length w) short)))
  | inr long ↦ false≢true (sym b ∙ is_prefix_both w v (w ++ rest) (is_prefix_self w rest) front (omega (arith, ltb-false (length v) (length w) long)))
]

pub find-row : {E : Type 0} (rows : List (Row E)) (row : Row E) (rest : List Bool) → is_prefix_free (codes_of_rows rows) ≡ true → Among row rows → find (λ other. is_prefix other.code (row.code ++ rest)) rows ≡ Some row
find-row [] row rest free h = absurd h
find-row (first ∷ rows) row rest free h =
    elim h [
      | inl e ↦ cond-true (is_prefix first.code (row.code ++ rest)) (Some first) (find (λ other. is_prefix other.code (row.code ++ rest)) rows) (ap (λ r. is_prefix r.code (row.code ++ rest)) (sym e) ∙ is_prefix_self row.code rest) ∙ ap Some (sym e)
      | inr t ↦
          let both = apart first.code (codes_of_rows rows) row.code (not-true _ (and_parts _ _ free).0) (among-mapped (λ r. r.code) row rows t) in
          elim (cases_Bool (is_prefix first.code (row.code ++ rest))) [
            | inl here ↦ absurd (one_front first.code row.code rest here both.0 both.1)
            | inr other ↦ cond-false (is_prefix first.code (row.code ++ rest)) (Some first) (find (λ other. is_prefix other.code (row.code ++ rest)) rows) other ∙ find-row rows row rest (and_parts _ _ free).1 t
          ]
    ]

pub read-row : {E : Type 0} (rows : List (Row E)) (row : Row E) (tail rest : List Bool) → is_prefix_free (codes_of_rows rows) ≡ true → Among row rows → length tail ≡ row.tail → read rows (row.code ++ (tail ++ rest)) ≡ Good (row.make (number tail)) (length row.code + row.tail)
read-row rows row tail rest free h long =
    let behind : drop (length row.code) (row.code ++ (tail ++ rest)) ≡ tail ++ rest = drop_at row.code (tail ++ rest) (length row.code) refl in
    let front : take row.tail (drop (length row.code) (row.code ++ (tail ++ rest))) ≡ tail = ap (λ t. take row.tail t) behind ∙ take_at tail rest row.tail long in
    ap (word_at rows (row.code ++ (tail ++ rest))) (find-row rows row (tail ++ rest) free h)
    ∙ (whole-good row (row.code ++ (tail ++ rest)) (omega (arith, long, length-append row.code (tail ++ rest), length-append tail rest))
    ∙ ap (λ t. Good (row.make (number t)) (length row.code + row.tail)) front)

-- the word that was read lies within the bits, and what follows them changes nothing
pub read-inside : {E : Type 0} (rows : List (Row E)) (bits : List Bool) (e : E) (n : ℕ) → read rows bits ≡ Good e n → n ≤ length bits
read-inside rows bits e n h =
    let found = read-is rows bits e n h in
    omega (arith, ap (λ t. length t) found.front, length-append found.row.code (found.tail ++ drop n bits), length-append found.tail (drop n bits), found.long, found.size)

pub read-more : {E : Type 0} (rows : List (Row E)) (bits more : List Bool) (e : E) (n : ℕ) → is_prefix_free (codes_of_rows rows) ≡ true → read rows bits ≡ Good e n → read rows (bits ++ more) ≡ Good e n
read-more rows bits more e n free h =
    let found = read-is rows bits e n h in
    let front : bits ++ more ≡ found.row.code ++ (found.tail ++ (drop n bits ++ more)) =
    ap (λ t. t ++ more) found.front ∙ (append_assoc found.row.code (found.tail ++ drop n bits) more ∙ ap (λ t. found.row.code ++ t) (append_assoc found.tail (drop n bits) more)) in
    ap (λ t. read rows t) front
    ∙ (read-row rows found.row found.tail (drop n bits ++ more) free found.among found.long
    ∙ (ap (λ k. Good (found.row.make (number found.tail)) k) (sym found.size) ∙ ap (λ x. Good x n) (sym found.is)))

-- ---- whole words

among_at : {A : Type 0} (xs : List A) (k : ℕ) (x : A) → k < length xs → slice_index_or xs k x ≡ x → Among x xs
among_at [] k x inside is = absurd (omega arith)
among_at (y ∷ xs) zero x inside is = inl (sym is)
among_at (y ∷ xs) (suc k) x inside is = inr (among_at xs k x (omega arith) is)

-- the row of a word is the first whose code begins bits that the word begins
word_row_found : {E : Type 0} (rows : List (Row E)) (word behind : List Bool) (row : Row E) → is_prefix_free (codes_of_rows rows) ≡ true → Among row rows → IsWordOf row word → find (λ other. is_prefix other.code (word ++ behind)) rows ≡ Some row
word_row_found rows word behind row free among is =
    ap (λ t. find (λ other. is_prefix other.code t) rows) (ap (λ t. t ++ behind) (is_prefix-front row.code word is.front) ∙ append_assoc row.code (drop (length row.code) word) behind)
    ∙ find-row rows row (drop (length row.code) word ++ behind) free among

is_prefix_all : (v w : List Bool) → is_prefix v w ≡ true → length v ≡ length w → w ≡ v
is_prefix_all v w front long = is_prefix-front v w front ∙ (ap (λ t. v ++ t) (drop_all (length v) w (omega (arith, long))) ∙ append-nil v)

-- of a list of which no code is a front of another no whole word is one
pub whole-free : {E : Type 0} (rows : List (Row E)) → is_prefix_free (codes_of_rows rows) ≡ true → ArePrefixFree rows
whole-free rows free v w (i, row, inside, at, is) (j, other, inside_other, at_other, is_other) front =
    let first : find (λ r. is_prefix r.code w) rows ≡ Some row =
    ap (λ t. find (λ r. is_prefix r.code t) rows) (is_prefix-front v w front) ∙ word_row_found rows v (drop (length v) w) row free (among_at rows i row inside at) is in
    let second : find (λ r. is_prefix r.code w) rows ≡ Some other =
    ap (λ t. find (λ r. is_prefix r.code t) rows) (sym (append-nil w)) ∙ word_row_found rows w [] other free (among_at rows j other inside_other at_other) is_other in
    let same : row ≡ other = same_Some row other (sym first ∙ second) in
    sym (is_prefix_all v w front (is.long ∙ (ap (λ r. length r.code + r.tail) same ∙ sym is_other.long)))
