-- Reading bits that are cut: an element that ends within them is read as before, and one that does not is cut.
use Rattle.std.proofs.Common.{◌≡◌, ℕ, zero, suc, ◌+◌, ◌-◌, ◌*◌, ◌<◌, ◌≤◌, ◌&&◌, ◌||◌, Bool, true, false, List, [], ◌∷◌, ◌++◌, length, take, drop, Some, None, nat_lt, refl, sym, ◌∙◌, ap, subst, inl, inr, append_assoc, arith}
use Rattle.std.specs.List.{list_any, find}
use Rattle.std.proofs.lemmas.Bool.{false≢true, ltb-true, ltb-false, and_parts, cases_Bool, cond-false, cond-true, not-true}
use Rattle.std.proofs.lemmas.List.{length-append, take-append-drop, take-append-le}
use Rattle.pel_model.specs.declared.Format.{Format}
use Rattle.pel_model.specs.declared.Why.{Why}
use Rattle.pel_model.specs.declared.Why.TheVariants.{Cut, NoCode}
use Rattle.pel_model.specs.Bits.{number}
use Rattle.pel_model.specs.Codes.{is_prefix, is_prefix_free}
use Rattle.pel_model.specs.Valid.{group_count}
use Rattle.pel_model.specs.Walk.{Standing, Good, Stop, Bad, Row, skipped, after, Goes, read, word_at, judged}
use Rattle.pel_model.specs.Grammar.{Element, Slot, AtPsc, AtTr, AtPtype, AtPei, AtPspare, AtGroup, AtGn, AtGquant, AtGei, AtGspare, AtMacroblock, AtMtype, AtMquant, AtMvd, AtCbp, AtDc, AtFirst, AtCoefficient, slot, begun, rows, faults, first_why, may_end, is_end, or_no_start, at_slot, next, next_within_limit}
use Rattle.picture_laws.specs.Laws.{Leaves, GoodOverFirst, GoodOverAll, WithinTheLimit, PastTheLimit, TooLongAt, JudgedByTheLimit}
use Rattle.vlc_codes.proofs.FoundRows.{Among, apart, read-is, read-row, find-row, among-mapped}
use Rattle.picture_laws.proofs.Slots.{Takes, rows_free}
use Rattle.picture_laws.proofs.Chains.{word_in, words, next-is, next-good, goes-walk, walk-goes, judged_good, slot_good}
use Rattle.picture_laws.proofs.Limits.{picture-good, picture-long, picture-stops, picture-bad}
use Rattle.vlc_codes.specs.Lookup.{codes_of_rows}
use Rattle.vlc_codes.proofs.WordLaws.{is_prefix_self, is_prefix_length, whole-cut}

-- ---- lists

pub take-past : {A : Type 0} (xs ys : List A) (k : ℕ) → length xs ≤ k → take k (xs ++ ys) ≡ xs ++ take (k - length xs) ys
take-past [] ys k h = let e : k ≡ k - 0 = omega arith in ap (λ j. take j ys) e
take-past (x ∷ xs) ys zero h = absurd (omega (arith, h))
take-past (x ∷ xs) ys (suc k) h =
    let e : k - length xs ≡ suc k - suc (length xs) = omega arith in
    ap (λ t. x ∷ t) (take-past xs ys k (omega (arith, h)) ∙ ap (λ j. xs ++ take j ys) e)

pub length-take : {A : Type 0} (k : ℕ) (xs : List A) → length (take k xs) ≤ k
length-take zero xs = omega arith
length-take (suc k) [] = omega arith
length-take (suc k) (x ∷ xs) = omega (arith, length-take k xs)

none_taken : {A : Type 0} (xs : List A) (k : ℕ) → length xs ≡ 0 → xs ≡ take k xs
none_taken [] zero h = refl
none_taken [] (suc k) h = refl
none_taken (x ∷ xs) k h = absurd (omega (arith, h))

pub drop-take : {A : Type 0} (n k : ℕ) (xs : List A) → n ≤ k → drop n (take k xs) ≡ take (k - n) (drop n xs)
drop-take zero k xs h = let e : k ≡ k - 0 = omega arith in ap (λ j. take j xs) e
drop-take (suc n) zero xs h = absurd (omega (arith, h))
drop-take (suc n) (suc k) [] h = none_taken [] (suc k - suc n) refl
drop-take (suc n) (suc k) (x ∷ xs) h = let e : k - n ≡ suc k - suc n = omega arith in drop-take n k xs (omega (arith, h)) ∙ ap (λ j. take j (drop n xs)) e

-- ---- within the cut

pub cut-good : (format : Format) (before : List Element) (r : List Bool × ℕ) (e : Element) (n k : ℕ) → next format before r ≡ Good e n → n ≤ k → next format before (take k r.0, r.1) ≡ Good e n
cut-good format before r e n k h fits =
    let s = next-is format before r e n h in
    let bits : take k r.0 ≡ word_in before e ++ take (k - length (word_in before e)) (drop n r.0) = ap (take k) s.1.front ∙ take-past (word_in before e) (drop n r.0) k (omega (arith, s.1.size, fits)) in
    ap (λ (t : List Bool). next format before (t, r.1)) bits ∙ (next-good format before e (take (k - length (word_in before e)) (drop n r.0)) r.1 s.0 ∙ ap (Good e) (sym s.1.size))

-- ---- past the cut

-- of a list of which no word is a front of another, one that is a front of another is that one
free_same : (ws : List (List Bool)) (v w : List Bool) → is_prefix_free ws ≡ true → Among v ws → Among w ws → is_prefix v w ≡ true → v ≡ w
free_same [] v w free p q h = absurd p
free_same (u ∷ ws) v w free p q h = elim p [
  | inl v_is ↦ elim q [
    | inl w_is ↦ v_is ∙ sym w_is
    | inr w_in ↦ absurd (false≢true (sym (apart u ws w (not-true _ (and_parts _ _ free).0) w_in).0 ∙ (ap (λ x. is_prefix x w) (sym v_is) ∙ h)))
  ]
  | inr v_in ↦ elim q [
    | inl w_is ↦ absurd (false≢true (sym (apart u ws v (not-true _ (and_parts _ _ free).0) v_in).1 ∙ (ap (λ x. is_prefix v x) (sym w_is) ∙ h)))
    | inr w_in ↦ free_same ws v w (and_parts _ _ free).1 v_in w_in h
  ]
]

is_prefix_more : (w v more : List Bool) → is_prefix w v ≡ true → is_prefix w (v ++ more) ≡ true
is_prefix_more [] v more h = refl
is_prefix_more (b ∷ w) [] more h = absurd cc
is_prefix_more (true ∷ w) (true ∷ v) more h = is_prefix_more w v more h
is_prefix_more (false ∷ w) (false ∷ v) more h = is_prefix_more w v more h
is_prefix_more (true ∷ w) (false ∷ v) more h = absurd cc
is_prefix_more (false ∷ w) (true ∷ v) more h = absurd cc

find_none : {A : Type 0} (test : A → Bool) (xs : List A) → ((x : A) → Among x xs → test x ≡ false) → find test xs ≡ None
find_none test [] h = refl
find_none test (x ∷ xs) h = cond-false (test x) (Some x) (find test xs) (h x (inl refl)) ∙ find_none test xs (λ y among. h y (inr among))

any_among : {A : Type 0} (test : A → Bool) (xs : List A) (x : A) → Among x xs → test x ≡ true → list_any test xs ≡ true
any_among test [] x p h = absurd p
any_among test (y ∷ xs) x p h = elim p [
  | inl e ↦ ap (λ b. b || list_any test xs) (ap test (sym e) ∙ h)
  | inr t ↦ elim (cases_Bool (test y)) [
    | inl yes_ ↦ ap (λ b. b || list_any test xs) yes_
    | inr no_ ↦ ap (λ b. b || list_any test xs) no_ ∙ any_among test xs x t h
  ]
]

-- bits that end inside a word of a row are cut
cut_code : {E : Type 0} (rows : List (Row E)) (row : Row E) (k : ℕ) → is_prefix_free (codes_of_rows rows) ≡ true → Among row rows → k < length row.code → read rows (take k row.code) ≡ Bad Cut
cut_code rows row k free among short =
    let none : find (λ other. is_prefix other.code (take k row.code)) rows ≡ None = find_none (λ other. is_prefix other.code (take k row.code)) rows (λ other in_. elim (cases_Bool (is_prefix other.code (take k row.code))) [
      | inl here ↦
          let front : is_prefix other.code row.code ≡ true = ap (is_prefix other.code) (sym (take-append-drop k row.code)) ∙ is_prefix_more other.code (take k row.code) (drop k row.code) here in
          let same = free_same (codes_of_rows rows) other.code row.code free (among-mapped (λ r. r.code) other rows in_) (among-mapped (λ r. r.code) row rows among) front in
          absurd (omega (arith, ap length same, is_prefix_length other.code (take k row.code) here, length-take k row.code, short))
      | inr no_ ↦ no_
    ]) in
    let begun_ : is_prefix (take k row.code) row.code ≡ true = ap (is_prefix (take k row.code)) (sym (take-append-drop k row.code)) ∙ is_prefix_self (take k row.code) (drop k row.code) in
    let some : list_any (λ code. is_prefix (take k row.code) code) (codes_of_rows rows) ≡ true = any_among (λ code. is_prefix (take k row.code) code) (codes_of_rows rows) row.code (among-mapped (λ r. r.code) row rows among) begun_ in
    ap (word_at rows (take k row.code)) none ∙ ap Bad (cond-true (list_any (λ code. is_prefix (take k row.code) code) (codes_of_rows rows)) Cut NoCode some)

cut_row : {E : Type 0} (rows : List (Row E)) (row : Row E) (tail rest : List Bool) (k : ℕ) → is_prefix_free (codes_of_rows rows) ≡ true → Among row rows → length tail ≡ row.tail → k < length row.code + row.tail → read rows (take k (row.code ++ (tail ++ rest))) ≡ Bad Cut
cut_row rows row tail rest k free among long short = elim (cases_Bool (nat_lt k (length row.code))) [
  | inl inside ↦
      let few : k < length row.code = ltb-true k (length row.code) inside in
      ap (read rows) (take-append-le k row.code (tail ++ rest) (omega (arith, few))) ∙ cut_code rows row k free among few
  | inr past ↦
      let most : length row.code ≤ k = ltb-false k (length row.code) past in
      let bits : take k (row.code ++ (tail ++ rest)) ≡ row.code ++ take (k - length row.code) (tail ++ rest) = take-past row.code (tail ++ rest) k most in
      let size : length (row.code ++ take (k - length row.code) (tail ++ rest)) < length row.code + row.tail = omega (arith, length-append row.code (take (k - length row.code) (tail ++ rest)), length-take (k - length row.code) (tail ++ rest), short, most) in
      ap (read rows) bits
      ∙ (ap (word_at rows (row.code ++ take (k - length row.code) (tail ++ rest))) (find-row rows row (take (k - length row.code) (tail ++ rest)) free among)
      ∙ whole-cut row (row.code ++ take (k - length row.code) (tail ++ rest)) size)
]

-- a word that does not end within the cut is cut, in any list of which no word is a front of another
pub read-cut : {E : Type 0} (rows : List (Row E)) (bits : List Bool) (e : E) (n k : ℕ) → is_prefix_free (codes_of_rows rows) ≡ true → read rows bits ≡ Good e n → k < n → read rows (take k bits) ≡ Bad Cut
read-cut rows bits e n k free h short =
    let w = read-is rows bits e n h in
    ap (λ t. read rows (take k t)) w.front ∙ cut_row rows w.row w.tail (drop n bits) k free w.among w.long (omega (arith, w.size, short))

-- and one that does is as before
pub read-kept : {E : Type 0} (rows : List (Row E)) (bits : List Bool) (e : E) (n k : ℕ) → is_prefix_free (codes_of_rows rows) ≡ true → read rows bits ≡ Good e n → n ≤ k → read rows (take k bits) ≡ Good e n
read-kept rows bits e n k free h fits =
    let w = read-is rows bits e n h in
    let code = w.row.code in
    let left = k - length code in
    let front : take k bits ≡ code ++ (w.tail ++ take (left - length w.tail) (drop n bits)) =
    ap (take k) w.front
    ∙ (take-past code (w.tail ++ drop n bits) k (omega (arith, w.size, fits))
    ∙ ap (λ t. code ++ t) (take-past w.tail (drop n bits) left (omega (arith, w.size, w.long, fits)))) in
    ap (read rows) front
    ∙ (read-row rows w.row w.tail (take (left - length w.tail) (drop n bits)) free w.among w.long
    ∙ (ap (λ m. Good (w.row.make (number w.tail)) m) (sym w.size) ∙ ap (λ x. Good x n) (sym w.is)))

or_cut : (s : Slot) (found : Standing Element) → found ≡ Bad Cut → or_no_start s found ≡ Bad Cut
or_cut AtPsc (Bad NoCode) h = absurd cc
or_cut _ found h = h

pub cut-bad : (format : Format) (before : List Element) (r : List Bool × ℕ) (e : Element) (n k : ℕ) → next format before r ≡ Good e n → k < n → may_end (slot before) ≡ false → next format before (take k r.0, r.1) ≡ Bad Cut
unfolding next
cut-bad format before r e n k h short no_ =
    let j = judged_good (λ e n. first_why (faults format before e)) (at_slot (slot before) r.0) e n h in
    let w = read-is (rows (slot before)) r.0 e n (slot_good (slot before) r.0 e n j.0).0 in
    let cut : read (rows (slot before)) (take k r.0) ≡ Bad Cut = ap (λ t. read (rows (slot before)) (take k t)) w.front ∙ cut_row (rows (slot before)) w.row w.tail (drop n r.0) k (rows_free (slot before)) w.among w.long (omega (arith, w.size, short)) in
    ap (judged (λ e n. first_why (faults format before e)))
    (cond-false (may_end (slot before) && is_end (take k r.0)) Stop (or_no_start (slot before) (read (rows (slot before)) (take k r.0))) (ap (λ b. b && is_end (take k r.0)) no_)
    ∙ or_cut (slot before) (read (rows (slot before)) (take k r.0)) cut)

-- ---- walks over the first bits

pub good-over-first : GoodOverFirst
good-over-first format before r end es k goes within =
    let w = goes-walk format before r es end goes in
    let long : length (words before es) ≤ k = omega (arith, w.place, within) in
    let left : k - length (words before es) ≡ r.1 + k - end.1 = omega (arith, w.place) in
    walk-goes format before (take k r.0, r.1) es (take (r.1 + k - end.1) end.0, end.1) (record {
      chain = w.chain;
      bits = ap (take k) w.bits ∙ (take-past (words before es) end.0 k long ∙ ap (λ j. words before es ++ take j end.0) left);
      place = w.place;
    })

pub good-over-all : GoodOverAll
good-over-all format before r end es k goes =
    let w = goes-walk format before (take k r.0, r.1) es end goes in
    walk-goes format before r es (end.0 ++ drop k r.0, end.1) (record {
      chain = w.chain;
      bits = sym (take-append-drop k r.0) ∙ (ap (λ t. t ++ drop k r.0) w.bits ∙ append_assoc (words before es) end.0 (drop k r.0));
      place = w.place;
    })

-- ---- the limit inside a macroblock

same_begun : (s : Slot) (before : List Element) (e : Element) → Takes s e → may_end s ≡ false → begun (e ∷ before) ≡ begun before
same_begun AtPsc before e t no_ = ap (λ x. begun (x ∷ before)) t
same_begun AtTr before e t no_ = ap (λ x. begun (x ∷ before)) t.2
same_begun AtPtype before e t no_ = ap (λ x. begun (x ∷ before)) t.2
same_begun AtPei before e t no_ = ap (λ x. begun (x ∷ before)) t.1
same_begun AtPspare before e t no_ = ap (λ x. begun (x ∷ before)) t.2
same_begun AtGroup before e t no_ = absurd (false≢true (sym no_))
same_begun AtGn before e t no_ = ap (λ x. begun (x ∷ before)) t.2
same_begun AtGquant before e t no_ = ap (λ x. begun (x ∷ before)) t.2
same_begun AtGei before e t no_ = ap (λ x. begun (x ∷ before)) t.1
same_begun AtGspare before e t no_ = ap (λ x. begun (x ∷ before)) t.2
same_begun AtMacroblock before e t no_ = absurd (false≢true (sym no_))
same_begun AtMtype before e t no_ = ap (λ x. begun (x ∷ before)) t.1
same_begun AtMquant before e t no_ = ap (λ x. begun (x ∷ before)) t.2
same_begun (AtMvd axis) before e t no_ = ap (λ x. begun (x ∷ before)) t.2
same_begun AtCbp before e t no_ = ap (λ x. begun (x ∷ before)) t.2
same_begun AtDc before e t no_ = ap (λ x. begun (x ∷ before)) t.2
same_begun AtFirst before e t no_ = ap (λ x. begun (x ∷ before)) t.2
same_begun AtCoefficient before e t no_ = elim t [ inl a ↦ ap (λ x. begun (x ∷ before)) a.2 | inr b ↦ ap (λ x. begun (x ∷ before)) b ]

begun_of : (format : Format) (before : List Element) (r : List Bool × ℕ) (e : Element) (n : ℕ) → next format before r ≡ Good e n → may_end (slot before) ≡ false → begun (e ∷ before) ≡ begun before
begun_of format before r e n h no_ = same_begun (slot before) before e (next-is format before r e n h).0.takes no_

-- an element within the limit, and the bits that the limit leaves behind it
one_within : (format : Format) (before : List Element) (r : List Bool × ℕ) (e : Element) (n k : ℕ) → Leaves format before r.1 k → may_end (slot before) ≡ false → next format before r ≡ Good e n → n ≤ k → (next_within_limit format before r ≡ Good e n) × Leaves format (e ∷ before) (r.1 + n) (k - n)
one_within format before r e n k leaves no_ h fits =
    let same : 26 * (group_count format - begun (e ∷ before)) ≡ 26 * (group_count format - begun before) = ap (λ b. 26 * (group_count format - b)) (begun_of format before r e n h no_) in
    (picture-good format before r e n h (omega (arith, leaves, same, fits)), omega (arith, leaves, same, fits))

pub within-the-limit : WithinTheLimit
within-the-limit format before r end [] k leaves inside goes within = goes
within-the-limit format before r end (e ∷ es) k leaves inside goes within =
    let w = goes-walk format (e ∷ before) (skipped goes.0 r) es end goes.2 in
    let one = one_within format before r e goes.0 k leaves inside.0 goes.1 (omega (arith, w.place, within)) in
    (goes.0, one.0, within-the-limit format (e ∷ before) (skipped goes.0 r) end es (k - goes.0) one.1 inside.1 goes.2 (omega (arith, w.place, within)))

pub same_good : {E : Type 0} (s : Standing E) (x y : E) (n m : ℕ) → s ≡ Good x n → s ≡ Good y m → (x ≡ y) × (n ≡ m)
same_good s x y n m p q = (cc, cc)

pub bad_good : {E : Type 0} (s : Standing E) (why : Why) → s ≡ Bad why → (e : E) (n : ℕ) → s ≡ Good e n → ⊥
bad_good s why bad e n good = cc

no_end_here : (format : Format) (before : List Element) (cut : List Bool × ℕ) → may_end (slot before) ≡ false → next format before cut ≡ Bad Cut → (es : List Element) (end : List Bool × ℕ) → Goes (next format) before cut es end → may_end (slot (after before es)) ≡ true → ⊥
no_end_here format before cut no_ bad [] end goes may = false≢true (sym no_ ∙ may)
no_end_here format before cut no_ bad (e ∷ es) end goes may = bad_good (next format before cut) Cut bad e goes.0 goes.1

no_end_later : (format : Format) (before : List Element) (cut : List Bool × ℕ) (e : Element) (n : ℕ) → may_end (slot before) ≡ false → next format before cut ≡ Good e n → ((es : List Element) (end : List Bool × ℕ) → Goes (next format) (e ∷ before) (skipped n cut) es end → may_end (slot (after (e ∷ before) es)) ≡ true → ⊥) → (es : List Element) (end : List Bool × ℕ) → Goes (next format) before cut es end → may_end (slot (after before es)) ≡ true → ⊥
no_end_later format before cut e n no_ good rest [] end goes may = false≢true (sym no_ ∙ may)
no_end_later format before cut e n no_ good rest (x ∷ es) end goes may =
    let same = same_good (next format before cut) x e goes.0 n goes.1 good in
    let here = subst (λ y. Goes (next format) (y ∷ before) (skipped goes.0 cut) es end) same.0 goes.2 in
    let there = subst (λ k. Goes (next format) (e ∷ before) (skipped k cut) es end) same.1 here in
    rest es end there (subst (λ y. may_end (slot (after (y ∷ before) es)) ≡ true) same.0 may)

-- the first element that ends past the limit
long_here : (format : Format) (before : List Element) (r : List Bool × ℕ) (e : Element) (n k : ℕ) → Leaves format before r.1 k → may_end (slot before) ≡ false → next format before r ≡ Good e n → k < n → TooLongAt format before r k
long_here format before r e n k leaves no_ h past =
    let same : 26 * (group_count format - begun (e ∷ before)) ≡ 26 * (group_count format - begun before) = ap (λ b. 26 * (group_count format - b)) (begun_of format before r e n h no_) in
    let cut = cut-bad format before r e n k h past no_ in
    record {
      good = [];
      mid = r;
      walk = refl;
      too_long = picture-long format before r e n h (omega (arith, leaves, same, past));
      cut = (take k r.0, r.1);
      cut_walk = refl;
      is_cut = cut;
      place = refl;
      no_end = no_end_here format before (take k r.0, r.1) no_ cut;
    }

-- one more element before it
long_later : (format : Format) (before : List Element) (r : List Bool × ℕ) (e : Element) (n k : ℕ) → may_end (slot before) ≡ false → next format before r ≡ Good e n → n ≤ k → next_within_limit format before r ≡ Good e n → TooLongAt format (e ∷ before) (skipped n r) (k - n) → TooLongAt format before r k
long_later format before r e n k no_ h fits good rest =
    let left : (drop n (take k r.0), r.1 + n) ≡ (take (k - n) (drop n r.0), r.1 + n) = ap (λ (t : List Bool). (t, r.1 + n)) (drop-take n k r.0 fits) in
    let step_ = cut-good format before r e n k h fits in
    record {
      good = e ∷ rest.good;
      mid = rest.mid;
      walk = (n, good, rest.walk);
      too_long = rest.too_long;
      cut = rest.cut;
      cut_walk = (n, step_, subst (λ x. Goes (next format) (e ∷ before) x rest.good rest.cut) (sym left) rest.cut_walk);
      is_cut = rest.is_cut;
      place = rest.place;
      no_end = no_end_later format before (take k r.0, r.1) e n no_ step_ (λ es end goes may. rest.no_end es end (subst (λ x. Goes (next format) (e ∷ before) x es end) left goes) may);
    }

pub past-the-limit : PastTheLimit
past-the-limit format before r end [] k leaves inside goes past = let e : end.1 ≡ r.1 = ap (λ (x : List Bool × ℕ). x.1) goes in absurd (omega (arith, e, past))
past-the-limit format before r end (e ∷ es) k leaves inside goes past = elim (cases_Bool (nat_lt k goes.0)) [
  | inl long ↦ long_here format before r e goes.0 k leaves inside.0 goes.1 (ltb-true k goes.0 long)
  | inr fits ↦
      let few : goes.0 ≤ k = ltb-false k goes.0 fits in
      let one = one_within format before r e goes.0 k leaves inside.0 goes.1 few in
      long_later format before r e goes.0 k inside.0 goes.1 few one.0 (past-the-limit format (e ∷ before) (skipped goes.0 r) end es (k - goes.0) one.1 inside.1 goes.2 (omega (arith, few, past)))
]

pub judged-by-the-limit : JudgedByTheLimit
judged-by-the-limit format before r = record {
  good = picture-good format before r;
  long = picture-long format before r;
  end = picture-stops format before r;
  bad = picture-bad format before r;
}
