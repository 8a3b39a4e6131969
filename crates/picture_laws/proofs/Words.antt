-- The word that stands at a slot, and what is read there.
use Rattle.std.proofs.Common.{◌≡◌, ℕ, zero, suc, ◌+◌, ◌-◌, ◌*◌, ◌/◌, ◌%◌, ◌^◌, ◌<◌, ◌≤◌, ◌==◌, Bool, true, false, List, [], ◌∷◌, ◌++◌, length, map, drop, nat_lt, refl, sym, ◌∙◌, ap, subst, inl, inr, ◌⊎◌, append_assoc, append-nil, pos, negsuc, neg_ℤ, arith}
use Rattle.std.specs.List.{list_all}
use Rattle.std.proofs.lemmas.Bool.{ltb-true, ltb-false, leb-true, and_parts, cases_Bool, cond-false, cond-true}
use Rattle.std.proofs.lemmas.List.{length-append, nil_from_length}
use Rattle.pel_bits.proofs.Fields as fields
use Rattle.pel_bits.specs.Bits as low
use Rattle.pel_model.specs.Bits.{field, number}
use Rattle.pel_model.specs.Codes.{mba_table, mtype_table, mvd_table, cbp_table, tcoeff_table, first_one_word, later_one_word, escape_word, end_of_block_word}
use Rattle.pel_model.specs.Records.{Coefficient}
use Rattle.pel_model.specs.Text.{coefficient_word, twos_complement}
use Rattle.pel_model.specs.Walk.{Good, Row, read}
use Rattle.pel_model.specs.Grammar.{Element, Psc, Tr, Ptype, Pei, Pspare, Gbsc, Gn, Gquant, Gei, Gspare, Stuffing, Mba, Mtype, Mquant, Mvd, Cbp, Dc, Tcoeff, Eob, Slot, AtPsc, AtTr, AtPtype, AtPei, AtPspare, AtGroup, AtGn, AtGquant, AtGei, AtGspare, AtMacroblock, AtMtype, AtMquant, AtMvd, AtCbp, AtDc, AtFirst, AtCoefficient, word_row, field_rows, table_rows, coefficient_row, escape_row, mba_rows, gbsc_row, rows, signed, from_twos_complement}
use Rattle.vlc_codes.proofs.FoundRows.{Among, IsRead, read-is, among-all, among-map, among-either}
use Rattle.picture_laws.proofs.Slots.{word_at, one_at, Takes, IsSent, IsByteLevel, same_bits-true, mba_words, mtype_words, mvd_words, cbp_words, pair, pair_is_sent, pair_words, pair_words_later}

-- ---- fields

pub field-number : (bs : List Bool) → field (number bs) (length bs) ≡ bs
unfolding field number low.field low.number
field-number bs = fields.field-number bs

pub number_below : (bs : List Bool) → number bs < 2 ^ length bs
unfolding number low.number
number_below bs = fields.number_below bs

pub number-fits : (n w : ℕ) → n < 2 ^ w → number (field n w) ≡ n
unfolding field number low.field low.number
number-fits n w h = fields.number-fits n w h

pub length-field : (n w : ℕ) → length (field n w) ≡ w
unfolding field low.field
length-field n w = fields.length-field n w

pub field-add : (n a b : ℕ) → field n (a + b) ≡ field (n / 2 ^ b) a ++ field n b
unfolding field low.field
field-add n a b = fields.field-add n a b

pub field-mod : (n j w : ℕ) → field (n % 2 ^ (j + w)) w ≡ field n w
unfolding field low.field
field-mod n j w = fields.field-mod n j w

pub field-join : (a b m k : ℕ) → b < 2 ^ k → field (a * 2 ^ k + b) (m + k) ≡ field a m ++ field b k
unfolding field low.field
field-join a b m k h = fields.field-join a b m k h

-- ---- what stands at a slot

-- the bits begin with the element's word
pub record IsWord (s : Slot) (bits : List Bool) (e : Element) (n : ℕ) : Type 0 where
  pub front : bits ≡ word_at s e ++ drop n bits
  pub size : n ≡ length (word_at s e)

word_is : (s : Slot) (list : List (Row Element)) (bits : List Bool) (e : Element) (n : ℕ) → (r : IsRead list bits e n) → r.row.code ++ r.tail ≡ word_at s e → IsWord s bits e n
word_is s list bits e n r is = record {
  front = r.front ∙ (sym (append_assoc r.row.code r.tail (drop n bits)) ∙ ap (λ t. t ++ drop n bits) is);
  size = omega (arith, r.size, r.long, length-append r.row.code r.tail, ap length is);
}

field_case : (s : Slot) (w : ℕ) (make : ℕ → Element) → ((k : ℕ) → k < 2 ^ w → word_at s (make k) ≡ field k w) → (bits : List Bool) (e : Element) (n : ℕ) → IsRead (field_rows w make) bits e n → (k : ℕ) × (k < 2 ^ w) × (e ≡ make k) × IsWord s bits e n
field_case s w make words bits e n r =
    let row : Row Element = record { code = []; tail = w; make = make } in
    let row_is : r.row ≡ record { code = []; tail = w; make = make } = elim r.among [ inl h ↦ h | inr h ↦ absurd h ] in
    let code : r.row.code ≡ [] = ap (λ (x : Row Element). x.code) row_is in
    let long : length r.tail ≡ w = r.long ∙ ap (λ (x : Row Element). x.tail) row_is in
    let is : e ≡ make (number r.tail) = r.is ∙ ap (λ (x : Row Element). x.make (number r.tail)) row_is in
    let below : number r.tail < 2 ^ w = subst (λ (k : ℕ). number r.tail < 2 ^ k) long (number_below r.tail) in
    let whole : field (number r.tail) w ≡ r.tail = ap (field (number r.tail)) (sym long) ∙ field-number r.tail in
    (number r.tail, below, is, word_is s (field_rows w make) bits e n r (ap (λ t. t ++ r.tail) code ∙ (sym whole ∙ (sym (words (number r.tail) below) ∙ ap (word_at s) (sym is)))))

word_case : (s : Slot) (code : List Bool) (x : Element) → word_at s x ≡ code → (list : List (Row Element)) (bits : List Bool) (e : Element) (n : ℕ) → (r : IsRead list bits e n) → r.row ≡ word_row code x → (e ≡ x) × IsWord s bits e n
word_case s code x word list bits e n r row_is =
    let c : r.row.code ≡ code = ap (λ (x : Row Element). x.code) row_is in
    let none : r.tail ≡ [] = nil_from_length r.tail (r.long ∙ ap (λ (x : Row Element). x.tail) row_is) in
    let is : e ≡ x = r.is ∙ ap (λ (x : Row Element). x.make (number r.tail)) row_is in
    (is, word_is s list bits e n r (ap (λ t. r.row.code ++ t) none ∙ (append-nil r.row.code ∙ (c ∙ (sym word ∙ ap (word_at s) (sym is))))))

one_word_case : (s : Slot) (code : List Bool) (x : Element) → word_at s x ≡ code → (bits : List Bool) (e : Element) (n : ℕ) → IsRead (word_row code x ∷ []) bits e n → (e ≡ x) × IsWord s bits e n
one_word_case s code x word bits e n r = word_case s code x word (word_row code x ∷ []) bits e n r (elim r.among [ inl h ↦ h | inr h ↦ absurd h ])

table_case : {A : Type 0} (s : Slot) (table : List (List Bool × A)) (make : A → Element) → ((row : List Bool × A) → Among row table → word_at s (make row.1) ≡ row.0) → (bits : List Bool) (e : Element) (n : ℕ) → IsRead (table_rows table make) bits e n → (row : List Bool × A) × Among row table × (e ≡ make row.1) × IsWord s bits e n
table_case s table make words bits e n r =
    let a = among-map (λ row. word_row row.0 (make row.1)) r.row table r.among in
    let w = word_case s a.0.0 (make a.0.1) (words a.0 a.1) (table_rows table make) bits e n r a.2 in
    (a.0, a.1, w.0, w.1)

read_either : (xs ys : List (Row Element)) (bits : List Bool) (e : Element) (n : ℕ) → IsRead (xs ++ ys) bits e n → IsRead xs bits e n ⊎ IsRead ys bits e n
read_either xs ys bits e n r = elim (among-either r.row xs ys r.among) [
  | inl a ↦ inl (record { row = r.row; among = a; tail = r.tail; long = r.long; front = r.front; is = r.is; size = r.size })
  | inr a ↦ inr (record { row = r.row; among = a; tail = r.tail; long = r.long; front = r.front; is = r.is; size = r.size })
]

-- ---- coefficients

abbrev pub pair_row : List Bool × (ℕ × ℕ) → Row Element
pair_row row = coefficient_row row.0 row.1.0 row.1.1

pair_word_case : (s : Slot) (table : List (List Bool × (ℕ × ℕ))) → ((b : Bool) → list_all (pair_is_sent (one_at s) b) table ≡ true) → (row : List Bool × (ℕ × ℕ)) → Among row table → (list : List (Row Element)) (bits : List Bool) (e : Element) (n : ℕ) → (r : IsRead list bits e n) → r.row.code ≡ row.0 → (tail : List Bool) → r.tail ≡ tail → length tail ≡ 1 → e ≡ Tcoeff (record { run = row.1.0; level = signed row.1.1 (number tail); long = false }) → ((c : Coefficient) × IsSent c × (e ≡ Tcoeff c)) × IsWord s bits e n
pair_word_case s table checked row among list bits e n r code [] tail_is one is = absurd (omega (arith, one))
pair_word_case s table checked row among list bits e n r code (b ∷ []) tail_is one is =
    let both = among-all (pair_is_sent (one_at s) b) row table (checked b) among in
    let word : coefficient_word (one_at s) (pair row.1.0 row.1.1 b) ≡ row.0 ++ b ∷ [] = same_bits-true _ _ (and_parts _ _ both).0 in
    ((pair row.1.0 row.1.1 b, (and_parts _ _ both).1, is), word_is s list bits e n r (ap (λ t. t ++ r.tail) code ∙ (ap (λ t. row.0 ++ t) tail_is ∙ (sym word ∙ ap (word_at s) (sym is)))))
pair_word_case s table checked row among list bits e n r code (b ∷ c ∷ tail) tail_is one is = absurd (omega (arith, one))

pair_case : (s : Slot) (table : List (List Bool × (ℕ × ℕ))) → ((b : Bool) → list_all (pair_is_sent (one_at s) b) table ≡ true) → (bits : List Bool) (e : Element) (n : ℕ) → IsRead (map (λ row. pair_row row) table) bits e n → ((c : Coefficient) × IsSent c × (e ≡ Tcoeff c)) × IsWord s bits e n
pair_case s table checked bits e n r =
    let a = among-map (λ row. pair_row row) r.row table r.among in
    let code : r.row.code ≡ a.0.0 = ap (λ (x : Row Element). x.code) a.2 in
    let one : length r.tail ≡ 1 = r.long ∙ ap (λ (x : Row Element). x.tail) a.2 in
    let is : e ≡ Tcoeff (record { run = a.0.1.0; level = signed a.0.1.1 (number r.tail); long = false }) = r.is ∙ ap (λ (x : Row Element). x.make (number r.tail)) a.2 in
    pair_word_case s table checked a.0 a.1 (map (λ row. pair_row row) table) bits e n r code r.tail refl one is

twos_again : (n : ℕ) → n < 256 → (twos_complement (from_twos_complement n) ≡ n) × IsByteLevel (from_twos_complement n)
twos_again n fits = elim (cases_Bool (nat_lt n 128)) [
  | inl low_ ↦
      let e : from_twos_complement n ≡ pos n = cond-true (nat_lt n 128) (pos n) (neg_ℤ (pos (256 - n))) low_ in
      (ap twos_complement e, subst IsByteLevel (sym e) (ltb-true n 128 low_))
  | inr high ↦
      let s : 256 - n ≡ suc (255 - n) = omega arith in
      let e : from_twos_complement n ≡ negsuc (255 - n) = cond-false (nat_lt n 128) (pos n) (neg_ℤ (pos (256 - n))) high ∙ ap (λ k. neg_ℤ (pos k)) s in
      let b : 128 ≤ n = ltb-false n 128 high in
      (ap twos_complement e ∙ omega arith, subst IsByteLevel (sym e) (omega arith))
]

abbrev escape : ℕ → Coefficient
escape n = record { run = n / 256; level = from_twos_complement (n % 256); long = true }

escape_text : (one : List Bool) (n : ℕ) → coefficient_word one (escape n) ≡ escape_word ++ field n 14
unfolding coefficient_word
escape_text one n =
    let t = twos_again (n % 256) (omega arith) in
    append_assoc escape_word (field (n / 256) 6) (field (twos_complement (from_twos_complement (n % 256))) 8)
    ∙ ap (λ t. escape_word ++ t) (ap (λ k. field (n / 256) 6 ++ field k 8) t.0 ∙ (ap (λ t. field (n / 256) 6 ++ t) (field-mod n 0 8) ∙ sym (field-add n 6 8)))

escape_case : (s : Slot) (bits : List Bool) (e : Element) (n : ℕ) → IsRead (escape_row ∷ []) bits e n → ((c : Coefficient) × IsSent c × (e ≡ Tcoeff c)) × IsWord s bits e n
escape_case s bits e n r =
    let row_is : r.row ≡ escape_row = elim r.among [ inl h ↦ h | inr h ↦ absurd h ] in
    let code : r.row.code ≡ escape_word = ap (λ (x : Row Element). x.code) row_is in
    let long : length r.tail ≡ 14 = r.long ∙ ap (λ (x : Row Element). x.tail) row_is in
    let k : ℕ = number r.tail in
    let is : e ≡ Tcoeff (escape (number r.tail)) = r.is ∙ ap (λ (x : Row Element). x.make (number r.tail)) row_is in
    let below : number r.tail < 2 ^ 14 = subst (λ (k : ℕ). number r.tail < 2 ^ k) long (number_below r.tail) in
    let whole : field (number r.tail) 14 ≡ r.tail = ap (field (number r.tail)) (sym long) ∙ field-number r.tail in
    let t = twos_again (number r.tail % 256) (omega arith) in
    ((escape (number r.tail), (omega arith, t.1), is), word_is s (escape_row ∷ []) bits e n r (ap (λ t. t ++ r.tail) code ∙ (ap (λ t. escape_word ++ t) (sym whole) ∙ (sym (escape_text (one_at s) (number r.tail)) ∙ ap (word_at s) (sym is)))))

-- ---- each slot

flag_field : (k : ℕ) → k < 2 → (k == 1) ∷ [] ≡ field k 1
unfolding field
flag_field zero h = refl
flag_field (suc zero) h = refl
flag_field (suc (suc k)) h = absurd (omega arith)

pub read-slot : (s : Slot) (bits : List Bool) (e : Element) (n : ℕ) → read (rows s) bits ≡ Good e n → Takes s e × IsWord s bits e n
unfolding rows
read-slot AtPsc bits e n h = one_word_case AtPsc _ Psc refl bits e n (read-is (rows AtPsc) bits e n h)
read-slot AtTr bits e n h = let r = field_case AtTr 5 Tr (λ k _. refl) bits e n (read-is (rows AtTr) bits e n h) in ((r.0, r.1, r.2), r.3)
read-slot AtPtype bits e n h = let r = field_case AtPtype 6 Ptype (λ k _. refl) bits e n (read-is (rows AtPtype) bits e n h) in ((r.0, r.1, r.2), r.3)
read-slot AtPei bits e n h = let r = field_case AtPei 1 (λ k. Pei (k == 1)) flag_field bits e n (read-is (rows AtPei) bits e n h) in ((r.0 == 1, r.2), r.3)
read-slot AtPspare bits e n h = let r = field_case AtPspare 8 Pspare (λ k _. refl) bits e n (read-is (rows AtPspare) bits e n h) in ((r.0, r.1, r.2), r.3)
read-slot AtGroup bits e n h = one_word_case AtGroup _ Gbsc refl bits e n (read-is (rows AtGroup) bits e n h)
read-slot AtGn bits e n h = let r = field_case AtGn 4 Gn (λ k _. refl) bits e n (read-is (rows AtGn) bits e n h) in ((r.0, r.1, r.2), r.3)
read-slot AtGquant bits e n h = let r = field_case AtGquant 5 Gquant (λ k _. refl) bits e n (read-is (rows AtGquant) bits e n h) in ((r.0, r.1, r.2), r.3)
read-slot AtGei bits e n h = let r = field_case AtGei 1 (λ k. Gei (k == 1)) flag_field bits e n (read-is (rows AtGei) bits e n h) in ((r.0 == 1, r.2), r.3)
read-slot AtGspare bits e n h = let r = field_case AtGspare 8 Gspare (λ k _. refl) bits e n (read-is (rows AtGspare) bits e n h) in ((r.0, r.1, r.2), r.3)
read-slot AtMacroblock bits e n h = elim (read_either mba_rows (gbsc_row ∷ []) bits e n (read-is (rows AtMacroblock) bits e n h)) [
  | inl a ↦ elim (read_either (table_rows mba_table Mba) (word_row _ Stuffing ∷ []) bits e n a) [
    | inl b ↦
        let r = table_case AtMacroblock mba_table Mba (λ row among. same_bits-true _ _ (and_parts _ _ (among-all _ row mba_table mba_words among)).0) bits e n b in
        let ok = (and_parts _ _ (among-all _ r.0 mba_table mba_words r.1)).1 in
        (inl (r.0.1, (ltb-true 0 r.0.1 (and_parts _ _ ok).0, leb-true r.0.1 33 (and_parts _ _ ok).1), r.2), r.3)
    | inr b ↦ let r = one_word_case AtMacroblock _ Stuffing refl bits e n b in (inr (inl r.0), r.1)
  ]
  | inr a ↦ let r = one_word_case AtMacroblock _ Gbsc refl bits e n a in (inr (inr r.0), r.1)
]
read-slot AtMtype bits e n h =
    let r = table_case AtMtype mtype_table Mtype (λ row among. same_bits-true _ _ (among-all _ row mtype_table mtype_words among)) bits e n (read-is (rows AtMtype) bits e n h) in
    ((r.0.1, r.2), r.3)
read-slot AtMquant bits e n h = let r = field_case AtMquant 5 Mquant (λ k _. refl) bits e n (read-is (rows AtMquant) bits e n h) in ((r.0, r.1, r.2), r.3)
read-slot (AtMvd axis) bits e n h =
    let r = table_case (AtMvd axis) mvd_table (Mvd axis) (λ row among. same_bits-true _ _ (among-all _ row mvd_table mvd_words among)) bits e n (read-is (rows (AtMvd axis)) bits e n h) in
    ((r.0, r.1, r.2), r.3)
read-slot AtCbp bits e n h =
    let r = table_case AtCbp cbp_table Cbp (λ row among. same_bits-true _ _ (and_parts _ _ (among-all _ row cbp_table cbp_words among)).0) bits e n (read-is (rows AtCbp) bits e n h) in
    let ok = (and_parts _ _ (among-all _ r.0 cbp_table cbp_words r.1)).1 in
    ((r.0.1, (ltb-true 0 r.0.1 (and_parts _ _ ok).0, ltb-true r.0.1 64 (and_parts _ _ ok).1), r.2), r.3)
read-slot AtDc bits e n h = let r = field_case AtDc 8 Dc (λ k _. refl) bits e n (read-is (rows AtDc) bits e n h) in ((r.0, r.1, r.2), r.3)
read-slot AtFirst bits e n h = elim (read_either (map (λ row. pair_row row) ((first_one_word, (0, 1)) ∷ tcoeff_table)) (escape_row ∷ []) bits e n (read-is (rows AtFirst) bits e n h)) [
  | inl a ↦ pair_case AtFirst ((first_one_word, (0, 1)) ∷ tcoeff_table) pair_words bits e n a
  | inr a ↦ escape_case AtFirst bits e n a
]
read-slot AtCoefficient bits e n h = elim (read_either (map (λ row. pair_row row) ((later_one_word, (0, 1)) ∷ tcoeff_table) ++ escape_row ∷ []) (word_row end_of_block_word Eob ∷ []) bits e n (read-is (rows AtCoefficient) bits e n h)) [
  | inl a ↦ elim (read_either (map (λ row. pair_row row) ((later_one_word, (0, 1)) ∷ tcoeff_table)) (escape_row ∷ []) bits e n a) [
    | inl b ↦ let r = pair_case AtCoefficient ((later_one_word, (0, 1)) ∷ tcoeff_table) pair_words_later bits e n b in (inl r.0, r.1)
    | inr b ↦ let r = escape_case AtCoefficient bits e n b in (inl r.0, r.1)
  ]
  | inr a ↦ let r = one_word_case AtCoefficient _ Eob refl bits e n a in (inr r.0, r.1)
]
