-- The word of an element that a slot takes is read there as that element, whatever follows.
use Rattle.std.proofs.Common.{◌≡◌, ℕ, zero, suc, ◌+◌, ◌-◌, ◌*◌, ◌/◌, ◌%◌, ◌^◌, ◌<◌, ◌≤◌, ◌==◌, ◌&&◌, ◌||◌, Bool, true, false, List, [], ◌∷◌, ◌++◌, length, map, nat_lt, refl, sym, ◌∙◌, ap, subst, inl, inr, append_assoc, append-nil, ℤ, pos, negsuc, neg_ℤ, nat_abs, arith}
use Rattle.std.specs.List.{list_any, list_all}
use Rattle.std.proofs.lemmas.Bool.{eqb-true, lt-ltb, and_parts, cases_Bool, cond-false, cond-true, eqb-false, le-ltb}
use Rattle.std.proofs.lemmas.List.{length-append}
use Rattle.vlc_codes.specs.Lookup.{codes_of_rows}
use Rattle.pel_model.specs.Bits.{field, number}
use Rattle.pel_model.specs.declared.MbKind.{MbKind}
use Rattle.pel_model.specs.declared.MbKind.TheVariants.{Intra, IntraQuant, Inter, InterQuant, Mc, McCoded, McQuant, McFil, McFilCoded, McFilQuant}
use Rattle.pel_model.specs.Codes.{is_prefix_free, mba_table, mtype_table, mvd_table, cbp_table, tcoeff_table, first_one_word, later_one_word, escape_word, end_of_block_word}
use Rattle.pel_model.specs.Records.{Coefficient}
use Rattle.pel_model.specs.Text.{word_of, coefficient_word, mtype_word, twos_complement, is_negative}
use Rattle.pel_model.specs.Walk.{Good, Row, read}
use Rattle.pel_model.specs.Grammar.{Element, Psc, Tr, Ptype, Pei, Pspare, Gbsc, Gn, Gquant, Gei, Gspare, Stuffing, Mba, Mtype, Mquant, Mvd, Cbp, Dc, Tcoeff, Eob, Slot, AtPsc, AtTr, AtPtype, AtPei, AtPspare, AtGroup, AtGn, AtGquant, AtGei, AtGspare, AtMacroblock, AtMtype, AtMquant, AtMvd, AtCbp, AtDc, AtFirst, AtCoefficient, word_row, field_rows, flag_rows, table_rows, escape_row, mba_rows, gbsc_row, rows, signed, from_twos_complement}
use Rattle.vlc_codes.proofs.FoundRows.{Among, read-row, among-all, among-mapped, among-left, among-right}
use Rattle.picture_laws.proofs.Slots.{word_at, Takes, IsSent, IsByteLevel, IsStep, IsPattern, same_bits-true, mvd_words, pair, pair_is_sent, pair_words, pair_words_later, rows_free}
use Rattle.picture_laws.proofs.Words.{number-fits, length-field, field-join, pair_row}

-- a row among the rows of a slot, and the bits behind its code
written : (list : List (Row Element)) → is_prefix_free (codes_of_rows list) ≡ true → (row : Row Element) → Among row list → (tail : List Bool) → length tail ≡ row.tail → (e : Element) → row.make (number tail) ≡ e → (w : List Bool) → row.code ++ tail ≡ w → (rest : List Bool) → read list (w ++ rest) ≡ Good e (length w)
written list free row among tail long e is w word rest =
    let size : length row.code + row.tail ≡ length w = omega (arith, long, length-append row.code tail, ap length word) in
    ap (λ t. read list (t ++ rest)) (sym word)
    ∙ (ap (read list) (append_assoc row.code tail rest)
    ∙ (read-row list row tail rest free among long ∙ (ap (λ x. Good x (length row.code + row.tail)) is ∙ ap (Good e) size)))

written_field : (w : ℕ) (make : ℕ → Element) (k : ℕ) → k < 2 ^ w → (rest : List Bool) → is_prefix_free (codes_of_rows (field_rows w make)) ≡ true → read (field_rows w make) (field k w ++ rest) ≡ Good (make k) (length (field k w))
written_field w make k below rest free =
    written (field_rows w make) free (record { code = []; tail = w; make = make }) (inl refl) (field k w) (length-field k w) (make k) (ap make (number-fits k w below)) (field k w) refl rest

written_flag : (make : Bool → Element) (b : Bool) (rest : List Bool) → is_prefix_free (codes_of_rows (flag_rows make)) ≡ true → read (flag_rows make) ((b ∷ []) ++ rest) ≡ Good (make b) 1
unfolding number
written_flag make true rest free = written (flag_rows make) free (record { code = []; tail = 1; make = λ n. make (n == 1) }) (inl refl) (true ∷ []) refl (make true) refl (true ∷ []) refl rest
written_flag make false rest free = written (flag_rows make) free (record { code = []; tail = 1; make = λ n. make (n == 1) }) (inl refl) (false ∷ []) refl (make false) refl (false ∷ []) refl rest

written_word : (list : List (Row Element)) → is_prefix_free (codes_of_rows list) ≡ true → (w : List Bool) (e : Element) → Among (word_row w e) list → (v : List Bool) → w ≡ v → (rest : List Bool) → read list (v ++ rest) ≡ Good e (length v)
written_word list free w e among v is rest = written list free (word_row w e) among [] refl e refl v (append-nil w ∙ is) rest

-- ---- words of a meaning

pub found_in : {A : Type 0} (test : A → Bool) (table : List (List Bool × A)) → list_any (λ row. test row.1) table ≡ true → (row : List Bool × A) × Among row table × (test row.1 ≡ true) × (word_of test table ≡ row.0)
found_in test [] h = absurd cc
found_in test (row ∷ table) h = elim (cases_Bool (test row.1)) [
  | inl yes_ ↦ (row, inl refl, yes_, cond-true (test row.1) row.0 (word_of test table) yes_)
  | inr no_ ↦
      let r = found_in test table (sym (ap (λ b. b || list_any (λ row. test row.1) table) no_) ∙ h) in
      (r.0, inr r.1, r.2, cond-false (test row.1) row.0 (word_of test table) no_ ∙ r.3)
]

-- the numbers below m
abbrev pub below : ℕ → List ℕ
below zero = []
below (suc m) = m ∷ below m

pub below_all : (test : ℕ → Bool) (m n : ℕ) → list_all test (below m) ≡ true → n < m → test n ≡ true
below_all test zero n all h = absurd (omega arith)
below_all test (suc m) n all h = elim (cases_Bool (n == m)) [
  | inl same ↦ ap test (eqb-true n m same) ∙ (and_parts _ _ all).0
  | inr other ↦ below_all test m n (and_parts _ _ all).1 (omega (arith, eqb-false n m other, h))
]

steps_found : list_all (λ n. list_any (λ row. row.1 == n + 1) mba_table) (below 33) ≡ true
unfolding mba_table
steps_found = refl

patterns_found : list_all (λ n. list_any (λ row. row.1 == n + 1) cbp_table) (below 63) ≡ true
unfolding cbp_table
patterns_found = refl

pub found_step : (n : ℕ) → IsStep n → (row : List Bool × ℕ) × Among row mba_table × (word_of (λ k. k == n) mba_table ≡ row.0) × (row.1 ≡ n)
found_step n is =
    let one : n - 1 + 1 ≡ n = omega arith in
    let f = found_in (λ k. k == n) mba_table (ap (λ m. list_any (λ row. row.1 == m) mba_table) (sym one) ∙ below_all (λ n. list_any (λ row. row.1 == n + 1) mba_table) 33 (n - 1) steps_found (omega arith)) in
    (f.0, f.1, f.3, eqb-true f.0.1 n f.2)

written_step : (n : ℕ) → IsStep n → (rest : List Bool) → read (rows AtMacroblock) (word_of (λ k. k == n) mba_table ++ rest) ≡ Good (Mba n) (length (word_of (λ k. k == n) mba_table))
unfolding rows
written_step n is rest =
    let f = found_step n is in
    written_word (rows AtMacroblock) (rows_free AtMacroblock) f.0.0 (Mba n) (among-left _ mba_rows (gbsc_row ∷ []) (among-left _ (table_rows mba_table Mba) _ (subst (λ k. Among (word_row f.0.0 (Mba k)) (table_rows mba_table Mba)) f.3 (among-mapped (λ row. word_row row.0 (Mba row.1)) f.0 mba_table f.1)))) (word_of (λ k. k == n) mba_table) (sym f.2) rest

pub found_pattern : (n : ℕ) → IsPattern n → (row : List Bool × ℕ) × Among row cbp_table × (word_of (λ k. k == n) cbp_table ≡ row.0) × (row.1 ≡ n)
found_pattern n is =
    let one : n - 1 + 1 ≡ n = omega arith in
    let f = found_in (λ k. k == n) cbp_table (ap (λ m. list_any (λ row. row.1 == m) cbp_table) (sym one) ∙ below_all (λ n. list_any (λ row. row.1 == n + 1) cbp_table) 63 (n - 1) patterns_found (omega arith)) in
    (f.0, f.1, f.3, eqb-true f.0.1 n f.2)

written_pattern : (n : ℕ) → IsPattern n → (rest : List Bool) → read (rows AtCbp) (word_of (λ k. k == n) cbp_table ++ rest) ≡ Good (Cbp n) (length (word_of (λ k. k == n) cbp_table))
unfolding rows
written_pattern n is rest =
    let f = found_pattern n is in
    written_word (rows AtCbp) (rows_free AtCbp) f.0.0 (Cbp n) (subst (λ k. Among (word_row f.0.0 (Cbp k)) (table_rows cbp_table Cbp)) f.3 (among-mapped (λ row. word_row row.0 (Cbp row.1)) f.0 cbp_table f.1)) (word_of (λ k. k == n) cbp_table) (sym f.2) rest

written_kind : (k : MbKind) (rest : List Bool) → read (rows AtMtype) (mtype_word k ++ rest) ≡ Good (Mtype k) (length (mtype_word k))
unfolding rows mtype_table
written_kind Intra rest = written_word (rows AtMtype) (rows_free AtMtype) _ (Mtype Intra) (inl refl) _ refl rest
written_kind IntraQuant rest = written_word (rows AtMtype) (rows_free AtMtype) _ (Mtype IntraQuant) (inr (inl refl)) _ refl rest
written_kind Inter rest = written_word (rows AtMtype) (rows_free AtMtype) _ (Mtype Inter) (inr (inr (inl refl))) _ refl rest
written_kind InterQuant rest = written_word (rows AtMtype) (rows_free AtMtype) _ (Mtype InterQuant) (inr (inr (inr (inl refl)))) _ refl rest
written_kind Mc rest = written_word (rows AtMtype) (rows_free AtMtype) _ (Mtype Mc) (inr (inr (inr (inr (inl refl))))) _ refl rest
written_kind McCoded rest = written_word (rows AtMtype) (rows_free AtMtype) _ (Mtype McCoded) (inr (inr (inr (inr (inr (inl refl)))))) _ refl rest
written_kind McQuant rest = written_word (rows AtMtype) (rows_free AtMtype) _ (Mtype McQuant) (inr (inr (inr (inr (inr (inr (inl refl))))))) _ refl rest
written_kind McFil rest = written_word (rows AtMtype) (rows_free AtMtype) _ (Mtype McFil) (inr (inr (inr (inr (inr (inr (inr (inl refl)))))))) _ refl rest
written_kind McFilCoded rest = written_word (rows AtMtype) (rows_free AtMtype) _ (Mtype McFilCoded) (inr (inr (inr (inr (inr (inr (inr (inr (inl refl))))))))) _ refl rest
written_kind McFilQuant rest = written_word (rows AtMtype) (rows_free AtMtype) _ (Mtype McFilQuant) (inr (inr (inr (inr (inr (inr (inr (inr (inr (inl refl)))))))))) _ refl rest

-- ---- coefficients

any_found : {A : Type 0} (test : A → Bool) (table : List (List Bool × A)) → list_any test (map (λ row. row.1) table) ≡ true → list_any (λ row. test row.1) table ≡ true
any_found test [] h = h
any_found test (row ∷ table) h = elim (cases_Bool (test row.1)) [
  | inl yes_ ↦ ap (λ b. b || list_any (λ row. test row.1) table) yes_
  | inr no_ ↦ ap (λ b. b || list_any (λ row. test row.1) table) no_ ∙ any_found test table (sym (ap (λ b. b || list_any test (map (λ row. row.1) table)) no_) ∙ h)
]

signed_again : (level : ℤ) → signed (nat_abs level) (number (is_negative level ∷ [])) ≡ level
unfolding number
signed_again (pos n) = refl
signed_again (negsuc n) = refl

written_pair : (list : List (Row Element)) → is_prefix_free (codes_of_rows list) ≡ true → (one : List Bool) (table : List (List Bool × (ℕ × ℕ))) → ((row : List Bool × (ℕ × ℕ)) → Among row table → Among (pair_row row) list) → ((b : Bool) → list_all (pair_is_sent one b) table ≡ true) → (run : ℕ) (level : ℤ) → list_any (λ p. p.0 == run && p.1 == nat_abs level) (map (λ row. row.1) table) ≡ true → (rest : List Bool) → read list (coefficient_word one (record { run = run; level = level; long = false }) ++ rest) ≡ Good (Tcoeff (record { run = run; level = level; long = false })) (length (coefficient_word one (record { run = run; level = level; long = false })))
written_pair list free one table inside checked run level any rest =
    let f = found_in (λ p. p.0 == run && p.1 == nat_abs level) table (any_found (λ p. p.0 == run && p.1 == nat_abs level) table any) in
    let run_is : f.0.1.0 ≡ run = eqb-true f.0.1.0 run (and_parts _ _ f.2).0 in
    let level_is : f.0.1.1 ≡ nat_abs level = eqb-true f.0.1.1 (nat_abs level) (and_parts _ _ f.2).1 in
    let same : pair f.0.1.0 f.0.1.1 (is_negative level) ≡ record { run = run; level = level; long = false } =
    ap (λ r. pair r f.0.1.1 (is_negative level)) run_is ∙ (ap (λ l. pair run l (is_negative level)) level_is ∙ ap (λ (l : ℤ). record { run = run; level = l; long = false }) (signed_again level)) in
    let word : coefficient_word one (pair f.0.1.0 f.0.1.1 (is_negative level)) ≡ f.0.0 ++ is_negative level ∷ [] = same_bits-true _ _ (and_parts _ _ (among-all (pair_is_sent one (is_negative level)) f.0 table (checked (is_negative level)) f.1)).0 in
    written list free (pair_row f.0) (inside f.0 f.1) (is_negative level ∷ []) refl (Tcoeff (record { run = run; level = level; long = false })) (ap Tcoeff same) (coefficient_word one (record { run = run; level = level; long = false })) (sym word ∙ ap (coefficient_word one) same) rest

twos_fit : (level : ℤ) → IsByteLevel level → (twos_complement level < 256) × (from_twos_complement (twos_complement level) ≡ level)
twos_fit (pos n) h = (omega arith, cond-true (nat_lt n 128) (pos n) (neg_ℤ (pos (256 - n))) (lt-ltb n 128 h))
twos_fit (negsuc n) h =
    let high : nat_lt (255 - n) 128 ≡ false = le-ltb (255 - n) 128 (omega arith) in
    let back : 256 - (255 - n) ≡ suc n = omega arith in
    (omega arith, cond-false (nat_lt (255 - n) 128) (pos (255 - n)) (neg_ℤ (pos (256 - (255 - n)))) high ∙ ap (λ m. neg_ℤ (pos m)) back)

written_escape : (list : List (Row Element)) → is_prefix_free (codes_of_rows list) ≡ true → Among escape_row list → (one : List Bool) (run : ℕ) (level : ℤ) → run ≤ 63 → IsByteLevel level → (rest : List Bool) → read list (coefficient_word one (record { run = run; level = level; long = true }) ++ rest) ≡ Good (Tcoeff (record { run = run; level = level; long = true })) (length (coefficient_word one (record { run = run; level = level; long = true })))
unfolding coefficient_word
written_escape list free among one run level small byte rest =
    let t = twos_fit level byte in
    let n : ℕ = run * 256 + twos_complement level in
    let below : n < 2 ^ 14 = omega (arith, t.0, small) in
    let run_is : n / 256 ≡ run = omega (arith, t.0) in
    let level_is : n % 256 ≡ twos_complement level = omega (arith, t.0) in
    let bits : field n 14 ≡ field run 6 ++ field (twos_complement level) 8 = field-join run (twos_complement level) 6 8 t.0 in
    let same : Tcoeff (record { run = n / 256; level = from_twos_complement (n % 256); long = true }) ≡ Tcoeff (record { run = run; level = level; long = true }) =
    ap (λ (r : ℕ). Tcoeff (record { run = r; level = from_twos_complement (n % 256); long = true })) run_is
    ∙ ap (λ (l : ℤ). Tcoeff (record { run = run; level = l; long = true })) (ap from_twos_complement level_is ∙ t.1) in
    written list free escape_row among (field n 14) (length-field n 14) (Tcoeff (record { run = run; level = level; long = true })) (ap escape_row.make (number-fits n 14 below) ∙ same) (escape_word ++ field run 6 ++ field (twos_complement level) 8) (ap (λ t. escape_word ++ t) bits ∙ sym (append_assoc escape_word (field run 6) (field (twos_complement level) 8))) rest

-- ---- each slot

takes_parts : (list : List (Row Element)) → is_prefix_free (codes_of_rows list) ≡ true → (one : List Bool) → ((row : List Bool × (ℕ × ℕ)) → Among row ((one, (0, 1)) ∷ tcoeff_table) → Among (pair_row row) list) → Among escape_row list → ((b : Bool) → list_all (pair_is_sent one b) ((one, (0, 1)) ∷ tcoeff_table) ≡ true) → (run : ℕ) (level : ℤ) (long : Bool) → IsSent (record { run = run; level = level; long = long }) → (rest : List Bool) → read list (coefficient_word one (record { run = run; level = level; long = long }) ++ rest) ≡ Good (Tcoeff (record { run = run; level = level; long = long })) (length (coefficient_word one (record { run = run; level = level; long = long })))
takes_parts list free one inside escape checked run level true sent rest = written_escape list free escape one run level sent.0 sent.1 rest
takes_parts list free one inside escape checked run level false sent rest = written_pair list free one ((one, (0, 1)) ∷ tcoeff_table) inside checked run level sent rest

takes_pair : (list : List (Row Element)) → is_prefix_free (codes_of_rows list) ≡ true → (one : List Bool) → ((row : List Bool × (ℕ × ℕ)) → Among row ((one, (0, 1)) ∷ tcoeff_table) → Among (pair_row row) list) → Among escape_row list → ((b : Bool) → list_all (pair_is_sent one b) ((one, (0, 1)) ∷ tcoeff_table) ≡ true) → (c : Coefficient) → IsSent c → (rest : List Bool) → read list (coefficient_word one c ++ rest) ≡ Good (Tcoeff c) (length (coefficient_word one c))
takes_pair list free one inside escape checked c sent rest = takes_parts list free one inside escape checked c.run c.level c.long sent rest

-- an element that a slot takes
abbrev ReadsAs : Slot → Element → List Bool → Type 0
ReadsAs s e rest = read (rows s) (word_at s e ++ rest) ≡ Good e (length (word_at s e))

as_is : (s : Slot) (e x : Element) (rest : List Bool) → e ≡ x → ReadsAs s x rest → ReadsAs s e rest
as_is s e x rest is h = subst (λ y. ReadsAs s y rest) (sym is) h

pub write-slot : (s : Slot) (e : Element) (rest : List Bool) → Takes s e → read (rows s) (word_at s e ++ rest) ≡ Good e (length (word_at s e))
unfolding rows
write-slot AtPsc e rest t = as_is AtPsc e Psc rest t (written_word (rows AtPsc) (rows_free AtPsc) _ Psc (inl refl) _ refl rest)
write-slot AtTr e rest t = as_is AtTr e (Tr t.0) rest t.2 (written_field 5 Tr t.0 t.1 rest (rows_free AtTr))
write-slot AtPtype e rest t = as_is AtPtype e (Ptype t.0) rest t.2 (written_field 6 Ptype t.0 t.1 rest (rows_free AtPtype))
write-slot AtPei e rest t = as_is AtPei e (Pei t.0) rest t.1 (written_flag Pei t.0 rest (rows_free AtPei))
write-slot AtPspare e rest t = as_is AtPspare e (Pspare t.0) rest t.2 (written_field 8 Pspare t.0 t.1 rest (rows_free AtPspare))
write-slot AtGroup e rest t = as_is AtGroup e Gbsc rest t (written_word (rows AtGroup) (rows_free AtGroup) _ Gbsc (inl refl) _ refl rest)
write-slot AtGn e rest t = as_is AtGn e (Gn t.0) rest t.2 (written_field 4 Gn t.0 t.1 rest (rows_free AtGn))
write-slot AtGquant e rest t = as_is AtGquant e (Gquant t.0) rest t.2 (written_field 5 Gquant t.0 t.1 rest (rows_free AtGquant))
write-slot AtGei e rest t = as_is AtGei e (Gei t.0) rest t.1 (written_flag Gei t.0 rest (rows_free AtGei))
write-slot AtGspare e rest t = as_is AtGspare e (Gspare t.0) rest t.2 (written_field 8 Gspare t.0 t.1 rest (rows_free AtGspare))
write-slot AtMacroblock e rest t = elim t [
  | inl a ↦ as_is AtMacroblock e (Mba a.0) rest a.2 (written_step a.0 a.1 rest)
  | inr a ↦ elim a [
    | inl b ↦ as_is AtMacroblock e Stuffing rest b (written_word (rows AtMacroblock) (rows_free AtMacroblock) _ Stuffing (among-left _ mba_rows (gbsc_row ∷ []) (among-right _ (table_rows mba_table Mba) _ (inl refl))) _ refl rest)
    | inr b ↦ as_is AtMacroblock e Gbsc rest b (written_word (rows AtMacroblock) (rows_free AtMacroblock) _ Gbsc (among-right _ mba_rows (gbsc_row ∷ []) (inl refl)) _ refl rest)
  ]
]
write-slot AtMtype e rest t = as_is AtMtype e (Mtype t.0) rest t.1 (written_kind t.0 rest)
write-slot AtMquant e rest t = as_is AtMquant e (Mquant t.0) rest t.2 (written_field 5 Mquant t.0 t.1 rest (rows_free AtMquant))
write-slot (AtMvd axis) e rest t = as_is (AtMvd axis) e (Mvd axis t.0.1) rest t.2 (written_word (rows (AtMvd axis)) (rows_free (AtMvd axis)) t.0.0 (Mvd axis t.0.1) (among-mapped (λ row. word_row row.0 (Mvd axis row.1)) t.0 mvd_table t.1) _ (sym (same_bits-true _ _ (among-all _ t.0 mvd_table mvd_words t.1))) rest)
write-slot AtCbp e rest t = as_is AtCbp e (Cbp t.0) rest t.2 (written_pattern t.0 t.1 rest)
write-slot AtDc e rest t = as_is AtDc e (Dc t.0) rest t.2 (written_field 8 Dc t.0 t.1 rest (rows_free AtDc))
write-slot AtFirst e rest t =
    as_is AtFirst e (Tcoeff t.0) rest t.2 (takes_pair (rows AtFirst) (rows_free AtFirst) first_one_word (λ row among. among-left (pair_row row) (map (λ row. pair_row row) ((first_one_word, (0, 1)) ∷ tcoeff_table)) (escape_row ∷ []) (among-mapped (λ row. pair_row row) row ((first_one_word, (0, 1)) ∷ tcoeff_table) among)) (among-right escape_row (map (λ row. pair_row row) ((first_one_word, (0, 1)) ∷ tcoeff_table)) (escape_row ∷ []) (inl refl)) pair_words t.0 t.1 rest)
write-slot AtCoefficient e rest t = elim t [
  | inl a ↦
      as_is AtCoefficient e (Tcoeff a.0) rest a.2 (takes_pair (rows AtCoefficient) (rows_free AtCoefficient) later_one_word (λ row among. among-left (pair_row row) (map (λ row. pair_row row) ((later_one_word, (0, 1)) ∷ tcoeff_table) ++ escape_row ∷ []) (word_row end_of_block_word Eob ∷ []) (among-left (pair_row row) (map (λ row. pair_row row) ((later_one_word, (0, 1)) ∷ tcoeff_table)) (escape_row ∷ []) (among-mapped (λ row. pair_row row) row ((later_one_word, (0, 1)) ∷ tcoeff_table) among))) (among-left escape_row (map (λ row. pair_row row) ((later_one_word, (0, 1)) ∷ tcoeff_table) ++ escape_row ∷ []) (word_row end_of_block_word Eob ∷ []) (among-right escape_row (map (λ row. pair_row row) ((later_one_word, (0, 1)) ∷ tcoeff_table)) (escape_row ∷ []) (inl refl))) pair_words_later a.0 a.1 rest)
  | inr b ↦ as_is AtCoefficient e Eob rest b (written_word (rows AtCoefficient) (rows_free AtCoefficient) _ Eob (among-right _ (map (λ row. pair_row row) ((later_one_word, (0, 1)) ∷ tcoeff_table) ++ escape_row ∷ []) (word_row end_of_block_word Eob ∷ []) (inl refl)) _ refl rest)
]
