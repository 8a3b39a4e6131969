-- Bits behind the first 65,600 or 262,208 change no answer.
use Rattle.std.proofs.Common.{◌≡◌, ℕ, zero, suc, ◌+◌, ◌-◌, ◌<◌, ◌≤◌, ◌&&◌, ◌||◌, not, Bool, true, false, cond, List, [], ◌∷◌, length, take, drop, Option, Some, None, nat_lt, refl, sym, ◌∙◌, ap, subst, inl, inr, arith}
use Rattle.std.proofs.lemmas.Option.{same_Some}
use Rattle.std.specs.List.{list_any, list_all, find}
use Rattle.std.proofs.lemmas.Bool.{ltb-true, ltb-false, and_parts, cases_Bool, cond-false, cond-true, le-ltb}
use Rattle.std.proofs.lemmas.List.{length-take-le, take-take, take_all}
use Rattle.pel_model.specs.declared.Format.{Format}
use Rattle.pel_model.specs.declared.Format.TheVariants.{Qcif, Cif}
use Rattle.pel_model.specs.declared.Why.{Why}
use Rattle.pel_model.specs.declared.Why.TheVariants.{Cut, NoCode, TooLong}
use Rattle.pel_model.specs.Bits.{number}
use Rattle.pel_model.specs.Codes.{is_prefix, mba_table, mtype_table, mvd_table, cbp_table, tcoeff_table}
use Rattle.pel_model.specs.Records.{Picture}
use Rattle.pel_model.specs.Valid.{limit}
use Rattle.pel_model.specs.Accepts.{Accepts}
use Rattle.pel_model.specs.Walk.{Standing, Good, Stop, Bad, Row, skipped, start, after, Goes, Reads, FirstFault, read, word_at, whole_word, judged}
use Rattle.pel_model.specs.Grammar.{Element, Slot, AtPsc, AtTr, AtPtype, AtPei, AtPspare, AtGroup, AtGn, AtGquant, AtGei, AtGspare, AtMacroblock, AtMtype, AtMquant, AtMvd, AtCbp, AtDc, AtFirst, AtCoefficient, slot, rows, faults, first_why, may_end, is_end, or_no_start, at_slot, next, next_within_limit, counted}
use Rattle.picture_laws.specs.Laws.{KeptLength, kept_length}
use Rattle.picture_laws.proofs.Cuts.{drop-take}
use Rattle.picture_laws.proofs.Limits.{picture-next}
use Rattle.picture_laws.proofs.Pictures.{accepted-read}
use Rattle.picture_laws.proofs.ReadPictures.{walk-record}
use Rattle.picture_laws.proofs.Told.{told-one}
use Rattle.vlc_codes.specs.Lookup.{codes_of_rows}
use Rattle.vlc_codes.proofs.WordLaws.{is_prefix_longer}

-- ---- one step

is_prefix_take : (w bits : List Bool) (k : ℕ) → length w ≤ k → is_prefix w (take k bits) ≡ is_prefix w bits
is_prefix_take [] bits k h = refl
is_prefix_take (b ∷ w) bits zero h = absurd (omega (arith, h))
is_prefix_take (b ∷ w) [] (suc k) h = refl
is_prefix_take (true ∷ w) (true ∷ bits) (suc k) h = is_prefix_take w bits k (omega (arith, h))
is_prefix_take (false ∷ w) (false ∷ bits) (suc k) h = is_prefix_take w bits k (omega (arith, h))
is_prefix_take (true ∷ w) (false ∷ bits) (suc k) h = refl
is_prefix_take (false ∷ w) (true ∷ bits) (suc k) h = refl

-- rows whose words have fewer than 32 bits
abbrev IsShort : {E : Type 0} → List (Row E) → Type 0
IsShort rows = list_all (λ row. nat_lt (length row.code + row.tail) 32) rows ≡ true

rows_short : (s : Slot) → IsShort (rows s)
unfolding rows mba_table mtype_table mvd_table cbp_table tcoeff_table
rows_short AtPsc = refl
rows_short AtTr = refl
rows_short AtPtype = refl
rows_short AtPei = refl
rows_short AtPspare = refl
rows_short AtGroup = refl
rows_short AtGn = refl
rows_short AtGquant = refl
rows_short AtGei = refl
rows_short AtGspare = refl
rows_short AtMacroblock = refl
rows_short AtMtype = refl
rows_short AtMquant = refl
rows_short (AtMvd axis) = refl
rows_short AtCbp = refl
rows_short AtDc = refl
rows_short AtFirst = refl
rows_short AtCoefficient = refl

same_whole : {E : Type 0} (row : Row E) (bits : List Bool) (k : ℕ) → length row.code + row.tail < 32 → 32 ≤ k → k < length bits → whole_word row (take k bits) ≡ whole_word row bits
same_whole row bits k short most long =
    let few : nat_lt (length (take k bits)) (length row.code + row.tail) ≡ false = le-ltb (length (take k bits)) (length row.code + row.tail) (omega (arith, length-take-le k bits (omega (arith, long)), short, most)) in
    let few2 : nat_lt (length bits) (length row.code + row.tail) ≡ false = le-ltb (length bits) (length row.code + row.tail) (omega (arith, short, most, long)) in
    let tail : take row.tail (drop (length row.code) (take k bits)) ≡ take row.tail (drop (length row.code) bits) =
    ap (take row.tail) (drop-take (length row.code) k bits (omega (arith, short, most))) ∙ take-take row.tail (k - length row.code) (drop (length row.code) bits) (omega (arith, short, most)) in
    cond-false (nat_lt (length (take k bits)) (length row.code + row.tail)) (Bad Cut) (Good (row.make (number (take row.tail (drop (length row.code) (take k bits))))) (length row.code + row.tail)) few
    ∙ (ap (λ t. Good (row.make (number t)) (length row.code + row.tail)) tail
    ∙ sym (cond-false (nat_lt (length bits) (length row.code + row.tail)) (Bad Cut) (Good (row.make (number (take row.tail (drop (length row.code) bits)))) (length row.code + row.tail)) few2))

-- no word is so long that these bits are the front of it
none_longer : {E : Type 0} (rows : List (Row E)) (bits : List Bool) → IsShort rows → 32 ≤ length bits → list_any (λ code. is_prefix bits code) (codes_of_rows rows) ≡ false
none_longer [] bits short long = refl
none_longer (row ∷ rows) bits short long =
    let here : length row.code + row.tail < 32 = ltb-true (length row.code + row.tail) 32 (and_parts _ _ short).0 in
    ap (λ b. b || list_any (λ code. is_prefix bits code) (codes_of_rows rows)) (is_prefix_longer bits row.code (omega (arith, here, long)))
    ∙ none_longer rows bits (and_parts _ _ short).1 long

same_find : {E : Type 0} (rows : List (Row E)) (bits : List Bool) (k : ℕ) → IsShort rows → 32 ≤ k → find (λ row. is_prefix row.code (take k bits)) rows ≡ find (λ row. is_prefix row.code bits) rows
same_find [] bits k short most = refl
same_find (row ∷ rows) bits k short most =
    let here : length row.code + row.tail < 32 = ltb-true (length row.code + row.tail) 32 (and_parts _ _ short).0 in
    ap (λ b. cond b (Some row) (find (λ row. is_prefix row.code (take k bits)) rows)) (is_prefix_take row.code bits k (omega (arith, here, most)))
    ∙ ap (λ o. cond (is_prefix row.code bits) (Some row) o) (same_find rows bits k (and_parts _ _ short).1 most)

find_short : {E : Type 0} (test : Row E → Bool) (rows : List (Row E)) (row : Row E) → IsShort rows → find test rows ≡ Some row → length row.code + row.tail < 32
find_short test [] row short h = absurd cc
find_short test (first ∷ rows) row short h = elim (cases_Bool (test first)) [
  | inl yes_ ↦
      let e : first ≡ row = same_Some first row (sym (cond-true (test first) (Some first) (find test rows) yes_) ∙ h) in
      subst (λ r. length r.code + r.tail < 32) e (ltb-true (length first.code + first.tail) 32 (and_parts _ _ short).0)
  | inr no_ ↦ find_short test rows row (and_parts _ _ short).1 (sym (cond-false (test first) (Some first) (find test rows) no_) ∙ h)
]

same_word : {E : Type 0} (rows : List (Row E)) (bits : List Bool) (k : ℕ) → IsShort rows → 32 ≤ k → k < length bits → (found : Option (Row E)) → find (λ row. is_prefix row.code bits) rows ≡ found → word_at rows (take k bits) found ≡ word_at rows bits found
same_word rows bits k short most long None is =
    let size : length (take k bits) ≡ k = length-take-le k bits (omega (arith, long)) in
    let a = none_longer rows (take k bits) short (omega (arith, size, most)) in
    let b = none_longer rows bits short (omega (arith, most, long)) in
    ap Bad (cond-false (list_any (λ code. is_prefix (take k bits) code) (codes_of_rows rows)) Cut NoCode a ∙ sym (cond-false (list_any (λ code. is_prefix bits code) (codes_of_rows rows)) Cut NoCode b))
same_word rows bits k short most long (Some row) is = same_whole row bits k (find_short (λ row. is_prefix row.code bits) rows row short is) most long

same_read : {E : Type 0} (rows : List (Row E)) (bits : List Bool) (k : ℕ) → IsShort rows → 32 ≤ k → k < length bits → read rows (take k bits) ≡ read rows bits
same_read rows bits k short most long =
    ap (word_at rows (take k bits)) (same_find rows bits k short most) ∙ same_word rows bits k short most long (find (λ row. is_prefix row.code bits) rows) refl

long_no_end : (bits : List Bool) → 8 ≤ length bits → is_end bits ≡ false
long_no_end bits h = ap (λ b. b && not (list_any (λ b. b) bits)) (le-ltb (length bits) 8 h)

-- bits behind the next 32 decide nothing
same_next : (format : Format) (before : List Element) (bits : List Bool) (p k : ℕ) → 32 ≤ k → next format before (take k bits, p) ≡ next format before (bits, p)
unfolding next
same_next format before bits p k most = elim (cases_Bool (nat_lt k (length bits))) [
  | inl long_ ↦
      let long : k < length bits = ltb-true k (length bits) long_ in
      let size : length (take k bits) ≡ k = length-take-le k bits (omega (arith, long)) in
      ap (judged (λ e n. first_why (faults format before e)))
      (ap (λ b. cond (may_end (slot before) && b) Stop (or_no_start (slot before) (read (rows (slot before)) (take k bits)))) (long_no_end (take k bits) (omega (arith, size, most)) ∙ sym (long_no_end bits (omega (arith, most, long))))
      ∙ ap (λ found. cond (may_end (slot before) && is_end bits) Stop (or_no_start (slot before) found)) (same_read (rows (slot before)) bits k (rows_short (slot before)) most long))
  | inr few ↦ ap (λ (t : List Bool). judged (λ e n. first_why (faults format before e)) (at_slot (slot before) t)) (take_all k bits (ltb-false k (length bits) few))
]

same_picture : (format : Format) (before : List Element) (bits : List Bool) (p k : ℕ) → 32 ≤ k → next_within_limit format before (take k bits, p) ≡ next_within_limit format before (bits, p)
unfolding next_within_limit
same_picture format before bits p k most = ap (judged (λ e n. cond (nat_lt (limit format) (counted format (e ∷ before) (p + n))) (Some TooLong) None)) (same_next format before bits p k most)

-- ---- walks

-- a reading of the bits that are kept
abbrev kept : Format → List Bool × ℕ → List Bool × ℕ
kept format r = (take (limit format + 64 - r.1) r.0, r.1)

kept_step : (format : Format) (before : List Element) (r : List Bool × ℕ) → r.1 ≤ limit format → next_within_limit format before (kept format r) ≡ next_within_limit format before r
kept_step format before r within = same_picture format before r.0 r.1 (limit format + 64 - r.1) (omega (arith, within))

kept_skipped : (format : Format) (r : List Bool × ℕ) (n : ℕ) → r.1 + n ≤ limit format → skipped n (kept format r) ≡ kept format (skipped n r)
kept_skipped format r n within =
    let k : limit format + 64 - r.1 - n ≡ limit format + 64 - (r.1 + n) = omega (arith, within) in
    ap (λ (t : List Bool). (t, r.1 + n)) (drop-take n (limit format + 64 - r.1) r.0 (omega (arith, within)) ∙ ap (λ j. take j (drop n r.0)) k)

within_step : (format : Format) (before : List Element) (r : List Bool × ℕ) (e : Element) (n : ℕ) → next_within_limit format before r ≡ Good e n → r.1 + n ≤ limit format
within_step format before r e n h = let c = (picture-next format before r e n h).1 in omega (arith, c)

keep : (format : Format) (before : List Element) (r end : List Bool × ℕ) (es : List Element) → r.1 ≤ limit format → Goes (next_within_limit format) before r es end → Goes (next_within_limit format) before (kept format r) es (kept format end) × (end.1 ≤ limit format)
keep format before r end [] within goes = (ap (kept format) goes, (let e : end.1 ≡ r.1 = ap (λ (x : List Bool × ℕ). x.1) goes in omega (arith, e, within)))
keep format before r end (e ∷ es) within goes =
    let fits = within_step format before r e goes.0 goes.1 in
    let rest = keep format (e ∷ before) (skipped goes.0 r) end es fits goes.2 in
    ((goes.0, kept_step format before r within ∙ goes.1, subst (λ x. Goes (next_within_limit format) (e ∷ before) x es (kept format end)) (sym (kept_skipped format r goes.0 fits)) rest.0), rest.1)

record IsUnkept (format : Format) (before : List Element) (r : List Bool × ℕ) (es : List Element) (cut : List Bool × ℕ) : Type 0 where
  pub end : List Bool × ℕ
  pub walk : Goes (next_within_limit format) before r es end
  pub same : cut ≡ kept format end
  pub within : end.1 ≤ limit format

unkeep : (format : Format) (before : List Element) (r cut : List Bool × ℕ) (es : List Element) → r.1 ≤ limit format → Goes (next_within_limit format) before (kept format r) es cut → IsUnkept format before r es cut
unkeep format before r cut [] within goes = record { end = r; walk = refl; same = goes; within = within }
unkeep format before r cut (e ∷ es) within goes =
    let here : next_within_limit format before r ≡ Good e goes.0 = sym (kept_step format before r within) ∙ goes.1 in
    let fits = within_step format before r e goes.0 here in
    let rest = unkeep format (e ∷ before) (skipped goes.0 r) cut es fits (subst (λ x. Goes (next_within_limit format) (e ∷ before) x es cut) (kept_skipped format r goes.0 fits) goes.2) in
    record { end = rest.end; walk = (goes.0, here, rest.walk); same = rest.same; within = rest.within }

kept_start : (format : Format) (bits : List Bool) → kept format (start bits) ≡ start (take (limit format + 64) bits)
kept_start format bits = let k : limit format + 64 - 0 ≡ limit format + 64 = omega arith in ap (λ j. start (take j bits)) k

keep_reads : (format : Format) (bits : List Bool) (es : List Element) → Reads (next_within_limit format) bits es → Reads (next_within_limit format) (take (limit format + 64) bits) es
keep_reads format bits es reads =
    let k = keep format [] (start bits) reads.end es (omega arith) reads.walk in
    record {
      end = kept format reads.end;
      walk = subst (λ x. Goes (next_within_limit format) [] x es (kept format reads.end)) (kept_start format bits) k.0;
      stop = kept_step format (after [] es) reads.end k.1 ∙ reads.stop;
    }

unkept_from : (format : Format) (bits : List Bool) (es : List Element) (cut : List Bool × ℕ) → Goes (next_within_limit format) [] (start (take (limit format + 64) bits)) es cut → IsUnkept format [] (start bits) es cut
unkept_from format bits es cut goes = unkeep format [] (start bits) cut es (omega arith) (subst (λ x. Goes (next_within_limit format) [] x es cut) (sym (kept_start format bits)) goes)

unkept_answer : (format : Format) (before : List Element) (cut end : List Bool × ℕ) (s : Standing Element) → cut ≡ kept format end → end.1 ≤ limit format → next_within_limit format before cut ≡ s → next_within_limit format before end ≡ s
unkept_answer format before cut end s same within h = sym (kept_step format before end within) ∙ (ap (next_within_limit format before) (sym same) ∙ h)

unkeep_reads : (format : Format) (bits : List Bool) (es : List Element) → Reads (next_within_limit format) (take (limit format + 64) bits) es → Reads (next_within_limit format) bits es
unkeep_reads format bits es reads =
    let u = unkept_from format bits es reads.end reads.walk in
    record { end = u.end; walk = u.walk; stop = unkept_answer format (after [] es) reads.end u.end Stop u.same u.within reads.stop }

keep_fault : (format : Format) (bits : List Bool) (place : ℕ) (why : Why) → FirstFault (next_within_limit format) bits place why → FirstFault (next_within_limit format) (take (limit format + 64) bits) place why
keep_fault format bits place why fault =
    let k = keep format [] (start bits) fault.end fault.elements (omega arith) fault.walk in
    record {
      elements = fault.elements;
      end = kept format fault.end;
      walk = subst (λ x. Goes (next_within_limit format) [] x fault.elements (kept format fault.end)) (kept_start format bits) k.0;
      bad = kept_step format (after [] fault.elements) fault.end k.1 ∙ fault.bad;
      place_is = fault.place_is;
    }

unkeep_fault : (format : Format) (bits : List Bool) (place : ℕ) (why : Why) → FirstFault (next_within_limit format) (take (limit format + 64) bits) place why → FirstFault (next_within_limit format) bits place why
unkeep_fault format bits place why fault =
    let u = unkept_from format bits fault.elements fault.end fault.walk in
    record {
      elements = fault.elements;
      end = u.end;
      walk = u.walk;
      bad = unkept_answer format (after [] fault.elements) fault.end u.end (Bad why) u.same u.within fault.bad;
      place_is = fault.place_is ∙ ap (λ (x : List Bool × ℕ). x.1) u.same;
    }

-- the same elements, the same picture
same_record : (format : Format) (bits others : List Bool) (pic : Picture) → ((es : List Element) → Reads (next_within_limit format) bits es → Reads (next_within_limit format) others es) → Accepts format bits pic → Accepts format others pic
same_record format bits others pic moves accepted =
    let read_ = accepted-read format bits pic accepted in
    let w = walk-record format others read_.0 (moves read_.0 read_.1) in
    subst (λ p. Accepts format others p) (told-one format read_.0 w.0 pic w.1 w.2.1.valid read_.2 accepted.1.valid) w.2

kept_is : (format : Format) → limit format + 64 ≡ kept_length format
kept_is Qcif = refl
kept_is Cif = refl

pub kept-length : KeptLength
kept-length format bits =
    let is : take (limit format + 64) bits ≡ take (kept_length format) bits = ap (λ k. take k bits) (kept_is format) in (
      λ pic accepted. subst (λ t. Accepts format t pic) is (same_record format bits (take (limit format + 64) bits) pic (keep_reads format bits) accepted),
      λ pic accepted. same_record format (take (limit format + 64) bits) bits pic (unkeep_reads format bits) (subst (λ t. Accepts format t pic) (sym is) accepted),
      λ place why fault. subst (λ t. FirstFault (next_within_limit format) t place why) is (keep_fault format bits place why fault),
      λ place why fault. unkeep_fault format bits place why (subst (λ t. FirstFault (next_within_limit format) t place why) (sym is) fault),
    )
