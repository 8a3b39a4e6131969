-- Good elements up to the lawful end are the elements of a valid picture, and the bits are accepted with it.
use Rattle.std.proofs.Common.{◌≡◌, ℕ, ◌+◌, ◌-◌, ◌*◌, ◌/◌, ◌%◌, ◌<◌, ◌≤◌, ◌==◌, ◌&&◌, ◌||◌, not, Bool, true, false, List, [], ◌∷◌, ◌++◌, length, take, drop, replicate, Option, Some, None, nat_lt, refl, sym, ◌∙◌, ap, subst, inl, inr, arith}
use Rattle.std.specs.List.{list_any, list_all, find}
use Rattle.std.proofs.lemmas.Bool.{ltb-true, eqb-true, and_parts, cases_Bool, cond-false, cond-true, not-true}
use Rattle.std.proofs.lemmas.List.{length-map}
use Rattle.pel_model.specs.declared.Format.{Format}
use Rattle.pel_model.specs.declared.Format.TheVariants.{Qcif, Cif}
use Rattle.pel_model.specs.declared.Why.{Why}
use Rattle.pel_model.specs.declared.Why.TheVariants.{NoCode, WrongFormat, StillImage, Cut}
use Rattle.pel_model.specs.Bits.{number}
use Rattle.pel_model.specs.Codes.{is_prefix}
use Rattle.pel_model.specs.Records.{Group, Picture}
use Rattle.pel_model.specs.Valid.{group_numbers, group_count, limit, IsValid}
use Rattle.pel_model.specs.Headers.{FreeBits, type_text}
use Rattle.pel_model.specs.Spelling.{Form, GroupsFit, sent_text}
use Rattle.pel_model.specs.Accepts.{Accepts}
use Rattle.pel_model.specs.Walk.{Standing, Good, Stop, Bad, Row, start, after, read, word_at, whole_word}
use Rattle.pel_model.specs.Grammar.{Element, Psc, Tr, Ptype, Pei, Pspare, Slot, AtPsc, AtTr, AtPtype, AtGroup, slot, begun, rows, faults, first_why, names_format, may_end, is_end, or_no_start, at_slot, next, counted}
use Rattle.picture_laws.specs.PictureElements.{elements_of_header, elements_of_picture, Tells}
use Rattle.picture_laws.specs.TextLaws.{IsReadInForm, WalkHasForm}
use Rattle.picture_laws.specs.Laws.{WalkHasRecord}
use Rattle.picture_laws.proofs.Slots.{Takes}
use Rattle.picture_laws.proofs.Written.{below, below_all}
use Rattle.picture_laws.proofs.Chains.{words, IsWalk, goes-walk}
use Rattle.picture_laws.proofs.Limits.{judged_stop, picture-stop, goes-next, goes-within}
use Rattle.picture_laws.proofs.Blocks.{two_passed}
use Rattle.picture_laws.proofs.Groups.{among_numbers, says-pspares}
use Rattle.picture_laws.proofs.Pictures.{numbers_rise, take_all, says-header, says-picture, begun-picture}
use Rattle.picture_laws.proofs.ReadBlocks.{IsRest, rest-after, rest-step, rest-more}
use Rattle.picture_laws.proofs.ReadGroups.{IsOpening, ReadsSpares, read-pspares, ReadsGroups, opens, read-groups}

-- ---- the picture header

free_of : ℕ → FreeBits
free_of p = record { split = p / 32 % 2 == 1; document = p / 16 % 2 == 1; release = p / 8 % 2 == 1; spare = p % 2 == 1 }

abbrev type_again : Format → ℕ → Bool
type_again format p = not (names_format format p) || ((p / 2 % 2 == 0) || (number (type_text format (free_of p)) == p))

types_again : (format : Format) → list_all (type_again format) (below 64) ≡ true
unfolding number free_of
types_again Qcif = refl
types_again Cif = refl

or_either : (a b c : Bool) → (a || (b || c)) ≡ true → a ≡ false → b ≡ false → c ≡ true
or_either true b c h p q = absurd cc
or_either false true c h p q = absurd cc
or_either false false c h p q = h

type_is : (format : Format) (p : ℕ) → p < 64 → not (names_format format p) ≡ false → (p / 2 % 2 == 0) ≡ false → p ≡ number (type_text format (free_of p))
type_is format p small named moving =
    sym (eqb-true (number (type_text format (free_of p))) p (or_either (not (names_format format p)) (p / 2 % 2 == 0) (number (type_text format (free_of p)) == p) (below_all (type_again format) 64 p (types_again format) small) named moving))

pub record ReadsHeader (format : Format) (es : List Element) : Type 0 where
  pub free : FreeBits
  pub spares : List ℕ
  pub tr : ℕ
  pub rest : List Element
  pub is : es ≡ elements_of_header format free spares tr ++ rest
  pub fits : tr < 32

header_built : (format : Format) (es left : List Element) (tr p : ℕ) → tr < 32 → p ≡ number (type_text format (free_of p)) → es ≡ Psc ∷ (Tr tr ∷ (Ptype p ∷ left)) → ReadsSpares Pei Pspare left → ReadsHeader format es
header_built format es left tr p fits type is s = record {
  free = free_of p;
  spares = s.spares;
  tr = tr;
  rest = s.rest;
  is = is ∙ (ap (λ k. Psc ∷ (Tr tr ∷ (Ptype k ∷ left))) type ∙ ap (λ t. Psc ∷ (Tr tr ∷ (Ptype (number (type_text format (free_of p))) ∷ t))) s.is);
  fits = fits;
}

pub read_header : (format : Format) (es : List Element) → IsRest format [] es → ReadsHeader format es
read_header format es r =
    let m0 = rest-more format [] es AtPsc refl refl r in
    let s0 = rest-step format [] m0.first Psc m0.rest m0.left m0.takes in
    let m1 = rest-more format (Psc ∷ []) m0.rest AtTr refl refl s0.1 in
    let s1 = rest-step format (Psc ∷ []) m1.first (Tr m1.takes.0) m1.rest m1.left m1.takes.2 in
    let m2 = rest-more format (Tr m1.takes.0 ∷ Psc ∷ []) m1.rest AtPtype refl refl s1.1 in
    let s2 = rest-step format (Tr m1.takes.0 ∷ Psc ∷ []) m2.first (Ptype m2.takes.0) m2.rest m2.left m2.takes.2 in
    let ok = two_passed (not (names_format format m2.takes.0)) (m2.takes.0 / 2 % 2 == 0) WrongFormat StillImage s2.0.good in
    let s = read-pspares format (Ptype m2.takes.0 ∷ Tr m1.takes.0 ∷ Psc ∷ []) m2.rest refl s2.1 in
    header_built format es m2.rest m1.takes.0 m2.takes.0 m1.takes.1 (type_is format m2.takes.0 m2.takes.1 ok.0 ok.1)
    (m0.is ∙ (ap (λ x. x ∷ m0.rest) m0.takes ∙ ap (λ t. Psc ∷ t) (m1.is ∙ (ap (λ x. x ∷ m1.rest) m1.takes.2 ∙ ap (λ t. Tr m1.takes.0 ∷ t) (m2.is ∙ ap (λ x. x ∷ m2.rest) m2.takes.2))))) s

pub header_slot : (format : Format) (free : FreeBits) (spares : List ℕ) (tr : ℕ) → tr < 32 → slot (after [] (elements_of_header format free spares tr)) ≡ AtGroup
header_slot format free spares tr fits = (says-pspares format (Ptype (number (type_text format free)) ∷ Tr tr ∷ Psc ∷ []) spares refl).1

opening_at : (format : Format) (before es : List Element) → slot before ≡ AtGroup → IsRest format before es → IsOpening es
opening_at format before [] at r = inl refl
opening_at format before (e ∷ es) at r = let t : Takes AtGroup e = subst (λ s. Takes s e) at r.chain.0.takes in inr (es, ap (λ x. x ∷ es) t)

-- ---- the picture

record ReadsPicture (format : Format) (es : List Element) (zeros : ℕ) : Type 0 where
  pub form : Form
  pub zeros_are : form.zeros ≡ zeros
  pub pic : Picture
  pub is : es ≡ elements_of_picture format form pic
  pub fits : GroupsFit form.groups pic.groups
  pub valid : IsValid format pic

picture_built : (format : Format) (es : List Element) (zeros : ℕ) → (h : ReadsHeader format es) → ReadsGroups format (group_numbers format) h.rest → ReadsPicture format es zeros
picture_built format es zeros h g =
    let whole : length g.gs ≡ group_count format = sym (length-map g.gs (λ (g : Group). g.number)) ∙ ap length g.numbers_are in
    record {
      form = record { free = h.free; spares = h.spares; groups = g.forms; zeros = zeros };
      zeros_are = refl;
      pic = record { tr = h.tr; groups = g.gs };
      is = h.is ∙ ap (λ t. elements_of_header format h.free h.spares h.tr ++ t) g.is;
      fits = g.fits;
      valid = record {
        so_far = record { tr = h.fits; numbers = g.numbers_are ∙ sym (ap (λ k. take k (group_numbers format)) whole ∙ take_all (group_numbers format)); groups = g.valid };
        whole = whole;
      };
    }

read_picture : (format : Format) (es : List Element) (zeros : ℕ) → IsRest format [] es → ReadsPicture format es zeros
read_picture format es zeros r =
    let h = read_header format es r in
    let left = rest-after format [] es (elements_of_header format h.free h.spares h.tr) h.rest r h.is in
    let place = (says-header format h.free h.spares h.tr h.fits).1 in
    picture_built format es zeros h (read-groups format (after [] (elements_of_header format h.free h.spares h.tr)) h.rest 0 (group_numbers format) place left (numbers_rise format) (λ n known above. among_numbers (group_numbers format) n known)
    (opens format (after [] (elements_of_header format h.free h.spares h.tr)) h.rest 0 (omega arith) (opening_at format (after [] (elements_of_header format h.free h.spares h.tr)) h.rest (header_slot format h.free h.spares h.tr h.fits) left) left))

-- ---- the end

bad_stop : {E : Type 0} (s : Standing E) (why : Why) → s ≡ Bad why → s ≡ Stop → ⊥
bad_stop s why bad stop = cc

good_stop : {E : Type 0} (s : Standing E) (e : E) (n : ℕ) → s ≡ Good e n → s ≡ Stop → ⊥
good_stop s e n good stop = cc

whole_stop : {E : Type 0} (row : Row E) (bits : List Bool) → whole_word row bits ≡ Stop → ⊥
whole_stop row bits h = elim (cases_Bool (nat_lt (length bits) (length row.code + row.tail))) [
  | inl short ↦ bad_stop (whole_word row bits) Cut (cond-true (nat_lt (length bits) (length row.code + row.tail)) (Bad Cut) (Good (row.make (number (take row.tail (drop (length row.code) bits)))) (length row.code + row.tail)) short) h
  | inr long ↦ good_stop (whole_word row bits) (row.make (number (take row.tail (drop (length row.code) bits)))) (length row.code + row.tail) (cond-false (nat_lt (length bits) (length row.code + row.tail)) (Bad Cut) (Good (row.make (number (take row.tail (drop (length row.code) bits)))) (length row.code + row.tail)) long) h
]

word_stop : {E : Type 0} (rows : List (Row E)) (bits : List Bool) (row : Option (Row E)) → word_at rows bits row ≡ Stop → ⊥
word_stop rows bits None h = cc
word_stop rows bits (Some row) h = whole_stop row bits h

or_stop : (s : Slot) (found : Standing Element) → or_no_start s found ≡ Stop → found ≡ Stop
or_stop AtPsc (Bad NoCode) h = absurd cc
or_stop _ found h = h

slot_stop : (s : Slot) (left : List Bool) → at_slot s left ≡ Stop → (may_end s && is_end left) ≡ true
slot_stop s left h = elim (cases_Bool (may_end s && is_end left)) [
  | inl end ↦ end
  | inr on ↦ absurd (word_stop (rows s) left (find (λ row. is_prefix row.code left) (rows s)) (or_stop s (read (rows s) left) (sym (cond-false (may_end s && is_end left) Stop (or_no_start s (read (rows s) left)) on) ∙ h)))
]

pub stopped : (format : Format) (before : List Element) (r : List Bool × ℕ) → next format before r ≡ Stop → (may_end (slot before) ≡ true) × (is_end r.0 ≡ true)
unfolding next
stopped format before r h = and_parts (may_end (slot before)) (is_end r.0) (slot_stop (slot before) r.0 (judged_stop (λ e n. first_why (faults format before e)) (at_slot (slot before) r.0) h))

all_false : (bits : List Bool) → list_any (λ b. b) bits ≡ false → bits ≡ replicate (length bits) false
all_false [] h = refl
all_false (true ∷ bits) h = absurd cc
all_false (false ∷ bits) h = ap (λ t. false ∷ t) (all_false bits h)

end_zeros : (bits : List Bool) → is_end bits ≡ true → (length bits < 8) × (bits ≡ replicate (length bits) false)
end_zeros bits h =
    let both = and_parts (nat_lt (length bits) 8) (not (list_any (λ b. b) bits)) h in
    (ltb-true (length bits) 8 both.0, all_false bits (not-true (list_any (λ b. b) bits) both.1))

headers_fit : (format : Format) → 26 * (group_count format - 0) ≤ limit format
headers_fit Qcif = omega arith
headers_fit Cif = omega arith

accepted_built : (format : Format) (bits : List Bool) (es : List Element) (end : List Bool × ℕ) → IsWalk format [] (start bits) es end → counted format (after [] es) end.1 ≤ limit format → is_end end.0 ≡ true → ReadsPicture format es (length end.0) → IsReadInForm format bits es
accepted_built format bits es end walk short ends p =
    let zeros : p.form.zeros ≡ length end.0 = p.zeros_are in
    let e = end_zeros end.0 ends in
    let says = (says-picture format p.form p.pic p.fits p.valid).0 in
    let text : words [] es ≡ sent_text format p.form p.pic = ap (words []) p.is ∙ says.text in
    let begun_is = begun-picture format p.form p.pic p.fits in
    let begun_same : begun (after [] es) ≡ begun (after [] (elements_of_picture format p.form p.pic)) = ap (λ es. begun (after [] es)) p.is in
    record {
      picture = p.pic;
      form = p.form;
      fits = p.fits;
      is = p.is;
      accepted = record {
        spelling = record {
          fits = p.fits;
          zeros = omega (arith, zeros, e.0);
          text = walk.bits ∙ (ap (λ t. t ++ end.0) text ∙ ap (λ t. sent_text format p.form p.pic ++ t) (e.1 ∙ ap (λ k. replicate k false) (sym zeros)));
        };
        valid = p.valid;
        short = omega (arith, walk.place, ap length text, begun_is, begun_same, p.valid.whole, short);
      };
    }

pub walk-form : WalkHasForm
walk-form format bits es reads =
    let goes = goes-next format [] (start bits) es reads.end reads.walk in
    let walk = goes-walk format [] (start bits) es reads.end goes in
    let short = goes-within format [] (start bits) es reads.end reads.walk (omega (arith, headers_fit format)) in
    let stop = stopped format (after [] es) reads.end (picture-stop format (after [] es) reads.end reads.stop) in
    let r : IsRest format [] es = record { chain = walk.chain; final = stop.0 } in
    accepted_built format bits es reads.end walk short stop.1 (read_picture format es (length reads.end.0) r)

pub walk-record : WalkHasRecord
walk-record format bits es reads =
    let w = walk-form format bits es reads in
    (w.picture, (w.form, w.fits, w.is), (w.form, w.accepted))
