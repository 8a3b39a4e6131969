-- A valid picture in an input form, read from its first bit to the end.
use Rattle.std.proofs.Common.{◌≡◌, ℕ, zero, suc, ◌+◌, ◌<◌, ◌≤◌, ◌^◌, ◌&&◌, not, Bool, true, false, List, [], ◌∷◌, ◌++◌, length, map, take, drop, get_or, replicate, Option, Some, None, refl, sym, ◌∙◌, ap, subst, inl, inr, ◌⊎◌, arith}
use Rattle.std.specs.List.{list_any}
use Rattle.std.proofs.lemmas.Bool.{lt-ltb, cases_Bool, cond-false, cond-true}
use Rattle.std.proofs.lemmas.List.{length-replicate}
use Rattle.pel_model.specs.declared.Format.{Format}
use Rattle.pel_model.specs.declared.Format.TheVariants.{Qcif, Cif}
use Rattle.pel_model.specs.Bits.{field, number}
use Rattle.pel_model.specs.Codes.{has_vector, has_cbp}
use Rattle.pel_model.specs.Records.{Across, Down, Block, Coefficient, Macroblock, Group, Picture}
use Rattle.pel_model.specs.Text.{coded_block_pattern}
use Rattle.pel_model.specs.Valid.{group_numbers, limit, IsValid}
use Rattle.pel_model.specs.Headers.{FreeBits, type_text, picture_header_text}
use Rattle.pel_model.specs.Spelling.{GroupForm, LeftOut, Sent, Form, GroupsFit, sent_groups_text, sent_text, IsSpelling}
use Rattle.pel_model.specs.Accepts.{left_out}
use Rattle.pel_model.specs.Walk.{Stop, start, after, Goes, judged, read}
use Rattle.pel_model.specs.Grammar.{Element, Psc, Tr, Ptype, Pei, Pspare, Gbsc, Gei, Gspare, Stuffing, Cbp, Tcoeff, Eob, Slot, AtGroup, AtMacroblock, slot, begun, faults, first_why, is_group, may_end, is_end, or_no_start, rows, next}
use Rattle.pel_model.proofs.Walks.{after-append}
use Rattle.pel_model.specs.Elements.{dc_elements, block_elements, blocks_elements, mquant_elements, spare_elements}
use Rattle.picture_laws.specs.PictureElements.{mvd_element, elements_of_vector, elements_of_pattern, elements_of_macroblock, elements_of_macroblocks, elements_of_group, elements_of_groups, elements_of_header, elements_of_picture}
use Rattle.picture_laws.specs.TextLaws.{ReadInItsForm}
use Rattle.picture_laws.specs.Laws.{AcceptedIsRead}
use Rattle.picture_laws.proofs.Slots.{psc}
use Rattle.picture_laws.proofs.Words.{field-number, number_below}
use Rattle.picture_laws.proofs.Chains.{walk-goes}
use Rattle.picture_laws.proofs.Limits.{due, claimed, goes-picture, picture-stops}
use Rattle.picture_laws.proofs.Blocks.{Says, says-cons, says-append}
use Rattle.picture_laws.proofs.Groups.{says-pspares, pspares-group, IsAtGroup, RiseFrom, says-groups}

-- ---- the groups' numbers

abbrev pub Rising : Format → ℕ → List ℕ → Type 0
Rising format low [] = Unit {0}
Rising format low (n ∷ ns) = (is_group format n ≡ true) × (low < n) × Rising format n ns

pub numbers_rise : (format : Format) → Rising format 0 (group_numbers format)
numbers_rise Qcif = (refl, omega arith, (refl, omega arith, (refl, omega arith, tt)))
numbers_rise Cif = (refl, omega arith, (refl, omega arith, (refl, omega arith, (refl, omega arith, (refl, omega arith, (refl, omega arith, (refl, omega arith, (refl, omega arith, (refl, omega arith, (refl, omega arith, (refl, omega arith, (refl, omega arith, tt))))))))))))

rise_groups : (format : Format) (low : ℕ) (gs : List Group) → Rising format low (map (λ (g : Group). g.number) gs) → RiseFrom format low gs
rise_groups format low [] h = tt
rise_groups format low (g ∷ gs) h = (h.0, h.1, rise_groups format g.number gs h.2)

pub take_all : {A : Type 0} (xs : List A) → take (length xs) xs ≡ xs
take_all [] = refl
take_all (x ∷ xs) = ap (λ t. x ∷ t) (take_all xs)

pub valid-rise : (format : Format) (p : Picture) → IsValid format p → RiseFrom format 0 p.groups
valid-rise format p valid =
    let e : map (λ (g : Group). g.number) p.groups ≡ group_numbers format = valid.so_far.numbers ∙ (ap (λ k. take k (group_numbers format)) valid.whole ∙ take_all (group_numbers format)) in
    rise_groups format 0 p.groups (subst (Rising format 0) (sym e) (numbers_rise format))

-- ---- the picture header

type_good : (format : Format) (a b c d : Bool) → first_why (faults format [] (Ptype (number (type_text format (record { split = a; document = b; release = c; spare = d }))))) ≡ None
unfolding number
type_good Qcif true true true true = refl
type_good Qcif true true true false = refl
type_good Qcif true true false true = refl
type_good Qcif true true false false = refl
type_good Qcif true false true true = refl
type_good Qcif true false true false = refl
type_good Qcif true false false true = refl
type_good Qcif true false false false = refl
type_good Qcif false true true true = refl
type_good Qcif false true true false = refl
type_good Qcif false true false true = refl
type_good Qcif false true false false = refl
type_good Qcif false false true true = refl
type_good Qcif false false true false = refl
type_good Qcif false false false true = refl
type_good Qcif false false false false = refl
type_good Cif true true true true = refl
type_good Cif true true true false = refl
type_good Cif true true false true = refl
type_good Cif true true false false = refl
type_good Cif true false true true = refl
type_good Cif true false true false = refl
type_good Cif true false false true = refl
type_good Cif true false false false = refl
type_good Cif false true true true = refl
type_good Cif false true true false = refl
type_good Cif false true false true = refl
type_good Cif false true false false = refl
type_good Cif false false true true = refl
type_good Cif false false true false = refl
type_good Cif false false false true = refl
type_good Cif false false false false = refl

type_long : (format : Format) (free : FreeBits) → length (type_text format free) ≡ 6
type_long Qcif free = refl
type_long Cif free = refl

pub says-header : (format : Format) (free : FreeBits) (spares : List ℕ) (tr : ℕ) → tr < 32 → Says format [] (elements_of_header format free spares tr) (picture_header_text format free spares tr) × IsAtGroup 0 (after [] (elements_of_header format free spares tr))
unfolding picture_header_text
says-header format free spares tr fits =
    let long = type_long format free in
    let small : number (type_text format free) < 64 = subst (λ k. number (type_text format free) < 2 ^ k) long (number_below (type_text format free)) in
    let again : field (number (type_text format free)) 6 ≡ type_text format free = ap (field (number (type_text format free))) (sym long) ∙ field-number (type_text format free) in
    let s = says-pspares format (Ptype (number (type_text format free)) ∷ Tr tr ∷ Psc ∷ []) spares refl in
    let t = says-cons format (Tr tr ∷ Psc ∷ []) (Ptype (number (type_text format free))) _ (type_text format free) _ (record { takes = (number (type_text format free), small, refl); good = type_good format free.split free.document free.release free.spare }) again s.0 in (
      says-cons format [] Psc _ psc _ (record { takes = refl; good = refl }) refl (says-cons format (Psc ∷ []) (Tr tr) _ (field tr 5) _ (record { takes = (tr, fits, refl); good = refl }) refl t),
      record { at = inl s.1; group_is = (let e = pspares-group (Ptype (number (type_text format free)) ∷ Tr tr ∷ Psc ∷ []) spares in omega (arith, e)) },
    )

pub says-picture : (format : Format) (form : Form) (p : Picture) → GroupsFit form.groups p.groups → IsValid format p → Says format [] (elements_of_picture format form p) (sent_text format form p) × ((high : ℕ) × IsAtGroup high (after [] (elements_of_picture format form p)))
says-picture format form p fit valid =
    let h = says-header format form.free form.spares p.tr valid.so_far.tr in
    let g = says-groups format (after [] (elements_of_header format form.free form.spares p.tr)) 0 form.groups p.groups h.1 fit (valid-rise format p valid) valid.so_far.groups in (
      says-append format [] (elements_of_header format form.free form.spares p.tr) (elements_of_groups form.groups p.groups) (picture_header_text format form.free form.spares p.tr) (sent_groups_text form.groups p.groups) h.0 g.0,
      (g.1.0, subst (λ b. IsAtGroup g.1.0 b) (sym (after-append [] (elements_of_header format form.free form.spares p.tr) (elements_of_groups form.groups p.groups))) g.1.1),
    )

-- ---- how many groups are begun

abbrev pub gbscs : List Element → ℕ
gbscs [] = 0
gbscs (Gbsc ∷ es) = suc (gbscs es)
gbscs (_ ∷ es) = gbscs es

gbscs-append : (xs ys : List Element) → gbscs (xs ++ ys) ≡ gbscs xs + gbscs ys
gbscs-append [] ys = omega arith
gbscs-append (Gbsc ∷ xs) ys = omega (arith, gbscs-append xs ys)
gbscs-append (_ ∷ xs) ys = gbscs-append xs ys

begun-after : (before es : List Element) → begun (after before es) ≡ begun before + gbscs es
begun-after before [] = omega arith
begun-after before (Gbsc ∷ es) = begun-after (Gbsc ∷ before) es ∙ omega arith
begun-after before (e ∷ es) = begun-after (e ∷ before) es

none_coefficients : (cs : List Coefficient) → gbscs (map Tcoeff cs) ≡ 0
none_coefficients [] = refl
none_coefficients (c ∷ cs) = none_coefficients cs

none_dc : (dc : Option ℕ) → gbscs (dc_elements dc) ≡ 0
none_dc None = refl
none_dc (Some n) = refl

none_block : (b : Block) → gbscs (block_elements b) ≡ 0
none_block b = omega (arith, gbscs-append (dc_elements b.dc ++ map Tcoeff b.coefficients) (Eob ∷ []), gbscs-append (dc_elements b.dc) (map Tcoeff b.coefficients), none_dc b.dc, none_coefficients b.coefficients)

none_blocks : (bs : List (Option Block)) → gbscs (blocks_elements bs) ≡ 0
none_blocks [] = refl
none_blocks (None ∷ bs) = none_blocks bs
none_blocks (Some b ∷ bs) = omega (arith, gbscs-append (block_elements b) (blocks_elements bs), none_block b, none_blocks bs)

none_mquant : (q : Option ℕ) → gbscs (mquant_elements q) ≡ 0
none_mquant None = refl
none_mquant (Some q) = refl

none_vector : (last : Option Macroblock) (m : Macroblock) → gbscs (elements_of_vector last m) ≡ 0
none_vector last m = elim (cases_Bool (has_vector m.kind)) [
  | inl has ↦ ap gbscs (cond-true (has_vector m.kind) (mvd_element Across last m ∷ mvd_element Down last m ∷ []) [] has)
  | inr none ↦ ap gbscs (cond-false (has_vector m.kind) (mvd_element Across last m ∷ mvd_element Down last m ∷ []) [] none)
]

none_cbp : (m : Macroblock) → gbscs (elements_of_pattern m) ≡ 0
none_cbp m = elim (cases_Bool (has_cbp m.kind)) [
  | inl has ↦ ap gbscs (cond-true (has_cbp m.kind) (Cbp (coded_block_pattern m.blocks) ∷ []) [] has)
  | inr none ↦ ap gbscs (cond-false (has_cbp m.kind) (Cbp (coded_block_pattern m.blocks) ∷ []) [] none)
]

none_macroblock : (last : Option Macroblock) (m : Macroblock) → gbscs (elements_of_macroblock last m) ≡ 0
none_macroblock last m =
    gbscs-append (mquant_elements m.mquant) (elements_of_vector last m ++ (elements_of_pattern m ++ blocks_elements m.blocks))
    ∙ omega (arith, none_mquant m.mquant, gbscs-append (elements_of_vector last m) (elements_of_pattern m ++ blocks_elements m.blocks), none_vector last m, gbscs-append (elements_of_pattern m) (blocks_elements m.blocks), none_cbp m, none_blocks m.blocks)

none_stuffing : (n : ℕ) → gbscs (replicate n Stuffing) ≡ 0
none_stuffing zero = refl
none_stuffing (suc n) = none_stuffing n

none_macroblocks : (last : Option Macroblock) (behind : List ℕ) (ms : List Macroblock) → gbscs (elements_of_macroblocks last behind ms) ≡ 0
none_macroblocks last behind [] = refl
none_macroblocks last behind (m ∷ ms) =
    omega (arith, gbscs-append (elements_of_macroblock last m) (replicate (get_or behind 0 0) Stuffing ++ elements_of_macroblocks (Some m) (drop 1 behind) ms), none_macroblock last m, gbscs-append (replicate (get_or behind 0 0) Stuffing) (elements_of_macroblocks (Some m) (drop 1 behind) ms), none_stuffing (get_or behind 0 0), none_macroblocks (Some m) (drop 1 behind) ms)

none_gspares : (spares : List ℕ) → gbscs (spare_elements Gei Gspare spares) ≡ 0
none_gspares [] = refl
none_gspares (n ∷ ns) = none_gspares ns

none_pspares : (spares : List ℕ) → gbscs (spare_elements Pei Pspare spares) ≡ 0
none_pspares [] = refl
none_pspares (n ∷ ns) = none_pspares ns

one_group : (g : Group) (spares : List ℕ) (stuffings : ℕ) (behind : List ℕ) → gbscs (elements_of_group (Sent spares stuffings behind) g) ≡ 1
one_group g spares stuffings behind =
    omega (arith, gbscs-append (spare_elements Gei Gspare spares) (replicate stuffings Stuffing ++ elements_of_macroblocks None behind g.macroblocks), none_gspares spares, gbscs-append (replicate stuffings Stuffing) (elements_of_macroblocks None behind g.macroblocks), none_stuffing stuffings, none_macroblocks None behind g.macroblocks)

all_groups : (forms : List GroupForm) (gs : List Group) → GroupsFit forms gs → gbscs (elements_of_groups forms gs) + left_out forms ≡ length gs
all_groups [] [] fit = refl
all_groups [] (g ∷ gs) fit = absurd fit
all_groups (f ∷ forms) [] fit = absurd fit
all_groups (LeftOut ∷ forms) (g ∷ gs) fit = omega (arith, all_groups forms gs fit.1)
all_groups (Sent spares stuffings behind ∷ forms) (g ∷ gs) fit = omega (arith, all_groups forms gs fit.1, gbscs-append (elements_of_group (Sent spares stuffings behind) g) (elements_of_groups forms gs), one_group g spares stuffings behind)

pub begun-picture : (format : Format) (form : Form) (p : Picture) → GroupsFit form.groups p.groups → begun (after [] (elements_of_picture format form p)) + left_out form.groups ≡ length p.groups
begun-picture format form p fit =
    omega (arith, begun-after [] (elements_of_picture format form p), gbscs-append (elements_of_header format form.free form.spares p.tr) (elements_of_groups form.groups p.groups), none_pspares form.spares, all_groups form.groups p.groups fit)

-- ---- the end

zeros_end : (z : ℕ) → list_any (λ b. b) (replicate z false) ≡ false
zeros_end zero = refl
zeros_end (suc z) = zeros_end z

pub end-of-zeros : (z : ℕ) → z < 8 → is_end (replicate z false) ≡ true
end-of-zeros z few =
    ap (λ b. b && not (list_any (λ b. b) (replicate z false))) (lt-ltb (length (replicate z false)) 8 (omega (arith, length-replicate z false, few)))
    ∙ ap not (zeros_end z)

pub stops : (format : Format) (before : List Element) (r : List Bool × ℕ) → may_end (slot before) ≡ true → is_end r.0 ≡ true → next format before r ≡ Stop
unfolding next
stops format before r may end =
    ap (judged (λ e n. first_why (faults format before e)))
    (cond-true (may_end (slot before) && is_end r.0) Stop (or_no_start (slot before) (read (rows (slot before)) r.0)) (ap (λ b. b && is_end r.0) may ∙ end))

abbrev pub IsEnding : Slot → Type 0
IsEnding s = (s ≡ AtGroup) ⊎ (s ≡ AtMacroblock)

pub may-end : (s : Slot) → IsEnding s → (may_end s ≡ true) × (due s ≡ 0)
may-end s h = elim h [ inl g ↦ (ap may_end g, ap due g) | inr m ↦ (ap may_end m, ap due m) ]

-- what spells a valid picture is read to its end, whatever its length
pub spelled-read : (format : Format) (bits : List Bool) (form : Form) (p : Picture) → IsSpelling format form bits p → IsValid format p → Goes (next format) [] (start bits) (elements_of_picture format form p) (replicate form.zeros false, 0 + length (sent_text format form p)) × (next format (after [] (elements_of_picture format form p)) (replicate form.zeros false, 0 + length (sent_text format form p)) ≡ Stop) × (due (slot (after [] (elements_of_picture format form p))) ≡ 0)
spelled-read format bits form p spelling valid =
    let says = says-picture format form p spelling.fits valid in
    let end : List Bool × ℕ = (replicate form.zeros false, 0 + length (sent_text format form p)) in
    let ending = may-end (slot (after [] (elements_of_picture format form p))) says.1.1.at in (
      walk-goes format [] (start bits) (elements_of_picture format form p) end (record {
        chain = says.0.chain;
        bits = spelling.text ∙ ap (λ t. t ++ replicate form.zeros false) (sym says.0.text);
        place = ap (λ t. 0 + length t) (sym says.0.text);
      }),
      stops format (after [] (elements_of_picture format form p)) end ending.0 (end-of-zeros form.zeros spelling.zeros),
      ending.1,
    )

-- accepted bits are read as the elements of their form
pub read-in-form : ReadInItsForm
read-in-form format form bits p accepted =
    let spelling = accepted.spelling in
    let read_ = spelled-read format bits form p spelling accepted.valid in
    let end : List Bool × ℕ = (replicate form.zeros false, 0 + length (sent_text format form p)) in
    let begun_is = begun-picture format form p spelling.fits in
    let fits : claimed format (after [] (elements_of_picture format form p)) (0 + length (sent_text format form p)) ≤ limit format = omega (arith, read_.2, begun_is, accepted.valid.whole, accepted.short) in
    record {
      end = end;
      walk = goes-picture format [] (start bits) (elements_of_picture format form p) end read_.0 fits;
      stop = picture-stops format (after [] (elements_of_picture format form p)) end read_.1;
    }

pub accepted-read : AcceptedIsRead
accepted-read format bits p accepted =
    (elements_of_picture format accepted.0 p, read-in-form format accepted.0 bits p accepted.1, (accepted.0, accepted.1.spelling.fits, refl))
