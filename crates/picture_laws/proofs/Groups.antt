-- The layers of groups and pictures: the elements of a valid picture in an input form may stand one behind another, and
-- their words are the form's text.
use Rattle.std.proofs.Common.{◌≡◌, ℕ, zero, suc, ◌%◌, ◌<◌, ◌≤◌, ◌==◌, ◌&&◌, ◌||◌, not, Bool, true, false, List, [], ◌∷◌, ◌++◌, drop, get_or, replicate, Option, Some, None, nat_lt, refl, sym, ◌∙◌, ap, subst, inl, inr, ◌⊎◌, append_assoc, ℤ, pos, All, arith}
use Rattle.std.proofs.lemmas.List.Elements.{All-head, All-tail}
use Rattle.std.specs.List.{list_any, list_all}
use Rattle.std.proofs.lemmas.Bool.{ltb-true, eqb-true, lt-ltb, cases_Bool, ne_eqb}
use Rattle.pel_model.specs.declared.Format.{Format}
use Rattle.pel_model.specs.declared.Format.TheVariants.{Qcif, Cif}
use Rattle.pel_model.specs.declared.MbKind.{MbKind}
use Rattle.pel_model.specs.declared.Why.TheVariants.{BadGroup, BadQuant}
use Rattle.pel_model.specs.Bits.{field, number}
use Rattle.pel_model.specs.Codes.{stuffing_word}
use Rattle.pel_model.specs.Records.{Across, Down, Macroblock, Group}
use Rattle.pel_model.specs.Text.{address_of, macroblock_text}
use Rattle.pel_model.specs.Valid.{IsValidMacroblock, AddressesRise, IsValidGroup, group_numbers}
use Rattle.pel_model.specs.Headers.{spare_text, group_header_text}
use Rattle.pel_model.specs.Spelling.{GroupForm, LeftOut, Sent, GroupsFit, stuffing_text, stuffed_text, sent_group_text, sent_groups_text}
use Rattle.pel_model.specs.Walk.{after}
use Rattle.pel_model.specs.Grammar.{Element, Pei, Pspare, Gbsc, Gn, Gquant, Gei, Gspare, Stuffing, Slot, AtPei, AtGroup, AtGei, AtMacroblock, slot, group, vector_component, is_group}
use Rattle.pel_model.proofs.Walks.{after-append}
use Rattle.picture_laws.specs.SoFar.{IsBehind, last_component}
use Rattle.pel_model.specs.Elements.{spare_elements}
use Rattle.picture_laws.specs.PictureElements.{elements_of_macroblock, elements_of_macroblocks, elements_of_group, elements_of_groups}
use Rattle.vlc_codes.proofs.FoundRows.{Among, among-all}
use Rattle.picture_laws.proofs.Slots.{Takes, gbsc}
use Rattle.picture_laws.proofs.Words.{field-mod}
use Rattle.picture_laws.proofs.Chains.{Stands}
use Rattle.picture_laws.proofs.Blocks.{Says, says-none, says-cons, says-append, says-text, one_pass, state}
use Rattle.picture_laws.proofs.Macroblocks.{says-macroblock, both_axes}

-- ---- stuffing

pub stuffed_behind : (number : ℕ) (last : Option Macroblock) (before : List Element) → IsBehind number last before → IsBehind number last (Stuffing ∷ before)
stuffed_behind number last before place = record {
  at = refl;
  group_is = place.group_is;
  address_is = place.address_is;
  vector_is = both_axes (λ axis. vector_component axis (Stuffing ∷ before) ≡ last_component axis last) (place.vector_is Across) (place.vector_is Down);
  last_is = place.last_is;
}

pub says-stuffing : (format : Format) (number : ℕ) (last : Option Macroblock) (before : List Element) (n : ℕ) → IsBehind number last before → Says format before (replicate n Stuffing) (stuffing_text n) × IsBehind number last (after before (replicate n Stuffing))
says-stuffing format number last before zero place = (says-none format before, place)
says-stuffing format number last before (suc n) place =
    let r = says-stuffing format number last (Stuffing ∷ before) n (stuffed_behind number last before place) in
    (says-cons format before Stuffing (replicate n Stuffing) stuffing_word (stuffing_text n) (record { takes = subst (λ s. Takes s Stuffing) (sym place.at) (inr (inl refl)); good = refl }) refl r.0, r.1)

-- ---- macroblocks

-- a place behind a group's macroblocks
pub record IsBehindGroup (number : ℕ) (before : List Element) : Type 0 where
  pub at : slot before ≡ AtMacroblock
  pub group_is : group before ≡ number

pub says-macroblocks : (format : Format) (number : ℕ) (last : Option Macroblock) (before : List Element) (behind : List ℕ) (ms : List Macroblock) → IsBehind number last before → AddressesRise (address_of last) ms → All (IsValidMacroblock format number) ms → Says format before (elements_of_macroblocks last behind ms) (stuffed_text last behind ms) × IsBehindGroup number (after before (elements_of_macroblocks last behind ms))
unfolding stuffed_text
says-macroblocks format number last before behind [] place rise valid = (says-none format before, record { at = place.at; group_is = place.group_is })
says-macroblocks format number last before behind (m ∷ ms) place rise valid =
    let one = says-macroblock format number last m before place rise.0 rise.1 (All-head (IsValidMacroblock format number) m ms valid) in
    let two = says-stuffing format number (Some m) (after before (elements_of_macroblock last m)) (get_or behind 0 0) one.1 in
    let rest = says-macroblocks format number (Some m) (after (after before (elements_of_macroblock last m)) (replicate (get_or behind 0 0) Stuffing)) (drop 1 behind) ms two.1 rise.2 (All-tail (IsValidMacroblock format number) m ms valid) in
    let e : after before (elements_of_macroblocks last behind (m ∷ ms)) ≡ after (after (after before (elements_of_macroblock last m)) (replicate (get_or behind 0 0) Stuffing)) (elements_of_macroblocks (Some m) (drop 1 behind) ms) =
    after-append before (elements_of_macroblock last m) (replicate (get_or behind 0 0) Stuffing ++ elements_of_macroblocks (Some m) (drop 1 behind) ms)
    ∙ after-append (after before (elements_of_macroblock last m)) (replicate (get_or behind 0 0) Stuffing) (elements_of_macroblocks (Some m) (drop 1 behind) ms) in (
      says-append format before (elements_of_macroblock last m) _ (macroblock_text last m) _ one.0 (says-append format (after before (elements_of_macroblock last m)) (replicate (get_or behind 0 0) Stuffing) _ (stuffing_text (get_or behind 0 0)) _ two.0 rest.0),
      subst (λ b. IsBehindGroup number b) (sym e) rest.1,
    )

-- ---- spare octets

octet : (n : ℕ) → field (n % 256) 8 ≡ field n 8
octet n = field-mod n 0 8

pub gspares-state : (before : List Element) (spares : List ℕ) → state (after before (spare_elements Gei Gspare spares)) ≡ state before
gspares-state before [] = refl
gspares-state before (n ∷ ns) = gspares-state (Gspare (n % 256) ∷ Gei true ∷ before) ns

pub says-gspares : (format : Format) (before : List Element) (spares : List ℕ) → slot before ≡ AtGei → Says format before (spare_elements Gei Gspare spares) (spare_text spares) × (slot (after before (spare_elements Gei Gspare spares)) ≡ AtMacroblock)
says-gspares format before [] at = (says-cons format before (Gei false) [] (false ∷ []) [] (record { takes = subst (λ s. Takes s (Gei false)) (sym at) (false, refl); good = refl }) refl (says-none format (Gei false ∷ before)), refl)
says-gspares format before (n ∷ ns) at =
    let r = says-gspares format (Gspare (n % 256) ∷ Gei true ∷ before) ns refl in
    let spare = says-cons format (Gei true ∷ before) (Gspare (n % 256)) (spare_elements Gei Gspare ns) (field n 8) (spare_text ns) (record { takes = (n % 256, omega arith, refl); good = refl }) (octet n) r.0 in
    (says-cons format before (Gei true) _ (true ∷ []) _ (record { takes = subst (λ s. Takes s (Gei true)) (sym at) (true, refl); good = refl }) refl spare, r.1)

pub pspares-group : (before : List Element) (spares : List ℕ) → group (after before (spare_elements Pei Pspare spares)) ≡ group before
pspares-group before [] = refl
pspares-group before (n ∷ ns) = pspares-group (Pspare (n % 256) ∷ Pei true ∷ before) ns

pub says-pspares : (format : Format) (before : List Element) (spares : List ℕ) → slot before ≡ AtPei → Says format before (spare_elements Pei Pspare spares) (spare_text spares) × (slot (after before (spare_elements Pei Pspare spares)) ≡ AtGroup)
says-pspares format before [] at = (says-cons format before (Pei false) [] (false ∷ []) [] (record { takes = subst (λ s. Takes s (Pei false)) (sym at) (false, refl); good = refl }) refl (says-none format (Pei false ∷ before)), refl)
says-pspares format before (n ∷ ns) at =
    let r = says-pspares format (Pspare (n % 256) ∷ Pei true ∷ before) ns refl in
    let spare = says-cons format (Pei true ∷ before) (Pspare (n % 256)) (spare_elements Pei Pspare ns) (field n 8) (spare_text ns) (record { takes = (n % 256, omega arith, refl); good = refl }) (octet n) r.0 in
    (says-cons format before (Pei true) _ (true ∷ []) _ (record { takes = subst (λ s. Takes s (Pei true)) (sym at) (true, refl); good = refl }) refl spare, r.1)

-- ---- groups

-- a place where a group may begin, behind groups up to this number
pub record IsAtGroup (low : ℕ) (before : List Element) : Type 0 where
  pub at : (slot before ≡ AtGroup) ⊎ (slot before ≡ AtMacroblock)
  pub group_is : group before ≤ low

takes_gbsc : (s : Slot) → (s ≡ AtGroup) ⊎ (s ≡ AtMacroblock) → Takes s Gbsc
takes_gbsc s at = elim at [ inl g ↦ subst (λ s. Takes s Gbsc) (sym g) refl | inr m ↦ subst (λ s. Takes s Gbsc) (sym m) (inr (inr refl)) ]

pub among_numbers : (ns : List ℕ) (n : ℕ) → list_any (λ k. k == n) ns ≡ true → Among n ns
among_numbers [] n h = absurd cc
among_numbers (m ∷ ns) n h = elim (cases_Bool (m == n)) [
  | inl same ↦ inl (sym (eqb-true m n same))
  | inr other ↦ inr (among_numbers ns n (sym (ap (λ b. b || list_any (λ k. k == n) ns) other) ∙ h))
]

numbers_small : (format : Format) → list_all (λ n. nat_lt n 16) (group_numbers format) ≡ true
numbers_small Qcif = refl
numbers_small Cif = refl

group_small : (format : Format) (n : ℕ) → is_group format n ≡ true → n < 16
group_small format n h = ltb-true n 16 (among-all (λ n. nat_lt n 16) n (group_numbers format) (numbers_small format) (among_numbers (group_numbers format) n h))

four_parts : (a b c d e : List Bool) → a ++ (b ++ (c ++ (d ++ e))) ≡ (a ++ (b ++ (c ++ d))) ++ e
four_parts a b c d e = sym (append_assoc a (b ++ (c ++ d)) e ∙ ap (λ t. a ++ t) (append_assoc b (c ++ d) e ∙ ap (λ t. b ++ t) (append_assoc c d e)))

pub says-sent : (format : Format) (before : List Element) (low : ℕ) (g : Group) (spares : List ℕ) (stuffings : ℕ) (behind : List ℕ) → IsAtGroup low before → is_group format g.number ≡ true → low < g.number → IsValidGroup format g → Says format before (elements_of_group (Sent spares stuffings behind) g) (sent_group_text (Sent spares stuffings behind) g) × IsBehindGroup g.number (after before (elements_of_group (Sent spares stuffings behind) g))
unfolding group_header_text
says-sent format before low g spares stuffings behind place is rise valid =
    let gn_good : (is_group format g.number && nat_lt (group before) g.number) ≡ true = ap (λ b. b && nat_lt (group before) g.number) is ∙ lt-ltb (group before) g.number (omega (arith, place.group_is, rise)) in
    let gbsc_ : Stands format before Gbsc = record { takes = takes_gbsc (slot before) place.at; good = refl } in
    let gn_ : Stands format (Gbsc ∷ before) (Gn g.number) = record { takes = (g.number, group_small format g.number is, refl); good = one_pass (not (is_group format g.number && nat_lt (group before) g.number)) BadGroup (ap not gn_good) } in
    let gquant_ : Stands format (Gn g.number ∷ Gbsc ∷ before) (Gquant g.quant) = record { takes = (g.quant, omega (arith, valid.quant), refl); good = one_pass (g.quant == 0) BadQuant (ne_eqb g.quant 0 (λ same. absurd (omega (arith, same, valid.quant.0)))) } in
    let s = says-gspares format (Gquant g.quant ∷ Gn g.number ∷ Gbsc ∷ before) spares refl in
    let same = gspares-state (Gquant g.quant ∷ Gn g.number ∷ Gbsc ∷ before) spares in
    let behind_spares : IsBehind g.number None (after (Gquant g.quant ∷ Gn g.number ∷ Gbsc ∷ before) (spare_elements Gei Gspare spares)) = record {
      at = s.1;
      group_is = ap (λ (s : MbKind × ℕ × ℕ × ℤ × ℤ). s.1) same;
      address_is = ap (λ (s : MbKind × ℕ × ℕ × ℤ × ℤ). s.2) same;
      vector_is = both_axes (λ axis. vector_component axis (after (Gquant g.quant ∷ Gn g.number ∷ Gbsc ∷ before) (spare_elements Gei Gspare spares)) ≡ pos 0) (ap (λ (s : MbKind × ℕ × ℕ × ℤ × ℤ). s.3) same) (ap (λ (s : MbKind × ℕ × ℕ × ℤ × ℤ). s.4) same);
      last_is = tt;
    } in
    let t = says-stuffing format g.number None (after (Gquant g.quant ∷ Gn g.number ∷ Gbsc ∷ before) (spare_elements Gei Gspare spares)) stuffings behind_spares in
    let ms = says-macroblocks format g.number None (after (after (Gquant g.quant ∷ Gn g.number ∷ Gbsc ∷ before) (spare_elements Gei Gspare spares)) (replicate stuffings Stuffing)) behind g.macroblocks t.1 valid.addresses valid.macroblocks in
    let e : after before (elements_of_group (Sent spares stuffings behind) g) ≡ after (after (after (Gquant g.quant ∷ Gn g.number ∷ Gbsc ∷ before) (spare_elements Gei Gspare spares)) (replicate stuffings Stuffing)) (elements_of_macroblocks None behind g.macroblocks) =
    after-append (Gquant g.quant ∷ Gn g.number ∷ Gbsc ∷ before) (spare_elements Gei Gspare spares) (replicate stuffings Stuffing ++ elements_of_macroblocks None behind g.macroblocks)
    ∙ after-append (after (Gquant g.quant ∷ Gn g.number ∷ Gbsc ∷ before) (spare_elements Gei Gspare spares)) (replicate stuffings Stuffing) (elements_of_macroblocks None behind g.macroblocks) in
    let parts = says-append format (Gquant g.quant ∷ Gn g.number ∷ Gbsc ∷ before) (spare_elements Gei Gspare spares) _ (spare_text spares) _ s.0 (says-append format _ (replicate stuffings Stuffing) _ (stuffing_text stuffings) _ t.0 ms.0) in
    let header = says-cons format before Gbsc _ gbsc _ gbsc_ refl (says-cons format (Gbsc ∷ before) (Gn g.number) _ (field g.number 4) _ gn_ refl (says-cons format (Gn g.number ∷ Gbsc ∷ before) (Gquant g.quant) _ (field g.quant 5) _ gquant_ refl parts)) in (
      says-text format before (elements_of_group (Sent spares stuffings behind) g) _ _ (four_parts gbsc (field g.number 4) (field g.quant 5) (spare_text spares) (stuffing_text stuffings ++ stuffed_text None behind g.macroblocks)) header,
      subst (λ b. IsBehindGroup g.number b) (sym e) ms.1,
    )

-- the groups' numbers are the format's, and rise
abbrev pub RiseFrom : Format → ℕ → List Group → Type 0
RiseFrom format low [] = Unit {0}
RiseFrom format low (g ∷ gs) = (is_group format g.number ≡ true) × (low < g.number) × RiseFrom format g.number gs

pub higher : (low high : ℕ) (before : List Element) → low ≤ high → IsAtGroup low before → IsAtGroup high before
higher low high before h place = record { at = place.at; group_is = omega (arith, h, place.group_is) }

pub says-groups : (format : Format) (before : List Element) (low : ℕ) (forms : List GroupForm) (gs : List Group) → IsAtGroup low before → GroupsFit forms gs → RiseFrom format low gs → All (IsValidGroup format) gs → Says format before (elements_of_groups forms gs) (sent_groups_text forms gs) × ((high : ℕ) × IsAtGroup high (after before (elements_of_groups forms gs)))
says-groups format before low [] [] place fit rise valid = (says-none format before, (low, place))
says-groups format before low [] (g ∷ gs) place fit rise valid = absurd fit
says-groups format before low (f ∷ forms) [] place fit rise valid = absurd fit
says-groups format before low (LeftOut ∷ forms) (g ∷ gs) place fit rise valid =
    says-groups format before g.number forms gs (higher low g.number before (omega (arith, rise.1)) place) fit.1 rise.2 (All-tail (IsValidGroup format) g gs valid)
says-groups format before low (Sent spares stuffings behind ∷ forms) (g ∷ gs) place fit rise valid =
    let one = says-sent format before low g spares stuffings behind place rise.0 rise.1 (All-head (IsValidGroup format) g gs valid) in
    let next : IsAtGroup g.number (after before (elements_of_group (Sent spares stuffings behind) g)) = record { at = inr one.1.at; group_is = omega (arith, one.1.group_is) } in
    let rest = says-groups format (after before (elements_of_group (Sent spares stuffings behind) g)) g.number forms gs next fit.1 rise.2 (All-tail (IsValidGroup format) g gs valid) in (
      says-append format before (elements_of_group (Sent spares stuffings behind) g) (elements_of_groups forms gs) (sent_group_text (Sent spares stuffings behind) g) (sent_groups_text forms gs) one.0 rest.0,
      (rest.1.0, subst (λ b. IsAtGroup rest.1.0 b) (sym (after-append before (elements_of_group (Sent spares stuffings behind) g) (elements_of_groups forms gs))) rest.1.1),
    )
