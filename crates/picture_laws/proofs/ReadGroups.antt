-- Elements that may stand one behind another up to an end: behind a picture header they are the elements of valid groups.
use Rattle.std.proofs.Common.{◌≡◌, ◌≢◌, ℕ, zero, suc, ◌%◌, ◌<◌, ◌≤◌, ◌==◌, ◌&&◌, not, Bool, true, false, List, [], ◌∷◌, ◌++◌, length, map, replicate, Option, Some, None, nat_lt, refl, sym, ◌∙◌, ap, subst, inl, inr, ◌⊎◌, ℤ, pos, All, arith}
use Rattle.std.proofs.lemmas.List.Elements.{All-cons, All-nil}
use Rattle.std.proofs.lemmas.Bool.{false≢true, ltb-true, and_parts, cases_Bool, eqb-false, not-false}
use Rattle.std.proofs.lemmas.List.{length-append}
use Rattle.pel_model.specs.declared.Format.{Format}
use Rattle.pel_model.specs.declared.MbKind.{MbKind}
use Rattle.pel_model.specs.declared.Why.TheVariants.{BadGroup, BadQuant}
use Rattle.pel_model.specs.Records.{Macroblock, Group}
use Rattle.pel_model.specs.Text.{address_of}
use Rattle.pel_model.specs.Valid.{IsQuantiser, IsValidMacroblock, AddressesRise, IsValidGroup}
use Rattle.pel_model.specs.Spelling.{GroupForm, LeftOut, Sent, GroupsFit}
use Rattle.pel_model.specs.Walk.{after}
use Rattle.pel_model.specs.Grammar.{Element, Pei, Pspare, Gbsc, Gn, Gquant, Gei, Gspare, Stuffing, Mba, AtPei, AtPspare, AtGn, AtGquant, AtGei, AtGspare, AtMacroblock, slot, group, vector_component, is_group, may_end}
use Rattle.picture_laws.specs.SoFar.{IsBehind}
use Rattle.pel_model.specs.Elements.{spare_elements}
use Rattle.picture_laws.specs.PictureElements.{elements_of_macroblock, elements_of_macroblocks, elements_of_group, elements_of_groups}
use Rattle.vlc_codes.proofs.FoundRows.{Among}
use Rattle.picture_laws.proofs.Slots.{Takes}
use Rattle.picture_laws.proofs.Blocks.{one_passed}
use Rattle.picture_laws.proofs.Macroblocks.{says-macroblock, both_axes}
use Rattle.picture_laws.proofs.Groups.{higher, says-gspares, gspares-state, says-sent, IsAtGroup, stuffed_behind}
use Rattle.picture_laws.proofs.Pictures.{Rising}
use Rattle.picture_laws.proofs.ReadBlocks.{IsRest, rest-after, rest-step, rest-more}
use Rattle.picture_laws.proofs.ReadMacroblocks.{ReadsMacroblock, read-macroblock, join3}

-- nothing more, or a group
abbrev pub IsOpening : List Element → Type 0
IsOpening es = (es ≡ []) ⊎ ((more : List Element) × (es ≡ Gbsc ∷ more))

pub record ReadsMacroblocks (format : Format) (number : ℕ) (last : Option Macroblock) (es : List Element) : Type 0 where
  pub stuffings : ℕ
  pub ms : List Macroblock
  pub behind : List ℕ
  pub rest : List Element
  pub is : es ≡ replicate stuffings Stuffing ++ (elements_of_macroblocks last behind ms ++ rest)
  pub rise : AddressesRise (address_of last) ms
  pub valid : All (IsValidMacroblock format number) ms
  pub next : IsOpening rest

none_there : (format : Format) (number : ℕ) (last : Option Macroblock) (es : List Element) → IsOpening es → ReadsMacroblocks format number last es
none_there format number last es next = record { stuffings = 0; ms = []; behind = []; rest = es; is = refl; rise = tt; valid = All-nil (IsValidMacroblock format number); next = next }

one_stuffing : (format : Format) (number : ℕ) (last : Option Macroblock) (es all : List Element) → all ≡ Stuffing ∷ es → ReadsMacroblocks format number last es → ReadsMacroblocks format number last all
one_stuffing format number last es all is r = record { stuffings = suc r.stuffings; ms = r.ms; behind = r.behind; rest = r.rest; is = is ∙ ap (λ t. Stuffing ∷ t) r.is; rise = r.rise; valid = r.valid; next = r.next }

one_macroblock : (format : Format) (number : ℕ) (last : Option Macroblock) (all : List Element) → (m : ReadsMacroblock format number last all) → ReadsMacroblocks format number (Some m.m) m.rest → ReadsMacroblocks format number last all
one_macroblock format number last all m r = record {
  stuffings = 0;
  ms = m.m ∷ r.ms;
  behind = r.stuffings ∷ r.behind;
  rest = r.rest;
  is = m.is ∙ (ap (λ t. elements_of_macroblock last m.m ++ t) r.is ∙ join3 (elements_of_macroblock last m.m) (replicate r.stuffings Stuffing) (elements_of_macroblocks (Some m.m) r.behind r.ms) r.rest);
  rise = (m.rise, m.most, r.rise);
  valid = All-cons (IsValidMacroblock format number) m.m r.ms m.valid r.valid;
  next = r.next;
}

shorter : (last : Option Macroblock) (m : Macroblock) (all rest : List Element) → all ≡ elements_of_macroblock last m ++ rest → length rest < length all
shorter last m all rest is = omega (arith, ap length is, length-append (elements_of_macroblock last m) rest)

pub read-macroblocks : (fuel : ℕ) (format : Format) (before es : List Element) (number : ℕ) (last : Option Macroblock) → length es ≤ fuel → IsBehind number last before → IsRest format before es → ReadsMacroblocks format number last es
read-macroblocks fuel format before [] number last few place r = none_there format number last [] (inl refl)
read-macroblocks zero format before (e ∷ es) number last few place r = absurd (omega (arith, few))
read-macroblocks (suc fuel) format before (e ∷ es) number last few place r =
    let takes : Takes AtMacroblock e = subst (λ s. Takes s e) place.at r.chain.0.takes in
    elim takes [
      | inl a ↦
          let s = rest-step format before e (Mba a.0) es r a.2 in
          let m = read-macroblock format before es number last a.0 place a.1 s.0 s.1 in
          let all : e ∷ es ≡ elements_of_macroblock last m.m ++ m.rest = ap (λ x. x ∷ es) a.2 ∙ m.is in
          let left = rest-after format before (e ∷ es) (elements_of_macroblock last m.m) m.rest r all in
          let done = (says-macroblock format number last m.m before place m.rise m.most m.valid).1 in
          let more = read-macroblocks fuel format (after before (elements_of_macroblock last m.m)) m.rest number (Some m.m) (omega (arith, few, shorter last m.m (e ∷ es) m.rest all)) done left in
          one_macroblock format number last (e ∷ es) (record { m = m.m; rest = m.rest; is = all; valid = m.valid; rise = m.rise; most = m.most }) more
      | inr a ↦ elim a [
        | inl b ↦
            let s = rest-step format before e Stuffing es r b in
            one_stuffing format number last es (e ∷ es) (ap (λ x. x ∷ es) b) (read-macroblocks fuel format (Stuffing ∷ before) es number last (omega (arith, few)) (stuffed_behind number last before place) s.1)
        | inr b ↦ none_there format number last (e ∷ es) (inr (es, ap (λ x. x ∷ es) b))
      ]
    ]

-- ---- spare octets

pub record ReadsSpares (flag : Bool → Element) (spare : ℕ → Element) (es : List Element) : Type 0 where
  pub spares : List ℕ
  pub rest : List Element
  pub is : es ≡ spare_elements flag spare spares ++ rest

no_spares : (flag : Bool → Element) (spare : ℕ → Element) (all es : List Element) → all ≡ flag false ∷ es → ReadsSpares flag spare all
no_spares flag spare all es is = record { spares = []; rest = es; is = is }

one_spare : (flag : Bool → Element) (spare : ℕ → Element) (all es : List Element) (n : ℕ) → n < 256 → all ≡ flag true ∷ (spare n ∷ es) → ReadsSpares flag spare es → ReadsSpares flag spare all
one_spare flag spare all es n small is r =
    let e : n ≡ n % 256 = omega arith in
    record { spares = n ∷ r.spares; rest = r.rest; is = is ∙ (ap (λ k. flag true ∷ (spare k ∷ es)) e ∙ ap (λ t. flag true ∷ (spare (n % 256) ∷ t)) r.is) }

pub read-gspares : (format : Format) (before es : List Element) → slot before ≡ AtGei → IsRest format before es → ReadsSpares Gei Gspare es
read-gspares format before [] at r = absurd (false≢true (sym (ap may_end at) ∙ r.final))
read-gspares format before (e ∷ []) at r =
    let t : Takes AtGei e = subst (λ s. Takes s e) at r.chain.0.takes in
    elim (cases_Bool t.0) [
      | inl yes_ ↦ let s = rest-step format before e (Gei true) [] r (t.1 ∙ ap Gei yes_) in absurd (false≢true s.1.final)
      | inr no_ ↦ no_spares Gei Gspare (e ∷ []) [] (ap (λ x. x ∷ []) (t.1 ∙ ap Gei no_))
    ]
read-gspares format before (e ∷ f ∷ es) at r =
    let t : Takes AtGei e = subst (λ s. Takes s e) at r.chain.0.takes in
    elim (cases_Bool t.0) [
      | inl yes_ ↦
          let s = rest-step format before e (Gei true) (f ∷ es) r (t.1 ∙ ap Gei yes_) in
          let u : Takes AtGspare f = s.1.chain.0.takes in
          let v = rest-step format (Gei true ∷ before) f (Gspare u.0) es s.1 u.2 in
          one_spare Gei Gspare (e ∷ f ∷ es) es u.0 u.1 (ap (λ x. x ∷ f ∷ es) (t.1 ∙ ap Gei yes_) ∙ ap (λ x. Gei true ∷ (x ∷ es)) u.2) (read-gspares format (Gspare u.0 ∷ Gei true ∷ before) es refl v.1)
      | inr no_ ↦ no_spares Gei Gspare (e ∷ f ∷ es) (f ∷ es) (ap (λ x. x ∷ f ∷ es) (t.1 ∙ ap Gei no_))
    ]

pub read-pspares : (format : Format) (before es : List Element) → slot before ≡ AtPei → IsRest format before es → ReadsSpares Pei Pspare es
read-pspares format before [] at r = absurd (false≢true (sym (ap may_end at) ∙ r.final))
read-pspares format before (e ∷ []) at r =
    let t : Takes AtPei e = subst (λ s. Takes s e) at r.chain.0.takes in
    elim (cases_Bool t.0) [
      | inl yes_ ↦ let s = rest-step format before e (Pei true) [] r (t.1 ∙ ap Pei yes_) in absurd (false≢true s.1.final)
      | inr no_ ↦ no_spares Pei Pspare (e ∷ []) [] (ap (λ x. x ∷ []) (t.1 ∙ ap Pei no_))
    ]
read-pspares format before (e ∷ f ∷ es) at r =
    let t : Takes AtPei e = subst (λ s. Takes s e) at r.chain.0.takes in
    elim (cases_Bool t.0) [
      | inl yes_ ↦
          let s = rest-step format before e (Pei true) (f ∷ es) r (t.1 ∙ ap Pei yes_) in
          let u : Takes AtPspare f = s.1.chain.0.takes in
          let v = rest-step format (Pei true ∷ before) f (Pspare u.0) es s.1 u.2 in
          one_spare Pei Pspare (e ∷ f ∷ es) es u.0 u.1 (ap (λ x. x ∷ f ∷ es) (t.1 ∙ ap Pei yes_) ∙ ap (λ x. Pei true ∷ (x ∷ es)) u.2) (read-pspares format (Pspare u.0 ∷ Pei true ∷ before) es refl v.1)
      | inr no_ ↦ no_spares Pei Pspare (e ∷ f ∷ es) (f ∷ es) (ap (λ x. x ∷ f ∷ es) (t.1 ∙ ap Pei no_))
    ]

-- ---- a group

-- the number and the quantiser of the group that comes next
pub record IsGroupNext (format : Format) (before es : List Element) : Type 0 where
  pub number : ℕ
  pub quant : ℕ
  pub rest : List Element
  pub is : es ≡ Gbsc ∷ (Gn number ∷ (Gquant quant ∷ rest))
  pub known : is_group format number ≡ true
  pub above : group before < number
  pub valid : IsQuantiser quant
  pub left : IsRest format (Gquant quant ∷ Gn number ∷ Gbsc ∷ before) rest

pub group-next : (format : Format) (before es more : List Element) → es ≡ Gbsc ∷ more → IsRest format before es → IsGroupNext format before es
group-next format before es more is r =
    let r0 : IsRest format before (Gbsc ∷ more) = subst (λ t. IsRest format before t) is r in
    let s0 = rest-step format before Gbsc Gbsc more r0 refl in
    let m1 = rest-more format (Gbsc ∷ before) more AtGn refl refl s0.1 in
    let s1 = rest-step format (Gbsc ∷ before) m1.first (Gn m1.takes.0) m1.rest m1.left m1.takes.2 in
    let m2 = rest-more format (Gn m1.takes.0 ∷ Gbsc ∷ before) m1.rest AtGquant refl refl s1.1 in
    let s2 = rest-step format (Gn m1.takes.0 ∷ Gbsc ∷ before) m2.first (Gquant m2.takes.0) m2.rest m2.left m2.takes.2 in
    let ok = and_parts (is_group format m1.takes.0) (nat_lt (group before) m1.takes.0) (not-false (is_group format m1.takes.0 && nat_lt (group before) m1.takes.0) (one_passed (not (is_group format m1.takes.0 && nat_lt (group before) m1.takes.0)) BadGroup s1.0.good)) in
    let some : m2.takes.0 ≢ 0 = eqb-false m2.takes.0 0 (one_passed (m2.takes.0 == 0) BadQuant s2.0.good) in
    record {
      number = m1.takes.0;
      quant = m2.takes.0;
      rest = m2.rest;
      is = is ∙ ap (λ t. Gbsc ∷ t) (m1.is ∙ (ap (λ x. x ∷ m1.rest) m1.takes.2 ∙ ap (λ t. Gn m1.takes.0 ∷ t) (m2.is ∙ ap (λ x. x ∷ m2.rest) m2.takes.2)));
      known = ok.0;
      above = ltb-true (group before) m1.takes.0 ok.1;
      valid = (omega (arith, some), omega (arith, m2.takes.1));
      left = s2.1;
    }

pub record ReadsGroup (format : Format) (number : ℕ) (es : List Element) : Type 0 where
  pub g : Group
  pub spares : List ℕ
  pub stuffings : ℕ
  pub behind : List ℕ
  pub rest : List Element
  pub number_is : g.number ≡ number
  pub is : es ≡ elements_of_group (Sent spares stuffings behind) g ++ rest
  pub valid : IsValidGroup format g
  pub next : IsOpening rest

group_built : (format : Format) (es : List Element) (number quant : ℕ) (left : List Element) → es ≡ Gbsc ∷ (Gn number ∷ (Gquant quant ∷ left)) → IsQuantiser quant → (s : ReadsSpares Gei Gspare left) → ReadsMacroblocks format number None s.rest → ReadsGroup format number es
group_built format es number quant left is ok s r = record {
  g = record { number = number; quant = quant; macroblocks = r.ms };
  spares = s.spares;
  stuffings = r.stuffings;
  behind = r.behind;
  rest = r.rest;
  number_is = refl;
  is = is ∙ ap (λ t. Gbsc ∷ (Gn number ∷ (Gquant quant ∷ t))) (s.is ∙ (ap (λ t. spare_elements Gei Gspare s.spares ++ t) r.is ∙ join3 (spare_elements Gei Gspare s.spares) (replicate r.stuffings Stuffing) (elements_of_macroblocks None r.behind r.ms) r.rest));
  valid = record { quant = ok; addresses = r.rise; macroblocks = r.valid };
  next = r.next;
}

pub behind_header : (format : Format) (number quant : ℕ) (before : List Element) (spares : List ℕ) → IsBehind number None (after (Gquant quant ∷ Gn number ∷ Gbsc ∷ before) (spare_elements Gei Gspare spares))
behind_header format number quant before spares =
    let s = says-gspares format (Gquant quant ∷ Gn number ∷ Gbsc ∷ before) spares refl in
    let same = gspares-state (Gquant quant ∷ Gn number ∷ Gbsc ∷ before) spares in
    record {
      at = s.1;
      group_is = ap (λ (s : MbKind × ℕ × ℕ × ℤ × ℤ). s.1) same;
      address_is = ap (λ (s : MbKind × ℕ × ℕ × ℤ × ℤ). s.2) same;
      vector_is = both_axes (λ axis. vector_component axis (after (Gquant quant ∷ Gn number ∷ Gbsc ∷ before) (spare_elements Gei Gspare spares)) ≡ pos 0) (ap (λ (s : MbKind × ℕ × ℕ × ℤ × ℤ). s.3) same) (ap (λ (s : MbKind × ℕ × ℕ × ℤ × ℤ). s.4) same);
      last_is = tt;
    }

pub read-group : (format : Format) (before es : List Element) → (n : IsGroupNext format before es) → ReadsGroup format n.number es
read-group format before es n =
    let s = read-gspares format (Gquant n.quant ∷ Gn n.number ∷ Gbsc ∷ before) n.rest refl n.left in
    let left = rest-after format (Gquant n.quant ∷ Gn n.number ∷ Gbsc ∷ before) n.rest (spare_elements Gei Gspare s.spares) s.rest n.left s.is in
    let r = read-macroblocks (length s.rest) format (after (Gquant n.quant ∷ Gn n.number ∷ Gbsc ∷ before) (spare_elements Gei Gspare s.spares)) s.rest n.number None (omega arith) (behind_header format n.number n.quant before s.spares) left in
    group_built format es n.number n.quant n.rest n.is n.valid s r

-- ---- all groups

-- each group above `low` is one of these
abbrev pub Covers : Format → ℕ → List ℕ → Type 0
Covers format low ns = (n : ℕ) → is_group format n ≡ true → low < n → Among n ns

rises_above : (format : Format) (low : ℕ) (ns : List ℕ) (n : ℕ) → Rising format low ns → Among n ns → low < n
rises_above format low [] n rise h = absurd h
rises_above format low (m ∷ ns) n rise h = elim h [
  | inl same ↦ omega (arith, same, rise.1)
  | inr t ↦ omega (arith, rise.1, rises_above format m ns n rise.2 t)
]

covers_next : (format : Format) (low : ℕ) (m : ℕ) (ns : List ℕ) → low < m → Covers format low (m ∷ ns) → Covers format m ns
covers_next format low m ns rise covers n known above = elim (covers n known (omega (arith, rise, above))) [
  | inl same ↦ absurd (omega (arith, same, above))
  | inr t ↦ t
]

-- the elements are at an end, or begin a group above `low`
abbrev pub OpensAbove : Format → ℕ → List Element → List Element → Type 0
OpensAbove format low before es = (es ≡ []) ⊎ ((n : IsGroupNext format before es) × (low < n.number))

pub record ReadsGroups (format : Format) (numbers : List ℕ) (es : List Element) : Type 0 where
  pub forms : List GroupForm
  pub gs : List Group
  pub is : es ≡ elements_of_groups forms gs
  pub fits : GroupsFit forms gs
  pub numbers_are : map (λ (g : Group). g.number) gs ≡ numbers
  pub valid : All (IsValidGroup format) gs

abbrev pub empty : ℕ → Group
empty n = record { number = n; quant = 1; macroblocks = [] }

one_left_out : (format : Format) (n : ℕ) (ns : List ℕ) (es : List Element) → ReadsGroups format ns es → ReadsGroups format (n ∷ ns) es
one_left_out format n ns es r = record {
  forms = LeftOut ∷ r.forms;
  gs = empty n ∷ r.gs;
  is = r.is;
  fits = ((refl, refl), r.fits);
  numbers_are = ap (λ t. n ∷ t) r.numbers_are;
  valid = All-cons (IsValidGroup format) (empty n) r.gs (record { quant = (omega arith, omega arith); addresses = tt; macroblocks = All-nil (IsValidMacroblock format n) }) r.valid;
}

one_sent : (format : Format) (n number : ℕ) (ns : List ℕ) (es : List Element) → number ≡ n → (g : ReadsGroup format number es) → ReadsGroups format ns g.rest → ReadsGroups format (n ∷ ns) es
one_sent format n number ns es same g r = record {
  forms = Sent g.spares g.stuffings g.behind ∷ r.forms;
  gs = g.g ∷ r.gs;
  is = g.is ∙ ap (λ t. elements_of_group (Sent g.spares g.stuffings g.behind) g.g ++ t) r.is;
  fits = (tt, r.fits);
  numbers_are = ap (λ k. k ∷ map (λ (g : Group). g.number) r.gs) (g.number_is ∙ same) ∙ ap (λ t. n ∷ t) r.numbers_are;
  valid = All-cons (IsValidGroup format) g.g r.gs g.valid r.valid;
}

pub opens : (format : Format) (before es : List Element) (low : ℕ) → low ≤ group before → IsOpening es → IsRest format before es → OpensAbove format low before es
opens format before es low most opening r = elim opening [
  | inl none ↦ inl none
  | inr more ↦ let n = group-next format before es more.0 more.1 r in inr (n, omega (arith, most, n.above))
]

-- behind a group that was sent
after_group : (format : Format) (before es : List Element) (low : ℕ) → IsAtGroup low before → IsRest format before es → (n : IsGroupNext format before es) → low < n.number → (g : ReadsGroup format n.number es) → IsAtGroup n.number (after before (elements_of_group (Sent g.spares g.stuffings g.behind) g.g)) × IsRest format (after before (elements_of_group (Sent g.spares g.stuffings g.behind) g.g)) g.rest × OpensAbove format n.number (after before (elements_of_group (Sent g.spares g.stuffings g.behind) g.g)) g.rest
after_group format before es low place r n above g =
    let known : is_group format g.g.number ≡ true = ap (is_group format) g.number_is ∙ n.known in
    let done = (says-sent format before low g.g g.spares g.stuffings g.behind place known (omega (arith, above, g.number_is)) g.valid).1 in
    let left = rest-after format before es (elements_of_group (Sent g.spares g.stuffings g.behind) g.g) g.rest r g.is in
    (record { at = inr done.at; group_is = omega (arith, done.group_is, g.number_is) }, left, opens format (after before (elements_of_group (Sent g.spares g.stuffings g.behind) g.g)) g.rest n.number (omega (arith, done.group_is, g.number_is)) g.next left)

pub read-groups : (format : Format) (before es : List Element) (low : ℕ) (numbers : List ℕ) → IsAtGroup low before → IsRest format before es → Rising format low numbers → Covers format low numbers → OpensAbove format low before es → ReadsGroups format numbers es
read-groups format before es low [] place r rise covers opening = elim opening [
  | inl none ↦ record { forms = []; gs = []; is = none; fits = tt; numbers_are = refl; valid = All-nil (IsValidGroup format) }
  | inr n ↦ absurd (covers n.0.number n.0.known n.1)
]
read-groups format before es low (m ∷ numbers) place r rise covers opening = elim opening [
  | inl none ↦ one_left_out format m numbers es (read-groups format before es m numbers (higher low m before (omega (arith, rise.1)) place) r rise.2 (covers_next format low m numbers rise.1 covers) (inl none))
  | inr n ↦ elim (covers n.0.number n.0.known n.1) [
    | inl same ↦
        let g = read-group format before es n.0 in
        let a = after_group format before es low place r n.0 n.1 g in
        let place2 = subst (λ k. IsAtGroup k (after before (elements_of_group (Sent g.spares g.stuffings g.behind) g.g))) same a.0 in
        let open2 = subst (λ k. OpensAbove format k (after before (elements_of_group (Sent g.spares g.stuffings g.behind) g.g)) g.rest) same a.2 in
        one_sent format m n.0.number numbers es same g (read-groups format (after before (elements_of_group (Sent g.spares g.stuffings g.behind) g.g)) g.rest m numbers place2 a.1 rise.2 (covers_next format low m numbers rise.1 covers) open2)
    | inr later ↦
        one_left_out format m numbers es (read-groups format before es m numbers (higher low m before (omega (arith, rise.1)) place) r rise.2 (covers_next format low m numbers rise.1 covers) (inr (n.0, rises_above format m numbers n.0.number rise.2 later)))
  ]
]
