-- The limit of a picture, for walks: where the last element ends within it, all do.
use Rattle.std.proofs.Common.{◌≡◌, ℕ, ◌+◌, ◌-◌, ◌*◌, ◌<◌, ◌≤◌, Bool, cond, List, [], ◌∷◌, length, Option, Some, None, nat_lt, refl, sym, ◌∙◌, ap, subst, inl, inr, arith}
use Rattle.std.proofs.lemmas.Bool.{ltb-false, lt-ltb, cases_Bool, cond-false, cond-true, le-ltb}
use Rattle.pel_model.specs.declared.Format.{Format}
use Rattle.pel_model.specs.declared.Why.{Why}
use Rattle.pel_model.specs.declared.Why.TheVariants.{TooLong}
use Rattle.pel_model.specs.Valid.{limit, group_count}
use Rattle.pel_model.specs.Walk.{Standing, Good, Stop, Bad, skipped, after, Goes, judged, verdict}
use Rattle.pel_model.specs.Grammar.{Element, Gbsc, Slot, AtPsc, AtTr, AtPtype, AtPei, AtPspare, AtGroup, AtGn, AtGquant, AtGei, AtGspare, AtMacroblock, AtMtype, AtMquant, AtMvd, AtCbp, AtDc, AtFirst, AtCoefficient, slot, next, next_within_limit, counted, begun}
use Rattle.picture_laws.proofs.Slots.{word_at, Takes}
use Rattle.picture_laws.proofs.Words.{length-field}
use Rattle.picture_laws.proofs.Chains.{next-is, judged_good, judged_here}

-- the bits of a group header that are still due
abbrev pub due : Slot → ℕ
due AtGn = 10
due AtGquant = 6
due AtGei = 1
due _ = 0

-- an element's end, what is due of its group header, and 26 bits for each header not yet begun: it never falls
abbrev pub claimed : Format → List Element → ℕ → ℕ
claimed format before place = counted format before place + due (slot before)

-- an element leaves no less begun, and no less claimed
pub record Grows (s : Slot) (before : List Element) (e : Element) : Type 0 where
  pub grows : (c : ℕ) → 26 * (c - begun before) + due s ≤ length (word_at s e) + 26 * (c - begun (e ∷ before)) + due (slot (e ∷ before))

quiet : (s : Slot) (before : List Element) (e : Element) → due s ≡ 0 → begun (e ∷ before) ≡ begun before → Grows s before e
quiet s before e none same = record { grows = λ c. let h : c - begun (e ∷ before) ≡ c - begun before = ap (λ k. c - k) same in omega (arith, none, h) }

grown : (s : Slot) (before : List Element) (e x : Element) → e ≡ x → Grows s before x → Grows s before e
grown s before e x is h = subst (λ y. Grows s before y) (sym is) h

gbsc_grows : (s : Slot) (before : List Element) → due s ≡ 0 → Grows s before Gbsc
gbsc_grows s before none = record { grows = λ c. omega (arith, none) }

grow : (s : Slot) (before : List Element) (e : Element) → Takes s e → Grows s before e
grow AtPsc before e t = grown AtPsc before e _ t (quiet AtPsc before _ refl refl)
grow AtTr before e t = grown AtTr before e _ t.2 (quiet AtTr before _ refl refl)
grow AtPtype before e t = grown AtPtype before e _ t.2 (quiet AtPtype before _ refl refl)
grow AtPei before e t = grown AtPei before e _ t.1 (quiet AtPei before _ refl refl)
grow AtPspare before e t = grown AtPspare before e _ t.2 (quiet AtPspare before _ refl refl)
grow AtGroup before e t = grown AtGroup before e _ t (gbsc_grows AtGroup before refl)
grow AtGn before e t = grown AtGn before e _ t.2 (record { grows = λ c. omega (arith, length-field t.0 4) })
grow AtGquant before e t = grown AtGquant before e _ t.2 (record { grows = λ c. omega (arith, length-field t.0 5) })
grow AtGei before e t = grown AtGei before e _ t.1 (record { grows = λ c. omega arith })
grow AtGspare before e t = grown AtGspare before e _ t.2 (quiet AtGspare before _ refl refl)
grow AtMacroblock before e t = elim t [
  | inl a ↦ grown AtMacroblock before e _ a.2 (quiet AtMacroblock before _ refl refl)
  | inr a ↦ elim a [
    | inl b ↦ grown AtMacroblock before e _ b (quiet AtMacroblock before _ refl refl)
    | inr b ↦ grown AtMacroblock before e _ b (gbsc_grows AtMacroblock before refl)
  ]
]
grow AtMtype before e t = grown AtMtype before e _ t.1 (quiet AtMtype before _ refl refl)
grow AtMquant before e t = grown AtMquant before e _ t.2 (quiet AtMquant before _ refl refl)
grow (AtMvd axis) before e t = grown (AtMvd axis) before e _ t.2 (quiet (AtMvd axis) before _ refl refl)
grow AtCbp before e t = grown AtCbp before e _ t.2 (quiet AtCbp before _ refl refl)
grow AtDc before e t = grown AtDc before e _ t.2 (quiet AtDc before _ refl refl)
grow AtFirst before e t = grown AtFirst before e _ t.2 (quiet AtFirst before _ refl refl)
grow AtCoefficient before e t = elim t [
  | inl a ↦ grown AtCoefficient before e _ a.2 (quiet AtCoefficient before _ refl refl)
  | inr b ↦ grown AtCoefficient before e _ b (quiet AtCoefficient before _ refl refl)
]

claimed_step : (format : Format) (before : List Element) (r : List Bool × ℕ) (e : Element) (n : ℕ) → next format before r ≡ Good e n → claimed format before r.1 ≤ claimed format (e ∷ before) (r.1 + n)
claimed_step format before r e n h =
    let s = next-is format before r e n h in
    let g = (grow (slot before) before e s.0.takes).grows (group_count format) in
    omega (arith, g, s.1.size)

claimed_walk : (format : Format) (before : List Element) (r : List Bool × ℕ) (es : List Element) (end : List Bool × ℕ) → Goes (next format) before r es end → claimed format before r.1 ≤ claimed format (after before es) end.1
claimed_walk format before r [] end h = let e : end.1 ≡ r.1 = ap (λ (x : List Bool × ℕ). x.1) h in omega (arith, e)
claimed_walk format before r (e ∷ es) end h =
    let here = claimed_step format before r e h.0 h.1 in
    let later = claimed_walk format (e ∷ before) (skipped h.0 r) es end h.2 in
    omega (arith, here, later)

-- an element that ends within the limit
pub picture-good : (format : Format) (before : List Element) (r : List Bool × ℕ) (e : Element) (n : ℕ) → next format before r ≡ Good e n → counted format (e ∷ before) (r.1 + n) ≤ limit format → next_within_limit format before r ≡ Good e n
unfolding next_within_limit
picture-good format before r e n h fits =
    judged_here (λ e n. cond (nat_lt (limit format) (counted format (e ∷ before) (r.1 + n))) (Some TooLong) None) (next format before r) e n h
    (cond-false (nat_lt (limit format) (counted format (e ∷ before) (r.1 + n))) (Some TooLong) None (le-ltb (limit format) (counted format (e ∷ before) (r.1 + n)) fits))

some_none : {A : Type 0} (x : A) → Some x ≡ None → ⊥
some_none x h = cc

pub picture-next : (format : Format) (before : List Element) (r : List Bool × ℕ) (e : Element) (n : ℕ) → next_within_limit format before r ≡ Good e n → (next format before r ≡ Good e n) × (counted format (e ∷ before) (r.1 + n) ≤ limit format)
unfolding next_within_limit
picture-next format before r e n h =
    let j = judged_good (λ e n. cond (nat_lt (limit format) (counted format (e ∷ before) (r.1 + n))) (Some TooLong) None) (next format before r) e n h in
    let past = nat_lt (limit format) (counted format (e ∷ before) (r.1 + n)) in (
      j.0,
      elim (cases_Bool (nat_lt (limit format) (counted format (e ∷ before) (r.1 + n)))) [
        | inl long ↦ absurd (some_none TooLong (sym (cond-true (nat_lt (limit format) (counted format (e ∷ before) (r.1 + n))) (Some TooLong) None long) ∙ j.1))
        | inr fits ↦ ltb-false (limit format) (counted format (e ∷ before) (r.1 + n)) fits
      ],
    )

pub picture-long : (format : Format) (before : List Element) (r : List Bool × ℕ) (e : Element) (n : ℕ) → next format before r ≡ Good e n → limit format < counted format (e ∷ before) (r.1 + n) → next_within_limit format before r ≡ Bad TooLong
unfolding next_within_limit
picture-long format before r e n h long =
    ap (judged (λ e n. cond (nat_lt (limit format) (counted format (e ∷ before) (r.1 + n))) (Some TooLong) None)) h
    ∙ ap (verdict e n) (cond-true (nat_lt (limit format) (counted format (e ∷ before) (r.1 + n))) (Some TooLong) None (lt-ltb (limit format) (counted format (e ∷ before) (r.1 + n)) long))

verdict_stop : {E : Type 0} (e : E) (n : ℕ) (o : Option Why) → verdict e n o ≡ Stop → Good e n ≡ Stop
verdict_stop e n None h = h
verdict_stop e n (Some why) h = absurd cc

pub judged_stop : {E : Type 0} (judge : E → ℕ → Option Why) (s : Standing E) → judged judge s ≡ Stop → s ≡ Stop
judged_stop judge (Good e n) h = verdict_stop e n (judge e n) h
judged_stop judge Stop h = refl
judged_stop judge (Bad why) h = absurd cc

pub picture-stop : (format : Format) (before : List Element) (r : List Bool × ℕ) → next_within_limit format before r ≡ Stop → next format before r ≡ Stop
unfolding next_within_limit
picture-stop format before r h = judged_stop (λ e n. cond (nat_lt (limit format) (counted format (e ∷ before) (r.1 + n))) (Some TooLong) None) (next format before r) h

pub picture-stops : (format : Format) (before : List Element) (r : List Bool × ℕ) → next format before r ≡ Stop → next_within_limit format before r ≡ Stop
unfolding next_within_limit
picture-stops format before r h = ap (judged (λ e n. cond (nat_lt (limit format) (counted format (e ∷ before) (r.1 + n))) (Some TooLong) None)) h

pub picture-bad : (format : Format) (before : List Element) (r : List Bool × ℕ) (why : Why) → next format before r ≡ Bad why → next_within_limit format before r ≡ Bad why
unfolding next_within_limit
picture-bad format before r why h = ap (judged (λ e n. cond (nat_lt (limit format) (counted format (e ∷ before) (r.1 + n))) (Some TooLong) None)) h

-- ---- walks

pub goes-picture : (format : Format) (before : List Element) (r : List Bool × ℕ) (es : List Element) (end : List Bool × ℕ) → Goes (next format) before r es end → claimed format (after before es) end.1 ≤ limit format → Goes (next_within_limit format) before r es end
goes-picture format before r [] end h fits = h
goes-picture format before r (e ∷ es) end h fits =
    let later = claimed_walk format (e ∷ before) (skipped h.0 r) es end h.2 in
    (h.0, picture-good format before r e h.0 h.1 (omega (arith, later, fits)), goes-picture format (e ∷ before) (skipped h.0 r) es end h.2 fits)

pub goes-next : (format : Format) (before : List Element) (r : List Bool × ℕ) (es : List Element) (end : List Bool × ℕ) → Goes (next_within_limit format) before r es end → Goes (next format) before r es end
goes-next format before r [] end h = h
goes-next format before r (e ∷ es) end h = (h.0, (picture-next format before r e h.0 h.1).0, goes-next format (e ∷ before) (skipped h.0 r) es end h.2)

-- the last element of a walk ends within the limit
pub goes-within : (format : Format) (before : List Element) (r : List Bool × ℕ) (es : List Element) (end : List Bool × ℕ) → Goes (next_within_limit format) before r es end → counted format before r.1 ≤ limit format → counted format (after before es) end.1 ≤ limit format
goes-within format before r [] end h fits = let e : end.1 ≡ r.1 = ap (λ (x : List Bool × ℕ). x.1) h in omega (arith, e, fits)
goes-within format before r (e ∷ es) end h fits = goes-within format (e ∷ before) (skipped h.0 r) es end h.2 (picture-next format before r e h.0 h.1).1
