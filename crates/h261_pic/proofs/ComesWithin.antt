-- What comes where a macroblock may, within the limit of a picture.
use Rattle.std.proofs.Common.{◌≡◌, ℕ, ◌+◌, ◌-◌, ◌*◌, ◌<◌, ◌≤◌, Bool, true, false, List, ◌∷◌, Ok, Err, ◌⊎◌, inl, inr, refl, sym, ◌∙◌, ap, subst, arith}
use Rattle.pel_model.specs.declared.Fault.{Fault}
use Rattle.pel_model.specs.declared.Format.{Format}
use Rattle.pel_model.specs.declared.Format.TheVariants.{Qcif, Cif}
use Rattle.pel_model.specs.declared.Why.TheVariants.{TooLong}
use Rattle.pel_model.specs.Headers.{group_header_length}
use Rattle.pel_model.specs.Valid.{group_count, limit}
use Rattle.pel_model.specs.Walk.{Bad}
use Rattle.pel_model.specs.Grammar.{Element, Gbsc, Stuffing, begun, counted, next, next_within_limit}
use Rattle.picture_laws.proofs.Limits.{picture-good, picture-long, picture-stops, picture-bad}
use Rattle.h261_pic.specs.declared.coming.Coming.{Coming}
use Rattle.h261_pic.specs.declared.coming.Coming.TheVariants as coming
use Rattle.h261_pic.specs.Comes.{Comes, IsGroupOrEnd}
use Rattle.h261_pic.specs.Reached.{Follows}

-- how many groups were begun, with what comes
abbrev pub begun_with : Coming → ℕ → ℕ
begun_with coming.Group n = n + 1
begun_with _ n = n

pub not_group : (begun n : ℕ) (here : Coming) → begun ≡ n → ((here ≡ coming.End) ⊎ ((here ≡ coming.Stuffing) ⊎ (here ≡ coming.Macroblock))) → begun ≡ begun_with here n
not_group begun n here same is =
    elim is [
      | inl end ↦ same ∙ ap (λ (x : Coming). begun_with x n) (sym end)
      | inr other ↦ elim other [
        | inl stuffing ↦ same ∙ ap (λ (x : Coming). begun_with x n) (sym stuffing)
        | inr macroblock ↦ same ∙ ap (λ (x : Coming). begun_with x n) (sym macroblock)
      ]
    ]

-- the last place at which an element may end
abbrev pub last_place : Format → ℕ → ℕ
last_place format n = limit format - group_header_length * (group_count format - n)

-- a place up to the last one is within the limit, and one behind it is not
within : (format : Format) (n place : ℕ) → place ≤ last_place format n → place + group_header_length * (group_count format - n) ≤ limit format
within Qcif n place h = omega arith
within Cif n place h = omega arith

past : (format : Format) (n place : ℕ) → last_place format n < place → limit format < place + group_header_length * (group_count format - n)
past Qcif n place h = omega arith
past Cif n place h = omega arith

module _ (format : Format) (before : List Element) (old : List Bool × ℕ) where
  -- a fault is one of the picture
  pub bad-within : (f : Fault) (new : List Bool × ℕ) → Comes (next format before old) (Err f) old new → Comes (next_within_limit format before old) (Err f) old old
  bad-within f new h = record { bad = picture-bad format before old f.why h.bad; place = h.place; kept = refl }

  module _ (n : ℕ) (begun_is : begun before ≡ n) (new : List Bool × ℕ) where
    -- what ends within the limit comes in the picture
    pub comes-within : (here : Coming) → Comes (next format before old) (Ok here) old new → new.1 ≤ last_place format (begun_with here n) → Comes (next_within_limit format before old) (Ok here) old new
    comes-within coming.End h fits = record { stop = picture-stops format before old h.stop; kept = h.kept }
    comes-within coming.Macroblock h fits = h
    comes-within coming.Group h fits =
        let moved : new.1 ≡ old.1 + h.len = ap (λ (r : List Bool × ℕ). r.1) h.behind in
        let most = within format (n + 1) new.1 fits in
        let counts : counted format (Gbsc ∷ before) (old.1 + h.len) ≡ old.1 + h.len + group_header_length * (group_count format - (n + 1)) = ap (λ (k : ℕ). old.1 + h.len + group_header_length * (group_count format - (k + 1))) begun_is in
        record { len = h.len; good = picture-good format before old Gbsc h.len h.good (omega (arith, moved, most, counts)); behind = h.behind }
    comes-within coming.Stuffing h fits =
        let moved : new.1 ≡ old.1 + h.len = ap (λ (r : List Bool × ℕ). r.1) h.behind in
        let most = within format n new.1 fits in
        let counts : counted format (Stuffing ∷ before) (old.1 + h.len) ≡ old.1 + h.len + group_header_length * (group_count format - n) = ap (λ (k : ℕ). old.1 + h.len + group_header_length * (group_count format - k)) begun_is in
        record { len = h.len; good = picture-good format before old Stuffing h.len h.good (omega (arith, moved, most, counts)); behind = h.behind }

    -- what is not taken ends no later than what stands before it
    not_moved : counted format before old.1 ≤ limit format → new ≡ old → last_place format n < new.1 → ⊥
    not_moved inside stayed far =
        let same : new.1 ≡ old.1 = ap (λ (r : List Bool × ℕ). r.1) stayed in
        let counts : counted format before old.1 ≡ old.1 + group_header_length * (group_count format - n) = ap (λ (k : ℕ). old.1 + group_header_length * (group_count format - k)) begun_is in
        let more = past format n new.1 far in
        omega (arith, same, counts, more, inside)

    -- what ends past it is too long
    pub comes-long : (here : Coming) → counted format before old.1 ≤ limit format → Comes (next format before old) (Ok here) old new → last_place format (begun_with here n) < new.1 → next_within_limit format before old ≡ Bad TooLong
    comes-long coming.End inside h far = absurd (not_moved inside h.kept far)
    comes-long coming.Macroblock inside h far = absurd (not_moved inside h.kept far)
    comes-long coming.Group inside h far =
        let moved : new.1 ≡ old.1 + h.len = ap (λ (r : List Bool × ℕ). r.1) h.behind in
        let more = past format (n + 1) new.1 far in
        let counts : counted format (Gbsc ∷ before) (old.1 + h.len) ≡ old.1 + h.len + group_header_length * (group_count format - (n + 1)) = ap (λ (k : ℕ). old.1 + h.len + group_header_length * (group_count format - (k + 1))) begun_is in
        picture-long format before old Gbsc h.len h.good (omega (arith, moved, more, counts))
    comes-long coming.Stuffing inside h far =
        let moved : new.1 ≡ old.1 + h.len = ap (λ (r : List Bool × ℕ). r.1) h.behind in
        let more = past format n new.1 far in
        let counts : counted format (Stuffing ∷ before) (old.1 + h.len) ≡ old.1 + h.len + group_header_length * (group_count format - n) = ap (λ (k : ℕ). old.1 + h.len + group_header_length * (group_count format - k)) begun_is in
        picture-long format before old Stuffing h.len h.good (omega (arith, moved, more, counts))

-- ---- behind a picture header

module _ (format : Format) (before : List Element) (old new : List Bool × ℕ) (here : Coming) (begun_is : begun before ≡ 0) (comes : Comes (next format before old) (Ok here) old new) where
  of_group : here ≡ coming.Group → Comes (next format before old) (Ok coming.Group) old new
  of_group is = subst (λ (x : Coming). Comes (next format before old) (Ok x) old new) is comes

  pub group-within : here ≡ coming.Group → new.1 ≤ last_place format 1 → Follows (next_within_limit format before old) true old new
  group-within is fits = comes-within format before old 0 begun_is new coming.Group (of_group is) fits

  pub group-long : here ≡ coming.Group → counted format before old.1 ≤ limit format → last_place format 1 < new.1 → next_within_limit format before old ≡ Bad TooLong
  group-long is inside far = comes-long format before old 0 begun_is new coming.Group inside (of_group is) far

  ended : (x : Coming) → IsGroupOrEnd x → ((x ≡ coming.End) ⊎ ((x ≡ coming.Stuffing) ⊎ (x ≡ coming.Macroblock))) → x ≡ coming.End
  ended coming.End ok is = refl
  ended coming.Group ok is = elim is [ inl a ↦ absurd cc | inr b ↦ elim b [ inl a ↦ absurd cc | inr a ↦ absurd cc ] ]
  ended coming.Stuffing ok is = absurd ok
  ended coming.Macroblock ok is = absurd ok

  pub end-within : IsGroupOrEnd here → ((here ≡ coming.End) ⊎ ((here ≡ coming.Stuffing) ⊎ (here ≡ coming.Macroblock))) → Follows (next_within_limit format before old) false old new
  end-within ok is =
      let end = subst (λ (x : Coming). Comes (next format before old) (Ok x) old new) (ended here ok is) comes in
      record { stop = picture-stops format before old end.stop; kept = end.kept }
