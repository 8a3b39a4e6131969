-- A place is found for a speaker, where one is not pinned.
use Rattle.std.proofs.Common.{◌≡◌, ℕ, ◌<◌, ◌≤◌, nat_le, Bool, true, false, not, ◌&&◌, ◌||◌, cond, find, Option, Some, None, List, [], ◌∷◌, refl, sym, ap, subst, ◌∙◌, arith, if◌then◌else◌}
use Rattle.std.specs.Option.{option_or}
use Rattle.std.specs.List.{list_any, list_all}
use Rattle.std.proofs.lemmas.Bool.{false≢true}
use Rattle.std.proofs.lemmas.Bool.Decides.{nat_tests}
use Rattle.pel_model.specs.declared.Quad.{Quad}
use Rattle.pel_model.specs.declared.Quad.TheVariants.{One, Two, Three, Four}
use Rattle.pel_model.specs.declared.chair.Command.{Command}
use Rattle.pel_model.specs.declared.chair.Command.TheVariants.{Speaker}
use Rattle.pel_model.specs.declared.chair.Reply.TheVariants.{Done, NoLane, AllPinned}
use Rattle.pel_model.specs.Plan.{Stage, places, is_same, is_lane, is_place, is_standing, is_done, has_quieter, quietest_by, quietest_place, vacant_place, place_for_speaker, spoke_before, silence, stage, answer, carried_out}

-- P holds of each place of the list
abbrev AllIn : (Quad → Type 0) → List Quad → Type 0
AllIn P [] = Unit {0}
AllIn P (q ∷ qs) = P q × AllIn P qs

-- a first of the places that pass a test, where one passes
Found : (Quad → Bool) → Type 0
Found test = (r : Quad) × (find test places ≡ Some r)

found-four : (test : Quad → Bool) → (list_any test places ≡ true) → Found test
unfolding Found
found-four test e = found_in places e
  where
    found_in : (qs : List Quad) → list_any test qs ≡ true → (r : Quad) × (find test qs ≡ Some r)
    found_in [] e = absurd (false≢true e)
    found_in (q ∷ qs) e =
        elim (test q) as (λ v. (v || list_any test qs) ≡ true → (r : Quad) × (cond v (Some q) (find test qs) ≡ Some r)) [
          | true ↦ λ _. (q, refl)
          | false ↦ λ f. found_in qs f
        ] e

or_true : (b : Bool) → (b || true) ≡ true
or_true true = refl
or_true false = refl

any-at : (test : Quad → Bool) (q : Quad) → test q ≡ true → list_any test places ≡ true
any-at test One e = rw e refl
any-at test Two e = rw e (or_true (test One))
any-at test Three e = rw e (ap (λ v. test One || v) (or_true (test Two)) ∙ or_true (test One))
any-at test Four e =
    rw e (ap (λ v. test One || (test Two || v)) (or_true (test Three)) ∙ ap (λ v. test One || v) (or_true (test Two)) ∙ or_true (test One))

module _ (pinned : Quad → Bool) (key : Quad → ℕ) where
  -- no unpinned place of the list has a greater key
  abbrev IsTop : Quad → List Quad → Type 0
  IsTop q qs = AllIn (λ p. pinned p ≡ false → key p ≤ key q) qs

  all_pinned : (q : Quad) (qs : List Quad) → list_all pinned qs ≡ true → IsTop q qs
  all_pinned q [] e = tt
  all_pinned q (p ∷ qs) e =
      elim (pinned p) as (λ v. pinned p ≡ v → (v && list_all pinned qs) ≡ true → IsTop q (p ∷ qs)) [
        | true ↦ λ t f. (λ u. absurd (false≢true (sym u ∙ t)), all_pinned q qs f)
        | false ↦ λ t f. absurd (false≢true f)
      ] refl e

  higher : (q r : Quad) (qs : List Quad) → key q ≤ key r → IsTop q qs → IsTop r qs
  higher q r [] under top = tt
  higher q r (p ∷ qs) under top = (λ u. omega (arith, top.0 u), higher q r qs under top.1)

  better : (p : Quad) (qs : List Quad) → pinned p ≡ false → ((q : Quad) × (pinned q ≡ false) × IsTop q qs) → (q : Quad) × (pinned q ≡ false) × IsTop q (p ∷ qs)
  better p qs free (q, free', best) =
      elim (nat_le (key p) (key q)) as (λ v. nat_le (key p) (key q) ≡ v → (r : Quad) × (pinned r ≡ false) × IsTop r (p ∷ qs)) [
        | true ↦ λ e. let under : key p ≤ key q = grind (arith, nat_tests) in (q, free', (λ _. under, best))
        | false ↦ λ e. let under : key q ≤ key p = grind (arith, nat_tests) in (p, free, (λ _. omega arith, higher q p qs under best))
      ] refl

  top : (qs : List Quad) → list_all pinned qs ≡ false → (q : Quad) × (pinned q ≡ false) × IsTop q qs
  top [] e = absurd (false≢true (sym e))
  top (p ∷ qs) e =
      elim (pinned p) as (λ v. pinned p ≡ v → (v && list_all pinned qs) ≡ false → (q : Quad) × (pinned q ≡ false) × IsTop q (p ∷ qs)) [
        | true ↦ λ t f. let (q, free, best) = top qs f in (q, free, (λ u. absurd (false≢true (sym u ∙ t)), best))
        | false ↦ λ t _.
            elim (list_all pinned qs) as (λ w. list_all pinned qs ≡ w → (q : Quad) × (pinned q ≡ false) × IsTop q (p ∷ qs)) [
              | true ↦ λ f. (p, t, (λ _. omega arith, all_pinned p qs f))
              | false ↦ λ f. better p qs t (top qs f)
            ] refl
      ] refl e

  -- where `before` means a greater key, none is before the top one
  none_before : (before : Quad → Quad → Bool) → ((p q : Quad) → before p q ≡ true → key q < key p) → (q : Quad) (qs : List Quad) → IsTop q qs →
      list_any (λ p. not (pinned p) && before p q) qs ≡ false
  none_before before means q [] best = refl
  none_before before means q (p ∷ qs) best =
      elim (pinned p) as (λ v. pinned p ≡ v → ((not v && before p q) || list_any (λ r. not (pinned r) && before r q) qs) ≡ false) [
        | true ↦ λ e. none_before before means q qs best.1
        | false ↦ λ e.
            elim (before p q) as (λ w. before p q ≡ w → (w || list_any (λ r. not (pinned r) && before r q) qs) ≡ false) [
              | true ↦ λ f. absurd (omega (arith, means p q f, best.0 e))
              | false ↦ λ f. none_before before means q qs best.1
            ] refl
      ] refl

  pub quietest-found : (before : Quad → Quad → Bool) → ((p q : Quad) → before p q ≡ true → key q < key p) → list_all pinned places ≡ false →
      (r : Quad) × (quietest_by pinned before ≡ Some r)
  unfolding Found
  quietest-found before means some =
      let (q, free, best) = top places some in
      let test = λ (r : Quad). not (pinned r) && not (has_quieter pinned before r) in
      let none : has_quieter pinned before q ≡ false = none_before before means q places best in
      let passes : test q ≡ true = rw (free, none) refl in
      found-four test (any-at test q passes)

-- how long a seat was silent
abbrev seat_silence : List ℕ → Option ℕ → ℕ
seat_silence speakers None = 0
seat_silence speakers (Some c) = silence speakers c

silent_longer : (speakers : List ℕ) (a b : Option ℕ) → spoke_before speakers a b ≡ true → seat_silence speakers b < seat_silence speakers a
silent_longer speakers (Some c) (Some d) e = grind (arith, nat_tests)
silent_longer speakers (Some c) None e = absurd (false≢true e)
silent_longer speakers None b e = absurd (false≢true e)

-- a place is found for a speaker, where one is not pinned
place-found : (s : Stage) → list_all s.is_pinned places ≡ false → (r : Quad) × (place_for_speaker s ≡ Some r)
place-found s some =
    elim (vacant_place s) as (λ v. (r : Quad) × (option_or v (quietest_place s) ≡ Some r)) [
      | Some q ↦ (q, refl)
      | None ↦ quietest-found s.is_pinned (λ q. seat_silence s.speakers (s.lane_in q)) (λ p q. spoke_before s.speakers (s.lane_in p) (s.lane_in q))
          (λ p q e. silent_longer s.speakers (s.lane_in p) (s.lane_in q) e) some
    ]

is_lane-seat : (c : ℕ) (seat : Option ℕ) → is_lane c seat ≡ true → seat ≡ Some c
is_lane-seat c None e = absurd (false≢true e)
is_lane-seat c (Some d) e = let same : d ≡ c = grind (arith, nat_tests) in ap Some same

-- a lane that stands, stands somewhere
standing-where : (s : Stage) (c : ℕ) (qs : List Quad) → list_any (λ q. is_lane c (s.lane_in q)) qs ≡ true → (q : Quad) × (s.lane_in q ≡ Some c)
standing-where s c [] e = absurd (false≢true e)
standing-where s c (q ∷ qs) e =
    elim (is_lane c (s.lane_in q)) as (λ v. is_lane c (s.lane_in q) ≡ v → (v || list_any (λ q. is_lane c (s.lane_in q)) qs) ≡ true → (q : Quad) × (s.lane_in q ≡ Some c)) [
      | true ↦ λ t _. (q, is_lane-seat c (s.lane_in q) t)
      | false ↦ λ _ f. standing-where s c qs f
    ] refl e

-- the refusals of a speaker do not hold
not_shut_out : (lanes c : ℕ) (shut : Bool) → (if nat_le lanes c then NoLane else if shut then AllPinned else Done) ≡ Done → shut ≡ false
not_shut_out lanes c shut =
    elim (nat_le lanes c) as (λ v. (if v then NoLane else if shut then AllPinned else Done) ≡ Done → shut ≡ false) [
      | true ↦ λ e. cc
      | false ↦ elim shut as (λ w. (if w then AllPinned else Done) ≡ Done → w ≡ false) [ true ↦ λ e. cc | false ↦ λ e. refl ]
    ]

same-self : (q : Quad) → is_same q q ≡ true
same-self One = refl
same-self Two = refl
same-self Three = refl
same-self Four = refl

stands : (s : Stage) (c : ℕ) → (not (is_standing s c) && list_all s.is_pinned places) ≡ false → (q : Quad) × ((carried_out s (Speaker c)).lane_in q ≡ Some c)
stands s c able =
    elim (is_standing s c) as (λ v. is_standing s c ≡ v → (not v && list_all s.is_pinned places) ≡ false →
    (q : Quad) × ((if not v && is_place (place_for_speaker s) q then Some c else s.lane_in q) ≡ Some c)) [
      | true ↦ λ t _. standing-where s c places t
      | false ↦ λ _ f.
          let (r, found) = place-found s f in
          (r, ap (λ o. if is_place o r then Some c else s.lane_in r) found ∙ ap (λ v. if v then Some c else s.lane_in r) (same-self r))
    ] refl able

pub speakers_stand : (lanes : ℕ) (commands : List Command) (c : ℕ) → answer lanes commands (Speaker c) ≡ Done →
    (q : Quad) × ((stage lanes (Speaker c ∷ commands)).lane_in q ≡ Some c)
speakers_stand lanes commands c done =
    let s = stage lanes commands in
    subst (λ r. (q : Quad) × ((if is_done r then carried_out s (Speaker c) else s).lane_in q ≡ Some c)) (sym done)
    (stands s c (not_shut_out lanes c _ done))
