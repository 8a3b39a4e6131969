-- Where lanes stand, whatever the commands were.
use Rattle.std.proofs.Common.{◌≡◌, ℕ, ◌<◌, nat_le, Bool, true, false, not, ◌&&◌, ◌||◌, ◌==◌, Option, Some, None, List, [], ◌∷◌, refl, sym, ap, subst, ◌∙◌, arith, if◌then◌else◌}
use Rattle.std.proofs.lemmas.Option.{none-some, same_Some}
use Rattle.std.proofs.Math.Bool.{or-true}
use Rattle.std.proofs.lemmas.Bool.{false≢true, and_parts}
use Rattle.std.proofs.lemmas.Bool.Decides.{nat_tests}
use Rattle.pel_model.specs.declared.Quad.{Quad}
use Rattle.pel_model.specs.declared.Quad.TheVariants.{One, Two, Three, Four}
use Rattle.pel_model.specs.declared.chair.Command.{Command}
use Rattle.pel_model.specs.declared.chair.Command.TheVariants.{Place, Clear, Swap, Speaker, Pin, Unpin}
use Rattle.pel_model.specs.declared.chair.Reply.{Reply}
use Rattle.pel_model.specs.declared.chair.Reply.TheVariants.{NoLane}
use Rattle.pel_model.specs.Plan.{Stage, stage, answer_at, carried_out, answer, changed, is_done, is_same, is_lane, is_standing, is_place, place_for_speaker, without, is_same_lane}
use Rattle.stage_plan.proofs.Seats.{is_same_lane-refl}

same-one : (p q : Quad) → is_same p q ≡ true → p ≡ q
same-one One One e = refl
same-one One Two e = cc
same-one One Three e = cc
same-one One Four e = cc
same-one Two One e = cc
same-one Two Two e = refl
same-one Two Three e = cc
same-one Two Four e = cc
same-one Three One e = cc
same-one Three Two e = cc
same-one Three Three e = refl
same-one Three Four e = cc
same-one Four One e = cc
same-one Four Two e = cc
same-one Four Three e = cc
same-one Four Four e = refl

same-refl : (q : Quad) → is_same q q ≡ true
same-refl One = refl
same-refl Two = refl
same-refl Three = refl
same-refl Four = refl

-- lanes stand once, and are lanes of the conference
pub record IsSeating (lanes : ℕ) (s : Stage) : Type 0 where
  pub once : (p q : Quad) (c : ℕ) → s.lane_in p ≡ Some c → s.lane_in q ≡ Some c → p ≡ q
  pub real : (q : Quad) (c : ℕ) → s.lane_in q ≡ Some c → c < lanes

without-some : (c : ℕ) (seat : Option ℕ) (d : ℕ) → without c seat ≡ Some d → seat ≡ Some d
without-some c seat d =
    elim (is_lane c seat) as (λ v. (if v then None else seat) ≡ Some d → seat ≡ Some d) [
      | true ↦ λ e. absurd (none-some d e)
      | false ↦ λ e. e
    ]

without-other : (c : ℕ) (seat : Option ℕ) → without c seat ≡ Some c → ⊥
without-other c None e = none-some c e
without-other c (Some d) e =
    elim (c == d) as (λ v. (c == d) ≡ v → (if v then None else Some d) ≡ Some c → ⊥) [
      | true ↦ λ t f. none-some c f
      | false ↦ λ t f. let same : d ≡ c = same_Some d c f in false≢true (sym t ∙ grind (arith, nat_tests))
    ] refl e

-- what a value gives that is one of two, by a test
either : {A : Type 0} (b : Bool) (x y z : A) (Q : Type 0) → (if b then x else y) ≡ z → (b ≡ true → x ≡ z → Q) → (b ≡ false → y ≡ z → Q) → Q
either b x y z Q =
    elim b as (λ v. (if v then x else y) ≡ z → (v ≡ true → x ≡ z → Q) → (v ≡ false → y ≡ z → Q) → Q) [
      | true ↦ λ e f g. f refl e
      | false ↦ λ e f g. g refl e
    ]

seating-place : (lanes : ℕ) (s : Stage) (q : Quad) (c : ℕ) → IsSeating lanes s → c < lanes → IsSeating lanes (carried_out s (Place q c))
seating-place lanes s q c h inside = record {
  once = λ p r d e f.
      either (is_same q p) (Some c) (without c (s.lane_in p)) (Some d) (p ≡ r) e
      (λ t x. either (is_same q r) (Some c) (without c (s.lane_in r)) (Some d) (p ≡ r) f
      (λ u y. sym (same-one q p t) ∙ same-one q r u)
      (λ u y. absurd (without-other c (s.lane_in r) (y ∙ sym x))))
      (λ t x. either (is_same q r) (Some c) (without c (s.lane_in r)) (Some d) (p ≡ r) f
      (λ u y. absurd (without-other c (s.lane_in p) (x ∙ sym y)))
      (λ u y. h.once p r d (without-some c (s.lane_in p) d x) (without-some c (s.lane_in r) d y)));
  real = λ p d e.
      either (is_same q p) (Some c) (without c (s.lane_in p)) (Some d) (d < lanes) e
      (λ t x. subst (λ n. n < lanes) (same_Some c d x) inside)
      (λ t x. h.real p d (without-some c (s.lane_in p) d x));
}

seating-clear : (lanes : ℕ) (s : Stage) (q : Quad) → IsSeating lanes s → IsSeating lanes (carried_out s (Clear q))
seating-clear lanes s q h = record {
  once = λ p r d e f.
      either (is_same q p) None (s.lane_in p) (Some d) (p ≡ r) e
      (λ t x. absurd (none-some d x))
      (λ t x. either (is_same q r) None (s.lane_in r) (Some d) (p ≡ r) f (λ u y. absurd (none-some d y)) (λ u y. h.once p r d x y));
  real = λ p d e.
      either (is_same q p) None (s.lane_in p) (Some d) (d < lanes) e (λ t x. absurd (none-some d x)) (λ t x. h.real p d x);
}

-- the place whose lane stands in place r after an exchange
from : Quad → Quad → Quad → Quad
from p q r = if is_same p r then q else if is_same q r then p else r

from-once : (p q r t : Quad) → from p q r ≡ from p q t → r ≡ t
unfolding from
from-once p q r t same =
    either (is_same p r) q (if is_same q r then p else r) (from p q t) (r ≡ t) same
    (λ a x. either (is_same p t) q (if is_same q t then p else t) q (r ≡ t) (sym x)
    (λ b _. sym (same-one p r a) ∙ same-one p t b)
    (λ b y. either (is_same q t) p t q (r ≡ t) y
    (λ d z. sym (same-one p r a) ∙ z ∙ same-one q t d)
    (λ d z. absurd (false≢true (sym d ∙ ap (is_same q) z ∙ same-refl q)))))
    (λ a x. either (is_same q r) p r (from p q t) (r ≡ t) x
    (λ b y. either (is_same p t) q (if is_same q t then p else t) p (r ≡ t) (sym y)
    (λ d z. sym (same-one q r b) ∙ z ∙ same-one p t d)
    (λ d z. either (is_same q t) p t p (r ≡ t) z
    (λ e _. sym (same-one q r b) ∙ same-one q t e)
    (λ e w. absurd (false≢true (sym d ∙ ap (is_same p) w ∙ same-refl p)))))
    (λ b y. either (is_same p t) q (if is_same q t then p else t) r (r ≡ t) (sym y)
    (λ d z. absurd (false≢true (sym b ∙ ap (is_same q) (sym z) ∙ same-refl q)))
    (λ d z. either (is_same q t) p t r (r ≡ t) z
    (λ e w. absurd (false≢true (sym a ∙ ap (is_same p) (sym w) ∙ same-refl p)))
    (λ e w. sym w))))

in_from : (s : Stage) (p q r : Quad) → (carried_out s (Swap p q)).lane_in r ≡ s.lane_in (from p q r)
unfolding from
in_from s p q r =
    elim (is_same p r) as (λ v. (if v then s.lane_in q else if is_same q r then s.lane_in p else s.lane_in r) ≡ s.lane_in (if v then q else if is_same q r then p else r)) [
      | true ↦ refl
      | false ↦ elim (is_same q r) as (λ v. (if v then s.lane_in p else s.lane_in r) ≡ s.lane_in (if v then p else r)) [ true ↦ refl | false ↦ refl ]
    ]

seating-swap : (lanes : ℕ) (s : Stage) (p q : Quad) → IsSeating lanes s → IsSeating lanes (carried_out s (Swap p q))
seating-swap lanes s p q h = record {
  once = λ r t d e f.
      from-once p q r t (h.once (from p q r) (from p q t) d (sym (in_from s p q r) ∙ e) (sym (in_from s p q t) ∙ f));
  real = λ r d e. h.real (from p q r) d (sym (in_from s p q r) ∙ e);
}

standing_at : (s : Stage) (c : ℕ) (q : Quad) → is_lane c (s.lane_in q) ≡ true → is_standing s c ≡ true
standing_at s c One e = rw e refl
standing_at s c Two e = rw e (or-true (is_lane c (s.lane_in One)))
standing_at s c Three e =
    rw e (ap (λ v. is_lane c (s.lane_in One) || v) (or-true (is_lane c (s.lane_in Two))) ∙ or-true (is_lane c (s.lane_in One)))
standing_at s c Four e =
    rw e
    (ap (λ v. is_lane c (s.lane_in One) || (is_lane c (s.lane_in Two) || v)) (or-true (is_lane c (s.lane_in Three)))
    ∙ ap (λ v. is_lane c (s.lane_in One) || v) (or-true (is_lane c (s.lane_in Two)))
    ∙ or-true (is_lane c (s.lane_in One)))

-- a lane that stands in no place is in none
not_standing : (s : Stage) (c : ℕ) (q : Quad) → is_standing s c ≡ false → s.lane_in q ≡ Some c → ⊥
not_standing s c q none here = false≢true (sym none ∙ standing_at s c q (ap (is_lane c) here ∙ grind (arith, nat_tests)))

not_false : (b : Bool) → not b ≡ true → b ≡ false
not_false false e = refl
not_false true e = sym e

one_place : (place : Option Quad) (p q : Quad) → is_place place p ≡ true → is_place place q ≡ true → p ≡ q
one_place None p q e f = absurd (false≢true e)
one_place (Some r) p q e f = sym (same-one r p e) ∙ same-one r q f

seating-speaker : (lanes : ℕ) (s : Stage) (c : ℕ) → IsSeating lanes s → c < lanes → IsSeating lanes (carried_out s (Speaker c))
seating-speaker lanes s c h inside = record {
  once = λ p r d e f.
      either (given p) (Some c) (s.lane_in p) (Some d) (p ≡ r) e
      (λ t x. either (given r) (Some c) (s.lane_in r) (Some d) (p ≡ r) f
      (λ u y. one_place (place_for_speaker s) p r (and_parts _ _ t).1 (and_parts _ _ u).1)
      (λ u y. absurd (not_standing s c r (is_new p t) (y ∙ sym x))))
      (λ t x. either (given r) (Some c) (s.lane_in r) (Some d) (p ≡ r) f
      (λ u y. absurd (not_standing s c p (is_new r u) (x ∙ sym y)))
      (λ u y. h.once p r d x y));
  real = λ p d e.
      either (given p) (Some c) (s.lane_in p) (Some d) (d < lanes) e
      (λ t x. subst (λ n. n < lanes) (same_Some c d x) inside)
      (λ t x. h.real p d x);
}
  where
    given : Quad → Bool
    given p = not (is_standing s c) && is_place (place_for_speaker s) p

    is_new : (p : Quad) → given p ≡ true → is_standing s c ≡ false
    is_new p t = not_false _ (and_parts _ _ t).0

-- a command on a lane is done for lanes of the conference alone
lane_known : (lanes c : ℕ) (r : Reply) → is_done (if nat_le lanes c then NoLane else r) ≡ true → c < lanes
lane_known lanes c r =
    elim (nat_le lanes c) as (λ v. nat_le lanes c ≡ v → is_done (if v then NoLane else r) ≡ true → c < lanes) [
      | true ↦ λ t e. absurd (false≢true e)
      | false ↦ λ t e. grind (arith, nat_tests)
    ] refl

seating-carried : (lanes : ℕ) (s : Stage) (command : Command) → IsSeating lanes s → is_done (answer_at lanes s command) ≡ true → IsSeating lanes (carried_out s command)
seating-carried lanes s (Place q c) h done = seating-place lanes s q c h (lane_known lanes c _ done)
seating-carried lanes s (Clear q) h done = seating-clear lanes s q h
seating-carried lanes s (Swap p q) h done = seating-swap lanes s p q h
seating-carried lanes s (Speaker c) h done = seating-speaker lanes s c h (lane_known lanes c _ done)
seating-carried lanes s (Pin q) h done = record { once = h.once; real = h.real }
seating-carried lanes s (Unpin q) h done = record { once = h.once; real = h.real }

pub seating : (lanes : ℕ) (commands : List Command) → IsSeating lanes (stage lanes commands)
seating lanes [] = record { once = λ p q c e f. absurd (none-some c e); real = λ q c e. absurd (none-some c e) }
seating lanes (command ∷ commands) =
    let s = stage lanes commands in
    elim (is_done (answer_at lanes s command)) as (λ v. is_done (answer_at lanes s command) ≡ v → IsSeating lanes (if v then carried_out s command else s)) [
      | true ↦ λ e. seating-carried lanes s command (seating lanes commands) e
      | false ↦ λ e. seating lanes commands
    ] refl

pub refused_unchanged : (lanes : ℕ) (commands : List Command) (c : Command) → is_done (answer lanes commands c) ≡ false →
    (stage lanes (c ∷ commands) ≡ stage lanes commands) × ((q : Quad) → changed lanes (c ∷ commands) q ≡ false)
refused_unchanged lanes commands c refused =
    let s = stage lanes commands in (
      ap (λ v. if v then carried_out s c else s) refused,
      λ q.
          ap (λ v. not (is_same_lane ((if v then carried_out s c else s).lane_in q) (s.lane_in q))) refused
          ∙ ap not (is_same_lane-refl (s.lane_in q)),
    )
