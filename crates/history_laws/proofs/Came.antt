-- What came to the lanes of a legal history: more comes behind, and what was received is a valid picture, with what the
-- test of refreshes says of it.
use Rattle.std.proofs.Common.{◌≡◌, ℕ, zero, suc, ◌+◌, ◌-◌, ◌<◌, ◌≤◌, ◌==◌, Bool, true, false, cond, Option, Some, None, List, [], ◌∷◌, ◌++◌, length, slice_get, refl, sym, ap, ap₂, subst, ◌∙◌, arith, length-append, append_assoc}
use Rattle.std.proofs.lemmas.List.{append-nil}
use Rattle.std.proofs.lemmas.Bool.Decides.{nat_tests}
use Rattle.pel_model.specs.declared.Format.TheVariants.{Qcif}
use Rattle.pel_model.specs.Frames.{Frame}
use Rattle.pel_model.specs.History.{Step, Post, Gap, Order, Tick, End, History, arrivals}
use Rattle.pel_model.specs.Lanes.{Arrival, Received, Missing}
use Rattle.pel_model.specs.Legal.{IsPostable, Legal}
use Rattle.pel_model.specs.Own.{shown_after, own}
use Rattle.pel_model.specs.Records.{Picture}
use Rattle.pel_model.specs.Refresh.{is_refresh}
use Rattle.pel_model.specs.Transform.{Transform}
use Rattle.history_laws.proofs.Finding.{Each, each-append, each-get}

-- ---- more comes behind

pub get-append : {X : Type 0} (xs ys : List X) (n : ℕ) → n < length xs → slice_get (xs ++ ys) n ≡ slice_get xs n
get-append [] ys n below = absurd (omega arith)
get-append (x ∷ xs) ys zero below = refl
get-append (x ∷ xs) ys (suc n) below = get-append xs ys n (omega arith)

-- a decoder does not know what comes later
pub own-append : (t : Transform) (fill : ℕ → Frame) (xs ys : List (Arrival Picture)) (n : ℕ) → n ≤ length xs → own t fill (xs ++ ys) n ≡ own t fill xs n
own-append t fill xs ys zero known = refl
own-append t fill xs ys (suc n) known =
    ap₂ (λ (before : Frame) (came : Option (Arrival Picture)). shown_after t before (fill (suc n)) came)
    (own-append t fill xs ys n (omega arith)) (get-append xs ys n (omega arith))

-- what came by a step
abbrev pub came_by : Step → ℕ → List (Arrival Picture)
came_by (Post lane picture) c = cond (lane == c) (Received (is_refresh Qcif picture) picture ∷ []) []
came_by (Gap lane) c = cond (lane == c) (Missing ∷ []) []
came_by (Order command reply) c = []
came_by (Tick note) c = []
came_by End c = []

pub arrivals-step : (s : Step) (H : History) (c : ℕ) → arrivals (s ∷ H) c ≡ arrivals H c ++ came_by s c
arrivals-step (Post lane picture) H c =
    elim (lane == c) as (λ v. cond v (arrivals H c ++ Received (is_refresh Qcif picture) picture ∷ []) (arrivals H c)
    ≡ arrivals H c ++ cond v (Received (is_refresh Qcif picture) picture ∷ []) []) [
      | true ↦ refl
      | false ↦ sym (append-nil (arrivals H c))
    ]
arrivals-step (Gap lane) H c =
    elim (lane == c) as (λ v. cond v (arrivals H c ++ Missing ∷ []) (arrivals H c) ≡ arrivals H c ++ cond v (Missing ∷ []) []) [
      | true ↦ refl
      | false ↦ sym (append-nil (arrivals H c))
    ]
arrivals-step (Order command reply) H c = sym (append-nil (arrivals H c))
arrivals-step (Tick note) H c = sym (append-nil (arrivals H c))
arrivals-step End H c = sym (append-nil (arrivals H c))

pub arrivals-later : (later H : History) (c : ℕ) → (more : List (Arrival Picture)) × (arrivals (later ++ H) c ≡ arrivals H c ++ more)
arrivals-later [] H c = ([], sym (append-nil (arrivals H c)))
arrivals-later (s ∷ later) H c =
    let rest = arrivals-later later H c in (
      rest.0 ++ came_by s c,
      arrivals-step s (later ++ H) c ∙ ap (λ xs. xs ++ came_by s c) rest.1 ∙ append_assoc (arrivals H c) rest.0 (came_by s c),
    )

-- ---- what came is valid

abbrev pub IsGood : Arrival Picture → Type 0
IsGood (Received refresh picture) = IsPostable picture × (refresh ≡ is_refresh Qcif picture)
IsGood Missing = Unit {0}

good-post : (lane c : ℕ) (picture : Picture) → IsPostable picture →
    Each IsGood (cond (lane == c) (Received (is_refresh Qcif picture) picture ∷ []) [])
good-post lane c picture good =
    elim (lane == c) as (λ v. Each IsGood (cond v (Received (is_refresh Qcif picture) picture ∷ []) [])) [
      | true ↦ ((good, refl), tt)
      | false ↦ tt
    ]

good-gap : (lane c : ℕ) → Each IsGood (cond (lane == c) (Missing ∷ []) [])
good-gap lane c =
    elim (lane == c) as (λ v. Each IsGood (cond v (Missing ∷ []) [])) [
      | true ↦ (tt, tt)
      | false ↦ tt
    ]

pub good : (lanes : ℕ) (H : History) (c : ℕ) → Legal lanes H → Each IsGood (arrivals H c)
good lanes [] c legal = tt
good lanes (Post lane picture ∷ H) c legal =
    subst (Each IsGood) (sym (arrivals-step (Post lane picture) H c))
    (each-append IsGood (arrivals H c) _ (good lanes H c legal.0) (good-post lane c picture legal.2.1))
good lanes (Gap lane ∷ H) c legal =
    subst (Each IsGood) (sym (arrivals-step (Gap lane) H c))
    (each-append IsGood (arrivals H c) _ (good lanes H c legal.0) (good-gap lane c))
good lanes (Order command reply ∷ H) c legal = good lanes H c legal.0
good lanes (Tick note ∷ H) c legal = good lanes H c legal.0
good lanes (End ∷ H) c legal = good lanes H c legal.0

pub good-received : (lanes : ℕ) (H : History) (c n : ℕ) (refresh : Bool) (picture : Picture) → Legal lanes H →
    slice_get (arrivals H c) n ≡ Some (Received refresh picture) → IsPostable picture × (refresh ≡ is_refresh Qcif picture)
good-received lanes H c n refresh picture legal found =
    each-get IsGood (arrivals H c) n (Received refresh picture) (good lanes H c legal) found
