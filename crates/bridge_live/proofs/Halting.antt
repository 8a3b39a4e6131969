-- A call is given back since no step may follow only where the conference has ended: it has room for more steps than turns.
use Rattle.std.proofs.Common.{◌≡◌, ℕ, ◌+◌, ◌<◌, ◌≤◌, nat_le, ◌==◌, Bool, true, false, ◌||◌, cond, List, [], ◌∷◌, ◌++◌, length, filter, MatchBool, refl, sym, ap, subst, ◌∙◌, arith, append_assoc, length-append}
use Rattle.std.proofs.lemmas.Bool.Decides.{nat_tests}
use Rattle.std.proofs.lemmas.List.Elements.{recursion_from_All, All-from_recursion}
use Rattle.std.specs.List.{AllByRecursion}
use Rattle.hall_core.specs.Hall.{HallView, lanes_of}
use Rattle.hall_core.specs.Machine.{Fits, HallSteps, Makes, turn_tells, is_ended, TurnsTo}
use Rattle.hall_core.specs.Stands.{StandsFor}
use Rattle.hall_core.proofs.Turning.{turn_law}
use Rattle.hall_lock.specs.Turns.{Leads, Goes}
use Rattle.pel_model.specs.History.{End, History, has_ended, is_end}
use Rattle.pel_model.specs.Legal.{Legal}
use Rattle.hall_lock.specs.Asking.{EndsLast, HasEnded}
use Rattle.hall_lock.specs.Own.{made}
use Rattle.hall_lock.specs.Sorting.{owned_by, MadeFrom}
use Rattle.hall_lock.specs.Telling.{StepsFrom}
use Rattle.bridge_live.specs.Serve.{EndsWith}
use Rattle.bridge_live.specs.Worker.{HallSeat, owner}
use Rattle.bridge_live.proofs.Placing.{end-is-last}
use Rattle.bridge_live.proofs.Telling.{HallTurn, steps-split, steps-one, steps-grow, no-more-steps}

-- ---- the hall where a turn began

record Began (opening : HallView) (front : List HallTurn) (t : HallTurn) : Type 0 where
  hall : HallView
  next : HallView
  goes : Goes HallSteps opening front hall
  step : HallSteps hall t.call t.reply next

began : (opening closing : HallView) (front later : List HallTurn) (t : HallTurn) → Goes HallSteps opening (front ++ t ∷ later) closing → Began opening front t
began opening closing [] later t g = record { hall = opening; next = g.0; goes = refl; step = g.1 }
began opening closing (u ∷ us) later t g =
    let rest = began g.0 closing us later t g.2 in
    record { hall = rest.hall; next = rest.next; goes = (g.0, g.1, rest.goes); step = rest.step }

all-front : (P : HallTurn → Type 0) (front later : List HallTurn) → AllByRecursion P (front ++ later) → AllByRecursion P front
all-front P [] later all = tt
all-front P (t ∷ ts) later all = (all.0, all-front P ts later all.1)

still-ended : (more H : History) → has_ended H ≡ true → has_ended (more ++ H) ≡ true
still-ended [] H e = e
still-ended (s ∷ more) H e = ap (λ (b : Bool). is_end s || b) (still-ended more H e) ∙ always (is_end s)
  where
    always : (b : Bool) → (b || true) ≡ true
    always true = refl
    always false = refl

over-by : (ended : Bool) (limit steps : ℕ) → (ended || nat_le limit steps) ≡ true → steps < limit → ended ≡ true
over-by true limit steps e room = refl
over-by false limit steps e room = absurd (none (grind (arith, nat_tests)))
  where
    none : limit ≤ steps → ⊥
    none full = omega (arith, full, room)

module _ (opening closing : HallView) (turns : List HallTurn) (H : History) (opens : StandsFor opening []) (led : Leads lanes_of Fits HallSteps opening turns closing) (few : length turns ≤ opening.limit) (told : StepsFrom turn_tells [] turns H) where
  given-back : (front later : List HallTurn) (t : HallTurn) → turns ≡ front ++ t ∷ later → is_ended t.reply ≡ true → has_ended H ≡ true
  given-back front later t cut ended =
      let fits-all : AllByRecursion (λ (u : HallTurn). Fits (lanes_of opening) u.call) (front ++ t ∷ later) =
      subst (λ (us : List HallTurn). AllByRecursion (λ (u : HallTurn). Fits (lanes_of opening) u.call) us) cut
      (recursion_from_All (λ (u : HallTurn). Fits (lanes_of opening) u.call) turns led.calls_fit) in
      let b = began opening closing front later t (subst (λ (us : List HallTurn). Goes HallSteps opening us closing) cut led.goes) in
      let front-led : Leads lanes_of Fits HallSteps opening front b.hall =
      record {
        calls_fit = All-from_recursion (λ (u : HallTurn). Fits (lanes_of opening) u.call) front (all-front (λ (u : HallTurn). Fits (lanes_of opening) u.call) front (t ∷ later) fits-all);
        goes = b.goes;
      } in
      let to : TurnsTo opening [] front b.hall = turn_law opening b.hall [] front opens tt front-led in
      let over = subst (λ (v : Bool). MatchBool v ((b.hall.ended || nat_le b.hall.limit b.hall.steps) ≡ true × (b.next ≡ b.hall)) (Makes b.hall t.call t.reply b.next)) ended b.step.1 in
      let room : b.hall.steps < b.hall.limit =
      omega (
        arith,
        to.stands.steps,
        to.same.limit,
        few,
        no-more-steps [] to.history front to.told,
        ap (λ (us : List HallTurn). length us) cut,
        length-append front (t ∷ later),
      ) in
      let here : has_ended to.history ≡ true = sym to.stands.ended ∙ over-by b.hall.ended b.hall.limit b.hall.steps over.0 room in
      let split = steps-split [] H front (t ∷ later) (subst (λ (us : List HallTurn). StepsFrom turn_tells [] us H) cut told) in
      let mid : split.0 ≡ to.history = steps-one [] split.0 to.history front split.1 to.told in
      let grown = steps-grow split.0 H (t ∷ later) split.2 in
      ap has_ended grown.1 ∙ still-ended grown.0 split.0 (ap has_ended mid ∙ here)

  each-given-back : (front later : List HallTurn) → turns ≡ front ++ later → AllByRecursion (λ (t : HallTurn). is_ended t.reply ≡ true → has_ended H ≡ true) later
  each-given-back front [] cut = tt
  each-given-back front (t ∷ ts) cut =
      (given-back front ts t cut, each-given-back (front ++ t ∷ []) ts (cut ∙ sym (append_assoc front (t ∷ []) ts)))

-- ---- by seats

all-kept : (P : HallTurn → Type 0) (own : HallTurn → Bool) (ts : List HallTurn) → AllByRecursion P ts → AllByRecursion P (filter own ts)
all-kept P own [] all = tt
all-kept P own (t ∷ ts) all =
    elim (own t) as (λ b. AllByRecursion P (cond b (t ∷ filter own ts) (filter own ts))) [
      | true ↦ (all.0, all-kept P own ts all.1)
      | false ↦ all-kept P own ts all.1
    ]

the-last : (P : HallTurn → Type 0) (ts : List HallTurn) (t : HallTurn) → AllByRecursion P (ts ++ t ∷ []) → P t
the-last P [] t all = all.0
the-last P (u ∷ us) t all = the-last P us t all.1

seat-ended : (lanes w : ℕ) (turns : List HallTurn) (H : History) (seat : HallSeat) → Legal lanes H
    → AllByRecursion (λ (t : HallTurn). is_ended t.reply ≡ true → has_ended H ≡ true) turns → owned_by (owner lanes) w turns ≡ made seat
    → HasEnded is_ended seat → EndsWith End H
seat-ended lanes w turns H seat legal each own halted =
    let e : EndsLast is_ended (made seat) = halted.0 in
    let P : HallTurn → Type 0 = λ t. is_ended t.reply ≡ true → has_ended H ≡ true in
    let mine : AllByRecursion P (e.front ++ e.last ∷ []) =
    subst (λ (us : List HallTurn). AllByRecursion P us) (own ∙ e.all) (all-kept P (λ t. owner lanes t == w) turns each) in
    end-is-last lanes H legal (the-last P e.front e.last mine e.ended)

seats-ended : (lanes w : ℕ) (turns : List HallTurn) (H : History) (seats : List HallSeat) → Legal lanes H
    → AllByRecursion (λ (t : HallTurn). is_ended t.reply ≡ true → has_ended H ≡ true) turns → MadeFrom (owner lanes) turns w seats
    → AllByRecursion (λ (s : HallSeat). HasEnded is_ended s → EndsWith End H) seats
seats-ended lanes w turns H [] legal each made-from = tt
seats-ended lanes w turns H (s ∷ ss) legal each made-from =
    (seat-ended lanes w turns H s legal each made-from.0, seats-ended lanes (w + 1) turns H ss legal each made-from.1)

pub halted-seats : (lanes : ℕ) (opening closing : HallView) (turns : List HallTurn) (H : History) (seats : List HallSeat)
    → StandsFor opening [] → Leads lanes_of Fits HallSteps opening turns closing → length turns ≤ opening.limit → StepsFrom turn_tells [] turns H
    → Legal lanes H → MadeFrom (owner lanes) turns 0 seats → AllByRecursion (λ (s : HallSeat). HasEnded is_ended s → EndsWith End H) seats
halted-seats lanes opening closing turns H seats opens led few told legal made-from =
    seats-ended lanes 0 turns H seats legal (each-given-back opening closing turns H opens led few told [] turns refl) made-from
