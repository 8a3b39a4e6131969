-- A call at the lock, told by the step that it makes.
use Rattle.std.proofs.Common.{◌≡◌, ℕ, Bool, true, false, List, [], ◌∷◌, ◌++◌, length, MatchBool, Ok, Err, refl, sym, ap, subst, ◌∙◌, arith, append-nil}
use Rattle.std.specs.List.{AllByRecursion}
use Rattle.hall_core.specs.declared.machine.HallCall.{HallCall}
use Rattle.hall_core.specs.declared.machine.HallReply.{HallReply}
use Rattle.hall_core.specs.Hall.{HallView, lanes_of}
use Rattle.hall_core.specs.Machine.{Fits, HallSteps, is_ended, turn_tells}
use Rattle.hall_lock.specs.Seats.{Lock, IsOf}
use Rattle.hall_lock.specs.declared.view.Turn.{Turn}
use Rattle.pel_model.specs.History.{Step}
use Rattle.hall_lock.specs.Asking.{Works, AddsTurn, TakesTurn, NoneEnded, HasEnded, IsGoing, IsOver, StandsAt}
use Rattle.hall_lock.specs.Own.{made, turns_at, Rise}
use Rattle.hall_lock.specs.Telling.{Tells}
use Rattle.hall_lock.proofs.Asked.{works_on, works_over, stands, over_stands}
use Rattle.hall_lock.proofs.Told.{tells_push}
use Rattle.bridge_live.specs.Calling.{MayCall, Calls}
use Rattle.bridge_live.specs.declared.calls.Halt.TheVariants as halt
use Rattle.bridge_live.specs.Worker.{HallSeat, worker_of, owner, IsNew, HasMade, IsUnderWay, MakesStep}

turn : HallCall → HallReply → Turn HallCall HallReply
turn call reply = record { call = call; reply = reply }

-- a turn more, which tells these steps
told-more : (call : HallCall) (reply : HallReply) (old new : HallSeat) (steps part : List Step) → Tells turn_tells (made old) steps
    → AddsTurn call reply old new → turn_tells (record { call = call; reply = reply }) part → Tells turn_tells (made new) (steps ++ part)
told-more call reply old new steps part told adds tells =
    subst (λ (ts : List (Turn HallCall HallReply)). Tells turn_tells ts (steps ++ part)) (sym adds.turns)
    (tells_push turn_tells (made old) (record { call = call; reply = reply }) steps part told tells)

-- the hall gave the call back
pub goes-back : (lanes : ℕ) (call : HallCall) (reply : HallReply) (first old new : HallSeat) (steps : List Step)
    → HasMade lanes (worker_of lanes call) first old steps → Works (owner lanes) (worker_of lanes call) first new
    → AddsTurn call reply old new → is_ended reply ≡ true → StandsAt is_ended reply new
    → MakesStep lanes call first steps new (Err halt.Ended)
goes-back lanes call reply first old new steps h works adds ended stands =
    let none : turn_tells (record { call = call; reply = reply }) [] = rw ended refl in
    let back : HasEnded is_ended new = subst (λ (b : Bool). MatchBool b (HasEnded is_ended new) (IsGoing is_ended new)) ended stands in (
      record {
        works = works;
        told = subst (λ (xs : List Step). Tells turn_tells (made new) xs) (append-nil steps) (told-more call reply old new steps [] h.told adds none);
      },
      back,
    )

-- the call made its step
pub goes-on : (lanes : ℕ) (call : HallCall) (reply : HallReply) (first old new : HallSeat) (steps : List Step)
    → HasMade lanes (worker_of lanes call) first old steps → Works (owner lanes) (worker_of lanes call) first new
    → AddsTurn call reply old new → is_ended reply ≡ false → StandsAt is_ended reply new
    → MakesStep lanes call first steps new (Ok reply)
goes-on lanes call reply first old new steps h works adds live stands = (
  subst (λ (b : Bool). MatchBool b (HasEnded is_ended new) (IsGoing is_ended new)) live stands,
  λ s tells.
      let one : turn_tells (record { call = call; reply = reply }) (s ∷ []) = rw live (s, tells, refl) in
      record { works = works; told = told-more call reply old new steps (s ∷ []) h.told adds one },
)

-- all turns were drawn
pub goes-over : (lanes : ℕ) (call : HallCall) (first old new : HallSeat) (steps : List Step)
    → HasMade lanes (worker_of lanes call) first old steps → Works (owner lanes) (worker_of lanes call) first new
    → new ≡ record old { full = true } → IsOver is_ended new → MakesStep lanes call first steps new (Err halt.Over)
goes-over lanes call first old new steps h works same over = (
  record {
    works = works;
    told = subst (λ (s : HallSeat). Tells turn_tells (made s) steps) (sym same) h.told;
  },
  over,
)

-- ---- a call

module _ (lock : Lock HallView) (call : HallCall) (reply : HallReply) (old new : HallSeat) (may : MayCall lock old call) (is_of : IsOf lock new) where
  abbrev lanes : ℕ
  lanes = lanes_of lock.opening

  abbrev worker : ℕ
  worker = worker_of lanes call

  pub calls-back : TakesTurn lanes_of Fits HallSteps lock call reply old new → is_ended reply ≡ true → Calls lock call old new (Err halt.Ended)
  calls-back turn ended = record {
    at_lock = is_of;
    live = tt;
    answer = tt;
    within = tt;
    grows = turn.adds.grows;
    led = tt;
    makes = λ first steps h.
        goes-back lanes call reply first old new steps h (works_on (owner lanes) worker first old new call reply turn.adds refl h.works) turn.adds ended
        (stands is_ended call reply old new turn.adds may.live);
  }

  pub calls-on : TakesTurn lanes_of Fits HallSteps lock call reply old new → is_ended reply ≡ false → Calls lock call old new (Ok reply)
  calls-on turn going =
      let stands_so = stands is_ended call reply old new turn.adds may.live in
      record {
        at_lock = is_of;
        live = subst (λ (b : Bool). MatchBool b (HasEnded is_ended new) (IsGoing is_ended new)) going stands_so;
        answer = (going, (turn.after.machine, turn.after.step.0));
        within = turn.within;
        grows = turn.adds.grows;
        led = turn.after;
        makes = λ first steps h.
            goes-on lanes call reply first old new steps h (works_on (owner lanes) worker first old new call reply turn.adds refl h.works) turn.adds going stands_so;
      }

pub calls-over : (lock : Lock HallView) (call : HallCall) (old new : HallSeat) → MayCall lock old call → IsOf lock new → new ≡ record old { full = true }
    → Calls lock call old new (Err halt.Over)
calls-over lock call old new may is_of over =
    let lanes = lanes_of lock.opening in
    record {
      at_lock = is_of;
      live = tt;
      answer = tt;
      within = tt;
      grows = ([], append-nil old.seen ∙ sym (ap (λ (s : HallSeat). s.seen) over));
      led = tt;
      makes = λ first steps h.
          goes-over lanes call first old new steps h (works_over (owner lanes) (worker_of lanes call) first old new over h.works) over
          (over_stands is_ended old new over may.live);
    }

-- with a new seat nothing was made
pub none-made : (lanes worker : ℕ) (seat : HallSeat) → IsNew seat → HasMade lanes worker seat seat []
none-made lanes worker seat new =
    let none : made seat ≡ [] = ap (λ (ps : List ℕ). turns_at seat.seen ps) new.mine in
    record {
      works = record {
        order = subst (λ (ps : List ℕ). Rise 0 ps (length seat.seen)) (sym new.mine) (omega arith);
        owned = subst (λ (ts : List (Turn HallCall HallReply)). AllByRecursion (λ t. owner lanes t ≡ worker) ts) (sym none) tt;
        kept = (refl, refl, refl);
      };
      told = subst (λ (ts : List (Turn HallCall HallReply)). Tells turn_tells ts []) (sym none) refl;
    }

pub none-back : (seat : HallSeat) → IsNew seat → IsUnderWay seat
none-back seat new =
    let none : made seat ≡ [] = ap (λ (ps : List ℕ). turns_at seat.seen ps) new.mine in
    (subst (λ (ts : List (Turn HallCall HallReply)). NoneEnded is_ended ts) (sym none) tt, new.live)
