-- Turns of a hall under a lock, and the steps of the history that they tell.
use Rattle.std.proofs.Common.{◌≡◌, ◌⊎◌, ℕ, ◌-◌, ◌≤◌, nat_le, Bool, true, false, ◌||◌, List, [], ◌∷◌, ◌++◌, length, MatchBool, refl, sym, ap, ap₂, subst, ◌∙◌, arith, length-append, inl, inr}
use Rattle.std.proofs.lemmas.Bool.Decides.{nat_tests}
use Rattle.std.proofs.lemmas.List.Elements.{recursion_from_All}
use Rattle.std.specs.List.{AllByRecursion}
use Rattle.hall_lock.specs.declared.view.Turn.{Turn}
use Rattle.hall_lock.specs.Turns.{Goes}
use Rattle.pel_model.specs.History.{Step, Post, Gap, Order, Tick, End, History, has_ended, is_end}
use Rattle.pel_model.specs.Legal.{Legal}
use Rattle.hall_lock.specs.Finishing.{EndsByFinish}
use Rattle.hall_lock.proofs.Finished.{none_ended}
use Rattle.hall_core.specs.declared.machine.HallCall.{HallCall}
use Rattle.hall_core.specs.declared.machine.HallCall.TheVariants.{Post as AskPost, Gap as AskGap, Order as AskOrder, Tick as AskTick, Finish}
use Rattle.hall_core.specs.declared.machine.HallReply.{HallReply}
use Rattle.hall_core.specs.declared.machine.HallReply.TheVariants.{Spare, Counted, Ordered, Ticked, Finished, Ended}
use Rattle.hall_core.specs.Hall.{HallView, lanes_of, is_over, IsSameConference}
use Rattle.hall_core.specs.Stands.{StandsFor}
use Rattle.hall_core.specs.Machine.{Fits, TellsStep, Makes, HallSteps, is_ended, is_finish, turn_tells, TurnsTo, TurnLaw, NeverLateLaw}

-- one turn: the steps that it tells, and the hall behind them
record Turned (old : HallView) (call : HallCall) (reply : HallReply) (new : HallView) (H : History) : Type 0 where
  part : List Step
  told : turn_tells (record { call = call; reply = reply }) part
  stands : StandsFor new (part ++ H)
  legal : Legal (lanes_of new) (part ++ H)
  same : IsSameConference old new

same_hall : (m k : HallView) → k ≡ m → IsSameConference m k
same_hall m k e = record { lanes = ap lanes_of e; limit = ap (λ (h : HallView). h.limit) e }

legal_there : (m k : HallView) (call : HallCall) (reply : HallReply) (s : Step) (H : History) → Makes m call reply k → TellsStep call reply s → StandsFor m H → Legal (lanes_of m) H → Legal (lanes_of k) (s ∷ H)
legal_there m k call reply s H makes told stands legal =
    subst (λ (lanes : ℕ). Legal lanes (s ∷ H)) (sym makes.same.lanes) (makes.legal s told H stands legal)

one_turn : (m : HallView) (call : HallCall) (reply : HallReply) (k : HallView) (H : History) → StandsFor m H → Legal (lanes_of m) H → Fits (lanes_of m) call → HallSteps m call reply k → Turned m call reply k H
one_turn m call (Ended back) k H stands legal fit st = record {
  part = [];
  told = refl;
  stands = subst (λ (h : HallView). StandsFor h H) (sym st.1.1) stands;
  legal = subst (λ (h : HallView). Legal (lanes_of h) H) (sym st.1.1) legal;
  same = same_hall m k st.1.1;
}
one_turn m (AskPost lane item) (Spare box) k H stands legal fit st =
    let s : Step = Post lane fit.2.0 in
    record {
      part = s ∷ [];
      told = (s, (fit.2.0, fit.2.1, refl), refl);
      stands = st.1.stands s (fit.2.0, fit.2.1, refl) H stands;
      legal = legal_there m k (AskPost lane item) (Spare box) s H st.1 (fit.2.0, fit.2.1, refl) stands legal;
      same = st.1.same;
    }
one_turn m (AskGap lane) Counted k H stands legal fit st = record {
  part = Gap lane ∷ [];
  told = (Gap lane, refl, refl);
  stands = st.1.stands (Gap lane) refl H stands;
  legal = legal_there m k (AskGap lane) Counted (Gap lane) H st.1 refl stands legal;
  same = st.1.same;
}
one_turn m (AskOrder command) (Ordered reply) k H stands legal fit st = record {
  part = Order command reply ∷ [];
  told = (Order command reply, refl, refl);
  stands = st.1.stands (Order command reply) refl H stands;
  legal = legal_there m k (AskOrder command) (Ordered reply) (Order command reply) H st.1 refl stands legal;
  same = st.1.same;
}
one_turn m (AskTick step hand) (Ticked note filled) k H stands legal fit st = record {
  part = Tick note ∷ [];
  told = (Tick note, refl, refl);
  stands = st.1.stands (Tick note) refl H stands;
  legal = legal_there m k (AskTick step hand) (Ticked note filled) (Tick note) H st.1 refl stands legal;
  same = st.1.same;
}
one_turn m Finish Finished k H stands legal fit st = record {
  part = End ∷ [];
  told = (End, refl, refl);
  stands = st.1.stands End refl H stands;
  legal = legal_there m k Finish Finished End H st.1 refl stands legal;
  same = st.1.same;
}
one_turn m _ _ k H stands legal fit st = absurd st.0

fits_there : (m k : HallView) (ts : List (Turn HallCall HallReply)) → IsSameConference m k → AllByRecursion (λ t. Fits (lanes_of m) t.call) ts → AllByRecursion (λ t. Fits (lanes_of k) t.call) ts
fits_there m k ts same fits = subst (λ (lanes : ℕ). AllByRecursion (λ (t : Turn HallCall HallReply). Fits lanes t.call) ts) (sym same.lanes) fits

turns_to :
    (m n : HallView) (H : History) (ts : List (Turn HallCall HallReply)) → StandsFor m H → Legal (lanes_of m) H →
    AllByRecursion (λ t. Fits (lanes_of m) t.call) ts → Goes HallSteps m ts n → TurnsTo m H ts n
turns_to m n H [] stands legal fits g = record {
  history = H;
  told = refl;
  stands = subst (λ (h : HallView). StandsFor h H) g stands;
  legal = subst (λ (h : HallView). Legal (lanes_of h) H) g legal;
  same = same_hall m n (sym g);
}
turns_to m n H (t ∷ ts) stands legal fits g =
    let k : HallView = g.0 in
    let turn : Turned m t.call t.reply k H = one_turn m t.call t.reply k H stands legal fits.0 g.1 in
    let rest : TurnsTo k (turn.part ++ H) ts n = turns_to k n (turn.part ++ H) ts turn.stands turn.legal (fits_there m k ts turn.same fits.1) g.2 in
    record {
      history = rest.history;
      told = (turn.part, turn.told, rest.told);
      stands = rest.stands;
      legal = rest.legal;
      same = record { lanes = rest.same.lanes ∙ turn.same.lanes; limit = rest.same.limit ∙ turn.same.limit };
    }

pub turn_law : TurnLaw
turn_law first last H turns stands legal led =
    turns_to first last H turns stands legal (recursion_from_All (λ (t : Turn HallCall HallReply). Fits (lanes_of first) t.call) turns led.calls_fit) led.goes

-- ---- who finishes is never too late

-- the hall with the history that it stands for
record At : Type 0 where
  hall : HallView
  history : History

record AtSteps (old : At) (call : HallCall) (reply : HallReply) (new : At) : Type 0 where
  steps : HallSteps old.hall call reply new.hall
  stands : StandsFor old.hall old.history
  part : List Step
  told : turn_tells (record { call = call; reply = reply }) part
  history : new.history ≡ part ++ old.history
  limit : new.hall.limit ≡ old.hall.limit

along :
    (m n : HallView) (H : History) (ts : List (Turn HallCall HallReply)) → StandsFor m H → Legal (lanes_of m) H →
    AllByRecursion (λ t. Fits (lanes_of m) t.call) ts → Goes HallSteps m ts n →
    (K : History) × Goes AtSteps (record { hall = m; history = H }) ts (record { hall = n; history = K })
along m n H [] stands legal fits g =
    let here : HallView → At = λ h. record { hall = h; history = H } in (H, ap here g)
along m n H (t ∷ ts) stands legal fits g =
    let k : HallView = g.0 in
    let turn : Turned m t.call t.reply k H = one_turn m t.call t.reply k H stands legal fits.0 g.1 in
    let rest = along k n (turn.part ++ H) ts turn.stands turn.legal (fits_there m k ts turn.same fits.1) g.2 in (
      rest.0,
      (
        record { hall = k; history = turn.part ++ H },
        record {
          steps = g.1;
          stands = stands;
          part = turn.part;
          told = turn.told;
          history = refl;
          limit = turn.same.limit;
        },
        rest.1,
      ),
    )

not_end : (call : HallCall) (reply : HallReply) (s : Step) → TellsStep call reply s → is_finish call ≡ false → is_end s ≡ false
not_end (AskPost lane item) (Spare box) s told other = ap is_end told.2
not_end (AskGap lane) Counted s told other = ap is_end told
not_end (AskOrder command) (Ordered reply) s told other = ap is_end told
not_end (AskTick step hand) (Ticked note filled) s told other = ap is_end told
not_end Finish Finished s told other = absurd (cc other)
not_end _ _ s told other = absurd told

still_live : (s : Step) (H : History) → is_end s ≡ false → has_ended H ≡ false → has_ended (s ∷ H) ≡ false
still_live s H other live = ap₂ (λ (a b : Bool). a || b) other live

short : (call : HallCall) (reply : HallReply) (part : List Step) → turn_tells (record { call = call; reply = reply }) part → length part ≤ 1
short call reply part told =
    elim (is_ended reply) as (λ b. MatchBool b (part ≡ []) ((s : Step) × TellsStep call reply s × (part ≡ s ∷ [])) → length part ≤ 1) [
      | true ↦ λ none. omega (arith, ap (λ (w : List Step). length w) none)
      | false ↦ λ one. omega (arith, ap (λ (w : List Step). length w) one.2)
    ] told

over_by : (ended : Bool) (limit steps : ℕ) → (ended || nat_le limit steps) ≡ true → (ended ≡ true) ⊎ (limit ≤ steps)
over_by true limit steps e = inl refl
over_by false limit steps e = inr (grind (arith, nat_tests))

ends : EndsByFinish AtSteps (λ a. has_ended a.history) (λ a. a.hall.limit - length a.history) is_finish is_ended
ends = record {
  ended = λ a call reply b st e.
      let given : (is_over a.hall ≡ true) × (b.hall ≡ a.hall) =
      subst (λ (v : Bool). MatchBool v ((is_over a.hall ≡ true) × (b.hall ≡ a.hall)) (Makes a.hall call reply b.hall)) e st.steps.1 in
      elim (over_by a.hall.ended a.hall.limit a.hall.steps given.0) [
        | inl over ↦ inl (sym st.stands.ended ∙ over)
        | inr full ↦ inr (omega (arith, full, st.stands.steps))
      ];
  goes_on = λ a call reply b st other live.
      let H : History = a.history in
      subst (λ (w : History). has_ended w ≡ false) (sym st.history)
      (elim (is_ended reply) as (λ v. MatchBool v (st.part ≡ []) ((s : Step) × TellsStep call reply s × (st.part ≡ s ∷ [])) → has_ended (st.part ++ H) ≡ false) [
        | true ↦ λ none. ap (λ (w : List Step). has_ended (w ++ H)) none ∙ live
        | false ↦ λ one. ap (λ (w : List Step). has_ended (w ++ H)) one.2 ∙ still_live one.0 H (not_end call reply one.0 one.1 other) live
      ] st.told);
  takes_one = λ a call reply b st.
      omega (arith, st.limit, short call reply st.part st.told, ap (λ (w : History). length w) st.history ∙ length-append st.part a.history);
}

pub finish_law : NeverLateLaw
finish_law first last turns stands led fits own owns finish =
    let all : AllByRecursion (λ (t : Turn HallCall HallReply). Fits (lanes_of first) t.call) turns =
    recursion_from_All (λ (t : Turn HallCall HallReply). Fits (lanes_of first) t.call) turns led.calls_fit in
    let run = along first last [] turns stands tt all led.goes in
    none_ended AtSteps (λ a. has_ended a.history) (λ a. a.hall.limit - length a.history) is_finish is_ended ends own owns
    (record { hall = first; history = [] }) (record { hall = last; history = run.0 }) turns run.1 refl (omega (arith, fits)) finish
