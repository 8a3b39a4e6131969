-- What the mixer makes and writes of its ticker's steps.
use Rattle.std.proofs.Common.{◌≡◌, ℕ, ◌+◌, ◌<◌, ◌≤◌, nat_le, Bool, true, false, ◌||◌, is_some, MatchBool, MatchOption, IfSome, List, [], ◌∷◌, ◌++◌, length, take, drop, Option, None, Some, ok_or, Result, Ok, refl, sym, ap, subst, ◌∙◌, arith, length-append, length-take}
use Rattle.std.proofs.lemmas.Bool.Decides.{nat_tests}
use Rattle.std.specs.Io.KnownBytes.{Consumes, Keeps, IsAtEnd}
use Rattle.cif_pack.specs.State.{PackerState}
use Rattle.cif_pack.specs.Tallies.{one_if, takes_in}
use Rattle.h261_pic.specs.Coded.{Coding, coding}
use Rattle.h261_pic.specs.declared.hand.Hand.{Hand}
use Rattle.h261_pic.specs.Hand.{box_of, HasTaken}
use Rattle.hall_core.specs.declared.machine.HallCall.{HallCall}
use Rattle.hall_core.specs.declared.machine.HallCall.TheVariants.{Tick as AskTick, Finish}
use Rattle.hall_core.specs.declared.machine.HallReply.{HallReply}
use Rattle.hall_core.specs.declared.machine.HallReply.TheVariants.{Spare, Counted, Ordered, Ticked, Finished, Ended}
use Rattle.hall_core.specs.Hall.{HallView, lanes_of}
use Rattle.hall_core.specs.Machine.{Fits, HallSteps, Makes, TellsStep, turn_tells, is_ended, TurnsTo}
use Rattle.hall_core.specs.Stands.{StandsFor, TakesInto, IsQcifHand, box_behind}
use Rattle.hall_core.proofs.Turning.{turn_law}
use Rattle.hall_lock.specs.declared.view.Turn.{Turn}
use Rattle.hall_lock.specs.Seats.{Lock}
use Rattle.io_edge.specs.Outside.{Input}
use Rattle.io_edge.specs.Ticks.{IsStep}
use Rattle.pel_model.specs.declared.Format.TheVariants.{Qcif}
use Rattle.pel_model.specs.declared.held.Held.{Held}
use Rattle.pel_model.specs.declared.note.TickNote.{TickNote}
use Rattle.pel_model.specs.History.{Step, History, Tick, End}
use Rattle.pel_model.specs.Records.{Picture}
use Rattle.pel_model.specs.Takes.{choice}
use Rattle.pel_model.specs.Legal.{Legal}
use Rattle.hall_lock.specs.Asking.{StepsAfter}
use Rattle.hall_lock.specs.Own.{turns_at, Rise, made}
use Rattle.hall_lock.specs.Telling.{Tells}
use Rattle.cif_pack.proofs.Totals.{totals-are-small}
use Rattle.bridge_live.specs.declared.mixer.MixCounts.{MixCounts}
use Rattle.bridge_live.specs.declared.mixer.Mixer.{Mixer}
use Rattle.bridge_live.specs.declared.mixer.Quiet.{Quiet}
use Rattle.bridge_live.specs.declared.mixer.Quiet.TheVariants as quiet
use Rattle.bridge_live.specs.declared.mixer.Taken.{Taken}
use Rattle.bridge_live.specs.Mixing.{most_turns, TakesTickStep, HoldsTick, TookStep, MakesOne, HasMixRoom}
use Rattle.bridge_live.specs.Worker.{HallSeat, HasMade, IsAnswer}

abbrev HallTurn : Type 0
HallTurn = Turn HallCall HallReply

apart : true ≡ false → ⊥
apart e = cc

-- ---- the ticker

pub step-given : (old new : Input) (given : Option ℕ) (r : Result ℕ Quiet) → IfSome given IsStep
    → MatchOption given (IsAtEnd old.left × Keeps old.left new.left) (λ step. Consumes old.left new.left (step ∷ [])) → new.faults ≡ old.faults → r ≡ ok_or given quiet.AtEnd
    → TakesTickStep old new r
step-given old new None r range gives kept is = subst (TakesTickStep old new) (sym is) (gives.1, gives.0, kept)
step-given old new (Some step) r range gives kept is = subst (TakesTickStep old new) (sym is) (gives, range, kept)

-- ---- a tick's reply

pub has-tick : (step : ℕ) (hand : Hand) (reply : HallReply) → IsAnswer (AskTick step hand) reply → HoldsTick reply
has-tick step hand (Ticked note filled) a = tt
has-tick step hand (Ended back) a = absurd (apart a.0)
has-tick step hand (Spare box) a = absurd a.1.1
has-tick step hand Counted a = absurd a.1.1
has-tick step hand (Ordered reply) a = absurd a.1.1
has-tick step hand Finished a = absurd a.1.1

pub end-told : (reply : HallReply) → IsAnswer Finish reply → TellsStep Finish reply End
end-told Finished a = refl
end-told (Ended back) a = absurd (apart a.0)
end-told (Spare box) a = absurd a.1.1
end-told Counted a = absurd a.1.1
end-told (Ordered reply) a = absurd a.1.1
end-told (Ticked note filled) a = absurd a.1.1

pub tick-told : (step : ℕ) (hand : Hand) (reply : HallReply) (t : Taken) → reply ≡ Ticked t.note t.hand → TellsStep (AskTick step hand) reply (Tick t.note)
tick-told step hand reply t is = subst (λ (r : HallReply). TellsStep (AskTick step hand) r (Tick t.note)) (sym is) refl

pub tick-hand : (step : ℕ) (hand : Hand) (reply : HallReply) (t : Taken) → IsAnswer (AskTick step hand) reply → reply ≡ Ticked t.note t.hand → IsQcifHand t.hand
tick-hand step hand reply t a is =
    let b : IsAnswer (AskTick step hand) (Ticked t.note t.hand) = subst (IsAnswer (AskTick step hand)) is a in b.1.1.2

not-over : (ended : Bool) (limit steps : ℕ) → (ended || nat_le limit steps) ≡ false → steps < limit
not-over true limit steps e = absurd (apart e)
not-over false limit steps e = grind (arith, nat_tests)

has-of : (chosen : Option (Held Picture)) (old new : Coding) → new ≡ box_behind chosen old → IfSome chosen (λ h. new ≡ coding Qcif h.item)
has-of None old new e = tt
has-of (Some h) old new e = e

taken-so : (hall : HallView) (old new : Hand) (H : History) → StandsFor hall H → TakesInto hall old new → HasTaken (lanes_of hall) H new
taken-so hall old new H stands takes q = has-of (choice (lanes_of hall) H q) (box_of old q) (box_of new q) (takes H stands q)

-- the hand has what a hall took that stood for the history before the tick
pub took-step : (opening : HallView) (step : ℕ) (hand : Hand) (reply : HallReply) (t : Taken) (seen : List HallTurn) → StandsFor opening [] → opening.limit ≤ most_turns
    → reply ≡ Ticked t.note t.hand → StepsAfter lanes_of Fits HallSteps opening (AskTick step hand) reply seen
    → (before : History) × TookStep (lanes_of opening) step seen t before
took-step opening step hand reply t seen opens few is led =
    let after = subst (λ (r : HallReply). StepsAfter lanes_of Fits HallSteps opening (AskTick step hand) r seen) is led in
    let to : TurnsTo opening [] after.before after.machine = turn_law opening after.machine [] after.before opens tt after.leads in
    let H : History = to.history in
    let makes : Makes after.machine (AskTick step hand) (Ticked t.note t.hand) after.next = after.step.1 in
    let legal : Legal (lanes_of after.machine) (Tick t.note ∷ H) = makes.legal (Tick t.note) refl H to.stands to.legal in
    let here : Legal (lanes_of opening) (Tick t.note ∷ H) = subst (λ (n : ℕ). Legal n (Tick t.note ∷ H)) after.same legal in
    let turn : HallTurn = record { call = AskTick step hand; reply = Ticked t.note t.hand } in (
      H,
      record {
        took = record {
          legal = here;
          holds = subst (λ (n : ℕ). HasTaken n H t.hand) after.same (taken-so after.machine hand t.hand H to.stands after.step.0.1);
        };
        step_is = after.step.0.0;
        stands = record {
          front = after.before;
          turn = turn;
          later = [];
          cut = after.ends;
          history = to.told;
          tells = (Tick t.note, refl, refl);
          legal = here;
        };
        total = omega (
          arith,
          here.2.total,
          totals-are-small (lanes_of opening) (Tick t.note ∷ H) here,
          not-over after.machine.ended after.machine.limit after.machine.steps makes.live,
          to.stands.steps,
          to.same.limit,
          few,
        );
      },
    )

-- ---- no more steps than turns

rise-few : (low : ℕ) (ps : List ℕ) (high : ℕ) → Rise low ps high → low + length ps ≤ high
rise-few low [] high r = omega (arith, r)
rise-few low (p ∷ ps) high r = omega (arith, r.0, rise-few (p + 1) ps high r.1)

turns-few : (turns : List HallTurn) (ps : List ℕ) → length (turns_at turns ps) ≤ length ps
turns-few turns [] = omega arith
turns-few turns (p ∷ ps) = omega (arith, length-append (take 1 (drop p turns)) (turns_at turns ps), length-take 1 (drop p turns), turns-few turns ps)

one-told : (u : HallTurn) (part : List Step) → turn_tells u part → length part ≤ 1
one-told u part told =
    elim (is_ended u.reply) as (λ b. MatchBool b (part ≡ []) ((s : Step) × TellsStep u.call u.reply s × (part ≡ s ∷ [])) → length part ≤ 1) [
      | true ↦ λ none. omega (arith, ap (λ (w : List Step). length w) none)
      | false ↦ λ one. omega (arith, ap (λ (w : List Step). length w) one.2)
    ] told

tells-few : (ts : List HallTurn) (steps : List Step) → Tells turn_tells ts steps → length steps ≤ length ts
tells-few [] steps t = omega (arith, ap (λ (w : List Step). length w) t)
tells-few (u ∷ ts) steps t =
    omega (arith, one-told u t.0 t.2, tells-few ts t.1 t.3, ap (λ (w : List Step). length w) t.4, length-append t.0 t.1)

pub few-made : (lanes w : ℕ) (first seat : HallSeat) (steps : List Step) → HasMade lanes w first seat steps → length steps ≤ length seat.seen
few-made lanes w first seat steps h =
    omega (arith, tells-few (made seat) steps h.told, turns-few seat.seen seat.mine, rise-few 0 seat.mine (length seat.seen) h.works.order)

-- ---- counts

one-at-most : (b : Bool) → one_if b ≤ 1
one-at-most true = omega arith
one-at-most false = omega arith

pub four-at-most : (note : TickNote) → takes_in note ≤ 4
four-at-most note =
    omega (
      arith,
      one-at-most (is_some note.taken_one),
      one-at-most (is_some note.taken_two),
      one-at-most (is_some note.taken_three),
      one-at-most (is_some note.taken_four),
    )

pub room-more : (lock : Lock HallView) (old new : Mixer) (t : Taken) (r : HasMixRoom lock 0 old)
    → new.counts ≡ record old.counts { ticks = old.counts.ticks + 1; taken = old.counts.taken + takes_in t.note }
    → new.writer ≡ old.writer
    → MakesOne {T = Taken} (lanes_of lock.opening) (λ taken. Tick taken.note) r.first r.steps new.seat (Ok t)
    → length new.seat.seen ≤ lock.turns → HasMixRoom lock 1 new
room-more lock old new t r counts writer made within =
    let ticks = ap (λ (k : MixCounts). k.ticks) counts in
    let steps = r.steps ++ Tick t.note ∷ [] in
    let long = length-append r.steps (Tick t.note ∷ []) in
    record {
      few = omega (arith, within, few-made (lanes_of lock.opening) (lanes_of lock.opening + 1) r.first new.seat steps made.0, long, ticks, r.counted);
      few_taken = omega (arith, r.few_taken, ap (λ (k : MixCounts). k.taken) counts, ticks, four-at-most t.note);
      few_packets = omega (arith, r.few_packets, ap (λ (k : MixCounts). k.packets) counts, ticks);
      few_octets = omega (arith, r.few_octets, ap (λ (k : MixCounts). k.octets) counts, ticks);
      usable = ap (λ (p : PackerState). p.spent) writer ∙ r.usable;
      live = made.1;
      first = r.first;
      steps = steps;
      has_made = made.0;
      counted = omega (arith, long, ticks, r.counted);
    }
