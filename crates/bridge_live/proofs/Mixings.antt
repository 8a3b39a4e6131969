-- A tick more, whose picture was written, or what the mixer did instead.
use Rattle.std.proofs.Common.{◌≡◌, ℕ, ◌+◌, ◌^◌, ◌<◌, ◌≤◌, false, List, [], ◌∷◌, ◌++◌, length, sum_by, Option, IfSome, Result, Ok, Err, refl, sym, ap, subst, ◌∙◌, arith, append_assoc, length-append}
use Rattle.std.proofs.KnownBytes.{Consumes-trans, Consumes-kept, Consumes-whole}
use Rattle.std.proofs.lemmas.List.{map-append}
use Rattle.std.proofs.lemmas.List.Sums.{sum_by-append}
use Rattle.std.specs.List.{AllByRecursion}
use Rattle.std.specs.Io.KnownBytes.{Consumes, Keeps}
use mathlib.Core.List.{IsPrefix}
use Rattle.cif_pack.specs.declared.packer.Settings.{Settings}
use Rattle.cif_pack.specs.declared.packer.Sent.{Sent}
use Rattle.cif_pack.specs.State.{PackerState, AreFew, HasSent}
use Rattle.cif_pack.proofs.ListLaws.{nothing-sent}
use Rattle.cif_pack.specs.PicturesWritten.{picture_at}
use Rattle.cif_pack.specs.Tallies.{takes_in}
use Rattle.h261_pic.specs.declared.hand.Hand.{Hand}
use Rattle.hall_core.specs.declared.machine.HallCall.{HallCall}
use Rattle.hall_core.specs.declared.machine.HallReply.{HallReply}
use Rattle.hall_core.specs.Hall.{HallView, lanes_of}
use Rattle.hall_lock.specs.declared.view.Turn.{Turn}
use Rattle.hall_lock.specs.Seats.{Lock, IsOf}
use Rattle.io_edge.specs.declared.edges.Failed.{Failed}
use Rattle.io_edge.specs.Causes.{Rose}
use Rattle.io_edge.specs.Outside.{Input, Output}
use Rattle.pel_model.specs.History.{Step, History, Tick, End}
use Rattle.pel_model.specs.Records.{Picture}
use Rattle.bridge_live.specs.declared.calls.Halt.{Halt}
use Rattle.bridge_live.specs.declared.calls.Halt.TheVariants as halt
use Rattle.bridge_live.specs.declared.ends.MixStop.{MixStop}
use Rattle.bridge_live.specs.declared.ends.MixStop.TheVariants as mix_stop
use Rattle.bridge_live.specs.declared.mixer.MixCounts.{MixCounts}
use Rattle.bridge_live.specs.declared.mixer.Mixer.{Mixer}
use Rattle.bridge_live.specs.declared.mixer.Quiet.{Quiet}
use Rattle.bridge_live.specs.declared.mixer.Quiet.TheVariants as quiet
use Rattle.bridge_live.specs.declared.mixer.Taken.{Taken}
use Rattle.bridge_live.specs.Mixer.{MadeTick, StandsIn, steps_gone, ticks_made, pictures_of, LastCall, Closed, NoEnd, NoTick, MakesTicks, CalledEnd, StopsBy, WritesTicks, Mixes, TickerStops}
use Rattle.bridge_live.specs.Mixing.{most_turns, MayMix, TookStep, MakesOne, HasMixRoom, HasCountRoom, GrowsByOne, sent_by, WritesOne, HasMixed, StopsBehind, MixRounds, mix_stop_for, last_call_of, last_stop, stop_at, Closes, TakesTickStep, StepsOn}
use Rattle.bridge_live.specs.Worker.{HallSeat, IsNew, HasMade, IsUnderWay}
use Rattle.bridge_live.proofs.Calling.{none-made, none-back}

abbrev HallTurn : Type 0
HallTurn = Turn HallCall HallReply

-- ---- ticks that stand in more and more turns

later-stands : (lanes : ℕ) (old new : List HallTurn) (tick : MadeTick) → IsPrefix old new → StandsIn lanes old tick → StandsIn lanes new tick
later-stands lanes old new tick more h = record {
  front = h.front;
  turn = h.turn;
  later = h.later ++ more.0;
  cut = sym more.1 ∙ (ap (λ (ts : List HallTurn). ts ++ more.0) h.cut ∙ append_assoc h.front (h.turn ∷ h.later) more.0);
  history = h.history;
  tells = h.tells;
  legal = h.legal;
}

pub all-later : (lanes : ℕ) (old new : List HallTurn) (ticks : List MadeTick) → IsPrefix old new → AllByRecursion (StandsIn lanes old) ticks
    → AllByRecursion (StandsIn lanes new) ticks
all-later lanes old new [] more all = tt
all-later lanes old new (t ∷ ticks) more all = (later-stands lanes old new t more all.0, all-later lanes old new ticks more all.1)

all-push : (lanes : ℕ) (turns : List HallTurn) (ticks : List MadeTick) (t : MadeTick) → AllByRecursion (StandsIn lanes turns) ticks → StandsIn lanes turns t
    → AllByRecursion (StandsIn lanes turns) (ticks ++ t ∷ [])
all-push lanes turns [] t all one = (one, tt)
all-push lanes turns (x ∷ ticks) t all one = (all.0, all-push lanes turns ticks t all.1 one)

-- ---- a tick whose picture is still to be written

pub record Due (lanes : ℕ) (set : Settings) (taken : List ℕ) (first : HallSeat) (before now : Output) (mid : Mixer) (tick : MadeTick) : Type 0 where
  pub whole : List MadeTick
  pub gone : taken ≡ steps_gone (whole ++ tick ∷ [])
  pub stand : AllByRecursion (StandsIn lanes mid.seat.seen) (whole ++ tick ∷ [])
  pub has_made : HasMade lanes (lanes + 1) first mid.seat (ticks_made (whole ++ tick ∷ []))
  pub sent : HasSent set (pictures_of lanes whole) mid.writer (sent_by mid.counts) before now
  pub ticks_are : mid.counts.ticks ≡ length (whole ++ tick ∷ [])
  pub takes_are : mid.counts.taken ≡ sum_by (λ (t : MadeTick). takes_in t.note) (whole ++ tick ∷ [])

pub due-so : (lanes step : ℕ) (set : Settings) (taken : List ℕ) (first : HallSeat) (before now : Output) (old mid : Mixer) (t : Taken) (history : History)
    → HasMixed lanes set taken first before now old → TookStep lanes step mid.seat.seen t history → IsPrefix old.seat.seen mid.seat.seen
    → ((steps : List Step) → HasMade lanes (lanes + 1) first old.seat steps → MakesOne {T = Taken} lanes (λ x. Tick x.note) first steps mid.seat (Ok t))
    → mid.writer ≡ old.writer → mid.counts ≡ record old.counts { ticks = old.counts.ticks + 1; taken = old.counts.taken + takes_in t.note }
    → Due lanes set (taken ++ step ∷ []) first before now mid (record { before = history; note = t.note })
due-so lanes step set taken first before now old mid t history h took grows makes writer counts =
    let tick : MadeTick = record { before = history; note = t.note } in
    let ticks = h.ticks in
    let made = makes (ticks_made ticks) h.has_made in
    let counts_are : sent_by old.counts ≡ sent_by mid.counts = ap sent_by (sym counts) in
    let sent = subst (λ (p : PackerState). HasSent set (pictures_of lanes ticks) p (sent_by old.counts) before now) (sym writer) h.sent in
    record {
      whole = ticks;
      gone = ap (λ (xs : List ℕ). xs ++ step ∷ []) h.gone
          ∙ (ap (λ (n : ℕ). steps_gone ticks ++ n ∷ []) (sym took.step_is) ∙ sym (map-append (λ (x : MadeTick). x.note.step) ticks (tick ∷ [])));
      stand = all-push lanes mid.seat.seen ticks tick (all-later lanes old.seat.seen mid.seat.seen ticks grows h.stand) took.stands;
      has_made = subst (HasMade lanes (lanes + 1) first mid.seat) (sym (map-append (λ (x : MadeTick). Tick x.note) ticks (tick ∷ []))) made.0;
      sent = subst (λ (k : Sent). HasSent set (pictures_of lanes ticks) mid.writer k before now) counts_are sent;
      ticks_are = omega (arith, ap (λ (k : MixCounts). k.ticks) counts, h.ticks_are, length-append ticks (tick ∷ []));
      takes_are = omega (arith, ap (λ (k : MixCounts). k.taken) counts, h.takes_are, sum_by-append (λ (x : MadeTick). takes_in x.note) ticks (tick ∷ []));
    }

-- ---- the end

record Ends (lanes : ℕ) (taken : List ℕ) (ticks : List MadeTick) (first last : HallSeat) (r : Result Unit Halt) : Type 0 where
  steps : List Step
  has_made : HasMade lanes (lanes + 1) first last steps
  makes : MakesTicks (last_call_of r) taken ticks steps last
  called : CalledEnd (last_call_of r)

ends-so : (r : Result Unit Halt) (lanes : ℕ) (taken : List ℕ) (ticks : List MadeTick) (first last : HallSeat) → taken ≡ steps_gone ticks
    → MakesOne {T = Unit} lanes (λ _. End) first (ticks_made ticks) last r → Ends lanes taken ticks first last r
ends-so (Ok x) lanes taken ticks first last gone m = record { steps = ticks_made ticks ++ End ∷ []; has_made = m.0; makes = (gone, refl, m.1); called = tt }
ends-so (Err back) lanes taken ticks first last gone m = record { steps = ticks_made ticks; has_made = m.0; makes = (gone, refl, m.1); called = tt }

-- ---- the three ends of a tick

-- its picture was written
pub written-so : (lanes : ℕ) (set : Settings) (taken : List ℕ) (first : HallSeat) (before now then : Output) (mid new : Mixer) (tick : MadeTick)
    → Due lanes set taken first before now mid tick → new.seat ≡ mid.seat → GrowsByOne mid new
    → ((pictures : List (ℕ × Picture)) → HasSent set pictures mid.writer (sent_by mid.counts) before now
    → WritesOne set pictures (picture_at lanes tick.before tick.note) before then new (Ok (tt {0})))
    → HasMixed lanes set taken first before then new
written-so lanes set taken first before now then mid new tick d seat counts writes =
    let ticks = d.whole ++ tick ∷ [] in
    record {
      ticks = ticks;
      gone = d.gone;
      stand = subst (λ (s : HallSeat). AllByRecursion (StandsIn lanes s.seen) ticks) (sym seat) d.stand;
      has_made = subst (λ (s : HallSeat). HasMade lanes (lanes + 1) first s (ticks_made ticks)) (sym seat) d.has_made;
      sent = subst (λ (ps : List (ℕ × Picture)). HasSent set ps new.writer (sent_by new.counts) before then)
          (sym (map-append (λ (t : MadeTick). picture_at lanes t.before t.note) d.whole (tick ∷ []))) (writes (pictures_of lanes d.whole) d.sent);
      ticks_are = counts.ticks ∙ d.ticks_are;
      takes_are = counts.taken ∙ d.takes_are;
    }

-- the sink failed at it
pub failed-so : (r : Result Unit Halt) (lanes : ℕ) (set : Settings) (taken : List ℕ) (first : HallSeat) (before now then : Output) (mid new last : Mixer) (tick : MadeTick) (failed : Failed)
    → Due lanes set taken first before now mid tick → new.seat ≡ mid.seat → new.counts ≡ mid.counts
    → ((pictures : List (ℕ × Picture)) → HasSent set pictures mid.writer (sent_by mid.counts) before now
    → WritesOne set pictures (picture_at lanes tick.before tick.note) before then new (Err failed))
    → IsPrefix new.seat.seen last.seat.seen → last.counts ≡ new.counts
    → ((steps : List Step) → HasMade lanes (lanes + 1) first new.seat steps → MakesOne {T = Unit} lanes (λ _. End) first steps last.seat r)
    → (m : Mixes lanes set taken first last.seat before then mix_stop.Sink last.counts) × StopsBehind mix_stop.Sink m.last_call
failed-so r lanes set taken first before now then mid new last tick failed d seat counts writes grows same makes =
    let ticks = d.whole ++ tick ∷ [] in
    let here = subst (λ (s : HallSeat). AllByRecursion (StandsIn lanes s.seen) ticks) (sym seat) d.stand in
    let had = subst (λ (s : HallSeat). HasMade lanes (lanes + 1) first s (ticks_made ticks)) (sym seat) d.has_made in
    let ends = ends-so r lanes taken ticks first last.seat d.gone (makes (ticks_made ticks) had) in
    let all : last.counts ≡ mid.counts = same ∙ counts in (
      record {
        ticks = ticks;
        stand = all-later lanes new.seat.seen last.seat.seen ticks grows here;
        last_call = last_call_of r;
        stops = ends.called;
        steps = ends.steps;
        has_made = ends.has_made;
        makes = ends.makes;
        whole = d.whole;
        wrote = (tick, refl, writes (pictures_of lanes d.whole) d.sent);
        counted = record {
          ticks_are = ap (λ (k : MixCounts). k.ticks) all ∙ d.ticks_are;
          taken = ap (λ (k : MixCounts). k.taken) all ∙ d.takes_are;
          packets = ap (λ (k : MixCounts). k.packets) all ∙ d.sent.packets_told;
          octets = ap (λ (k : MixCounts). k.octets) all ∙ d.sent.octets_told;
        };
      },
      tt,
    )

-- ---- the sink took all

mixes-so : (stop : MixStop) (last_call : LastCall) (lanes : ℕ) (set : Settings) (taken all : List ℕ) (first : HallSeat) (before now : Output) (old last : Mixer) (steps : List Step)
    → (h : HasMixed lanes set taken first before now old) → IsPrefix old.seat.seen last.seat.seen → last.counts ≡ old.counts
    → HasMade lanes (lanes + 1) first last.seat steps → MakesTicks last_call all h.ticks steps last.seat
    → StopsBy stop last_call → WritesTicks stop set lanes h.ticks h.ticks before now
    → (m : Mixes lanes set all first last.seat before now stop last.counts) × (m.last_call ≡ last_call)
mixes-so stop last_call lanes set taken all first before now old last steps h grows counts has_made makes stops wrote = (
  record {
    ticks = h.ticks;
    stand = all-later lanes old.seat.seen last.seat.seen h.ticks grows h.stand;
    last_call = last_call;
    stops = stops;
    steps = steps;
    has_made = has_made;
    makes = makes;
    whole = h.ticks;
    wrote = wrote;
    counted = record {
      ticks_are = ap (λ (k : MixCounts). k.ticks) counts ∙ h.ticks_are;
      taken = ap (λ (k : MixCounts). k.taken) counts ∙ h.takes_are;
      packets = ap (λ (k : MixCounts). k.packets) counts ∙ h.sent.packets_told;
      octets = ap (λ (k : MixCounts). k.octets) counts ∙ h.sent.octets_told;
    };
  },
  refl,
)

-- a tick was given back
pub back-so : (back : Halt) (lanes step : ℕ) (set : Settings) (taken : List ℕ) (first : HallSeat) (before now : Output) (old new : Mixer)
    → HasMixed lanes set taken first before now old → IsPrefix old.seat.seen new.seat.seen → new.counts ≡ old.counts
    → ((steps : List Step) → HasMade lanes (lanes + 1) first old.seat steps → MakesOne {T = Taken} lanes (λ x. Tick x.note) first steps new.seat (Err back))
    → (m : Mixes lanes set (taken ++ step ∷ []) first new.seat before now (mix_stop_for back) new.counts) × StopsBehind (mix_stop_for back) m.last_call
back-so halt.Ended lanes step set taken first before now old new h grows counts makes =
    let one = makes (ticks_made h.ticks) h.has_made in
    let m = mixes-so mix_stop.Whole (NoTick step halt.Ended) lanes set taken (taken ++ step ∷ []) first before now old new (ticks_made h.ticks) h grows counts one.0
    (ap (λ (xs : List ℕ). xs ++ step ∷ []) h.gone, refl, one.1) refl (refl, h.sent.written, h.sent.faults) in
    (m.0, subst (StopsBehind mix_stop.Whole) (sym m.1) tt)
back-so halt.Over lanes step set taken first before now old new h grows counts makes =
    let one = makes (ticks_made h.ticks) h.has_made in
    let m = mixes-so mix_stop.Over (NoTick step halt.Over) lanes set taken (taken ++ step ∷ []) first before now old new (ticks_made h.ticks) h grows counts one.0
    (ap (λ (xs : List ℕ). xs ++ step ∷ []) h.gone, refl, one.1) refl (refl, h.sent.written, h.sent.faults) in
    (m.0, subst (StopsBehind mix_stop.Over) (sym m.1) tt)

-- the ticker gave no step
end-mixes : (stop : MixStop) (r : Result Unit Halt) (lanes : ℕ) (set : Settings) (taken : List ℕ) (first : HallSeat) (before now : Output) (old last : Mixer)
    → (h : HasMixed lanes set taken first before now old) → IsPrefix old.seat.seen last.seat.seen → last.counts ≡ old.counts
    → Ends lanes taken h.ticks first last.seat r → StopsBy stop (last_call_of r) → WritesTicks stop set lanes h.ticks h.ticks before now
    → (m : Mixes lanes set taken first last.seat before now stop last.counts) × (m.last_call ≡ last_call_of r)
end-mixes stop r lanes set taken first before now old last h grows counts ends stops wrote =
    mixes-so stop (last_call_of r) lanes set taken taken first before now old last ends.steps h grows counts ends.has_made ends.makes stops wrote

close-mixes : (quiet : Quiet) (r : Result Unit Halt) (lanes : ℕ) (set : Settings) (taken : List ℕ) (first : HallSeat) (before now : Output) (old last : Mixer)
    → (h : HasMixed lanes set taken first before now old) → IsPrefix old.seat.seen last.seat.seen → last.counts ≡ old.counts
    → Ends lanes taken h.ticks first last.seat r
    → (m : Mixes lanes set taken first last.seat before now (stop_at quiet r) last.counts) × (m.last_call ≡ last_call_of r)
close-mixes quiet.AtEnd (Ok x) lanes set taken first before now old last h grows counts ends =
    end-mixes mix_stop.Whole (Ok x) lanes set taken first before now old last h grows counts ends refl (refl, h.sent.written, h.sent.faults)
close-mixes quiet.AtEnd (Err halt.Ended) lanes set taken first before now old last h grows counts ends =
    end-mixes mix_stop.Whole (Err halt.Ended) lanes set taken first before now old last h grows counts ends refl (refl, h.sent.written, h.sent.faults)
close-mixes quiet.AtEnd (Err halt.Over) lanes set taken first before now old last h grows counts ends =
    end-mixes mix_stop.Over (Err halt.Over) lanes set taken first before now old last h grows counts ends refl (refl, h.sent.written, h.sent.faults)
close-mixes quiet.Failing r lanes set taken first before now old last h grows counts ends =
    end-mixes mix_stop.Ticker r lanes set taken first before now old last h grows counts ends ends.called (refl, h.sent.written, h.sent.faults)

pub closes-so : (quiet : Quiet) (r : Result Unit Halt) (stop : MixStop) (lanes : ℕ) (set : Settings) (taken : List ℕ) (first : HallSeat) (before now : Output) (old last : Mixer)
    → HasMixed lanes set taken first before now old → IsPrefix old.seat.seen last.seat.seen → last.counts ≡ old.counts
    → ((steps : List Step) → HasMade lanes (lanes + 1) first old.seat steps → MakesOne {T = Unit} lanes (λ _. End) first steps last.seat r)
    → stop ≡ stop_at quiet r → Closes lanes set taken first before now last quiet stop
closes-so quiet r stop lanes set taken first before now old last h grows counts makes is = (
  r,
  is,
  subst (λ (s : MixStop). (m : Mixes lanes set taken first last.seat before now s last.counts) × (m.last_call ≡ last_call_of r)) (sym is)
      (close-mixes quiet r lanes set taken first before now old last h grows counts
      (ends-so r lanes taken h.ticks first last.seat h.gone (makes (ticks_made h.ticks) h.has_made))),
)

-- ---- a step, or the stop

behind : (stop : MixStop) (last : LastCall) (taken : List ℕ) (before after : Input) → StopsBehind stop last → after.faults ≡ before.faults
    → TickerStops stop last taken before after
behind mix_stop.Sink last taken before after s e = e
behind mix_stop.Ticker last taken before after s e = absurd s
behind mix_stop.Whole (NoTick step back) taken before after s e = e
behind mix_stop.Whole Closed taken before after s e = absurd s
behind mix_stop.Whole (NoEnd back) taken before after s e = absurd s
behind mix_stop.Over (NoTick step back) taken before after s e = e
behind mix_stop.Over Closed taken before after s e = absurd s
behind mix_stop.Over (NoEnd back) taken before after s e = absurd s

pub step-on : (r : Result Hand MixStop) (lock : Lock HallView) (set : Settings) (begun ticker rest : Input) (taken : List ℕ) (step : ℕ) (first : HallSeat)
    (before now : Output) (ticks : ℕ) (mixer : Mixer) → Consumes begun.left ticker.left taken → ticker.faults ≡ begun.faults
    → TakesTickStep ticker rest (Ok step) → MixRounds lock set (taken ++ step ∷ []) first before now ticks mixer r
    → StepsOn lock set begun rest first before now ticks mixer r
step-on (Ok hand) lock set begun ticker rest taken step first before now ticks mixer gave same takes round =
    (taken ++ step ∷ [], Consumes-trans begun.left ticker.left rest.left taken (step ∷ []) gave takes.0, takes.2 ∙ same, round.0, round.1)
step-on (Err stop) lock set begun ticker rest taken step first before now ticks mixer gave same takes round = record {
  taken = taken ++ step ∷ [];
  given = Consumes-trans begun.left ticker.left rest.left taken (step ∷ []) gave takes.0;
  mixes = round.0;
  ticker = behind stop round.0.last_call (taken ++ step ∷ []) begun rest round.1 (takes.2 ∙ same);
}

at-end : (last : Result Unit Halt) (taken : List ℕ) (before after : Input) → IfSome before.left (λ steps. steps ≡ taken) → after.faults ≡ before.faults
    → TickerStops (last_stop last) (last_call_of last) taken before after
at-end (Ok x) taken before after all e = (all, e)
at-end (Err halt.Ended) taken before after all e = (all, e)
at-end (Err halt.Over) taken before after all e = (all, e)

kept : (quiet : Quiet) (old new : Input) → TakesTickStep old new (Err quiet) → Keeps old.left new.left
kept quiet.AtEnd old new t = t.0
kept quiet.Failing old new t = t.0

quiet-stops : (quiet : Quiet) (last : Result Unit Halt) (begun ticker rest : Input) (taken : List ℕ) → Consumes begun.left ticker.left taken → ticker.faults ≡ begun.faults
    → TakesTickStep ticker rest (Err quiet) → TickerStops (stop_at quiet last) (last_call_of last) taken begun rest
quiet-stops quiet.AtEnd last begun ticker rest taken gave same t =
    at-end last taken begun rest (Consumes-whole begun.left ticker.left taken (λ (steps : List ℕ). steps ≡ taken) gave t.1 refl) (t.2 ∙ same)
quiet-stops quiet.Failing last begun ticker rest taken gave same t = subst (λ (n : ℕ). Rose n rest.faults) same t.1

pub quiet-on : (quiet : Quiet) (stop : MixStop) (lock : Lock HallView) (set : Settings) (begun ticker rest : Input) (taken : List ℕ) (first : HallSeat)
    (before now : Output) (ticks : ℕ) (mixer : Mixer) → Consumes begun.left ticker.left taken → ticker.faults ≡ begun.faults
    → TakesTickStep ticker rest (Err quiet) → Closes (lanes_of lock.opening) set taken first before now mixer quiet stop
    → StepsOn {T = Hand} lock set begun rest first before now ticks mixer (Err stop)
quiet-on quiet stop lock set begun ticker rest taken first before now ticks mixer gave same t closes =
    let m = closes.2.0 in
    record {
      taken = taken;
      given = Consumes-kept begun.left ticker.left rest.left taken gave (kept quiet ticker rest t);
      mixes = m;
      ticker = subst (λ (s : MixStop). TickerStops s m.last_call taken begun rest) (sym closes.1)
          (subst (λ (k : LastCall). TickerStops (stop_at quiet closes.0) k taken begun rest) (sym closes.2.1)
          (quiet-stops quiet closes.0 begun ticker rest taken gave same t));
    }

-- ---- the beginning

pub mixer-begins : (lock : Lock HallView) (set : Settings) (now : Output) (mixer : Mixer) → IsNew mixer.seat → mixer.writer ≡ record { settings = set; spent = false } → set.seq < 2 ^ 16
    → mixer.counts ≡ record { ticks = 0; taken = 0; packets = 0; octets = 0 }
    → HasMixed (lanes_of lock.opening) set [] mixer.seat now now mixer × HasMixRoom lock 0 mixer
mixer-begins lock set now mixer new writer seq none =
    let lanes = lanes_of lock.opening in
    let ticks_none : mixer.counts.ticks ≡ 0 = ap (λ (k : MixCounts). k.ticks) none in
    let taken_none : mixer.counts.taken ≡ 0 = ap (λ (k : MixCounts). k.taken) none in
    let packets_none : mixer.counts.packets ≡ 0 = ap (λ (k : MixCounts). k.packets) none in
    let octets_none : mixer.counts.octets ≡ 0 = ap (λ (k : MixCounts). k.octets) none in
    let fresh = nothing-sent set now seq in (
      record {
        ticks = [];
        gone = refl;
        stand = tt;
        has_made = none-made lanes (lanes + 1) mixer.seat new;
        sent = record { state = writer ∙ fresh.state; packets_told = packets_none; octets_told = octets_none; written = fresh.written; faults = refl };
        ticks_are = ticks_none;
        takes_are = taken_none;
      },
      record {
        few = omega (arith, ticks_none);
        few_taken = omega (arith, taken_none);
        few_packets = omega (arith, packets_none);
        few_octets = omega (arith, octets_none);
        usable = ap (λ (p : PackerState). p.spent) writer;
        live = none-back mixer.seat new;
        first = mixer.seat;
        steps = [];
        has_made = none-made lanes (lanes + 1) mixer.seat new;
        counted = ticks_none;
      },
    )

-- ---- counts

pub tick-counted : (old new : MixCounts) (taken : ℕ) → new ≡ record old { ticks = old.ticks + 1; taken = taken } → new.ticks ≡ old.ticks + 1
tick-counted old new taken counts = ap (λ (k : MixCounts). k.ticks) counts

pub room-less : (lock : Lock HallView) (old new : Mixer) → HasMixRoom lock 1 old → GrowsByOne old new → new.seat ≡ old.seat → HasMixRoom lock 0 new
room-less lock old new r g seat = record {
  few = omega (arith, r.few, g.ticks);
  few_taken = omega (arith, r.few_taken, g.ticks, g.taken);
  few_packets = omega (arith, r.few_packets, g.ticks, g.packets);
  few_octets = omega (arith, r.few_octets, g.ticks, g.octets);
  usable = g.usable;
  live = subst IsUnderWay (sym seat) r.live;
  first = r.first;
  steps = r.steps;
  has_made = subst (λ (s : HallSeat). HasMade (lanes_of lock.opening) (lanes_of lock.opening + 1) r.first s r.steps) (sym seat) r.has_made;
  counted = g.ticks ∙ r.counted;
}

pub count-room : (lock : Lock HallView) (mixer : Mixer) → lock.turns ≤ most_turns → HasMixRoom lock 1 mixer → HasCountRoom mixer
count-room lock mixer turns r = record {
  packets = omega (arith, r.few, r.few_packets, turns);
  octets = omega (arith, r.few, r.few_octets, turns);
}

pub picture-counted : (old new : Mixer) (sent : Sent) → new.counts.ticks ≡ old.counts.ticks → new.counts.taken ≡ old.counts.taken
    → new.counts.packets ≡ old.counts.packets + sent.packets → new.counts.octets ≡ old.counts.octets + sent.octets → AreFew sent → new.writer.spent ≡ false
    → GrowsByOne old new
picture-counted old new sent ticks taken packets octets few usable = record {
  ticks = ticks;
  taken = taken;
  packets = omega (arith, packets, few.0);
  octets = omega (arith, octets, few.1);
  usable = usable;
}

-- a call changes the seat alone
pub may-with : (lock : Lock HallView) (old new : Mixer) → MayMix lock old → IsOf lock new.seat → MayMix lock new
may-with lock old new may is_of = record { at_lock = is_of; opens = may.opens; limit = may.limit; turns = may.turns }

-- writing a picture leaves the seat
pub may-mix : (lock : Lock HallView) (old new : Mixer) → MayMix lock old → new.seat ≡ old.seat → MayMix lock new
may-mix lock old new may seat = record {
  at_lock = subst (IsOf lock) (sym seat) may.at_lock;
  opens = may.opens;
  limit = may.limit;
  turns = may.turns;
}
