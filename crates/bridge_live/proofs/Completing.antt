-- A conference that has turns enough ends by its ticker.
use Rattle.std.proofs.Common.{◌≡◌, ℕ, ◌≤◌, true, List, [], ◌∷◌, length, Option, None, Some, refl, sym, ap, subst, ◌∙◌, arith, length-append}
use Rattle.std.proofs.lemmas.List.{length-map}
use Rattle.std.specs.Io.KnownBytes.{Consumes}
use Rattle.cif_pack.specs.declared.packer.Settings.{Settings}
use Rattle.hall_core.specs.Machine.{turn_tells}
use Rattle.io_edge.specs.Causes.{Rose}
use Rattle.io_edge.specs.Outside.{Input, Output}
use Rattle.pel_model.specs.History.{Step, Tick}
use Rattle.hall_lock.specs.Own.{made}
use Rattle.hall_lock.specs.Telling.{Tells}
use Rattle.bridge_live.specs.declared.calls.Halt.TheVariants as halt
use Rattle.bridge_live.specs.declared.ends.MixStop.{MixStop}
use Rattle.bridge_live.specs.declared.ends.MixStop.TheVariants as mix_stop
use Rattle.bridge_live.specs.Gathered.{CompleteLaw}
use Rattle.bridge_live.specs.Mixer.{MadeTick, steps_gone, LastCall, Closed, NoEnd, NoTick, MakesTicks, StopsBy, TickerStops, WritesTicks}
use Rattle.bridge_live.specs.Worker.{HallSeat}
use Rattle.bridge_live.proofs.Counting.{none-longer, chair-few, all-few}
use Rattle.bridge_live.proofs.Telling.{last-two}

-- where all turns were drawn, the mixer made a tick at most for each step that was taken, and knows that they were
over-few : (last : LastCall) (taken : List ℕ) (ts : List MadeTick) (steps : List Step) (seat : HallSeat) → StopsBy mix_stop.Over last
    → MakesTicks last taken ts steps seat → Tells turn_tells (made seat) steps → (length (made seat) ≤ length taken) × (seat.full ≡ true)
over-few Closed taken ts steps seat s m told = absurd (cc s)
over-few (NoEnd halt.Ended) taken ts steps seat s m told = absurd (cc s)
over-few (NoEnd halt.Over) taken ts steps seat s m told = (
  omega (
    arith,
    none-longer (made seat) steps m.2.0 told,
    ap (λ (w : List Step). length w) m.1,
    length-map ts (λ (t : MadeTick). Tick t.note),
    ap (λ (w : List ℕ). length w) m.0,
    length-map ts (λ (t : MadeTick). t.note.step),
  ),
  m.2.1,
)
over-few (NoTick step halt.Ended) taken ts steps seat s m told = absurd (cc s)
over-few (NoTick step halt.Over) taken ts steps seat s m told = (
  omega (
    arith,
    none-longer (made seat) steps m.2.0 told,
    ap (λ (w : List Step). length w) m.1,
    length-map ts (λ (t : MadeTick). Tick t.note),
    ap (λ (w : List ℕ). length w) m.0,
    length-append (steps_gone ts) (step ∷ []),
    length-map ts (λ (t : MadeTick). t.note.step),
  ),
  m.2.1,
)

taken-few : (taken all : List ℕ) (before after : Option (List ℕ)) → before ≡ Some all → Consumes before after taken → length taken ≤ length all
taken-few taken all None after is took = absurd (cc is)
taken-few taken all (Some xs) None is took = absurd took
taken-few taken all (Some xs) (Some ys) is took =
    let same : xs ≡ all = cc is in
    omega (arith, length-append taken ys, ap (λ (w : List ℕ). length w) (sym took ∙ same))

-- the mixer stopped by its ticker
stopped : (stop : MixStop) (last : LastCall) (set : Settings) (lanes : ℕ) (taken : List ℕ) (ts whole : List MadeTick) (before after : Input) (sink written : Output)
    → TickerStops stop last taken before after → WritesTicks stop set lanes ts whole sink written → (Rose before.faults after.faults → ⊥)
    → (Rose sink.faults written.faults → ⊥) → (stop ≡ mix_stop.Over → ⊥) → stop ≡ mix_stop.Whole
stopped mix_stop.Whole last set lanes taken ts whole before after sink written ticker wrote no-ticker no-sink not-over = refl
stopped mix_stop.Sink last set lanes taken ts whole before after sink written ticker wrote no-ticker no-sink not-over = absurd (no-sink wrote.2.failed)
stopped mix_stop.Ticker last set lanes taken ts whole before after sink written ticker wrote no-ticker no-sink not-over = absurd (no-ticker ticker)
stopped mix_stop.Over last set lanes taken ts whole before after sink written ticker wrote no-ticker no-sink not-over = absurd (not-over refl)

pub gathered-is-complete : CompleteLaw
gathered-is-complete set turns opening given end counts g frames line_octets steps frames-told chair-told ticker-told enough no-ticker no-sink =
    let lanes : ℕ = length given.lanes in
    let run = g.mixer.2 in
    let m = run.mixes in
    let not-over : end.mixer.stop ≡ mix_stop.Over → ⊥ = λ is.
    let over = over-few m.last_call run.taken m.ticks m.steps end.mixer.seat (subst (λ (s : MixStop). StopsBy s m.last_call) is m.stops) m.makes m.has_made.told in
    let all : end.number ≡ turns =
    (last-two (λ (s : HallSeat). s.full ≡ true → end.number ≡ turns) end.lanes end.chair.seat end.mixer.seat g.full).1 over.1 in
    omega (
      arith,
      all,
      enough,
      g.number.0,
      g.shared.count,
      all-few lanes 0 given.lanes end.lanes frames end.chair.seat end.mixer.seat g.lanes frames-told,
      chair-few lanes given.chair end.chair.source g.chair.0 end.chair.seat end.chair.stop end.chair.counts line_octets g.chair.2 chair-told,
      over.0,
      taken-few run.taken steps given.ticker.left end.mixer.ticker.left ticker-told run.given,
    ) in
    stopped end.mixer.stop m.last_call set lanes run.taken m.ticks m.whole given.ticker end.mixer.ticker given.sink end.mixer.sink run.ticker m.wrote no-ticker no-sink not-over
