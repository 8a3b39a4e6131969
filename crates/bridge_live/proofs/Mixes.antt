-- What the mixer made and wrote, told by the closing history.
use Rattle.std.proofs.Common.{◌≡◌, ℕ, ◌+◌, ◌≤◌, List, [], ◌∷◌, ◌++◌, length, reverse, filter, sum_by, refl, sym, ap, subst, ◌∙◌, append-nil}
use Rattle.std.specs.List.{AllByRecursion}
use Rattle.std.specs.Io.KnownBytes.{Appends}
use mathlib.Core.List.{IsPrefix}
use Rattle.cif_pack.specs.declared.packer.Settings.{Settings}
use Rattle.cif_pack.specs.Packets.{sent_packets, out}
use Rattle.cif_pack.specs.PicturesWritten.{pictures_written, picture_at}
use Rattle.cif_pack.specs.Tallies.{takes_in}
use Rattle.cif_pack.specs.State.{HasFront}
use Rattle.hall_core.specs.Hall.{HallView, lanes_of}
use Rattle.hall_core.specs.Machine.{Fits, HallSteps, turn_tells}
use Rattle.hall_core.specs.Stands.{StandsFor}
use Rattle.hall_lock.specs.Turns.{Leads}
use Rattle.io_edge.specs.Outside.{Input, Output}
use Rattle.pel_model.specs.History.{Step, End, History}
use Rattle.pel_model.specs.Legal.{Legal}
use Rattle.pel_model.specs.Records.{Picture}
use Rattle.hall_lock.specs.Own.{made}
use Rattle.hall_lock.specs.Sorting.{owned_by}
use Rattle.hall_lock.specs.Telling.{Tells, StepsFrom}
use Rattle.bridge_live.specs.declared.calls.Halt.TheVariants as halt
use Rattle.bridge_live.specs.declared.ends.MixStop.{MixStop}
use Rattle.bridge_live.specs.declared.ends.MixStop.TheVariants as mix_stop
use Rattle.bridge_live.specs.declared.mixer.MixCounts.{MixCounts}
use Rattle.bridge_live.specs.Endings.{MixEnding}
use Rattle.bridge_live.specs.Mixer.{MadeTick, StandsIn, steps_gone, ticks_made, pictures_of, LastCall as Called, Closed as CalledClosed, NoEnd as CalledNoEnd, NoTick as CalledNoTick, MakesTicks, StopsBy, TickerStops, WritesTicks, RunsMixer}
use Rattle.bridge_live.specs.Serve.{tick_steps, LastCall, Closed, NoEnd, NoTick, Ticks, IsStopOf, TickerEnds, MixerServes, WroteHistory}
use Rattle.bridge_live.specs.Worker.{HallSeat, owner}
use Rattle.bridge_live.proofs.Finishing.{never-late}
use Rattle.bridge_live.proofs.Mixings.{all-later}
use Rattle.bridge_live.proofs.Placing.{ticks_in, IsAt, pictures-are, gone-are, same-ticks, all-map, in-place, stands-at, last-tick, are-made, not-ended, closed, end-is-last}
use Rattle.bridge_live.proofs.Telling.{HallTurn, is_mixed}

-- ---- the last call

-- it was not answered that the conference has ended
abbrev pub IsTimely : Called → Type 0
IsTimely (CalledNoEnd halt.Ended) = ⊥
IsTimely (CalledNoTick step halt.Ended) = ⊥
IsTimely _ = Unit {0}

abbrev pub last_of : Called → LastCall
last_of CalledClosed = Closed
last_of (CalledNoEnd back) = NoEnd
last_of (CalledNoTick step back) = NoTick step

stops-for : (stop : MixStop) (last : Called) → IsTimely last → StopsBy stop last → IsStopOf stop (last_of last)
stops-for mix_stop.Sink CalledClosed timely s = tt
stops-for mix_stop.Sink (CalledNoEnd back) timely s = tt
stops-for mix_stop.Sink (CalledNoTick step back) timely s = s
stops-for mix_stop.Ticker CalledClosed timely s = tt
stops-for mix_stop.Ticker (CalledNoEnd back) timely s = tt
stops-for mix_stop.Ticker (CalledNoTick step back) timely s = s
stops-for mix_stop.Whole CalledClosed timely s = tt
stops-for mix_stop.Whole (CalledNoEnd halt.Ended) timely s = timely
stops-for mix_stop.Whole (CalledNoEnd halt.Over) timely s = absurd (cc s)
stops-for mix_stop.Whole (CalledNoTick step halt.Ended) timely s = timely
stops-for mix_stop.Whole (CalledNoTick step halt.Over) timely s = absurd (cc s)
stops-for mix_stop.Over CalledClosed timely s = absurd (cc s)
stops-for mix_stop.Over (CalledNoEnd back) timely s = tt
stops-for mix_stop.Over (CalledNoTick step back) timely s = tt

ticker-ends : (stop : MixStop) (last : Called) (taken : List ℕ) (before after : Input) → TickerStops stop last taken before after
    → TickerEnds stop (last_of last) taken before after
ticker-ends mix_stop.Ticker last taken before after s = s
ticker-ends mix_stop.Sink last taken before after s = s
ticker-ends mix_stop.Whole CalledClosed taken before after s = s
ticker-ends mix_stop.Whole (CalledNoEnd back) taken before after s = s
ticker-ends mix_stop.Whole (CalledNoTick step back) taken before after s = s
ticker-ends mix_stop.Over CalledClosed taken before after s = s
ticker-ends mix_stop.Over (CalledNoEnd back) taken before after s = s
ticker-ends mix_stop.Over (CalledNoTick step back) taken before after s = s

-- ---- the ticks

module _ (lanes : ℕ) (turns : List HallTurn) (H : History) (told : StepsFrom turn_tells [] turns H) (legal : Legal lanes H) where
  -- what the mixer made is what the history has of ticks and of the end
  the-ticks : (ts : List MadeTick) (seen : List HallTurn) → IsPrefix seen turns → AllByRecursion (StandsIn lanes seen) ts
      → ticks_made ts ≡ ticks_made (ticks_in H) → ts ≡ ticks_in H
  the-ticks ts seen known stand made =
      same-ticks lanes H legal ts (ticks_in H)
      (all-map (StandsIn lanes turns) (IsAt H) (stands-at lanes turns H told) ts (all-later lanes seen turns ts known stand))
      (in-place H) made

  ticks-made : (last : Called) (taken : List ℕ) (ts : List MadeTick) (steps : List Step) (seat : HallSeat) → MakesTicks last taken ts steps seat
      → steps ≡ filter is_mixed (reverse H) → ticks_made ts ≡ ticks_made (ticks_in H)
  ticks-made CalledClosed taken ts steps seat m all = are-made H ts steps (End ∷ []) all m.1 refl
  ticks-made (CalledNoEnd back) taken ts steps seat m all =
      are-made H ts steps [] all (m.1 ∙ sym (append-nil (ticks_made ts))) refl
  ticks-made (CalledNoTick step back) taken ts steps seat m all =
      are-made H ts steps [] all (m.1 ∙ sym (append-nil (ticks_made ts))) refl

  gone : (ts : List MadeTick) → ts ≡ ticks_in H → steps_gone ts ≡ tick_steps H
  gone ts is = ap steps_gone is ∙ gone-are H

  made-so : (last : Called) (taken : List ℕ) (ts : List MadeTick) (steps : List Step) (seat : HallSeat) → IsTimely last → MakesTicks last taken ts steps seat
      → steps ≡ filter is_mixed (reverse H) → ts ≡ ticks_in H → Ticks (last_of last) taken H seat
  made-so CalledClosed taken ts steps seat timely m all is =
      (m.0 ∙ gone ts is, end-is-last lanes H legal (closed H ts steps all m.1), m.2)
  made-so (CalledNoEnd halt.Ended) taken ts steps seat timely m all is = absurd timely
  made-so (CalledNoEnd halt.Over) taken ts steps seat timely m all is =
      (m.0 ∙ gone ts is, not-ended H ts steps all m.1, m.2)
  made-so (CalledNoTick step halt.Ended) taken ts steps seat timely m all is = absurd timely
  made-so (CalledNoTick step halt.Over) taken ts steps seat timely m all is =
      (m.0 ∙ ap (λ (w : List ℕ). w ++ step ∷ []) (gone ts is), not-ended H ts steps all m.1, m.2)

  -- ---- what was written

  pub record WroteSo (stop : MixStop) (set : Settings) (whole : List MadeTick) (before after : Output) : Type 0 where
    pub history : History
    pub wrote : WroteHistory stop set lanes H history before after
    pub pictures : pictures_of lanes whole ≡ pictures_written lanes history

  wrote-all : (set : Settings) (ts whole : List MadeTick) (before after : Output) → ts ≡ ticks_in H → ts ≡ whole
      → Appends before.written after.written (out set 0 (pictures_of lanes ts)) → after.faults ≡ before.faults
      → (H ≡ H) × Appends before.written after.written (out set 0 (pictures_written lanes H)) × (after.faults ≡ before.faults)
  wrote-all set ts whole before after is same wrote kept = (
    refl,
    subst (λ (w : List (ℕ × Picture)). Appends before.written after.written (out set 0 w)) (ap (pictures_of lanes) is ∙ sym (pictures-are lanes H)) wrote,
    kept,
  )

  pictures-all : (ts whole : List MadeTick) → ts ≡ ticks_in H → ts ≡ whole → pictures_of lanes whole ≡ pictures_written lanes H
  pictures-all ts whole is same = ap (pictures_of lanes) (sym same ∙ is) ∙ sym (pictures-are lanes H)

  wrote-so : (stop : MixStop) (set : Settings) (ts whole : List MadeTick) (before after : Output) → ts ≡ ticks_in H
      → WritesTicks stop set lanes ts whole before after → WroteSo stop set whole before after
  wrote-so mix_stop.Sink set ts whole before after is w =
      let last : MadeTick = w.0 in
      let split = last-tick H whole last (sym is ∙ w.1) in
      let pictures : pictures_of lanes whole ≡ pictures_written lanes last.before =
      ap (pictures_of lanes) split.3 ∙ sym (pictures-are lanes last.before) in
      record {
        history = last.before;
        wrote = (
          last.note,
          split.0,
          split.1,
          split.2,
          subst (λ (p : List (ℕ × Picture)). HasFront set p (picture_at lanes last.before last.note) before after) pictures w.2,
        );
        pictures = pictures;
      }
  wrote-so mix_stop.Whole set ts whole before after is w =
      record { history = H; wrote = wrote-all set ts whole before after is w.0 w.1 w.2; pictures = pictures-all ts whole is w.0 }
  wrote-so mix_stop.Ticker set ts whole before after is w =
      record { history = H; wrote = wrote-all set ts whole before after is w.0 w.1 w.2; pictures = pictures-all ts whole is w.0 }
  wrote-so mix_stop.Over set ts whole before after is w =
      record { history = H; wrote = wrote-all set ts whole before after is w.0 w.1 w.2; pictures = pictures-all ts whole is w.0 }

-- ---- the whole of it

timely : (lanes : ℕ) (opening closing : HallView) (turns : List HallTurn) (seat : HallSeat) (last : Called) (taken : List ℕ) (ts : List MadeTick) (steps : List Step)
    → StandsFor opening [] → Leads lanes_of Fits HallSteps opening turns closing → length turns ≤ opening.limit
    → owned_by (owner lanes) (lanes + 1) turns ≡ made seat → Tells turn_tells (made seat) steps → MakesTicks last taken ts steps seat → IsTimely last
timely lanes opening closing turns seat CalledClosed taken ts steps opens led fits own told m = tt
timely lanes opening closing turns seat (CalledNoEnd halt.Over) taken ts steps opens led fits own told m = tt
timely lanes opening closing turns seat (CalledNoTick step halt.Over) taken ts steps opens led fits own told m = tt
timely lanes opening closing turns seat (CalledNoEnd halt.Ended) taken ts steps opens led fits own told m =
    never-late lanes opening closing turns seat ts steps opens led fits own told m.1 m.2
timely lanes opening closing turns seat (CalledNoTick step halt.Ended) taken ts steps opens led fits own told m =
    never-late lanes opening closing turns seat ts steps opens led fits own told m.1 m.2

-- the mixer's part of the whole
pub record MixerPart (lanes : ℕ) (set : Settings) (H : History) (ticker : Input) (sink : Output) (end : MixEnding) (counts : MixCounts) : Type 0
  where
    pub serves : MixerServes H ticker end
    pub whole : History
    pub wrote : WroteHistory end.stop set lanes H whole sink end.sink
    pub ticks : counts.ticks ≡ length (ticks_in H)
    pub taken : counts.taken ≡ sum_by (λ (t : MadeTick). takes_in t.note) (ticks_in H)
    pub packets : counts.packets ≡ length (sent_packets set 0 (pictures_written lanes whole))
    pub octets : counts.octets ≡ length (out set 0 (pictures_written lanes whole))

pub mixer-part : (lanes : ℕ) (set : Settings) (opening closing : HallView) (turns : List HallTurn) (H : History) (first : HallSeat)
    (ticker : Input) (sink : Output) (end : MixEnding) (counts : MixCounts)
    → StandsFor opening [] → Leads lanes_of Fits HallSteps opening turns closing → length turns ≤ opening.limit
    → StepsFrom turn_tells [] turns H → Legal lanes H → IsPrefix end.seat.seen turns → owned_by (owner lanes) (lanes + 1) turns ≡ made end.seat
    → (run : RunsMixer lanes set ticker end.ticker first end.seat sink end.sink end.stop counts)
    → run.mixes.steps ≡ filter is_mixed (reverse H) → MixerPart lanes set H ticker sink end counts
mixer-part lanes set opening closing turns H first ticker sink end counts opens led fits told legal known own run all =
    let m = run.mixes in
    let on-time : IsTimely m.last_call =
    timely lanes opening closing turns end.seat m.last_call run.taken m.ticks m.steps opens led fits own m.has_made.told m.makes in
    let is : m.ticks ≡ ticks_in H =
    the-ticks lanes turns H told legal m.ticks end.seat.seen known m.stand
    (ticks-made lanes turns H told legal m.last_call run.taken m.ticks m.steps end.seat m.makes all) in
    let wrote = wrote-so lanes turns H told legal end.stop set m.ticks m.whole sink end.sink is m.wrote in
    record {
      serves = record {
        taken = run.taken;
        given = run.given;
        last_call = last_of m.last_call;
        ticks = made-so lanes turns H told legal m.last_call run.taken m.ticks m.steps end.seat on-time m.makes all is;
        stops = stops-for end.stop m.last_call on-time m.stops;
        ends = ticker-ends end.stop m.last_call run.taken ticker end.ticker run.ticker;
      };
      whole = wrote.history;
      wrote = wrote.wrote;
      ticks = m.counted.ticks_are ∙ ap (λ (ts : List MadeTick). length ts) is;
      taken = m.counted.taken ∙ ap (sum_by (λ (t : MadeTick). takes_in t.note)) is;
      packets = m.counted.packets ∙ ap (λ (p : List (ℕ × Picture)). length (sent_packets set 0 p)) wrote.pictures;
      octets = m.counted.octets ∙ ap (λ (p : List (ℕ × Picture)). length (out set 0 p)) wrote.pictures;
    }
