-- Inner contracts alone use this; nothing here has to be believed.
-- The mixer at the lock: what it makes and writes of one step, and what it has made so far.
use Rattle.std.specs.Prelude.{⊤, ◌≡◌, ℕ, ◌+◌, ◌*◌, ◌^◌, ◌<◌, ◌≤◌, false, List, [], ◌∷◌, ◌++◌, length, sum_by, Option, Result, Ok, Err, IfOk, OnOk, OnErr}
use Rattle.std.specs.List.{AllByRecursion}
use Rattle.std.specs.Io.KnownBytes.{Consumes, Keeps, IsAtEnd}
use mathlib.Core.List.{IsPrefix}
use Rattle.cif_mix.specs.Taken.{Took}
use Rattle.cif_pack.specs.declared.packer.Sent.{Sent}
use Rattle.cif_pack.specs.declared.packer.Settings.{Settings}
use Rattle.cif_pack.specs.State.{HasSent, HasFront}
use Rattle.cif_pack.specs.PicturesWritten.{picture_at}
use Rattle.cif_pack.specs.Tallies.{takes_in}
use Rattle.h261_pic.specs.declared.hand.Hand.{Hand}
use Rattle.hall_core.specs.declared.machine.HallCall.{HallCall}
use Rattle.hall_core.specs.declared.machine.HallReply.{HallReply}
use Rattle.hall_core.specs.declared.machine.HallReply.TheVariants.{Ticked}
use Rattle.hall_core.specs.Hall.{HallView, lanes_of}
use Rattle.hall_core.specs.Stands.{StandsFor, IsQcifHand}
use Rattle.hall_lock.specs.declared.view.Turn.{Turn}
use Rattle.hall_lock.specs.Seats.{Lock, IsOf}
use Rattle.io_edge.specs.declared.edges.Failed.{Failed}
use Rattle.io_edge.specs.Causes.{Rose, HasCause}
use Rattle.io_edge.specs.Ticks.{IsStep}
use Rattle.io_edge.specs.Outside.{Input, Output}
use Rattle.pel_model.specs.History.{Step, History, Tick, End}
use Rattle.pel_model.specs.Records.{Picture}
use Rattle.bridge_live.specs.declared.calls.Halt.{Halt}
use Rattle.bridge_live.specs.declared.calls.Halt.TheVariants as halt
use Rattle.bridge_live.specs.declared.ends.MixStop.{MixStop}
use Rattle.bridge_live.specs.declared.ends.MixStop.TheVariants as mix_stop
use Rattle.bridge_live.specs.declared.mixer.MixCounts.{MixCounts}
use Rattle.bridge_live.specs.declared.mixer.Mixer.{Mixer}
use Rattle.bridge_live.specs.declared.mixer.Quiet.{Quiet}
use Rattle.bridge_live.specs.declared.mixer.Quiet.TheVariants as quiet
use Rattle.bridge_live.specs.declared.mixer.Taken.{Taken}
use Rattle.bridge_live.specs.Mixer.{MadeTick, StandsIn, steps_gone, ticks_made, pictures_of, LastCall, Closed, NoEnd, NoTick, Mixes, RunsMixer}
use Rattle.bridge_live.specs.Sending.{MaySend}
use Rattle.bridge_live.specs.Worker.{HallSeat, IsNew, HasMade, IsUnderWay, HasHalted}

-- ---- bounds

-- the most turns of a lock, and so the most pictures
abbrev pub most_turns : ℕ
most_turns = 2 ^ 45

-- the most packets and octets of a picture; for so many turns their sums are below 2 ^ 64
abbrev pub most_packets : ℕ
most_packets = 396

abbrev pub most_picture_octets : ℕ
most_picture_octets = 2 ^ 16

-- the mixer may call, at the lock of a hall of which no step was made, for as many turns as its counts have room for
pub record MayMix (lock : Lock HallView) (mixer : Mixer) : Type 0 where
  pub at_lock : IsOf lock mixer.seat
  pub opens : StandsFor lock.opening []
  pub limit : lock.opening.limit ≤ most_turns
  pub turns : lock.turns ≤ most_turns

-- ---- the ticker

-- a step was taken, or why there was none
abbrev pub TakesTickStep : (old new : Input) → Result ℕ Quiet → Type 0
TakesTickStep old new (Ok step) = Consumes old.left new.left (step ∷ []) × IsStep step × (new.faults ≡ old.faults)
TakesTickStep old new (Err quiet.AtEnd) = Keeps old.left new.left × IsAtEnd old.left × (new.faults ≡ old.faults)
TakesTickStep old new (Err quiet.Failing) = Keeps old.left new.left × Rose old.faults new.faults

-- ---- a tick at the lock

-- a tick is in the reply
abbrev pub HoldsTick : HallReply → Type 0
HoldsTick (Ticked note hand) = ⊤
HoldsTick _ = ⊥

-- the tick stands in the turns that were seen, and its hand has what it took
pub record TookStep (lanes step : ℕ) (seen : List (Turn HallCall HallReply)) (taken : Taken) (before : History) : Type 0 where
  pub took : Took lanes before taken.note taken.hand
  pub step_is : taken.note.step ≡ step
  pub stands : StandsIn lanes seen (record { before = before; note = taken.note })
  pub total : taken.note.total ≤ 2 ^ 50

-- a call with the seat made this step, or none
abbrev pub MakesOne :
    {T : Type 0} → (lanes : ℕ) → (T → Step) → (first : HallSeat) → List Step → (new : HallSeat) → Result T Halt → Type 0
MakesOne lanes f first steps new (Ok x) = HasMade lanes (lanes + 1) first new (steps ++ f x ∷ []) × IsUnderWay new
MakesOne lanes f first steps new (Err back) = HasMade lanes (lanes + 1) first new steps × HasHalted back new

-- ---- between two steps

-- the mixer may go on, and its counts are small, but for so many pictures that are still to be written
pub record HasMixRoom (lock : Lock HallView) (due : ℕ) (mixer : Mixer) : Type 0 where
  pub few : mixer.counts.ticks ≤ lock.turns
  pub few_taken : mixer.counts.taken ≤ 4 * mixer.counts.ticks
  pub few_packets : mixer.counts.packets + most_packets * due ≤ most_packets * mixer.counts.ticks
  pub few_octets : mixer.counts.octets + most_picture_octets * due ≤ most_picture_octets * mixer.counts.ticks
  pub usable : mixer.writer.spent ≡ false
  pub live : IsUnderWay mixer.seat
  pub first : HallSeat
  pub steps : List Step
  pub has_made : HasMade (lanes_of lock.opening) (lanes_of lock.opening + 1) first mixer.seat steps
  pub counted : mixer.counts.ticks ≡ length steps

-- a picture more may be counted
pub record HasCountRoom (mixer : Mixer) : Type 0 where
  pub packets : mixer.counts.packets + most_packets < 2 ^ 64
  pub octets : mixer.counts.octets + most_picture_octets < 2 ^ 64

-- a picture was counted
pub record GrowsByOne (old new : Mixer) : Type 0 where
  pub ticks : new.counts.ticks ≡ old.counts.ticks
  pub taken : new.counts.taken ≡ old.counts.taken
  pub packets : new.counts.packets ≤ old.counts.packets + most_packets
  pub octets : new.counts.octets ≤ old.counts.octets + most_picture_octets
  pub usable : new.writer.spent ≡ false

-- the packets and octets that were counted
abbrev pub sent_by : MixCounts → Sent
sent_by counts = record { packets = counts.packets; octets = counts.octets }

-- a picture more was written behind these; or the sink failed at it
abbrev pub WritesOne :
    Settings → List (ℕ × Picture) → (next : ℕ × Picture) → (first now : Output) → (new : Mixer) → Result Unit Failed → Type 0
WritesOne set pictures next first now new (Ok _) =
    HasSent set (pictures ++ next ∷ []) new.writer (sent_by new.counts) first now
WritesOne set pictures next first now new (Err _) = HasFront set pictures next first now

-- the mixer may make a tick of so many picture times
pub record MayTick (lock : Lock HallView) (step : ℕ) (hand : Hand) (mixer : Mixer) : Type 0 where
  pub may : MayMix lock mixer
  pub room : HasMixRoom lock 0 mixer
  pub step_is : IsStep step
  pub qcif : IsQcifHand hand

-- it made it, and counted it, and its picture is still to be written; or it was given back
pub record MakesTick (lock : Lock HallView) (step : ℕ) (old new : Mixer) (result : Result Taken Halt) : Type 0 where
  pub may : MayMix lock new
  pub room : OnOk result (HasMixRoom lock 1 new)
  pub hand : IfOk result (λ taken. IsQcifHand taken.hand)
  pub took : IfOk result (λ taken. (before : History) × TookStep (lanes_of lock.opening) step new.seat.seen taken before)
  pub counts : IfOk result (λ taken. new.counts ≡ record old.counts {
    ticks = old.counts.ticks + 1;
    taken = old.counts.taken + takes_in taken.note;
  })
  pub kept : OnErr result (new.counts ≡ old.counts)
  pub writer : new.writer ≡ old.writer
  pub grows : IsPrefix old.seat.seen new.seat.seen
  pub makes : (first : HallSeat) (steps : List Step) →
      HasMade (lanes_of lock.opening) (lanes_of lock.opening + 1) first old.seat steps →
      MakesOne (lanes_of lock.opening) (λ taken. Tick taken.note) first steps new.seat result

-- the picture of a tick may be written
pub record MayWrite (taken : Taken) (mixer : Mixer) : Type 0 where
  pub may : MaySend taken.note taken.hand mixer.writer
  pub room : HasCountRoom mixer

-- it was written, or the sink failed at it
pub record WritesTick (taken : Taken) (sink now : Output) (old new : Mixer) (result : Result Unit Failed) : Type 0 where
  pub grows : OnOk result (GrowsByOne old new)
  pub seat : new.seat ≡ old.seat
  pub kept : OnErr result (new.counts ≡ old.counts)
  pub writes : (lanes : ℕ) (before : History) → Took lanes before taken.note taken.hand →
      (set : Settings) (pictures : List (ℕ × Picture)) (first : Output) →
      HasSent set pictures old.writer (sent_by old.counts) first sink →
      WritesOne set pictures (picture_at lanes before taken.note) first now new result
  pub cause : HasCause sink.faults now.faults result

-- the end may be called for
pub record MayFinish (lock : Lock HallView) (mixer : Mixer) : Type 0 where
  pub may : MayMix lock mixer
  pub live : IsUnderWay mixer.seat

-- the end was called for
pub record Finishes (lock : Lock HallView) (old new : Mixer) (result : Result Unit Halt) : Type 0 where
  pub may : MayMix lock new
  pub counts : new.counts ≡ old.counts
  pub grows : IsPrefix old.seat.seen new.seat.seen
  pub makes : (first : HallSeat) (steps : List Step) →
      HasMade (lanes_of lock.opening) (lanes_of lock.opening + 1) first old.seat steps →
      MakesOne (lanes_of lock.opening) (λ _. End) first steps new.seat result

-- a tick for each of these steps was made, and its picture written
pub record HasMixed (lanes : ℕ) (set : Settings) (taken : List ℕ) (first : HallSeat) (before now : Output) (mixer : Mixer) : Type 0
  where
    pub ticks : List MadeTick
    pub gone : taken ≡ steps_gone ticks
    pub stand : AllByRecursion (StandsIn lanes mixer.seat.seen) ticks
    pub has_made : HasMade lanes (lanes + 1) first mixer.seat (ticks_made ticks)
    pub sent : HasSent set (pictures_of lanes ticks) mixer.writer (sent_by mixer.counts) before now
    pub ticks_are : mixer.counts.ticks ≡ length ticks
    pub takes_are : mixer.counts.taken ≡ sum_by (λ (t : MadeTick). takes_in t.note) ticks

-- what the last call can be where the mixer stopped behind a step that its ticker gave
abbrev pub StopsBehind : MixStop → LastCall → Type 0
StopsBehind mix_stop.Sink last = ⊤
StopsBehind mix_stop.Ticker last = ⊥
StopsBehind _ (NoTick step back) = ⊤
StopsBehind _ _ = ⊥

-- a tick was made and its picture written, or the mixer stopped
abbrev pub MixRounds :
    {T : Type 0} → (lock : Lock HallView) → Settings → (taken : List ℕ) → (first : HallSeat) → (before now : Output)
    → (ticks : ℕ) → Mixer → Result T MixStop → Type 0
MixRounds lock set taken first before now ticks new (Ok _) =
    HasMixed (lanes_of lock.opening) set taken first before now new × (ticks < new.counts.ticks)
MixRounds lock set taken first before now ticks new (Err stop) =
    (m : Mixes (lanes_of lock.opening) set taken first new.seat before now stop new.counts) × StopsBehind stop m.last_call

-- a tick was called for, and its picture written, or the mixer stopped
pub record MixesOne (lock : Lock HallView) (step : ℕ) (sink now : Output) (old new : Mixer) (result : Result Hand MixStop) :
    Type 0 where
  pub may : MayMix lock new
  pub room : OnOk result (HasMixRoom lock 0 new)
  pub hand : IfOk result IsQcifHand
  pub rounds : (set : Settings) (taken : List ℕ) (first : HallSeat) (before : Output) →
      HasMixed (lanes_of lock.opening) set taken first before sink old →
      MixRounds lock set (taken ++ step ∷ []) first before now old.counts.ticks new result

-- ---- stops

abbrev pub mix_stop_for : Halt → MixStop
mix_stop_for halt.Ended = mix_stop.Whole
mix_stop_for halt.Over = mix_stop.Over

-- the last call, where the end was called for
abbrev pub last_call_of : Result Unit Halt → LastCall
last_call_of (Ok _) = Closed
last_call_of (Err back) = NoEnd back

-- the stop where the ticker had no step left
abbrev pub last_stop : Result Unit Halt → MixStop
last_stop (Ok _) = mix_stop.Whole
last_stop (Err back) = mix_stop_for back

abbrev pub stop_at : Quiet → Result Unit Halt → MixStop
stop_at quiet.AtEnd last = last_stop last
stop_at quiet.Failing last = mix_stop.Ticker

-- the end was called for, behind all ticks
abbrev pub Closes :
    (lanes : ℕ) → Settings → (taken : List ℕ) → (first : HallSeat) → (before now : Output) → Mixer → Quiet → MixStop → Type 0
Closes lanes set taken first before now new quiet stop =
    (last : Result Unit Halt) × (stop ≡ stop_at quiet last)
    × ((m : Mixes lanes set taken first new.seat before now stop new.counts) × (m.last_call ≡ last_call_of last))

-- a step was taken and its picture written, or the mixer stopped
abbrev pub StepsOn :
    {T : Type 0} → (lock : Lock HallView) → Settings → (ticker_before ticker_now : Input) → (first : HallSeat)
    → (before now : Output) → (ticks : ℕ) → Mixer → Result T MixStop → Type 0
StepsOn lock set ticker_before ticker_now first before now ticks new (Ok _) =
    (taken : List ℕ) × Consumes ticker_before.left ticker_now.left taken × (ticker_now.faults ≡ ticker_before.faults)
    × HasMixed (lanes_of lock.opening) set taken first before now new × (ticks < new.counts.ticks)
StepsOn lock set ticker_before ticker_now first before now ticks new (Err stop) =
    RunsMixer (lanes_of lock.opening) set ticker_before ticker_now first new.seat before now stop new.counts

-- the ticker gave no step, and the end was called for
pub record StopsQuiet (lock : Lock HallView) (quiet : Quiet) (old new : Mixer) (stop : MixStop) : Type 0 where
  pub may : MayMix lock new
  pub closes : (set : Settings) (taken : List ℕ) (first : HallSeat) (before now : Output) →
      HasMixed (lanes_of lock.opening) set taken first before now old →
      Closes (lanes_of lock.opening) set taken first before now new quiet stop

-- the next step may be taken
pub record MayStep (lock : Lock HallView) (hand : Hand) (mixer : Mixer) : Type 0 where
  pub may : MayMix lock mixer
  pub room : HasMixRoom lock 0 mixer
  pub qcif : IsQcifHand hand

-- one was taken, and the picture of its tick written, or the mixer stopped
pub record StepsOnce (lock : Lock HallView) (ticker rest : Input) (sink now : Output) (old new : Mixer)
    (result : Result Hand MixStop) : Type 0 where
  pub may : MayMix lock new
  pub room : OnOk result (HasMixRoom lock 0 new)
  pub hand : IfOk result IsQcifHand
  pub steps : (set : Settings) (begun : Input) (taken : List ℕ) (first : HallSeat) (before : Output) →
      Consumes begun.left ticker.left taken → ticker.faults ≡ begun.faults →
      HasMixed (lanes_of lock.opening) set taken first before sink old →
      StepsOn lock set begun rest first before now old.counts.ticks new result

-- ---- the mixer's worker

pub record MixBegins (lock : Lock HallView) (mixer : Mixer) (hand : Hand) : Type 0 where
  pub may : MayMix lock mixer
  pub seat : IsNew mixer.seat
  pub usable : mixer.writer.spent ≡ false
  pub seq : mixer.writer.settings.seq < 2 ^ 16
  pub counts : mixer.counts ≡ record { ticks = 0; taken = 0; packets = 0; octets = 0 }
  pub qcif : IsQcifHand hand

pub record RanMixer (lock : Lock HallView) (ticker rest : Input) (sink now : Output) (old new : Mixer) (stop : MixStop) :
    Type 0 where
  pub may : MayMix lock new
  pub runs : RunsMixer (lanes_of lock.opening) old.writer.settings ticker rest old.seat new.seat sink now stop new.counts
