-- What the worker of the mixer does: a tick for each step that its ticker gives, whose picture it writes, and then the end.
use Rattle.std.specs.Prelude.{⊤, ◌≡◌, ℕ, ◌+◌, List, [], ◌∷◌, ◌++◌, length, map, sum_by, Option, IfSome}
use Rattle.std.specs.List.{AllByRecursion}
use Rattle.std.specs.Io.KnownBytes.{Consumes, Appends}
use Rattle.cif_pack.specs.declared.packer.Settings.{Settings}
use Rattle.cif_pack.specs.Packets.{sent_packets, out}
use Rattle.cif_pack.specs.PicturesWritten.{picture_at}
use Rattle.cif_pack.specs.Tallies.{takes_in}
use Rattle.cif_pack.specs.State.{HasFront}
use Rattle.hall_core.specs.declared.machine.HallCall.{HallCall}
use Rattle.hall_core.specs.declared.machine.HallReply.{HallReply}
use Rattle.hall_core.specs.Machine.{turn_tells}
use Rattle.hall_lock.specs.declared.view.Turn.{Turn}
use Rattle.io_edge.specs.Causes.{Rose}
use Rattle.io_edge.specs.Outside.{Input, Output}
use Rattle.pel_model.specs.declared.note.TickNote.{TickNote}
use Rattle.pel_model.specs.History.{Step, History, Tick, End}
use Rattle.pel_model.specs.Legal.{Legal}
use Rattle.pel_model.specs.Records.{Picture}
use Rattle.hall_lock.specs.Telling.{StepsFrom}
use Rattle.bridge_live.specs.declared.calls.Halt.{Halt}
use Rattle.bridge_live.specs.declared.calls.Halt.TheVariants as halt
use Rattle.bridge_live.specs.declared.ends.MixStop.{MixStop}
use Rattle.bridge_live.specs.declared.ends.MixStop.TheVariants as mix_stop
use Rattle.bridge_live.specs.declared.mixer.MixCounts.{MixCounts}
use Rattle.bridge_live.specs.Worker.{HallSeat, HasMade, IsUnderWay, HasHalted}

-- ---- ticks

-- a tick that was made: what was told of it, and the history of the conference before it
pub record MadeTick : Type 0 where
  pub before : History
  pub note : TickNote

-- It is one of these turns at the hall's lock: those before it tell the history before it, and it keeps the rules of a
-- conference of so many lanes.
pub record StandsIn (lanes : ℕ) (turns : List (Turn HallCall HallReply)) (tick : MadeTick) : Type 0 where
  pub front : List (Turn HallCall HallReply)
  pub turn : Turn HallCall HallReply
  pub later : List (Turn HallCall HallReply)
  pub cut : turns ≡ front ++ turn ∷ later
  pub history : StepsFrom turn_tells [] front tick.before
  pub tells : turn_tells turn (Tick tick.note ∷ [])
  pub legal : Legal lanes (Tick tick.note ∷ tick.before)

-- how far each went, in picture times
abbrev pub steps_gone : List MadeTick → List ℕ
steps_gone ticks = map (λ (t : MadeTick). t.note.step) ticks

-- the steps of the conference that they are
abbrev pub ticks_made : List MadeTick → List Step
ticks_made ticks = map (λ (t : MadeTick). Tick t.note) ticks

-- the picture that each writes, with the sum of the steps of all ticks up to it
abbrev pub pictures_of : ℕ → List MadeTick → List (ℕ × Picture)
pictures_of lanes ticks = map (λ (t : MadeTick). picture_at lanes t.before t.note) ticks

-- ---- what was made at the lock

-- the last call: the end, which was made or given back; or a tick of so many picture times, which was given back
pub data LastCall : Type 0 where
  Closed : LastCall
  NoEnd : Halt → LastCall
  NoTick : ℕ → Halt → LastCall

-- a tick for each step that was taken from the ticker, and the end behind them; or all but the last call, which was given
-- back
abbrev pub MakesTicks : LastCall → (taken : List ℕ) → List MadeTick → List Step → HallSeat → Type 0
MakesTicks Closed taken ticks steps seat =
    (taken ≡ steps_gone ticks) × (steps ≡ ticks_made ticks ++ End ∷ []) × IsUnderWay seat
MakesTicks (NoEnd back) taken ticks steps seat =
    (taken ≡ steps_gone ticks) × (steps ≡ ticks_made ticks) × HasHalted back seat
MakesTicks (NoTick step back) taken ticks steps seat =
    (taken ≡ steps_gone ticks ++ step ∷ []) × (steps ≡ ticks_made ticks) × HasHalted back seat

-- ---- why the mixer stopped

-- the end was called for, whatever the answer
abbrev pub CalledEnd : LastCall → Type 0
CalledEnd (NoTick step back) = ⊥
CalledEnd _ = ⊤

-- all turns were drawn before the last call; or not
abbrev pub stop_by : LastCall → MixStop
stop_by Closed = mix_stop.Whole
stop_by (NoEnd halt.Ended) = mix_stop.Whole
stop_by (NoEnd halt.Over) = mix_stop.Over
stop_by (NoTick step halt.Ended) = mix_stop.Whole
stop_by (NoTick step halt.Over) = mix_stop.Over

-- Where the sink or the ticker failed, the end was called for. Else the last call tells the stop.
abbrev pub StopsBy : MixStop → LastCall → Type 0
StopsBy mix_stop.Sink last = CalledEnd last
StopsBy mix_stop.Ticker last = CalledEnd last
StopsBy stop last = stop ≡ stop_by last

-- why no step more was taken from the ticker, whose steps are what it has left: it failed; or it did not, and where neither
-- it nor the sink failed and no tick was given back, all its steps were taken
abbrev pub TickerStops : MixStop → LastCall → (taken : List ℕ) → (before after : Input) → Type 0
TickerStops mix_stop.Ticker last taken before after = Rose before.faults after.faults
TickerStops mix_stop.Sink last taken before after = after.faults ≡ before.faults
TickerStops _ (NoTick step back) taken before after = after.faults ≡ before.faults
TickerStops _ _ taken before after =
    IfSome before.left (λ steps. steps ≡ taken) × (after.faults ≡ before.faults)

-- ---- what was written

-- The packets of the pictures of all ticks, in order, each in its frame. Where the sink failed, it did so at the last tick:
-- what it was given is a front of that and not all, and has all packets of the ticks before.
abbrev pub WritesTicks : MixStop → Settings → (lanes : ℕ) → (ticks whole : List MadeTick) → (before after : Output) → Type 0
WritesTicks mix_stop.Sink set lanes ticks whole before after =
    (last : MadeTick) × (ticks ≡ whole ++ last ∷ [])
    × HasFront set (pictures_of lanes whole) (picture_at lanes last.before last.note) before after
WritesTicks _ set lanes ticks whole before after =
    (ticks ≡ whole) × Appends before.written after.written (out set 0 (pictures_of lanes ticks))
    × (after.faults ≡ before.faults)

-- the ticks, the pictures that they took, and the packets and octets of the pictures that were written whole
pub record IsMixCounted (counts : MixCounts) (set : Settings) (lanes : ℕ) (ticks whole : List MadeTick) : Type 0 where
  pub ticks_are : counts.ticks ≡ length ticks
  pub taken : counts.taken ≡ sum_by (λ (t : MadeTick). takes_in t.note) ticks
  pub packets : counts.packets ≡ length (sent_packets set 0 (pictures_of lanes whole))
  pub octets : counts.octets ≡ length (out set 0 (pictures_of lanes whole))

-- ---- the whole of it

-- what the mixer made of these steps of its ticker, and wrote
pub record Mixes (lanes : ℕ) (set : Settings) (taken : List ℕ) (first last : HallSeat) (before after : Output)
    (stop : MixStop) (counts : MixCounts) : Type 0 where
  -- its ticks stand in the history that its seat has seen
  pub ticks : List MadeTick
  pub stand : AllByRecursion (StandsIn lanes last.seen) ticks
  -- what it made at the lock, by its last call
  pub last_call : LastCall
  pub stops : StopsBy stop last_call
  pub steps : List Step
  pub has_made : HasMade lanes (lanes + 1) first last steps
  pub makes : MakesTicks last_call taken ticks steps last
  -- the ticks whose pictures were written whole, and what was written
  pub whole : List MadeTick
  pub wrote : WritesTicks stop set lanes ticks whole before after
  pub counted : IsMixCounted counts set lanes ticks whole

-- the mixer's worker from its beginning to its stop, in a conference of so many lanes
pub record RunsMixer (lanes : ℕ) (set : Settings) (ticker_before ticker_after : Input) (first last : HallSeat)
    (before after : Output) (stop : MixStop) (counts : MixCounts) : Type 0 where
  -- the steps that were taken from the ticker
  pub taken : List ℕ
  pub given : Consumes ticker_before.left ticker_after.left taken
  -- what was made of them, and why no more were
  pub mixes : Mixes lanes set taken first last before after stop counts
  pub ticker : TickerStops stop mixes.last_call taken ticker_before ticker_after
