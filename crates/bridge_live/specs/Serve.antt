-- What a live conference did: from what its sources and its ticker gave, through one history, to what its sink was given.
use Rattle.std.specs.Prelude.{⊤, ◌≡◌, ℕ, ◌+◌, ◌*◌, ◌≤◌, ◌==◌, Bool, true, false, if◌then◌else◌, List, [], ◌∷◌, ◌++◌, length, reverse, filter, sum, Some, IfSome}
use Rattle.std.specs.List.{AllByRecursion}
use Rattle.std.specs.Io.KnownBytes.{Consumes, Appends}
use Rattle.cif_pack.specs.declared.packer.Settings.{Settings}
use Rattle.cif_pack.specs.Packets.{out}
use Rattle.cif_pack.specs.declared.tally.Tally.{Tally}
use Rattle.cif_pack.specs.PicturesWritten.{pictures_written, picture_at}
use Rattle.cif_pack.specs.Tallies.{tally_of, one_if}
use Rattle.cif_pack.specs.State.{HasFront}
use Rattle.hall_core.specs.Hall.{HallView, lanes_of}
use Rattle.hall_core.specs.Machine.{Fits, HallSteps, turn_tells}
use Rattle.hall_core.specs.Stands.{StandsFor}
use Rattle.io_edge.specs.Causes.{Rose}
use Rattle.io_edge.specs.Outside.{Input, Output}
use Rattle.pel_model.specs.declared.note.TickNote.{TickNote}
use Rattle.pel_model.specs.Headline.{Headline}
use Rattle.pel_model.specs.History.{Step, Post, Gap, Order, Tick, End, History, has_ended}
use Rattle.pel_model.specs.Legal.{Legal}
use Rattle.rtp_wire.specs.Frames.{IsStream}
use Rattle.hall_lock.specs.Sorting.{SharedOut}
use Rattle.hall_lock.specs.Turns.{Leads}
use Rattle.hall_lock.specs.Telling.{StepsFrom}
use Rattle.bridge_live.specs.declared.calls.Halt.TheVariants as halt
use Rattle.bridge_live.specs.declared.ends.MixStop.{MixStop}
use Rattle.bridge_live.specs.declared.ends.MixStop.TheVariants.{Whole, Sink, Ticker, Over}
use Rattle.bridge_live.specs.Chair.{RunsChair}
use Rattle.bridge_live.specs.Endings.{HandedIn, LaneEnding, ChairEnding, MixEnding, Ending, seats_of}
use Rattle.bridge_live.specs.Lane.{RunsLane}
use Rattle.bridge_live.specs.Lines.{line_feed}
use Rattle.bridge_live.specs.Worker.{HallSeat, owner, IsNew, IsUnderWay, HasHalted}

-- ---- whose steps they are, the first of them first

abbrev pub is_of_lane : ℕ → Step → Bool
is_of_lane lane (Post c picture) = c == lane
is_of_lane lane (Gap c) = c == lane
is_of_lane lane _ = false

abbrev pub lane_steps : ℕ → History → List Step
lane_steps lane history = filter (is_of_lane lane) (reverse history)

abbrev pub is_order : Step → Bool
is_order (Order command reply) = true
is_order _ = false

abbrev pub chair_steps : History → List Step
chair_steps history = filter is_order (reverse history)

-- the last step of the history is this one
abbrev pub EndsWith : Step → History → Type 0
EndsWith s history = (before : History) × (history ≡ s ∷ before)

-- how far each tick went, in picture times
abbrev pub tick_steps : History → List ℕ
tick_steps [] = []
tick_steps (Tick note ∷ history) = tick_steps history ++ note.step ∷ []
tick_steps (_ ∷ history) = tick_steps history

-- ---- the lanes and the chair

-- the lane's worker ran from a seat with which no call was made, and the steps that it made are all that the history has of
-- its lane
pub record LaneServes (lanes lane : ℕ) (history : History) (before : Input) (end : LaneEnding) : Type 0 where
  pub first : HallSeat
  pub new : IsNew first
  pub runs : RunsLane lanes lane before end.source first end.seat end.stop end.counts
  pub steps_are : runs.steps ≡ lane_steps lane history

-- each lane from this one on
abbrev pub LanesServe : (lanes lane : ℕ) → History → List Input → List LaneEnding → Type 0
LanesServe lanes lane history [] [] = ⊤
LanesServe lanes lane history (before ∷ befores) (end ∷ ends) =
    LaneServes lanes lane history before end × LanesServe lanes (lane + 1) history befores ends
LanesServe lanes lane history _ _ = ⊥

-- the chair's worker likewise, and the history has no other commands
pub record ChairServes (lanes : ℕ) (history : History) (before : Input) (end : ChairEnding) : Type 0 where
  pub first : HallSeat
  pub new : IsNew first
  pub runs : RunsChair lanes before end.source first end.seat end.stop end.counts
  pub steps_are : runs.steps ≡ chair_steps history

-- ---- the mixer

-- the last call: the end, which was made, or was given back, since all turns were drawn; or a tick of so many picture times,
-- which was given back for that
pub data LastCall : Type 0 where
  Closed : LastCall
  NoEnd : LastCall
  NoTick : ℕ → LastCall

-- the ticks are one for each step that was taken from the ticker, and the end is the last step of all; or there is no end; or
-- the last step has no tick either
abbrev pub Ticks : LastCall → (taken : List ℕ) → History → HallSeat → Type 0
Ticks Closed taken history seat =
    (taken ≡ tick_steps history) × EndsWith End history × IsUnderWay seat
Ticks NoEnd taken history seat =
    (taken ≡ tick_steps history) × (has_ended history ≡ false) × HasHalted halt.Over seat
Ticks (NoTick step) taken history seat =
    (taken ≡ tick_steps history ++ step ∷ []) × (has_ended history ≡ false) × HasHalted halt.Over seat

-- The mixer stopped for its sink or its ticker where one of them failed, and then called for the end, whatever became of that
-- call. Else it stopped for all turns being drawn exactly where its last call was given back for that.
abbrev pub IsStopOf : MixStop → LastCall → Type 0
IsStopOf Sink (NoTick step) = ⊥
IsStopOf Sink _ = ⊤
IsStopOf Ticker (NoTick step) = ⊥
IsStopOf Ticker _ = ⊤
IsStopOf Whole Closed = ⊤
IsStopOf Whole _ = ⊥
IsStopOf Over Closed = ⊥
IsStopOf Over _ = ⊤

-- Why no step more was taken from the ticker, where it tells what it has left: it failed; or the sink did; or a tick was given
-- back; or all its steps were taken.
abbrev pub TickerEnds : MixStop → LastCall → (taken : List ℕ) → (before after : Input) → Type 0
TickerEnds Ticker last taken before after = Rose before.faults after.faults
TickerEnds Sink last taken before after = after.faults ≡ before.faults
TickerEnds _ (NoTick step) taken before after = after.faults ≡ before.faults
TickerEnds _ _ taken before after =
    IfSome before.left (λ steps. steps ≡ taken) × (after.faults ≡ before.faults)

pub record MixerServes (history : History) (before : Input) (end : MixEnding) : Type 0 where
  pub taken : List ℕ
  pub given : Consumes before.left end.ticker.left taken
  pub last_call : LastCall
  pub ticks : Ticks last_call taken history end.seat
  pub stops : IsStopOf end.stop last_call
  pub ends : TickerEnds end.stop last_call taken before end.ticker

-- The sink was given the packets of the picture of every tick, in order, each in its frame. Where it failed, it did so at the
-- last tick: what it was given is a front of that and not all, and has all that comes before the tick's own packets. The
-- pictures of the ticks of `whole` were written whole.
abbrev pub WroteHistory : MixStop → Settings → (lanes : ℕ) → (history whole : History) → (before after : Output) → Type 0
WroteHistory Sink set lanes history whole before after =
    (note : TickNote) × (later : History) × (history ≡ later ++ Tick note ∷ whole) × (tick_steps later ≡ [])
    × HasFront set (pictures_written lanes whole) (picture_at lanes whole note) before after
WroteHistory _ set lanes history whole before after =
    (history ≡ whole) × Appends before.written after.written (out set 0 (pictures_written lanes history))
    × (after.faults ≡ before.faults)

-- ---- the whole of it

-- a live conference of so many turns at most
pub record Serves (set : Settings) (turns : ℕ) (given : HandedIn) (end : Ending) (tally : Tally) : Type 0 where
  -- the history that the turns tell, for which the hall stands then; it keeps the rules of a conference
  pub history : History
  pub told : StepsFrom turn_tells [] end.turns history
  pub legal : Legal (length given.lanes) history
  pub stands : StandsFor end.hall history
  pub lanes_are : lanes_of end.hall ≡ length given.lanes
  pub number : (end.number ≡ length end.turns) × (end.number ≤ turns)
  -- the turns lead by the hall's own steps from one of which no step was made, which may make so many steps, to the closing one
  pub opening : HallView
  pub opens : StandsFor opening []
  pub limit : opening.limit ≡ turns
  pub leads : Leads lanes_of Fits HallSteps opening end.turns end.hall
  -- each turn is one that one worker's seat made
  pub shared : SharedOut (owner (length given.lanes)) end.turns (seats_of end)
  -- what each worker made of what it was given
  pub lanes : LanesServe (length given.lanes) 0 history given.lanes end.lanes
  pub chair : ChairServes (length given.lanes) history given.chair end.chair
  pub mixer : MixerServes history given.ticker end.mixer
  -- a call was given back since all turns were drawn only where as many were made as the conference may have; and since no
  -- step may follow only where the end is the last step
  pub full : AllByRecursion (λ (s : HallSeat). s.full ≡ true → end.number ≡ turns) (seats_of end)
  pub ended : AllByRecursion (λ (s : HallSeat). HasHalted halt.Ended s → EndsWith End history) (seats_of end)
  -- what was written; and what was counted
  pub whole : History
  pub wrote : WroteHistory end.mixer.stop set (length given.lanes) history whole given.sink end.mixer.sink
  pub counted : tally ≡ tally_of set (length given.lanes) history whole
  -- at every tick: a legal CIF picture is written, and each place shows what its sender's own decoder shows behind the
  -- picture that was taken, or what it showed before
  pub headline : Headline (length given.lanes) history

-- ---- a conference that has turns enough

-- the lines of octets: one for each LF, and one for what stands behind the last LF, if anything does
abbrev pub line_count_from : (begun : Bool) → List ℕ → ℕ
line_count_from begun [] = one_if begun
line_count_from begun (octet ∷ octets) =
    if octet == line_feed then 1 + line_count_from false octets else line_count_from true octets

abbrev pub line_count : List ℕ → ℕ
line_count octets = line_count_from false octets

-- the sources of the lanes tell their octets, which have so many frames
abbrev pub TellFrames : List Input → List ℕ → Type 0
TellFrames [] [] = ⊤
TellFrames (input ∷ inputs) (frames ∷ more) =
    ((octets : List ℕ) × (packets : List (List ℕ)) × (rest : List ℕ) × (input.left ≡ Some octets)
    × IsStream octets packets rest × (frames ≡ length packets))
    × TellFrames inputs more
TellFrames _ _ = ⊥

-- Where the sources and the ticker tell what they have, neither the ticker nor the sink fails, and there are two turns for
-- each frame, one for each lane, one for each line, one for each step, and one more, the mixer has made all its steps.
abbrev pub IsServedWhole : (turns : ℕ) → HandedIn → Ending → Type 0
IsServedWhole turns given end =
    (frames : List ℕ) (line_octets steps : List ℕ) → TellFrames given.lanes frames → given.chair.left ≡ Some line_octets
    → given.ticker.left ≡ Some steps
    → 2 * sum frames + length given.lanes + line_count line_octets + length steps + 1 ≤ turns
    → (Rose given.ticker.faults end.mixer.ticker.faults → ⊥)
    → (Rose given.sink.faults end.mixer.sink.faults → ⊥)
    → end.mixer.stop ≡ Whole
