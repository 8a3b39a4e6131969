-- Inner contracts alone use this; nothing here has to be believed.
-- What is known behind all joins and the end of the lock: what each worker knows of its own calls, that the seats have the
-- history between them, and where the hall stands.
use Rattle.std.specs.Prelude.{⊤, ◌≡◌, ℕ, ◌+◌, ◌≤◌, true, List, [], ◌∷◌, length, sum_by}
use Rattle.std.specs.List.{AllByRecursion}
use mathlib.Core.List.{IsPrefix}
use Rattle.cif_pack.specs.declared.packer.Settings.{Settings}
use Rattle.cif_pack.specs.declared.tally.Tally.{Tally}
use Rattle.hall_core.specs.Hall.{HallView, lanes_of}
use Rattle.hall_core.specs.Machine.{Fits, HallSteps}
use Rattle.hall_core.specs.Stands.{StandsFor}
use Rattle.hall_lock.specs.Turns.{Leads}
use Rattle.hall_lock.specs.Sorting.{SharedOut}
use Rattle.io_edge.specs.Outside.{Input, Output}
use Rattle.bridge_live.specs.declared.mixer.MixCounts.{MixCounts}
use Rattle.bridge_live.specs.Chair.{RunsChair}
use Rattle.bridge_live.specs.Endings.{HandedIn, LaneEnding, ChairEnding, MixEnding, Ending, seats_of}
use Rattle.bridge_live.specs.Lane.{RunsLane}
use Rattle.bridge_live.specs.Mixer.{RunsMixer}
use Rattle.bridge_live.specs.Serve.{Serves, IsServedWhole}
use Rattle.bridge_live.specs.Worker.{HallSeat, owner, IsNew}

-- each worker ran from a new seat to the one that was joined
abbrev pub LaneRan : (lanes lane : ℕ) → Input → LaneEnding → Type 0
LaneRan lanes lane before end =
    (first : HallSeat) × IsNew first × RunsLane lanes lane before end.source first end.seat end.stop end.counts

-- the lanes from this one on
abbrev pub LanesRan : (lanes lane : ℕ) → List Input → List LaneEnding → Type 0
LanesRan lanes lane [] [] = ⊤
LanesRan lanes lane (before ∷ befores) (end ∷ ends) =
    LaneRan lanes lane before end × LanesRan lanes (lane + 1) befores ends
LanesRan lanes lane _ _ = ⊥

abbrev pub ChairRan : (lanes : ℕ) → Input → ChairEnding → Type 0
ChairRan lanes before end =
    (first : HallSeat) × IsNew first × RunsChair lanes before end.source first end.seat end.stop end.counts

abbrev pub MixerRan : (lanes : ℕ) → Settings → Input → Output → MixEnding → MixCounts → Type 0
MixerRan lanes set ticker sink end counts =
    (first : HallSeat) × IsNew first
    × RunsMixer lanes set ticker end.ticker first end.seat sink end.sink end.stop counts

-- the turns of the closing history, sorted by the seats, and what those know of it
pub record Gathered (set : Settings) (turns : ℕ) (opening : HallView) (given : HandedIn) (end : Ending) (counts : MixCounts) :
    Type 0 where
  pub opens : StandsFor opening []
  pub lanes_are : lanes_of opening ≡ length given.lanes
  pub limit_is : opening.limit ≡ turns
  pub leads : Leads lanes_of Fits HallSteps opening end.turns end.hall
  pub number : (end.number ≡ length end.turns) × (end.number ≤ turns)
  pub shared : SharedOut (owner (length given.lanes)) end.turns (seats_of end)
  pub known : AllByRecursion (λ (s : HallSeat). IsPrefix s.seen end.turns) (seats_of end)
  pub full : AllByRecursion (λ (s : HallSeat). s.full ≡ true → end.number ≡ turns) (seats_of end)
  pub lanes : LanesRan (length given.lanes) 0 given.lanes end.lanes
  pub chair : ChairRan (length given.lanes) given.chair end.chair
  pub mixer : MixerRan (length given.lanes) set given.ticker given.sink end.mixer counts

-- what the workers counted, together
abbrev pub counted_together : Ending → MixCounts → Tally
counted_together end counts = record {
  ticks = counts.ticks;
  pictures = sum_by (λ (lane : LaneEnding). lane.counts.posts) end.lanes;
  gaps = sum_by (λ (lane : LaneEnding). lane.counts.gaps) end.lanes;
  commands = end.chair.counts.commands;
  refused = end.chair.counts.refused;
  taken = counts.taken;
  packets = counts.packets;
  octets = counts.octets;
}

-- what is known so is what the conference did
abbrev pub RunLaw : Type 0
RunLaw = (set : Settings) (turns : ℕ) (opening : HallView) (given : HandedIn) (end : Ending) (counts : MixCounts) →
    Gathered set turns opening given end counts → Serves set turns given end (counted_together end counts)

abbrev pub CompleteLaw : Type 0
CompleteLaw = (set : Settings) (turns : ℕ) (opening : HallView) (given : HandedIn) (end : Ending) (counts : MixCounts) →
    Gathered set turns opening given end counts → IsServedWhole turns given end
