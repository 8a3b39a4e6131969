-- What a reader may conclude from what a live conference did, in the words of its stops and of its sources.
use Rattle.std.specs.Prelude.{◌≡◌, ℕ, List, [], ◌∷◌, ◌++◌, Some}
use Rattle.std.specs.List.{AllByRecursion}
use mathlib.Core.List.{IsPrefix}
use Rattle.cif_pack.specs.declared.packer.Settings.{Settings}
use Rattle.cif_pack.specs.declared.tally.Tally.{Tally}
use Rattle.io_edge.specs.Outside.{Input}
use Rattle.pel_model.specs.declared.chair.Command.{Command}
use Rattle.pel_model.specs.History.{Step, Gap, End, History}
use Rattle.rtp_wire.specs.Frames.{IsStream}
use Rattle.bridge_live.specs.declared.ends.ChairStop.{ChairStop}
use Rattle.bridge_live.specs.declared.ends.ChairStop.TheVariants as chair_stop
use Rattle.bridge_live.specs.declared.ends.LaneStop.{LaneStop}
use Rattle.bridge_live.specs.declared.ends.LaneStop.TheVariants as lane_stop
use Rattle.bridge_live.specs.declared.ends.MixStop.TheVariants.{Over}
use Rattle.bridge_live.specs.Chair.{AreOrders}
use Rattle.bridge_live.specs.Endings.{HandedIn, LaneEnding, ChairEnding, Ending}
use Rattle.bridge_live.specs.Flow.{IsFlow}
use Rattle.bridge_live.specs.Lines.{AreLines, Heard, AreHeard, said}
use Rattle.bridge_live.specs.Serve.{EndsWith, lane_steps, chair_steps, LaneServes, ChairServes, Serves}

-- ---- stops

abbrev pub StopTells : ℕ → Ending → History → (is_over is_ended : Type 0) → Type 0
StopTells turns end history is_over is_ended = (is_over → end.number ≡ turns) × (is_ended → EndsWith End history)

-- What the stops say of the history: all turns were made where a worker stopped since all were drawn, and the end is the last
-- step where one stopped since no step may follow.
pub record StopsTell (turns : ℕ) (end : Ending) (history : History) : Type 0 where
  pub lanes : AllByRecursion (λ (lane : LaneEnding). StopTells turns end history (lane.stop ≡ lane_stop.Over) (lane.stop ≡ lane_stop.Ended)) end.lanes
  pub chair : StopTells turns end history (end.chair.stop ≡ chair_stop.Over) (end.chair.stop ≡ chair_stop.Ended)
  pub mixer : end.mixer.stop ≡ Over → end.number ≡ turns

abbrev pub LawOfStops : Type 0
LawOfStops =
    (set : Settings) (turns : ℕ) (given : HandedIn) (end : Ending) (tally : Tally) → (s : Serves set turns given end tally)
    → StopsTell turns end s.history

-- ---- sources that tell their octets

-- what a lane made of the flow of all packets of its source
abbrev pub MakesOfAll : LaneStop → ℕ → (flow steps : List Step) → Type 0
MakesOfAll lane_stop.Whole lane flow steps = steps ≡ flow
MakesOfAll lane_stop.Cut lane flow steps = steps ≡ flow ++ Gap lane ∷ []
MakesOfAll lane_stop.Ended lane flow steps = IsPrefix steps flow
MakesOfAll lane_stop.Over lane flow steps = IsPrefix steps flow
MakesOfAll _ lane flow steps = (front : List Step) × IsPrefix front flow × (steps ≡ front ++ Gap lane ∷ [])

-- Where the source of a lane tells its octets, which are so many whole frames and less than one, the history has of the lane
-- what it made of their flow.
abbrev pub LawOfLanes : Type 0
LawOfLanes =
    (lanes lane : ℕ) (history : History) (before : Input) (end : LaneEnding) (octets : List ℕ) (packets : List (List ℕ))
    (rest : List ℕ) (flow : List Step) → LaneServes lanes lane history before end → before.left ≡ Some octets
    → IsStream octets packets rest → IsFlow lane packets flow → MakesOfAll end.stop lane flow (lane_steps lane history)

-- what the chair made of the commands of all lines of its source
abbrev pub OrdersOfAll : ChairStop → List Command → List Step → Type 0
OrdersOfAll chair_stop.Whole commands steps = AreOrders commands steps
OrdersOfAll _ commands steps = (front : List Command) × IsPrefix front commands × AreOrders front steps

-- Where the source of the chair tells its octets, which are these lines and a rest, the commands of the history are those that
-- the lines say, or the first of them.
abbrev pub LawOfChair : Type 0
LawOfChair =
    (lanes : ℕ) (history : History) (before : Input) (end : ChairEnding) (octets : List ℕ) (lines : List (List ℕ))
    (rest : List ℕ) (heard : List Heard) → ChairServes lanes history before end → before.left ≡ Some octets
    → AreLines octets lines rest → AreHeard (lines ++ rest ∷ []) heard
    → OrdersOfAll end.stop (said heard) (chair_steps history)
