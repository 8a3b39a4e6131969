-- What the worker of the chair does: the commands of the lines that its source gives.
use Rattle.std.specs.Prelude.{⊤, ◌≡◌, ℕ, ◌<◌, Bool, false, not, List, [], ◌∷◌, ◌++◌, length, count_by}
use Rattle.std.specs.Io.KnownBytes.{Consumes, IsAtEnd}
use Rattle.io_edge.specs.Causes.{Rose}
use Rattle.io_edge.specs.Outside.{Input}
use Rattle.pel_model.specs.declared.chair.Command.{Command}
use Rattle.pel_model.specs.History.{Step, Order}
use Rattle.pel_model.specs.Plan.{is_done}
use Rattle.bridge_live.specs.declared.calls.Halt.{Halt}
use Rattle.bridge_live.specs.declared.calls.Halt.TheVariants as halt
use Rattle.bridge_live.specs.declared.chair.ChairCounts.{ChairCounts}
use Rattle.bridge_live.specs.declared.ends.ChairStop.{ChairStop}
use Rattle.bridge_live.specs.declared.ends.ChairStop.TheVariants.{Whole, Fault, Limit, Ended, Over}
use Rattle.bridge_live.specs.Lines.{AreLines, Heard, AreHeard, said, is_faulty}
use Rattle.bridge_live.specs.Worker.{most_taken, HallSeat, HasMade, IsUnderWay, HasHalted}

-- the steps are these commands, each with its reply
abbrev pub AreOrders : List Command → List Step → Type 0
AreOrders [] [] = ⊤
AreOrders (command ∷ commands) (Order given reply ∷ steps) = (given ≡ command) × AreOrders commands steps
AreOrders _ _ = ⊥

abbrev pub is_refused_step : Step → Bool
is_refused_step (Order command reply) = not (is_done reply)
is_refused_step _ = false

-- the commands, those of them that were refused, and the lines that were faulty
pub record IsChairCounted (counts : ChairCounts) (steps : List Step) (heard : List Heard) : Type 0 where
  pub commands : counts.commands ≡ length steps
  pub refused : counts.refused ≡ count_by is_refused_step steps
  pub bad : counts.bad ≡ count_by is_faulty heard

-- Which lines were heard: the whole ones, and behind them the rest, which is a line where the source ended. Where it did not
-- end, the rest was not heard. (An empty rest says nothing.)
abbrev pub heard_lines : ChairStop → List (List ℕ) → List ℕ → List (List ℕ)
heard_lines Fault lines rest = lines
heard_lines Limit lines rest = lines
heard_lines _ lines rest = lines ++ rest ∷ []

-- why no line more came, behind these octets; where a call was given back, nothing is said of it
abbrev pub ChairStopsAt : ChairStop → (octets : List ℕ) → (before after : Input) → Type 0
ChairStopsAt Whole octets before after =
    IsAtEnd after.left × (length octets < most_taken) × (after.faults ≡ before.faults)
ChairStopsAt Fault octets before after = Rose before.faults after.faults
ChairStopsAt Limit octets before after = (length octets ≡ most_taken) × (after.faults ≡ before.faults)
ChairStopsAt Ended octets before after = after.faults ≡ before.faults
ChairStopsAt Over octets before after = after.faults ≡ before.faults

-- the last command was given back, and those before it were made
abbrev pub LastBack : Halt → List Command → List Step → HallSeat → Type 0
LastBack back commands steps seat =
    (part : List Command) × (last : Command) × (commands ≡ part ++ last ∷ []) × AreOrders part steps
    × HasHalted back seat

-- what was made of the commands
abbrev pub OrdersOf : ChairStop → List Command → List Step → HallSeat → Type 0
OrdersOf Ended commands steps seat = LastBack halt.Ended commands steps seat
OrdersOf Over commands steps seat = LastBack halt.Over commands steps seat
OrdersOf _ commands steps seat = AreOrders commands steps × IsUnderWay seat

-- the chair's worker from its beginning to its stop, in a conference of so many lanes
pub record RunsChair (lanes : ℕ) (before after : Input) (first last : HallSeat) (stop : ChairStop) (counts : ChairCounts) : Type 0
  where
    -- the octets that were taken, and their lines
    pub octets : List ℕ
    pub bytes : Consumes before.left after.left octets
    pub stops : ChairStopsAt stop octets before after
    pub lines : List (List ℕ)
    pub rest : List ℕ
    pub are_lines : AreLines octets lines rest
    -- what they say, and what was made of it
    pub heard : List Heard
    pub are_heard : AreHeard (heard_lines stop lines rest) heard
    pub steps : List Step
    pub has_made : HasMade lanes lanes first last steps
    pub makes : OrdersOf stop (said heard) steps last
    pub counted : IsChairCounted counts steps heard
