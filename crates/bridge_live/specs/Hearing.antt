-- Inner contracts alone use this; nothing here has to be believed.
-- The chair at the lock: what it makes of one line, and what it has made so far.
use Rattle.std.specs.Prelude.{⊤, Bool, false, not, ◌≡◌, ℕ, ◌+◌, ◌^◌, ◌<◌, ◌≤◌, List, [], ◌∷◌, ◌++◌, length, take, Result, Ok, Err, flat_map}
use Rattle.std.specs.List.{AllByRecursion}
use Rattle.std.specs.Io.KnownBytes.{Consumes}
use Rattle.hall_core.specs.declared.machine.HallReply.{HallReply}
use Rattle.hall_core.specs.declared.machine.HallReply.TheVariants.{Ordered}
use Rattle.hall_core.specs.Hall.{HallView, lanes_of}
use Rattle.hall_lock.specs.Seats.{Lock, IsOf}
use Rattle.io_edge.specs.Allowance.{AllowanceState}
use Rattle.io_edge.specs.Outside.{Input}
use Rattle.pel_model.specs.declared.chair.Command.{Command}
use Rattle.pel_model.specs.declared.chair.Reply.{Reply}
use Rattle.pel_model.specs.History.{Step, Order}
use Rattle.bridge_live.specs.declared.calls.Halt.{Halt}
use Rattle.bridge_live.specs.declared.calls.Halt.TheVariants as halt
use Rattle.bridge_live.specs.declared.chair.Chair.{Chair}
use Rattle.bridge_live.specs.declared.ends.ChairStop.{ChairStop}
use Rattle.bridge_live.specs.declared.ends.ChairStop.TheVariants.{Whole, Fault, Limit, Ended, Over}
use Rattle.io_edge.specs.declared.allowance.Pause.{Pause}
use Rattle.io_edge.specs.declared.allowance.Pause.TheVariants as pause
use Rattle.bridge_live.specs.Chair.{AreOrders, IsChairCounted, RunsChair}
use Rattle.bridge_live.specs.Lines.{line_feed, IsLine, Heard, Said, IsHeard, AreHeard, said}
use Rattle.pel_model.specs.Plan.{is_done}
use Rattle.bridge_live.specs.Worker.{most_taken, HallSeat, IsNew, HasMade, IsUnderWay, HasHalted}

-- how many lines were counted
abbrev pub lines_counted : Chair → ℕ
lines_counted chair = chair.counts.commands + chair.counts.bad

-- the chair may hear so many lines more
pub record MayHear (n : ℕ) (lock : Lock HallView) (chair : Chair) : Type 0 where
  pub at_lock : IsOf lock chair.seat
  pub few : lines_counted chair + n < 2 ^ 64
  pub refused : chair.counts.refused ≤ chair.counts.commands
  pub live : IsUnderWay chair.seat

-- at most one line more was counted
pub record CountsLine (lock : Lock HallView) (old new : Chair) : Type 0 where
  pub at_lock : IsOf lock new.seat
  pub few : lines_counted new ≤ lines_counted old + 1
  pub refused : new.counts.refused ≤ new.counts.commands

-- the chair has made these steps of what was heard
pub record HasHeard (lanes : ℕ) (first : HallSeat) (chair : Chair) (steps : List Step) (heard : List Heard) : Type 0 where
  pub has_made : HasMade lanes lanes first chair.seat steps
  pub counted : IsChairCounted chair.counts steps heard

-- the chair gave a command; or it was given back
abbrev pub Orders : (lanes : ℕ) → Command → (first : HallSeat) → List Step → List Heard → Chair → Result Unit Halt → Type 0
Orders lanes command first steps heard new (Ok _) =
    (reply : Reply) × HasHeard lanes first new (steps ++ Order command reply ∷ []) (heard ++ Said command ∷ [])
    × IsUnderWay new.seat
Orders lanes command first steps heard new (Err back) =
    HasHeard lanes first new steps (heard ++ Said command ∷ []) × HasHalted back new.seat

pub record GivesOrder (lock : Lock HallView) (command : Command) (old new : Chair) (result : Result Unit Halt) : Type 0 where
  pub counts : CountsLine lock old new
  pub orders : (first : HallSeat) (steps : List Step) (heard : List Heard) →
      HasHeard (lanes_of lock.opening) first old steps heard →
      Orders (lanes_of lock.opening) command first steps heard new result

-- the chair made what one line more says; or its command was given back
abbrev pub Hears : (lanes : ℕ) → Heard → (first : HallSeat) → List Step → List Heard → Chair → Result Unit Halt → Type 0
Hears lanes one first steps heard new (Ok _) =
    (part : List Step) × AreOrders (said (one ∷ [])) part × HasHeard lanes first new (steps ++ part) (heard ++ one ∷ [])
    × IsUnderWay new.seat
Hears lanes one first steps heard new (Err back) =
    (command : Command) × (one ≡ Said command)
    × HasHeard lanes first new steps (heard ++ one ∷ []) × HasHalted back new.seat

-- what a whole line says
abbrev pub HearsWhole : (lanes : ℕ) → List ℕ → (old new : Chair) → Result Unit Halt → Type 0
HearsWhole lanes whole old new result =
    (one : Heard) × IsHeard whole one
    × ((first : HallSeat) (steps : List Step) (heard : List Heard) → HasHeard lanes first old steps heard
    → Hears lanes one first steps heard new result)

-- and a line of which the first 256 octets were kept
pub record HearsLine (lock : Lock HallView) (kept : List ℕ) (old new : Chair) (result : Result Unit Halt) : Type 0 where
  pub counts : CountsLine lock old new
  pub hears : (whole : List ℕ) → kept ≡ take 256 whole → HearsWhole (lanes_of lock.opening) whole old new result

-- the reply is one to a command
abbrev pub HasOrder : HallReply → Type 0
HasOrder (Ordered reply) = ⊤
HasOrder _ = ⊥

abbrev pub is_refusal : HallReply → Bool
is_refusal (Ordered reply) = not (is_done reply)
is_refusal _ = false

-- ---- between two lines

abbrev pub ended_lines : List (List ℕ) → List ℕ
ended_lines lines = flat_map (λ line. line ++ line_feed ∷ []) lines

-- the chair may go on, and its counts are small, since each line takes an octet at least
pub record MayTakeLine (lock : Lock HallView) (allowance : AllowanceState) (chair : Chair) : Type 0 where
  pub at_lock : IsOf lock chair.seat
  pub few : lines_counted chair ≤ allowance.taken
  pub within : allowance.taken ≤ most_taken
  pub budget : allowance.budget ≡ most_taken
  pub refused : chair.counts.refused ≤ chair.counts.commands
  pub live : IsUnderWay chair.seat

-- the octets that were taken are these lines, and what they say was made
pub record HasLines (lanes : ℕ) (before now : Input) (first : HallSeat) (allowance : AllowanceState) (chair : Chair) : Type 0
  where
    pub lines : List (List ℕ)
    pub are_lines : AllByRecursion IsLine lines
    pub bytes : Consumes before.left now.left (ended_lines lines)
    pub taken : allowance.taken ≡ length (ended_lines lines)
    pub heard : List Heard
    pub are_heard : AreHeard lines heard
    pub steps : List Step
    pub orders : AreOrders (said heard) steps
    pub has_heard : HasHeard lanes first chair steps heard
    pub reads : now.faults ≡ before.faults

-- a line was read and what it says was made, or the chair stopped
abbrev pub HearsLineOr :
    (lock : Lock HallView) → (before now : Input) → (first : HallSeat) → (old new : AllowanceState) → Chair → Result Unit ChairStop → Type 0
HearsLineOr lock before now first old new chair (Ok _) =
    HasLines (lanes_of lock.opening) before now first new chair × MayTakeLine lock new chair × (old.taken < new.taken)
HearsLineOr lock before now first old new chair (Err stop) =
    RunsChair (lanes_of lock.opening) before now first chair.seat stop chair.counts

pub record HearsNext (lock : Lock HallView) (source now : Input) (old_allowance new_allowance : AllowanceState) (old new : Chair)
    (result : Result Unit ChairStop) : Type 0 where
  pub at_lock : IsOf lock new.seat
  pub hears : (before : Input) (first : HallSeat) →
      HasLines (lanes_of lock.opening) before source first old_allowance old →
      HearsLineOr lock before now first old_allowance new_allowance new result

-- ---- stops

abbrev pub chair_stop_for : Halt → ChairStop
chair_stop_for halt.Ended = Ended
chair_stop_for halt.Over = Over

abbrev pub halted : Result Unit Halt → Result Unit ChairStop
halted (Ok x) = Ok x
halted (Err back) = Err (chair_stop_for back)

-- the stop behind the last line
abbrev pub last_stop : Result Unit Halt → ChairStop
last_stop (Ok _) = Whole
last_stop (Err back) = chair_stop_for back

-- what came behind the last whole line is a line where the source ended
abbrev pub StopsChair : (lanes : ℕ) → Pause → List ℕ → (old new : Chair) → ChairStop → Type 0
StopsChair lanes pause.End rest old new stop =
    (last : Result Unit Halt) × HearsWhole lanes rest old new last × (stop ≡ last_stop last)
StopsChair lanes pause.Fault rest old new stop = (stop ≡ Fault) × (new ≡ old)
StopsChair lanes pause.Limit rest old new stop = (stop ≡ Limit) × (new ≡ old)

pub record StopsHearing (lock : Lock HallView) (pause : Pause) (kept : List ℕ) (old new : Chair) (stop : ChairStop) : Type 0
  where
    pub at_lock : IsOf lock new.seat
    pub stops : (rest : List ℕ) → kept ≡ take 256 rest → StopsChair (lanes_of lock.opening) pause rest old new stop

-- ---- the chair's worker

pub record ChairBegins (lock : Lock HallView) (chair : Chair) : Type 0 where
  pub at_lock : IsOf lock chair.seat
  pub seat : IsNew chair.seat
  pub counts : chair.counts ≡ record { commands = 0; refused = 0; bad = 0 }

pub record RanChair (lock : Lock HallView) (before after : Input) (old new : Chair) (stop : ChairStop) : Type 0 where
  pub at_lock : IsOf lock new.seat
  pub runs : RunsChair (lanes_of lock.opening) before after old.seat new.seat stop new.counts
