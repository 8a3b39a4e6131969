-- The hall as a machine that many workers call: which calls it may be asked, what a call makes of it, and which step of the
-- conference's history a turn tells.
use Rattle.std.specs.Prelude.{◌≡◌, ⊤, ℕ, ◌<◌, ◌≤◌, Bool, true, false, List, [], ◌∷◌, length, filter, MatchBool}
use Rattle.std.proofs.Common.{ap}
use Rattle.h261_pic.specs.Coded.{Coding, coding, IsFinished}
use Rattle.hall_lock.specs.declared.view.Turn.{Turn}
use Rattle.hall_lock.specs.Turns.{Leads}
use Rattle.pel_model.specs.declared.Format.TheVariants.{Qcif}
use Rattle.pel_model.specs.History.{Step, Post, Gap, Order, Tick, End, History}
use Rattle.pel_model.specs.Legal.{IsPostable, Legal}
use Rattle.pel_model.specs.Records.{Picture}
use Rattle.hall_lock.specs.Asking.{NoneEnded}
use Rattle.hall_lock.specs.Finishing.{FinishLast}
use Rattle.hall_lock.specs.Telling.{StepsFrom}
use Rattle.hall_core.specs.declared.machine.HallCall.{HallCall}
use Rattle.hall_core.specs.declared.machine.HallCall.TheVariants.{Post as AskPost, Gap as AskGap, Order as AskOrder, Tick as AskTick, Finish}
use Rattle.hall_core.specs.declared.machine.HallReply.{HallReply}
use Rattle.hall_core.specs.declared.machine.HallReply.TheVariants.{Spare, Counted, Ordered, Ticked, Finished, Ended}
use Rattle.hall_core.specs.Hall.{HallView, lanes_of, is_over, IsSameConference}
use Rattle.hall_core.specs.Stands.{StandsFor, Steps, KeepsRules, TakesInto, IsQcifHand}

-- what a box holds is the coding of this picture, which may be posted
pub record Holds (item : Coding) (picture : Picture) : Type 0 where
  pub coded : item ≡ coding Qcif picture
  pub postable : IsPostable picture

-- a hall of so many lanes may be asked this
abbrev pub Fits : ℕ → HallCall → Type 0
Fits lanes (AskPost lane item) =
    (lane < lanes) × IsFinished item.value × ((picture : Picture) × Holds item.value picture)
Fits lanes (AskGap lane) = lane < lanes
Fits lanes (AskTick step hand) = (1 ≤ step) × (step ≤ 31) × IsQcifHand hand
Fits lanes _ = ⊤

-- the reply is one to this call: that of its work, or the call itself, given back
abbrev pub IsReplyTo : HallView → HallCall → HallReply → Type 0
IsReplyTo hall call (Ended back) = back ≡ call
IsReplyTo hall (AskPost lane item) (Spare box) = box.value.format ≡ Qcif
IsReplyTo hall (AskGap lane) Counted = ⊤
IsReplyTo hall (AskOrder command) (Ordered reply) = ⊤
IsReplyTo hall (AskTick step hand) (Ticked note filled) =
    (note.step ≡ step) × TakesInto hall hand filled × IsQcifHand filled
IsReplyTo hall Finish Finished = ⊤
IsReplyTo hall _ _ = ⊥

-- the call, where it is not given back, tells this step of the history
abbrev pub TellsStep : HallCall → HallReply → Step → Type 0
TellsStep (AskPost lane item) (Spare box) s = (picture : Picture) × Holds item.value picture × (s ≡ Post lane picture)
TellsStep (AskGap lane) Counted s = s ≡ Gap lane
TellsStep (AskOrder command) (Ordered reply) s = s ≡ Order command reply
TellsStep (AskTick step hand) (Ticked note filled) s = s ≡ Tick note
TellsStep Finish Finished s = s ≡ End
TellsStep _ _ s = ⊥

-- the reply says that no step may follow
abbrev pub is_ended : HallReply → Bool
is_ended (Ended back) = true
is_ended _ = false

-- the call ends the conference
abbrev pub is_finish : HallCall → Bool
is_finish Finish = true
is_finish _ = false

-- the hall made the step that the call tells
pub record Makes (old : HallView) (call : HallCall) (reply : HallReply) (new : HallView) : Type 0 where
  pub live : is_over old ≡ false
  pub same : IsSameConference old new
  pub stands : (s : Step) → TellsStep call reply s → Steps old new s
  pub legal : (s : Step) → TellsStep call reply s → KeepsRules old s

-- A call is given back exactly where no step may follow, and the hall stays. Else the hall makes its step.
abbrev pub HallSteps : HallView → HallCall → HallReply → HallView → Type 0
HallSteps old call reply new =
    IsReplyTo old call reply
    × MatchBool (is_ended reply) ((is_over old ≡ true) × (new ≡ old)) (Makes old call reply new)

-- no call changes the number of lanes
pub keeps_lanes : (old : HallView) (call : HallCall) (reply : HallReply) (new : HallView) → HallSteps old call reply new → lanes_of new ≡ lanes_of old
keeps_lanes old call (Ended back) new h = ap lanes_of h.1.1
keeps_lanes old call _ new h = h.1.same.lanes

-- ---- turns under a lock

-- the steps that a turn tells: one, or none where the call was given back
abbrev pub turn_tells : Turn HallCall HallReply → List Step → Type 0
turn_tells t steps =
    MatchBool (is_ended t.reply) (steps ≡ []) ((s : Step) × TellsStep t.call t.reply s × (steps ≡ s ∷ []))

-- Turns from a hall that stands for a legal history lead to one that stands for that history and the steps that the turns
-- tell, which is legal too.
pub record TurnsTo (first : HallView) (H : History) (turns : List (Turn HallCall HallReply)) (last : HallView) : Type 0 where
  pub history : History
  pub told : StepsFrom turn_tells H turns history
  pub stands : StandsFor last history
  pub legal : Legal (lanes_of last) history
  pub same : IsSameConference first last

abbrev pub TurnLaw : Type 0
TurnLaw =
    (first last : HallView) (H : History) (turns : List (Turn HallCall HallReply)) → StandsFor first H → Legal (lanes_of first) H →
    Leads lanes_of Fits HallSteps first turns last → TurnsTo first H turns last

-- Of a worker that alone finishes, by its last call, no call is given back, where the hall may make as many steps as there
-- are turns.
abbrev pub NeverLateLaw : Type 0
NeverLateLaw =
    (first last : HallView) (turns : List (Turn HallCall HallReply)) → StandsFor first [] →
    Leads lanes_of Fits HallSteps first turns last → length turns ≤ first.limit →
    (own : Turn HallCall HallReply → Bool) → ((t : Turn HallCall HallReply) → is_finish t.call ≡ true → own t ≡ true) →
    FinishLast is_finish (filter own turns) → NoneEnded is_ended (filter own turns)
