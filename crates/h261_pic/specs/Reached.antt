-- Inner contracts alone use this; nothing here has to be believed.
-- A picture that is read part by part, within the limit of its format.
use Rattle.std.specs.Prelude.{◌≡◌, ℕ, ◌+◌, ◌-◌, ◌*◌, Bool, true, false, List, Result, Ok, Err}
use Rattle.pel_model.specs.declared.Fault.{Fault}
use Rattle.pel_model.specs.declared.Format.{Format}
use Rattle.pel_model.specs.Headers.{group_header_length}
use Rattle.pel_model.specs.Valid.{group_count, limit}
use Rattle.pel_model.specs.Walk.{Reading, Standing, Stop, Bad, after, Goes, IsTaken, AreTaken}
use Rattle.pel_model.specs.Grammar.{Element, Gbsc, begun, next_within_limit}

-- the last place at which an element behind these may end
abbrev pub EndsAt : Format → List Element → ℕ → Type 0
EndsAt format before end = end + group_header_length * (group_count format - begun before) ≡ limit format

-- good elements of a picture, and what stands behind them is at fault
pub record MeetsFault (format : Format) (before : List Element) (f : Fault) (old : Reading) : Type 0 where
  pub elements : List Element
  pub end : Reading
  pub walk : Goes (next_within_limit format) before old elements end
  pub bad : next_within_limit format (after before elements) end ≡ Bad f.why
  pub place : f.place ≡ end.1

-- what was wanted was taken, as good elements of a picture; else such elements lead to a fault
abbrev pub Reached : {X : Type 0} → Format → List Element → (X → List Element → Reading → Type 0) → Result X Fault → Reading → Reading → Type 0
Reached format before AreWanted (Ok x) old new = AreTaken (next_within_limit format) before (AreWanted x) old new
Reached format before AreWanted (Err f) old new = MeetsFault format before f old

-- the picture ends there
pub record IsLast (here : Standing Element) (old new : Reading) : Type 0 where
  pub stop : here ≡ Stop
  pub kept : new ≡ old

-- the start code of a group stands there and was taken, or the picture ends there
abbrev pub Follows : Standing Element → Bool → Reading → Reading → Type 0
Follows here true old new = IsTaken here Gbsc old new
Follows here false old new = IsLast here old new

-- what stands there is at fault
pub record IsBadHere (here : Standing Element) (f : Fault) (old : Reading) : Type 0 where
  pub bad : here ≡ Bad f.why
  pub place : f.place ≡ old.1

abbrev pub FollowsOrFails : Standing Element → Result Bool Fault → Reading → Reading → Type 0
FollowsOrFails here (Ok another) old new = Follows here another old new
FollowsOrFails here (Err f) old new = IsBadHere here f old
