-- What a seat knows after one call, and how the calls of a worker ended.
use Rattle.std.specs.Prelude.{◌≡◌, ℕ, ◌<◌, ◌≤◌, Bool, true, false, List, [], ◌∷◌, ◌++◌, length, MatchBool}
use Rattle.std.specs.List.{AllByRecursion}
use mathlib.Core.List.{IsPrefix}
use Rattle.hall_lock.specs.declared.view.Turn.{Turn}
use Rattle.hall_lock.specs.Seats.{Lock, SeatState}
use Rattle.hall_lock.specs.Turns.{Leads}
use Rattle.hall_lock.specs.Own.{made, InOrder}

module _ {M C R : Type 0} where
  -- the seat made one turn more, behind those that it had made
  pub record AddsTurn (call : C) (reply : R) (old new : SeatState M C R) : Type 0 where
    pub turns : made new ≡ made old ++ record { call = call; reply = reply } ∷ []
    pub order : InOrder new
    -- it has seen what it had seen, and more
    pub grows : IsPrefix old.seen new.seen
    -- neither this draw nor one before read that all turns were drawn
    pub live : (old.full ≡ false) × (new.full ≡ false)
    pub kept : (new.lock ≡ old.lock) × (new.share ≡ old.share) × (new.past ≡ old.past)

  module _ {S : Type 0} (shape : M → S) (fits : S → C → Type 0) (steps : M → C → R → M → Type 0) where
    -- the machine was led from the opening one to where it was asked this call, and gave this reply; nothing came behind it
    pub record StepsAfter (opening : M) (call : C) (reply : R) (seen : List (Turn C R)) : Type 0 where
      pub before : List (Turn C R)
      pub machine : M
      pub next : M
      pub ends : seen ≡ before ++ record { call = call; reply = reply } ∷ []
      pub leads : Leads shape fits steps opening before machine
      pub same : shape machine ≡ shape opening
      pub step : steps machine call reply next

    -- the seat made one turn of this lock's machine
    pub record TakesTurn (lock : Lock M) (call : C) (reply : R) (old new : SeatState M C R) : Type 0 where
      pub after : StepsAfter lock.opening call reply new.seen
      -- the turns before it begin with all that the seat had seen
      pub begins : IsPrefix old.seen after.before
      pub adds : AddsTurn call reply old new
      pub place : new.mine ≡ old.mine ++ length after.before ∷ []
      -- the seat read that the turns before it had passed, and none more
      pub reads : new.front ≡ length after.before
      pub not_fallen : old.front ≤ new.front
      pub looked : old.looks < new.looks
      pub within : length new.seen ≤ lock.turns

module _ {M C R : Type 0} (owner : Turn C R → ℕ) (w : ℕ) where
  -- a worker went on with a seat: all that the seat made is the worker's, and its lock, its share and the places of seats that
  -- were joined into it are as they were
  pub record Works (old new : SeatState M C R) : Type 0 where
    pub order : InOrder new
    pub owned : AllByRecursion (λ t. owner t ≡ w) (made new)
    pub kept : (new.lock ≡ old.lock) × (new.share ≡ old.share) × (new.past ≡ old.past)

-- ---- the test is that of a reply which says that the machine has ended

module _ {C R : Type 0} (is_ended : R → Bool) where
  abbrev pub NoneEnded : List (Turn C R) → Type 0
  NoneEnded turns = AllByRecursion (λ t. is_ended t.reply ≡ false) turns

  -- the last turn was answered so, and no other
  pub record EndsLast (turns : List (Turn C R)) : Type 0 where
    pub front : List (Turn C R)
    pub last : Turn C R
    pub all : turns ≡ front ++ last ∷ []
    pub none : NoneEnded front
    pub ended : is_ended last.reply ≡ true

module _ {M C R : Type 0} (is_ended : R → Bool) where
  -- no call of the seat was answered that the machine has ended, and no draw read that all turns were drawn
  abbrev pub IsGoing : SeatState M C R → Type 0
  IsGoing s = NoneEnded is_ended (made s) × (s.full ≡ false)

  -- the last one was answered that the machine has ended, and no other
  abbrev pub HasEnded : SeatState M C R → Type 0
  HasEnded s = EndsLast is_ended (made s) × (s.full ≡ false)

  -- none was answered so, and then a draw read that all turns were drawn
  abbrev pub IsOver : SeatState M C R → Type 0
  IsOver s = NoneEnded is_ended (made s) × (s.full ≡ true)

  -- the seat behind a call that got this reply
  abbrev pub StandsAt : R → SeatState M C R → Type 0
  StandsAt reply s = MatchBool (is_ended reply) (HasEnded s) (IsGoing s)
