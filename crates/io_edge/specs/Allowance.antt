-- Octets taken within a budget.
use Rattle.std.specs.Prelude.{◌≡◌, ℕ, ◌+◌, ◌<◌, ◌≤◌, List, [], ◌∷◌, length, take, Result, Ok, Err}
use Rattle.std.specs.Io.KnownBytes.{Consumes, IsAtEnd}
use Rattle.io_edge.specs.Causes.{Rose, Went}
use Rattle.io_edge.specs.Outside.{Input}
use Rattle.io_edge.specs.declared.allowance.Pause.{Pause}
use Rattle.io_edge.specs.declared.allowance.Pause.TheVariants.{Limit, End, Fault}
use Rattle.io_edge.specs.declared.allowance.Shortfall.{Shortfall}

-- the octets taken in all, and the most that may be
pub record AllowanceState : Type 0 where
  pub taken : ℕ
  pub budget : ℕ

-- of which nothing is taken
abbrev pub unused : ℕ → AllowanceState
unused budget = record { taken = 0; budget = budget }

-- these octets were taken from a source, and none beyond the budget
pub record TakesOctets (before after : Input) (old new : AllowanceState) (took : List ℕ) : Type 0 where
  pub bytes : Consumes before.left after.left took
  pub taken : new.taken ≡ old.taken + length took
  pub budget : new.budget ≡ old.budget
  pub within : new.taken ≤ new.budget
  pub went : Went before.faults after.faults

-- why no octet more was taken
abbrev pub Paused : Pause → (before after : Input) → AllowanceState → Type 0
-- the budget is taken
Paused Limit before after allowance = (allowance.taken ≡ allowance.budget) × (after.faults ≡ before.faults)
-- the source is at its end
Paused End before after allowance =
    IsAtEnd after.left × (allowance.taken < allowance.budget) × (after.faults ≡ before.faults)
-- the source failed
Paused Fault before after allowance = Rose before.faults after.faults × (allowance.taken < allowance.budget)

-- a slice was filled; or its front was and not all, and why
abbrev pub Fetches : Result Unit Shortfall → (before after : Input) → (old new : AllowanceState) → (slice : List ℕ) → Type 0
Fetches (Ok _) before after old new slice = TakesOctets before after old new slice × (after.faults ≡ before.faults)
Fetches (Err short) before after old new slice =
    (short.count < length slice) × TakesOctets before after old new (take short.count slice)
    × Paused short.pause before after new

-- one octet was taken; or none, and why
abbrev pub TakesOctet : Result ℕ Pause → (before after : Input) → (old new : AllowanceState) → Type 0
TakesOctet (Ok octet) before after old new =
    TakesOctets before after old new (octet ∷ []) × (after.faults ≡ before.faults)
TakesOctet (Err pause) before after old new = TakesOctets before after old new [] × Paused pause before after new
