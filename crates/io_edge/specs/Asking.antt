-- Inner contracts alone use this; nothing here has to be believed.
-- What one read within a budget does.
use Rattle.std.specs.Prelude.{◌≡◌, ℕ, ◌<◌, ◌≤◌, List, [], length, take, Result, Ok, Err}
use Rattle.io_edge.specs.Allowance.{AllowanceState, TakesOctets, Paused}
use Rattle.io_edge.specs.Outside.{Input}
use Rattle.io_edge.specs.declared.allowance.Pause.{Pause}

-- octets were taken into the front of a slice, at least one; or none, and why
abbrev pub TakesSome : Result ℕ Pause → (before after : Input) → (old new : AllowanceState) → (slice : List ℕ) → Type 0
TakesSome (Ok count) before after old new slice =
    (0 < count) × (count ≤ length slice) × TakesOctets before after old new (take count slice)
    × (after.faults ≡ before.faults)
TakesSome (Err pause) before after old new slice = TakesOctets before after old new [] × Paused pause before after new
