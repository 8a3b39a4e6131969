-- Counts of faults: why a call of the outside may fail.
use Rattle.std.specs.Prelude.{◌≡◌, ℕ, ◌+◌, ◌-◌, ◌^◌, ◌<◌, ◌≤◌, min, Result, OnOk, OnErr}

-- a count rose: it is greater than before, or stands at the last value that it can have
abbrev pub Rose : ℕ → ℕ → Type 0
Rose before now = min (before + 1) (2 ^ 64 - 1) ≤ now

-- a count of 64 bits stays one
abbrev pub StaysCounted : ℕ → ℕ → Type 0
StaysCounted before now = before < 2 ^ 64 → now < 2 ^ 64

-- what any calls do to a count: it never falls
pub record Went (before now : ℕ) : Type 0 where
  pub later : before ≤ now
  pub counted : StaysCounted before now

-- what a call that gave this result did to the count of faults: only a call that fails raises it, and each one does
pub record HasCause {T E : Type 0} (before now : ℕ) (result : Result T E) : Type 0 where
  pub later : before ≤ now
  pub counted : StaysCounted before now
  pub kept : OnOk result (now ≡ before)
  pub failed : OnErr result (Rose before now)
