-- The steps of ticks: what an object that gives them has left.
use Rattle.std.specs.Prelude.{ℕ, ◌≤◌, List, ◌∷◌, [], Option, Result, MatchResult, MatchOption}
use Rattle.std.specs.Io.KnownBytes.{Consumes, IsAtEnd, Keeps}

-- a step of a tick, in picture times
abbrev pub IsStep : ℕ → Type 0
IsStep step = (1 ≤ step) × (step ≤ 31)

-- what a call did to the steps that are left, where they are told: it gave the first of them, or said that none is left;
-- a call that failed left them
abbrev pub GivesStep : {E : Type 0} → Option (List ℕ) → Option (List ℕ) → Result (Option ℕ) E → Type 0
GivesStep old new result =
    MatchResult result
    (λ given. MatchOption given (IsAtEnd old × Keeps old new) (λ step. Consumes old new (step ∷ [])))
    (λ _. Keeps old new)
