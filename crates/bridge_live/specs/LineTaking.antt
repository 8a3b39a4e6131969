-- Inner contracts alone use this; nothing here has to be believed.
-- How the chair's lines are taken, octet by octet.
use Rattle.std.specs.Prelude.{◌≡◌, List, [], ◌∷◌, ◌++◌, ℕ, take, Result, Ok, Err}
use Rattle.io_edge.specs.Allowance.{AllowanceState, TakesOctets, Paused}
use Rattle.io_edge.specs.declared.allowance.Pause.{Pause}
use Rattle.io_edge.specs.Outside.{Input}
use Rattle.bridge_live.specs.Lines.{line_feed, IsLine}

-- the octet behind a line that was taken whole
abbrev pub end_of_line : Result Unit Pause → List ℕ
end_of_line (Ok _) = line_feed ∷ []
end_of_line (Err _) = []

abbrev pub LineStops : Result Unit Pause → (before after : Input) → AllowanceState → Type 0
LineStops (Ok _) before after allowance = after.faults ≡ before.faults
LineStops (Err pause) before after allowance = Paused pause before after allowance

-- a line was taken with its LF, or what comes before the pause
pub record TakesLine (before after : Input) (old new : AllowanceState) (kept : List ℕ) (result : Result Unit Pause) : Type 0
  where
    pub line : List ℕ
    pub is_line : IsLine line
    pub takes : TakesOctets before after old new (line ++ end_of_line result)
    pub kept_is : kept ≡ take 256 line
    pub stops : LineStops result before after new
