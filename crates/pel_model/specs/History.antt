-- The history of a conference: what was posted, lost, ordered and written, with the newest step first, so that `s ∷ H` is
-- the history H and the step s behind it.
use Rattle.std.specs.Prelude.{ℕ, ◌+◌, ◌==◌, Bool, true, false, if◌then◌else◌, Option, List, [], ◌∷◌, ◌++◌}
use Rattle.std.specs.List.{list_any}
use Rattle.pel_model.specs.declared.Format.TheVariants.{Qcif}
use Rattle.pel_model.specs.declared.Quad.{Quad}
use Rattle.pel_model.specs.declared.Quad.TheVariants.{One, Two, Three, Four}
use Rattle.pel_model.specs.declared.chair.Command.{Command}
use Rattle.pel_model.specs.declared.chair.Reply.{Reply}
use Rattle.pel_model.specs.declared.note.Take.{Take}
use Rattle.pel_model.specs.declared.note.TickNote.{TickNote}
use Rattle.pel_model.specs.Lanes.{Arrival, Received, Missing}
use Rattle.pel_model.specs.Plan.{at}
use Rattle.pel_model.specs.Records.{Picture}
use Rattle.pel_model.specs.Refresh.{is_refresh}

pub data Step : Type 0 where
  -- a picture of a lane, and a gap in a lane, where one or more were lost
  Post : ℕ → Picture → Step
  Gap : ℕ → Step
  -- a command of the chair, with the reply
  Order : Command → Reply → Step
  -- a picture is written, with what is told of it
  Tick : TickNote → Step
  -- the conference ends
  End : Step

abbrev pub History : Type 0
History = List Step

-- what came to a lane, the oldest first: a serial is a place in this list, counted from 1
abbrev pub arrivals : History → ℕ → List (Arrival Picture)
arrivals [] c = []
arrivals (Post lane picture ∷ H) c =
    if lane == c then arrivals H c ++ Received (is_refresh Qcif picture) picture ∷ []
    else arrivals H c
arrivals (Gap lane ∷ H) c = if lane == c then arrivals H c ++ Missing ∷ [] else arrivals H c
arrivals (_ ∷ H) c = arrivals H c

-- the commands, the newest first
abbrev pub commands : History → List Command
commands [] = []
commands (Order command reply ∷ H) = command ∷ commands H
commands (_ ∷ H) = commands H

-- the lane that stands in a place, in a conference of so many lanes
abbrev pub lane_at : ℕ → History → Quad → Option ℕ
lane_at lanes H q = at lanes (commands H) q

-- the sum of the steps of all ticks, in pictures at 29.97 Hz
abbrev pub total_of : History → ℕ
total_of [] = 0
total_of (Tick note ∷ H) = total_of H + note.step
total_of (_ ∷ H) = total_of H

abbrev pub is_end : Step → Bool
is_end End = true
is_end _ = false

-- the conference has ended
abbrev pub has_ended : History → Bool
has_ended H = list_any is_end H

-- what a note says was taken in a place
abbrev pub taken_in : Quad → TickNote → Option Take
taken_in One note = note.taken_one
taken_in Two note = note.taken_two
taken_in Three note = note.taken_three
taken_in Four note = note.taken_four
