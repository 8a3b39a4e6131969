-- What the watch tells of a stream: a line for each picture at which a place is overdue. A stretch is the pictures that
-- come one after another with no gap between: a loss is a gap, and so is a unit that is no picture.
use Rattle.std.specs.Prelude.{ℕ, ◌+◌, List, [], ◌∷◌, ◌++◌, map, Option, Some, None}
use Rattle.pel_model.specs.Records.{Picture}
use Rattle.rtp_h261.specs.Events.{Event, Lost, Shown, Refused}
use Rattle.update_watch.specs.Overdue.{overdue_places, told_overdue, overdue_lines}

-- the lines of events, the first of which has this number and comes behind these pictures of its stretch
abbrev pub late_behind : (stretch : List Picture) → (n : ℕ) → List Event → List (List ℕ)
late_behind stretch n [] = []
late_behind stretch n (Lost ∷ events) = late_behind [] (n + 1) events
late_behind stretch n (Refused place why ∷ events) = late_behind [] (n + 1) events
late_behind stretch n (Shown picture ∷ events) =
    overdue_lines n (told_overdue (overdue_places stretch picture))
    ++ late_behind (stretch ++ picture ∷ []) (n + 1) events

abbrev pub late : List Event → List (List ℕ)
late events = late_behind [] 1 events
