-- The pictures that are written for a history.
use Rattle.std.specs.Prelude.{ℕ, List, [], ◌∷◌, ◌++◌}
use Rattle.pel_model.specs.declared.note.TickNote.{TickNote}
use Rattle.pel_model.specs.History.{History, Tick, total_of}
use Rattle.pel_model.specs.Records.{Picture}
use Rattle.pel_model.specs.Written.{written_picture}

-- the picture that a tick after this history writes, with the sum of the steps of all ticks up to it
abbrev pub picture_at : ℕ → History → TickNote → ℕ × Picture
picture_at lanes H note = (total_of (Tick note ∷ H), written_picture lanes H note)

-- the pictures of all ticks of a conference of so many lanes, in the order of the ticks
abbrev pub pictures_written : ℕ → History → List (ℕ × Picture)
pictures_written lanes [] = []
pictures_written lanes (Tick note ∷ history) = pictures_written lanes history ++ picture_at lanes history note ∷ []
pictures_written lanes (_ ∷ history) = pictures_written lanes history
