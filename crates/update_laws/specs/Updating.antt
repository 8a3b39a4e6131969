-- Forced updating through a conference: where the senders keep it, so does what is written.
use Rattle.std.specs.Prelude.{ℕ, List, [], ◌∷◌, ◌++◌, map, Option, Some, None}
use Rattle.pel_model.specs.History.{History, Tick, arrivals}
use Rattle.pel_model.specs.Lanes.{Arrival, Received, Missing}
use Rattle.pel_model.specs.Legal.{Legal}
use Rattle.pel_model.specs.Records.{Picture}
use Rattle.pel_model.specs.Written.{written_picture}
use Rattle.update_laws.specs.Kept.{Kept, KeepsUpdating}

-- the picture that came, or a gap
abbrev pub picture_in : Arrival Picture → Option Picture
picture_in (Received refresh picture) = Some picture
picture_in Missing = None

-- each lane's sender keeps it in what came of it, wherever nothing was lost between
abbrev pub SendersUpdate : History → Type 0
SendersUpdate H = (c : ℕ) → KeepsUpdating (map picture_in (arrivals H c))

-- the pictures that the ticks write, in their order
abbrev pub written_pictures : ℕ → History → List Picture
written_pictures lanes [] = []
written_pictures lanes (Tick note ∷ H) = written_pictures lanes H ++ written_picture lanes H note ∷ []
written_pictures lanes (_ ∷ H) = written_pictures lanes H

-- So does the stream that is written, at each place of the CIF picture: whatever the lanes, the places, the losses, the
-- commands and the ticks
abbrev pub UpdatingLaw : Type 0
UpdatingLaw = (lanes : ℕ) (H : History) → Legal lanes H → SendersUpdate H → Kept (written_pictures lanes H)
