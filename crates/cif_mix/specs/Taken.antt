-- What the boxes of a hand hold when a tick was made.
use Rattle.std.specs.Prelude.{ℕ, ◌∷◌}
use Rattle.h261_pic.specs.declared.hand.Hand.{Hand}
use Rattle.h261_pic.specs.Hand.{HasTaken}
use Rattle.pel_model.specs.declared.note.TickNote.{TickNote}
use Rattle.pel_model.specs.History.{History, Tick}
use Rattle.pel_model.specs.Legal.{Legal}

-- a tick was made behind this history, by the rules of a conference of so many lanes, and the hand has what it took
pub record Took (lanes : ℕ) (H : History) (note : TickNote) (hand : Hand) : Type 0 where
  pub legal : Legal lanes (Tick note ∷ H)
  pub holds : HasTaken lanes H hand
