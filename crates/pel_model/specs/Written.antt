-- What the ticks of a conference write, and what a receiver shows of it.
use Rattle.std.specs.Prelude.{ℕ, ◌%◌, Option, Some, None, List, [], ◌∷◌}
use Rattle.pel_model.specs.declared.Format.TheVariants.{Cif}
use Rattle.pel_model.specs.declared.Quad.{Quad}
use Rattle.pel_model.specs.declared.held.Held.{Held}
use Rattle.pel_model.specs.declared.note.TickNote.{TickNote}
use Rattle.pel_model.specs.Composed.{composed_of}
use Rattle.pel_model.specs.Decode.{decode}
use Rattle.pel_model.specs.Frames.{Frame}
use Rattle.pel_model.specs.History.{History, Tick, total_of}
use Rattle.pel_model.specs.Records.{Picture}
use Rattle.pel_model.specs.Takes.{choice}
use Rattle.pel_model.specs.Transform.{Transform}

abbrev pub picture_of : Option (Held Picture) → Option Picture
picture_of None = None
picture_of (Some h) = Some h.item

-- the CIF picture that a tick writes behind a history: the pictures that it takes, each in its place, and TR from the sum
-- of the steps (H.261, 4.2.1.2)
abbrev pub written_picture : ℕ → History → TickNote → Picture
written_picture lanes H note =
    composed_of (total_of (Tick note ∷ H) % 32) (λ q. picture_of (choice lanes H q))

-- what a receiver shows that showed `opening` at first and decoded every picture written since
abbrev pub shown_frame : Transform → (opening : Frame) → ℕ → History → Frame
shown_frame t opening lanes [] = opening
shown_frame t opening lanes (Tick note ∷ H) =
    decode Cif t (shown_frame t opening lanes H) (written_picture lanes H note)
shown_frame t opening lanes (_ ∷ H) = shown_frame t opening lanes H
