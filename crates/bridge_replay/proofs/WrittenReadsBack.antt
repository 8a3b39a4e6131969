-- What is written for a legal history reads back.
use Rattle.std.proofs.Common.{ℕ, [], ◌∷◌, All, arith}
use Rattle.std.proofs.lemmas.List.Elements.{All-nil, All-cons, All-append}
use Rattle.bridge_replay.specs.Replays.{ReadsBack}
use Rattle.cif_pack.specs.declared.packer.Settings.{Settings}
use Rattle.cif_pack.specs.PicturesWritten.{pictures_written}
use Rattle.history_laws.proofs.Composing.{writable}
use Rattle.pel_model.specs.declared.note.TickNote.{TickNote}
use Rattle.pel_model.specs.History.{History, Tick, Post, Gap, Order, End, total_of}
use Rattle.pel_model.specs.Legal.{Legal}
use Rattle.pel_model.specs.Written.{written_picture}
use Rattle.bridge_replay.specs.ReadingBack.{CanBePacked, OctetsGivePictures}

can-be-sent : (lanes : ℕ) (H : History) (note : TickNote) → Legal lanes H
    → CanBePacked (total_of (Tick note ∷ H), written_picture lanes H note)
can-be-sent lanes H note legal =
    let w = writable lanes H note legal in
    record { valid = w.valid; short = omega (arith, w.short) }

-- the pictures that are written for a legal history are valid, and no longer than the format allows
pub can-be-written : (lanes : ℕ) (H : History) → Legal lanes H → All CanBePacked (pictures_written lanes H)
can-be-written lanes [] legal = All-nil CanBePacked
can-be-written lanes (Post lane picture ∷ H) legal = can-be-written lanes H legal.0
can-be-written lanes (Gap lane ∷ H) legal = can-be-written lanes H legal.0
can-be-written lanes (Order command reply ∷ H) legal = can-be-written lanes H legal.0
can-be-written lanes (End ∷ H) legal = can-be-written lanes H legal.0
can-be-written lanes (Tick note ∷ H) legal =
    All-append CanBePacked (pictures_written lanes H) _ (can-be-written lanes H legal.0)
    (All-cons CanBePacked _ [] (can-be-sent lanes H note legal.0) (All-nil CanBePacked))

pub reads-back : OctetsGivePictures → (s : Settings) (lanes : ℕ) (H : History) → Legal lanes H → ReadsBack s (pictures_written lanes H)
reads-back law s lanes H legal set packets rest stream =
    law s 0 (pictures_written lanes H) packets rest set (can-be-written lanes H legal) stream
