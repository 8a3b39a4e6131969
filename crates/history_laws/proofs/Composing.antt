-- What a tick composes of a legal history: valid pictures within their limit.
use Rattle.std.proofs.Common.{◌≡◌, ℕ, ◌+◌, ◌*◌, ◌%◌, ◌<◌, ◌≤◌, ◌==◌, ◌&&◌, Bool, true, false, Option, Some, None, List, [], ◌∷◌, length, All, IfSome, refl, sym, ap, subst, ◌∙◌, arith}
use Rattle.std.proofs.lemmas.Option.{none-some}
use Rattle.pel_model.specs.declared.Format.TheVariants.{Qcif, Cif}
use Rattle.pel_model.specs.declared.Quad.{Quad}
use Rattle.pel_model.specs.declared.held.Held.{Held}
use Rattle.pel_model.specs.declared.note.TickNote.{TickNote}
use Rattle.pel_model.specs.Headline.{IsWritable}
use Rattle.pel_model.specs.History.{History, Tick, lane_at, total_of}
use Rattle.pel_model.specs.Legal.{IsPostable, Legal}
use Rattle.pel_model.specs.Records.{Picture}
use Rattle.pel_model.specs.Text.{text}
use Rattle.pel_model.specs.Valid.{IsValid, limit}
use Rattle.pel_model.specs.Takes.{choice_of, choice}
use Rattle.pel_model.specs.Written.{picture_of, written_picture}
use Rattle.frame_laws.specs.Composing.{AreValid, AreWithin}
use Rattle.frame_laws.proofs.ComposedPictures.{composed-valid, composed-legal}
use Rattle.history_laws.proofs.Ticks.{chooses, chosen-good}

-- what is shown of a place in a legal history
abbrev pub shown : ℕ → History → Quad → Option Picture
shown lanes H q = picture_of (choice lanes H q)

postable : (lanes : ℕ) (H : History) (q : Quad) (lane : Option ℕ) (picture : Option (Held Picture)) → Legal lanes H →
    lane_at lanes H q ≡ lane → choice lanes H q ≡ picture → IfSome (picture_of picture) IsPostable
postable lanes H q lane None legal stands chosen = tt
postable lanes H q None (Some h) legal stands chosen = absurd (none-some h (sym (ap (choice_of lanes H q) stands) ∙ chosen))
postable lanes H q (Some c) (Some h) legal stands chosen = (chosen-good lanes H q c h legal (chooses lanes H q c h stands chosen)).0

valid-of : (picture : Option Picture) → IfSome picture IsPostable → IfSome picture (IsValid Qcif)
valid-of None good = tt
valid-of (Some p) good = good.valid

within-of : (picture : Option Picture) → IfSome picture IsPostable → IfSome picture (λ p. length (text Qcif p) ≤ limit Qcif)
within-of None good = tt
within-of (Some p) good = good.short

pub are-valid : (lanes : ℕ) (H : History) → Legal lanes H → AreValid (shown lanes H)
are-valid lanes H legal q = valid-of (shown lanes H q) (postable lanes H q (lane_at lanes H q) (choice lanes H q) legal refl refl)

are-within : (lanes : ℕ) (H : History) → Legal lanes H → AreWithin (shown lanes H)
are-within lanes H legal q = within-of (shown lanes H q) (postable lanes H q (lane_at lanes H q) (choice lanes H q) legal refl refl)

pub writable : (lanes : ℕ) (H : History) (note : TickNote) → Legal lanes H → IsWritable (written_picture lanes H note)
writable lanes H note legal =
    let total = total_of (Tick note ∷ H) in
    let below : total % 32 < 32 = omega arith in
    record {
      valid = composed-valid (total % 32) (shown lanes H) below (are-valid lanes H legal);
      short = (composed-legal (total % 32) (shown lanes H) below (are-valid lanes H legal) (are-within lanes H legal)).1;
    }
