-- What holds of every legal history of a conference.
use Rattle.std.specs.Prelude.{◌≡◌, ◌⊎◌, ⊤, ℕ, ◌+◌, ◌-◌, ◌==◌, ◌≤◌, Bool, true, if◌then◌else◌, Option, Some, None, List, [], ◌∷◌, ◌++◌, length, slice_get}
use Rattle.pel_model.specs.declared.Format.TheVariants.{Cif}
use Rattle.pel_model.specs.declared.Quad.{Quad}
use Rattle.pel_model.specs.declared.Quad.TheVariants.{One, Two, Three, Four}
use Rattle.pel_model.specs.declared.note.Take.{Take}
use Rattle.pel_model.specs.declared.note.TickNote.{TickNote}
use Rattle.pel_model.specs.Crop.{crop}
use Rattle.pel_model.specs.Frames.{Frame}
use Rattle.pel_model.specs.History.{History, Tick, arrivals, taken_in}
use Rattle.pel_model.specs.Lanes.{Received, RiseAbove}
use Rattle.pel_model.specs.Own.{own}
use Rattle.pel_model.specs.Records.{Picture}
use Rattle.pel_model.specs.Takes.{last_taken, take}
use Rattle.pel_model.specs.Text.{text}
use Rattle.pel_model.specs.Transform.{Transform}
use Rattle.pel_model.specs.Valid.{IsValid}
use Rattle.pel_model.specs.Written.{written_picture, shown_frame}

-- H has this tick, behind this history
abbrev pub HasTick : History → TickNote → History → Type 0
HasTick H note before = (later : History) × (H ≡ later ++ Tick note ∷ before)

-- ---- the serials that ticks took of a lane

-- the serial of a take, if it is of this lane
abbrev pub serial_of_lane : ℕ → Option Take → List ℕ
serial_of_lane c None = []
serial_of_lane c (Some take) = if take.lane == c then take.serial ∷ [] else []

-- those of one tick, the lowest place first
abbrev pub serials_in : ℕ → TickNote → List ℕ
serials_in c note =
    serial_of_lane c note.taken_one ++ serial_of_lane c note.taken_two
    ++ serial_of_lane c note.taken_three ++ serial_of_lane c note.taken_four

-- those of all ticks, in whatever place, in the order in which they were taken
abbrev pub serials_taken : History → ℕ → List ℕ
serials_taken [] c = []
serials_taken (Tick note ∷ H) c = serials_taken H c ++ serials_in c note
serials_taken (_ ∷ H) c = serials_taken H c

-- ---- the headline

-- the most bits of a written picture: a picture header, and four pictures at the limit of QCIF without theirs
abbrev pub written_limit : ℕ
written_limit = 262048

-- a valid CIF picture whose strict text is within that
pub record IsWritable (picture : Picture) : Type 0 where
  pub valid : IsValid Cif picture
  pub short : length (text Cif picture) ≤ written_limit

pub record Headline (lanes : ℕ) (H : History) : Type 0 where
  -- every picture written is a legal CIF picture
  pub legal :
      (before : History) (note : TickNote) → HasTick H note before →
      IsWritable (written_picture lanes before note)
  -- whatever inverse transform the decoders share, where a tick took a picture the place shows behind it what the
  -- sender's own decoder shows behind that picture, whatever was shown at first and behind gaps
  pub shows :
      (t : Transform) (opening : Frame) (fill : ℕ → Frame)
      (before : History) (note : TickNote) (q : Quad) (take : Take) →
      HasTick H note before → taken_in q note ≡ Some take →
      crop q (shown_frame t opening lanes (Tick note ∷ before))
      ≡ own t fill (arrivals H take.lane) take.serial
  -- where it took none, the place shows what it showed before
  pub unchanged :
      (t : Transform) (opening : Frame) (before : History) (note : TickNote) (q : Quad) →
      HasTick H note before → taken_in q note ≡ None →
      crop q (shown_frame t opening lanes (Tick note ∷ before))
      ≡ crop q (shown_frame t opening lanes before)
  -- what it took is what the rule of takes chooses
  pub chosen :
      (before : History) (note : TickNote) (q : Quad) → HasTick H note before →
      taken_in q note ≡ take lanes before q
  -- the pictures of a lane are taken in the order of their serials, each at most once, in whatever place it stands
  pub in_order : (c : ℕ) → RiseAbove 0 (serials_taken H c)

-- ---- the law of tenancies

-- the take is of a picture that was received, and that may be shown whatever was shown before, or not
abbrev pub IsReceived : History → Take → Bool → Picture → Type 0
IsReceived H take refresh picture =
    slice_get (arrivals H take.lane) (take.serial - 1) ≡ Some (Received refresh picture)

-- what a tenancy takes first is a refresh; what it takes later is one, or comes right behind what it took last
abbrev pub GoesOn : Option ℕ → ℕ → Bool → Type 0
GoesOn None serial refresh = refresh ≡ true
GoesOn (Some last) serial refresh = (refresh ≡ true) ⊎ (serial ≡ last + 1)

abbrev pub Tenancies : ℕ → History → Type 0
Tenancies lanes H =
    (before : History) (note : TickNote) (q : Quad) (take : Take) →
    HasTick H note before → taken_in q note ≡ Some take →
    (refresh : Bool) × (picture : Picture) × IsReceived before take refresh picture
    × GoesOn (last_taken lanes before q) take.serial refresh
