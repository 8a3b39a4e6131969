-- The laws of the CIF picture that is composed of up to four QCIF pictures.
use Rattle.std.specs.Prelude.{◌≡◌, ℕ, ◌+◌, ◌*◌, ◌<◌, ◌≤◌, length, Option, None, Some, IfSome}
use Rattle.pel_model.specs.declared.Format.TheVariants.{Qcif, Cif}
use Rattle.pel_model.specs.declared.Quad.{Quad}
use Rattle.pel_model.specs.declared.Quad.TheVariants.{One, Two, Three, Four}
use Rattle.pel_model.specs.Accepts.{LegalCif}
use Rattle.pel_model.specs.Composed.{or_blank, composed_of}
use Rattle.pel_model.specs.Crop.{crop}
use Rattle.pel_model.specs.Decode.{decode}
use Rattle.pel_model.specs.Frames.{Frame}
use Rattle.pel_model.specs.Headline.{written_limit}
use Rattle.pel_model.specs.Records.{Picture}
use Rattle.pel_model.specs.Text.{text}
use Rattle.pel_model.specs.Headers.{picture_header_length}
use Rattle.pel_model.specs.Transform.{Transform}
use Rattle.pel_model.specs.Valid.{IsValid, limit}

-- the pictures that are shown are valid QCIF pictures
abbrev pub AreValid : (Quad → Option Picture) → Type 0
AreValid shown = (place : Quad) → IfSome (shown place) (IsValid Qcif)

-- their texts are within the limit
abbrev pub AreWithin : (Quad → Option Picture) → Type 0
AreWithin shown = (place : Quad) → IfSome (shown place) (λ p. length (text Qcif p) ≤ limit Qcif)

-- what a place shows that showed `before`, when it gets a picture or none
abbrev pub place_after : Transform → (before : Frame) → Option Picture → Frame
place_after t before None = before
place_after t before (Some picture) = decode Qcif t before picture

-- after decoding the composed picture a place shows what decoding its picture makes of what it showed, and what it showed
-- where it gets none
abbrev pub ComposedShows : Type 0
ComposedShows =
    (t : Transform) (before : Frame) (tr : ℕ) (shown : Quad → Option Picture) (place : Quad) → AreValid shown
    → crop place (decode Cif t before (composed_of tr shown)) ≡ place_after t (crop place before) (shown place)

abbrev pub ComposedIsValid : Type 0
ComposedIsValid =
    (tr : ℕ) (shown : Quad → Option Picture) → tr < 32 → AreValid shown → IsValid Cif (composed_of tr shown)

-- one picture header stands for four; a place that gets no picture has the headers of three groups
abbrev pub ComposedLength : Type 0
ComposedLength =
    (tr : ℕ) (shown : Quad → Option Picture) → AreValid shown
    → length (text Cif (composed_of tr shown)) + 3 * picture_header_length
    ≡ length (text Qcif (or_blank (shown One))) + length (text Qcif (or_blank (shown Two)))
    + length (text Qcif (or_blank (shown Three))) + length (text Qcif (or_blank (shown Four)))

-- where the texts are at the limit of QCIF at most, that of the composed picture is within `written_limit`
abbrev pub ComposedIsLegal : Type 0
ComposedIsLegal =
    (tr : ℕ) (shown : Quad → Option Picture) → tr < 32 → AreValid shown → AreWithin shown
    → LegalCif (text Cif (composed_of tr shown)) × (length (text Cif (composed_of tr shown)) ≤ written_limit)
