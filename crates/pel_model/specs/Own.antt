-- What a sender's own decoder shows, by what came of the sender's pictures.
use Rattle.std.specs.Prelude.{ℕ, zero, suc, List, slice_get, Option, None, Some}
use Rattle.pel_model.specs.declared.Format.TheVariants.{Qcif}
use Rattle.pel_model.specs.Decode.{decode}
use Rattle.pel_model.specs.Frames.{Frame}
use Rattle.pel_model.specs.Lanes.{Arrival, Received, Missing}
use Rattle.pel_model.specs.Records.{Picture}
use Rattle.pel_model.specs.Transform.{Transform}

-- what it shows after an arrival, if it showed `before` before; behind a gap nothing is known of it: it shows `unknown`
abbrev pub shown_after : Transform → (before unknown : Frame) → Option (Arrival Picture) → Frame
shown_after t before unknown None = before
shown_after t before unknown (Some (Received refresh picture)) = decode Qcif t before picture
shown_after t before unknown (Some Missing) = unknown

-- what it shows after the first n arrivals, where `fill n` is what it shows behind a gap with serial n, and `fill 0` what
-- it shows at first
abbrev pub own : Transform → (fill : ℕ → Frame) → List (Arrival Picture) → ℕ → Frame
own t fill came zero = fill 0
own t fill came (suc n) = shown_after t (own t fill came n) (fill (suc n)) (slice_get came n)
