-- What a decoder shows after each picture of a stream, as octets.
use Rattle.std.specs.Prelude.{ℕ, List, [], ◌∷◌, None}
use Rattle.pel_model.specs.declared.Format.{Format}
use Rattle.pel_model.specs.Decode.{decode}
use Rattle.pel_model.specs.Frames.{Frame}
use Rattle.pel_model.specs.Transform.{fixed}
use Rattle.ref_decode.specs.Shown.{Shown as Screen, black, frame_of, planes_of}
use Rattle.rtp_h261.specs.Events.{Event, Lost, Shown, Refused}
use Rattle.rtp_h261.specs.Tellers.{Duty}

-- the planes after each picture, from this frame on: a loss, or a unit that is no picture, changes nothing
abbrev pub planes_from : Format → Frame → List Event → List (List ℕ)
planes_from format before [] = []
planes_from format before (Lost ∷ events) = planes_from format before events
planes_from format before (Refused place why ∷ events) = planes_from format before events
planes_from format before (Shown picture ∷ events) =
    planes_of format (decode format fixed before picture)
    ∷ planes_from format (decode format fixed before picture) events

-- from a black frame on
abbrev pub planes_shown : Format → List Event → List (List ℕ)
planes_shown format events = planes_from format black events

-- what is to be written behind what is shown
abbrev pub planes_duty : Screen → Duty
planes_duty shown = record {
  format = shown.format;
  pieces = λ number events. planes_from shown.format (frame_of shown) events;
  counts = None;
}
