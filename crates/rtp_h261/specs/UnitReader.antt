-- What a reader of units does: it takes the next packet of a source, and feeds it.
use Rattle.std.specs.Prelude.{◌≡◌, ℕ, ◌<◌, List, [], length, map, None, Result, Ok, Err}
use Rattle.std.specs.List.{flat_map}
use Rattle.h261_pic.specs.Coded.{Coding}
use Rattle.io_edge.specs.Allowance.{Paused}
use Rattle.io_edge.specs.declared.allowance.Pause.TheVariants as pause
use Rattle.io_edge.specs.Outside.{Input}
use Rattle.pel_model.specs.declared.Format.{Format}
use Rattle.picture_laws.specs.Laws.{kept_length}
use Rattle.rtp_h261.specs.declared.depack.Fed.{Fed}
use Rattle.rtp_h261.specs.Depack.{Held, Feeds}
use Rattle.rtp_h261.specs.OneByOne.{state_of}
use Rattle.rtp_h261.specs.Packets.{piece_of}
use Rattle.rtp_wire.specs.declared.frames.FrameEnd.{FrameEnd}
use Rattle.rtp_wire.specs.declared.frames.FrameEnd.TheVariants.{End, Cut, Fault, Limit}
use Rattle.rtp_wire.specs.Frames.{FramerState, CallsNext, frame}

-- a reader, as its callers see it
pub record UnitReading : Type 0 where
  pub framer : FramerState
  pub depack : Held

-- the framer behind the frames of these packets, and the depacketiser that was fed them
abbrev pub framer_after : (budget : ℕ) → List (List ℕ) → FramerState
framer_after budget packets =
    record { allowance = record { taken = length (flat_map frame packets); budget = budget }; ended = None }

abbrev pub depack_after : Format → List (List ℕ) → Held
depack_after format packets =
    record { format = format; state = state_of (kept_length format) (map piece_of packets) }

abbrev pub reading_after : Format → (budget : ℕ) → List (List ℕ) → UnitReading
reading_after format budget packets =
    record { framer = framer_after budget packets; depack = depack_after format packets }

-- the packet that was taken was fed; where none was, depacketiser and picture are as before
abbrev pub FeedsOn : (old new : Held) → (before now : Coding) → Result (List ℕ) FrameEnd → Result Fed FrameEnd → Type 0
FeedsOn old new before now (Ok packet) (Ok fed) = Feeds packet fed old new before now
FeedsOn old new before now (Err end) (Err told) = (told ≡ end) × (new ≡ old) × (now ≡ before)
FeedsOn old new before now _ _ = ⊥

-- a call: what the framer answers is fed
pub record ReadsOn (source rest : Input) (old new : UnitReading) (before now : Coding) (result : Result Fed FrameEnd)
    : Type 0 where
  pub answer : Result (List ℕ) FrameEnd
  pub framed : CallsNext source rest old.framer new.framer answer
  pub fed : FeedsOn old.depack new.depack before now answer result

-- why a source gives no packet more, by the octets that were taken, those of them behind the last whole frame, and how
-- many may be taken
abbrev pub GivesNoMore : FrameEnd → (octets part : List ℕ) → (budget : ℕ) → (before after : Input) → Type 0
-- it ended between two frames
GivesNoMore End octets part budget before after =
    (part ≡ []) × Paused pause.End before after (record { taken = length octets; budget = budget })
-- it ended inside a frame; the place is the number of octets taken
GivesNoMore (Cut place) octets part budget before after =
    (place ≡ length octets) × (0 < length part)
    × Paused pause.End before after (record { taken = length octets; budget = budget })
-- as many octets were taken as may be
GivesNoMore Limit octets part budget before after =
    Paused pause.Limit before after (record { taken = length octets; budget = budget })
-- it failed
GivesNoMore Fault octets part budget before after =
    Paused pause.Fault before after (record { taken = length octets; budget = budget })
