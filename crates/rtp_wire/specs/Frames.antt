-- Frames: RTP packets on a stream of octets (RFC 4571, 2). Each packet stands behind its length in octets, 16 bits in
-- network order.
use Rattle.std.specs.Prelude.{◌≡◌, ◌⊎◌, ℕ, ◌+◌, ◌-◌, ◌*◌, ◌^◌, ◌<◌, nat_le, Bool, false, if◌then◌else◌, List, [], ◌∷◌, ◌++◌, length, take, drop, Option, None, Some, Result, Ok, Err}
use Rattle.std.specs.List.{flat_map, AllByRecursion}
use Rattle.byteorder.specs.Endian.{big_bytes}
use Rattle.io_edge.specs.Allowance.{AllowanceState, TakesOctets, Paused}
use Rattle.io_edge.specs.Outside.{Input}
use Rattle.io_edge.specs.declared.allowance.Pause.TheVariants as pause
use Rattle.rtp_wire.specs.declared.frames.FrameEnd.{FrameEnd}
use Rattle.rtp_wire.specs.declared.frames.FrameEnd.TheVariants.{End, Cut, Fault, Limit}
use denote.Ref.{Bor}

-- the most octets of a packet
abbrev pub longest_packet : ℕ
longest_packet = 65535

-- a packet as it stands on the stream
abbrev pub frame : List ℕ → List ℕ
frame packet = big_bytes 2 (length packet) ++ packet

-- a packet of which the length fits the frame
abbrev pub HasFrame : List ℕ → Type 0
HasFrame packet = length packet < 2 ^ 16

-- less than a whole frame: not yet its length, or fewer octets than the length says
abbrev pub IsPartial : List ℕ → Type 0
IsPartial [] = Unit {0}
IsPartial (_ ∷ []) = Unit {0}
IsPartial (high ∷ low ∷ octets) = length octets < high * 256 + low

-- a whole frame stands at the front
abbrev pub has_frame : List ℕ → Bool
has_frame [] = false
has_frame (_ ∷ []) = false
has_frame (high ∷ low ∷ octets) = nat_le (high * 256 + low) (length octets)

-- its packet
abbrev pub first_packet : List ℕ → List ℕ
first_packet [] = []
first_packet (_ ∷ []) = []
first_packet (high ∷ low ∷ octets) = take (high * 256 + low) octets

-- how a stream ends before a whole frame, of which nothing or something is there
abbrev pub end_before : List ℕ → ℕ → FrameEnd
end_before [] place = End
end_before (_ ∷ _) place = Cut place

-- What a call answers that meets no fault, where these octets are left, so many were taken and the budget is this:
-- the first packet, where the budget lets its whole frame be taken; Limit, where the budget is used up before the
-- source shows its end; and else the end, between two frames or inside one.
unfoldable pub next_frame : List ℕ → ℕ → ℕ → Result (List ℕ) FrameEnd
next_frame left taken budget =
    if has_frame (take (budget - taken) left) then Ok (first_packet left)
    else if nat_le budget (taken + length left) then Err Limit
    else Err (end_before left (taken + length left))

-- the packets that the calls give one after the other, and the end that comes then
abbrev pub Framed : List ℕ → ℕ → ℕ → List (List ℕ) → FrameEnd → Type 0
Framed left taken budget [] end = next_frame left taken budget ≡ Err end
Framed left taken budget (packet ∷ packets) end =
    (next_frame left taken budget ≡ Ok packet)
    × Framed (drop (length packet + 2) left) (taken + length packet + 2) budget packets end

-- a stream of whole frames, and behind them less than one
abbrev pub stream_of : List (List ℕ) → List ℕ → List ℕ
stream_of packets rest = flat_map frame packets ++ rest

-- The stream's packets are given in its order, each of them once and no others, and then its end: between two frames,
-- or inside one at the number of its octets. The budget has to be greater than the octets.
abbrev pub LawOfStreams : Type 0
LawOfStreams =
    (packets : List (List ℕ)) (rest : List ℕ) (taken budget : ℕ) → AllByRecursion HasFrame packets
    → IsPartial rest
    → taken + length (stream_of packets rest) < budget
    → Framed (stream_of packets rest) taken budget packets
    (end_before rest (taken + length (stream_of packets rest)))

-- a framer, as its callers see it: what it took and may take, frame lengths included, and how it ended, once it did
pub record FramerState : Type 0 where
  pub allowance : AllowanceState
  pub ended : Option FrameEnd

abbrev pub end_of : Result (List ℕ) FrameEnd → Option FrameEnd
end_of (Ok packet) = None
end_of (Err end) = Some end

-- what a call answers, by the octets that it took, the source before and after, and the allowance then
abbrev pub TakesFrame : Result (List ℕ) FrameEnd → (took : List ℕ) → (before after : Input) → AllowanceState → Type 0
-- a whole frame was taken and no octet more
TakesFrame (Ok packet) took before after new =
    (took ≡ frame packet) × HasFrame packet × (after.faults ≡ before.faults)
-- the source ended between two frames
TakesFrame (Err End) took before after new = (took ≡ []) × Paused pause.End before after new
-- the source ended inside a frame; the place is the number of octets taken in all
TakesFrame (Err (Cut place)) took before after new =
    (place ≡ new.taken) × (0 < length took) × IsPartial took × Paused pause.End before after new
-- the budget was taken, and no whole frame was
TakesFrame (Err Limit) took before after new = IsPartial took × Paused pause.Limit before after new
-- the source failed
TakesFrame (Err Fault) took before after new = IsPartial took × Paused pause.Fault before after new

-- a call that may ask: it took octets from the source, which say what it answers
pub record TakesOne (before after : Input) (old new : AllowanceState) (result : Result (List ℕ) FrameEnd) : Type 0 where
  pub took : List ℕ
  pub takes : TakesOctets before after old new took
  pub answer : TakesFrame result took before after new

-- a call of a framer that has not ended
pub record ReadsFrame (before after : Input) (old new : FramerState) (result : Result (List ℕ) FrameEnd) : Type 0 where
  pub frame_taken : TakesOne before after old.allowance new.allowance result
  pub ended : new.ended ≡ end_of result

-- a call of a framer that has ended: it answers the same end again, and changes nothing
pub record StaysEnded (before after : Input) (old new : FramerState) (end : FrameEnd)
    (result : Result (List ℕ) FrameEnd) : Type 0 where
  pub answer : result ≡ Err end
  pub framer : new ≡ old
  pub source : after ≡ before

abbrev pub ReadsOrStays : Option FrameEnd
    → (before after : Input) (old new : FramerState) (result : Result (List ℕ) FrameEnd) → Type 0
ReadsOrStays None before after old new result = ReadsFrame before after old new result
ReadsOrStays (Some end) before after old new result = StaysEnded before after old new end result

-- what a call of a framer does
abbrev pub CallsNext : (before after : Input) (old new : FramerState) (result : Result (List ℕ) FrameEnd) → Type 0
CallsNext before after old new result = ReadsOrStays old.ended before after old new result

-- the packet behind the borrow that the call gives
abbrev pub shown : Result (Bor (List ℕ)) FrameEnd → Result (List ℕ) FrameEnd
shown (Ok packet) = Ok packet.now
shown (Err end) = Err end

-- the packet of a buffer, of which the first octets were filled
abbrev pub in_buffer : List ℕ → Result ℕ FrameEnd → Result (List ℕ) FrameEnd
in_buffer buffer (Ok size) = Ok (take size buffer)
in_buffer buffer (Err end) = Err end

-- Where the source tells its octets, they and the budget say what a framer that has not ended answers, unless the source
-- fails.
abbrev pub LawOfAnswers : Type 0
LawOfAnswers =
    (left : List ℕ) (before after : Input) (old new : FramerState) (result : Result (List ℕ) FrameEnd)
    → before.left ≡ Some left → old.ended ≡ None → CallsNext before after old new result
    → (result ≡ Err Fault) ⊎ (result ≡ next_frame left old.allowance.taken old.allowance.budget)

-- the octets are these frames, and behind them less than one
pub record IsStream (octets : List ℕ) (packets : List (List ℕ)) (rest : List ℕ) : Type 0 where
  pub cut : octets ≡ stream_of packets rest
  pub frames : AllByRecursion HasFrame packets
  pub part : IsPartial rest

-- octets are so in one way at most
abbrev pub LawOfOneStream : Type 0
LawOfOneStream =
    (octets : List ℕ) (packets others : List (List ℕ)) (rest end : List ℕ)
    → IsStream octets packets rest → IsStream octets others end → (packets ≡ others) × (rest ≡ end)

-- a framer has given these packets of a stream; so many octets are taken, and these are left
pub record HasFramed (stream : List ℕ) (packets : List (List ℕ)) (taken : ℕ) (left : List ℕ) : Type 0 where
  pub cut : stream ≡ stream_of packets left
  pub frames : AllByRecursion HasFrame packets
  pub counted : taken ≡ length (flat_map frame packets)

-- the stream where a call behind these packets answered this and left these octets
abbrev pub AfterFrame : List ℕ → List (List ℕ) → Option (List ℕ) → AllowanceState → Result (List ℕ) FrameEnd → Type 0
AfterFrame stream packets rest new (Ok packet) =
    (left : List ℕ) × (rest ≡ Some left) × HasFramed stream (packets ++ packet ∷ []) new.taken left
AfterFrame stream packets rest new (Err End) = IsStream stream packets []
AfterFrame stream packets rest new (Err (Cut place)) =
    (part : List ℕ) × IsStream stream packets part × (0 < length part) × (place ≡ length stream)
-- the octets that were taken, as a stream of their own
AfterFrame stream packets rest new (Err Limit) =
    (new.taken ≡ new.budget) × ((part : List ℕ) × IsStream (take new.taken stream) packets part)
AfterFrame stream packets rest new (Err Fault) = (part : List ℕ) × IsStream (take new.taken stream) packets part

-- Where the source tells its octets, a framer gives the packets of the stream that they are, frame by frame.
abbrev pub LawOfCalls : Type 0
LawOfCalls =
    (stream : List ℕ) (packets : List (List ℕ)) (left : List ℕ) (before after : Input) (old new : FramerState)
    (result : Result (List ℕ) FrameEnd) → before.left ≡ Some left
    → HasFramed stream packets old.allowance.taken left → old.ended ≡ None
    → CallsNext before after old new result → AfterFrame stream packets after.left new.allowance result
