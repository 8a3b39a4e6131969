-- A packet that was read and posted, and the ends of a lane.
use Rattle.std.proofs.Common.{◌≡◌, ℕ, ◌+◌, ◌≤◌, Bool, true, false, List, [], ◌∷◌, ◌++◌, length, map, Option, Some, None, Result, Ok, Err, OnOk, refl, sym, ◌∙◌, ap, subst, arith, append_assoc, append-nil, length-append}
use Rattle.std.specs.List.{flat_map}
use Rattle.std.specs.Io.KnownBytes.{Consumes}
use Rattle.std.proofs.lemmas.List.{map-append}
use mathlib.Core.List.{IsPrefix}
use Rattle.h261_pic.specs.Coded.{Coding, coding}
use Rattle.hall_core.specs.Hall.{HallView, lanes_of}
use Rattle.hall_lock.specs.Seats.{Lock}
use Rattle.io_edge.specs.Outside.{Input}
use Rattle.pel_model.specs.declared.Format.{Format}
use Rattle.pel_model.specs.declared.Format.TheVariants.{Qcif}
use Rattle.pel_model.specs.History.{Step, Gap}
use Rattle.pel_model.specs.Valid.{limit, IsValid}
use Rattle.rtp_h261.specs.declared.depack.Fed.{Fed}
use Rattle.rtp_h261.specs.declared.depack.Unit.{Unit as Ending}
use Rattle.rtp_h261.specs.declared.depack.Unit.TheVariants.{Picture, Gap as Broken}
use Rattle.rtp_h261.specs.Events.{Event, lost_events}
use Rattle.rtp_h261.specs.ReadSoFar.{HasReadPackets, IsEventOf, Told, ReadsPacket}
use Rattle.rtp_h261.specs.UnitReader.{UnitReading, reading_after, ReadsOn, GivesNoMore}
use Rattle.rtp_h261.proofs.PacketsRead.{none-read, packet-read, no-packet-read}
use Rattle.rtp_wire.specs.declared.frames.FrameEnd.{FrameEnd}
use Rattle.rtp_wire.specs.declared.frames.FrameEnd.TheVariants.{End, Cut, Fault, Limit}
use Rattle.rtp_wire.specs.Frames.{frame, stream_of}
use Rattle.bridge_live.specs.declared.calls.Halt.{Halt}
use Rattle.bridge_live.specs.declared.calls.Halt.TheVariants as halt
use Rattle.bridge_live.specs.declared.ends.LaneStop.{LaneStop}
use Rattle.bridge_live.specs.declared.lane.Counts.{Counts}
use Rattle.bridge_live.specs.declared.lane.Lane.{Lane}
use Rattle.bridge_live.specs.declared.qcif.QcifBox.{QcifBox}
use Rattle.bridge_live.specs.Flow.{step_of}
use Rattle.bridge_live.specs.Lane.{StopsAt, MakesOf, RunsLane}
use Rattle.bridge_live.specs.Posting.{counted_by, MayPost, HasPosted, IsShort, PostsMore, Posts, AreUnitSteps, lost_steps, AreSteps, lane_stop_for, halted, stop_after, stop_at, end_steps, ClosesLane, MayRead, HasFlowed, GoesOnOrStops, TakesPacket, LaneBegins}
use Rattle.bridge_live.specs.Worker.{most_taken, HallSeat, IsUnderWay, HasHalted}
use Rattle.bridge_live.proofs.Calling.{none-made, none-back}

-- ---- the steps of a packet

unit-steps : (lane : ℕ) (unit : Option Ending) (coded : Coding) (events : List Event) → IsEventOf unit coded events → coded.format ≡ Qcif → length coded.bits ≤ limit coded.format
    → AreUnitSteps lane unit coded (map (step_of lane) events)
unit-steps lane None coded events is qcif short = ap (map (step_of lane)) is
unit-steps lane (Some Picture) coded events is qcif short =
    let p = is.2 in
    let here : coded ≡ coding Qcif p.picture = p.coded_is ∙ ap (λ (f : Format). coding f p.picture) qcif in (
      p.picture,
      record {
        coded = here;
        postable = record {
          valid = subst (λ (f : Format). IsValid f p.picture) qcif p.valid;
          short = subst (λ (c : Coding). length c.bits ≤ limit c.format) here short;
        };
      },
      p.finished,
      ap (map (step_of lane)) (is.1 ∙ ap (λ (e : Event). e ∷ []) p.event_is),
    )
unit-steps lane (Some (Broken fault)) coded events is qcif short = ap (map (step_of lane)) (is.1 ∙ ap (λ (e : Event). e ∷ []) is.2)

loss-first : (lane : ℕ) (lost : Bool) (unit : List Event) → map (step_of lane) (lost_events lost ++ unit) ≡ lost_steps lane lost ++ map (step_of lane) unit
loss-first lane true unit = refl
loss-first lane false unit = refl

told-steps : (lane : ℕ) (fed : Fed) (coded : Coding) (events : List Event) → Told fed coded events → coded.format ≡ Qcif → length coded.bits ≤ limit coded.format
    → AreSteps lane fed coded (map (step_of lane) events)
told-steps lane fed coded events t qcif short = record {
  unit = map (step_of lane) t.unit;
  is_unit = unit-steps lane fed.unit coded t.unit t.is_unit qcif short;
  order = ap (map (step_of lane)) t.order ∙ loss-first lane fed.lost t.unit;
}

few-unit : (lane : ℕ) (unit : Option Ending) (coded : Coding) (steps : List Step) → AreUnitSteps lane unit coded steps → length steps ≤ 1
few-unit lane None coded steps is = omega (arith, ap (λ (w : List Step). length w) is)
few-unit lane (Some Picture) coded steps is = omega (arith, ap (λ (w : List Step). length w) is.3)
few-unit lane (Some (Broken fault)) coded steps is = omega (arith, ap (λ (w : List Step). length w) is)

few-lost : (lane : ℕ) (lost : Bool) → length (lost_steps lane lost) ≤ 1
few-lost lane true = omega arith
few-lost lane false = omega arith

few-steps : (lane : ℕ) (fed : Fed) (coded : Coding) (steps : List Step) → AreSteps lane fed coded steps → length steps ≤ 2
few-steps lane fed coded steps is =
    omega (arith, ap (λ (w : List Step). length w) is.order, length-append (lost_steps lane fed.lost) is.unit, few-lost lane fed.lost, few-unit lane fed.unit coded is.unit is.is_unit)

-- ---- how much was taken

taken-is : (reader : UnitReading) (packets : List (List ℕ)) → reader ≡ reading_after Qcif most_taken packets
    → reader.framer.allowance.taken ≡ length (flat_map frame packets)
taken-is reader packets is = ap (λ (r : UnitReading). r.framer.allowance.taken) is

pub qcif-reader : (lock : Lock HallView) (source : Input) (reader : UnitReading) (lane : Lane) → MayRead lock source reader lane → reader.depack.format ≡ Qcif
qcif-reader lock source reader lane may = ap (λ (r : UnitReading). r.depack.format) may.read.3.reader_is

pub within-reader : (lock : Lock HallView) (source : Input) (reader : UnitReading) (lane : Lane) → MayRead lock source reader lane → reader.framer.allowance.taken ≤ most_taken
within-reader lock source reader lane may = omega (arith, may.read.3.within, taken-is reader may.read.1 may.read.3.reader_is)

pub two-more : (lock : Lock HallView) (source : Input) (reader : UnitReading) (lane : Lane) → MayRead lock source reader lane → MayPost 2 lock lane
two-more lock source reader lane may =
    record { at_lock = may.at_lock; few = omega (arith, may.few, within-reader lock source reader lane may); live = may.live }

pub one-more : (lock : Lock HallView) (source : Input) (reader : UnitReading) (lane : Lane) → MayRead lock source reader lane → MayPost 1 lock lane
one-more lock source reader lane may =
    record { at_lock = may.at_lock; few = omega (arith, may.few, within-reader lock source reader lane may); live = may.live }

-- ---- a packet

prefix-of-short : (flow part more : List Step) → IsShort part more → IsPrefix (flow ++ part) (flow ++ more)
prefix-of-short flow part more s =
    (s.0 ∷ s.1, append_assoc flow part (s.0 ∷ s.1) ∙ ap (λ (xs : List Step). flow ++ xs) (sym s.2))

halts-so : (back : Halt) (lane : ℕ) (flow steps : List Step) (seat : HallSeat) → IsPrefix steps flow → HasHalted back seat → MakesOf (lane_stop_for back) lane flow steps seat
halts-so halt.Ended lane flow steps seat p h = (p, h)
halts-so halt.Over lane flow steps seat p h = (p, h)

stops-so : (back : Halt) (octets part : List ℕ) (before after : Input) → StopsAt (lane_stop_for back) octets part before after
stops-so halt.Ended octets part before after = tt
stops-so halt.Over octets part before after = tt

module _ (lock : Lock HallView) (source now : Input) (old new : UnitReading) (from to : Lane) (was is : Coding) where
  -- what a packet that was fed gives
  pub fed-so : (fed : Fed) → MayRead lock source old from → ReadsOn source now old new was is (Ok fed) → was.format ≡ Qcif → length is.bits ≤ limit is.format
      → (more : List Step) × AreSteps from.number fed is more
  fed-so fed may reads qcif short =
      let p = packet-read Qcif most_taken may.read.0 source now old new was is fed may.read.1 may.read.2 may.read.3 reads qcif in
      (map (step_of from.number) p.more, told-steps from.number fed is p.more p.told p.coded_is short)

  pub qcif-still : (fed : Fed) → MayRead lock source old from → ReadsOn source now old new was is (Ok fed) → was.format ≡ Qcif → is.format ≡ Qcif
  qcif-still fed may reads qcif =
      (packet-read Qcif most_taken may.read.0 source now old new was is fed may.read.1 may.read.2 may.read.3 reads qcif).coded_is

  goes-on : (r : Result QcifBox Halt) (fed : Fed) (before : Input) (first : HallSeat) → HasFlowed (lanes_of lock.opening) before source first old from
      → MayRead lock source old from → ReadsOn source now old new was is (Ok fed) → was.format ≡ Qcif → length is.bits ≤ limit is.format
      → ((more : List Step) → AreSteps from.number fed is more → Posts lock more from to r)
      → GoesOnOrStops lock before now first old new to (halted r)
  goes-on (Ok spare) fed before first h may reads qcif short posts =
      let p = packet-read Qcif most_taken before source now old new was is fed h.packets h.events h.read reads qcif in
      let steps = told-steps from.number fed is p.more p.told p.coded_is short in
      let made = posts (map (step_of from.number) p.more) steps in
      let all : map (step_of from.number) h.events ++ map (step_of from.number) p.more ≡ map (step_of to.number) (h.events ++ p.more) =
      sym (map-append (step_of from.number) h.events p.more) ∙ ap (λ (n : ℕ). map (step_of n) (h.events ++ p.more)) (sym made.number) in
      let taken_old = taken-is old h.packets h.read.reader_is in
      let taken_new = taken-is new (h.packets ++ p.packet ∷ []) p.read.reader_is in (
        record {
          packets = h.packets ++ p.packet ∷ [];
          events = h.events ++ p.more;
          read = p.read;
          posted = subst (λ (xs : List Step). HasPosted (lanes_of lock.opening) first to xs) all (made.posted first (map (step_of from.number) h.events) h.posted);
        },
        record {
          at_lock = made.at_lock;
          read = (before, h.packets ++ p.packet ∷ [], h.events ++ p.more, p.read);
          few = omega (arith, made.few, may.few, taken_old, taken_new, p.longer, few-steps from.number fed is (map (step_of from.number) p.more) steps);
          live = made.live;
        },
        omega (arith, taken_old, taken_new, p.longer),
      )
  goes-on (Err back) fed before first h may reads qcif short posts =
      let p = packet-read Qcif most_taken before source now old new was is fed h.packets h.events h.read reads qcif in
      let steps = told-steps from.number fed is p.more p.told p.coded_is short in
      let flow = map (step_of from.number) h.events in
      let more = map (step_of from.number) p.more in
      let made = posts more steps in
      let part = made.posted first flow h.posted in
      let packets = h.packets ++ p.packet ∷ [] in
      let all : flow ++ more ≡ map (step_of to.number) (h.events ++ p.more) =
      sym (map-append (step_of from.number) h.events p.more) ∙ ap (λ (n : ℕ). map (step_of n) (h.events ++ p.more)) (sym made.number) in
      record {
        packets = packets;
        part = [];
        frames = p.read.frames;
        partial = tt;
        bytes = subst (Consumes before.left now.left) (sym (append-nil (flat_map frame packets))) p.read.bytes;
        stops = stops-so back _ _ _ _;
        flow = flow ++ more;
        is_flow = (h.events ++ p.more, p.read.happen, all);
        steps = flow ++ part.0;
        has_made = part.2.has_made;
        makes = halts-so back to.number (flow ++ more) (flow ++ part.0) to.seat (prefix-of-short flow part.0 more part.1) part.3;
        counted = part.2.counted;
      }

  pub packet-taken : (r : Result QcifBox Halt) (fed : Fed) → MayRead lock source old from → ReadsOn source now old new was is (Ok fed) → was.format ≡ Qcif
      → length is.bits ≤ limit is.format → ((more : List Step) → AreSteps from.number fed is more → Posts lock more from to r)
      → TakesPacket lock source now old new from to (halted r)
  packet-taken r fed may reads qcif short posts =
      let steps = fed-so fed may reads qcif short in
      let made = posts steps.0 steps.1 in
      record {
        at_lock = made.at_lock;
        number = made.number;
        reads = λ before first h. goes-on r fed before first h may reads qcif short posts;
      }

-- ---- the end of the source

short-of-one : (s : Step) (part : List Step) → IsShort part (s ∷ []) → part ≡ []
short-of-one s [] h = refl
short-of-one s (x ∷ part) h =
    let long = ap (λ (xs : List Step). length xs) h.2 in
    absurd (omega (arith, long, length-append part (h.0 ∷ h.1)))

-- why the source gave no packet more
end-stops : (end : FrameEnd) (octets part : List ℕ) (before now : Input) → GivesNoMore end octets part most_taken before now → StopsAt (stop_at end) octets part before now
end-stops End octets part before now why = (why.0, why.1.0, why.1.1, why.1.2)
end-stops (Cut place) octets part before now why = (why.1, why.2.0, why.2.1, why.2.2)
end-stops Limit octets part before now why = why
end-stops Fault octets part before now why = why.0

-- the stop where the last call was given back
stops-after : (stop : LaneStop) (last : Result Unit Halt) (octets part : List ℕ) (before after : Input) → StopsAt stop octets part before after
    → StopsAt (stop_after stop last) octets part before after
stops-after stop (Ok x) octets part before after h = h
stops-after stop (Err back) octets part before after h = stops-so back octets part before after

-- what was made at the end
record EndMade (lanes : ℕ) (first : HallSeat) (lane : Lane) (flow : List Step) (stop : LaneStop) : Type 0 where
  steps : List Step
  posted : HasPosted lanes first lane steps
  makes : MakesOf stop lane.number flow steps lane.seat

one-back : (lanes : ℕ) (first : HallSeat) (lane : Lane) (flow : List Step) (back : Halt) → PostsMore {T = Unit} lanes (Gap lane.number ∷ []) first flow lane (Err back)
    → EndMade lanes first lane flow (lane_stop_for back)
one-back lanes first lane flow back h =
    let none = short-of-one (Gap lane.number) h.0 h.1 in
    let same : flow ++ h.0 ≡ flow = ap (λ (xs : List Step). flow ++ xs) none ∙ append-nil flow in
    record {
      steps = flow ++ h.0;
      posted = h.2;
      makes = halts-so back lane.number flow (flow ++ h.0) lane.seat ([], append-nil (flow ++ h.0) ∙ same) h.3;
    }

end-made : (end : FrameEnd) (last : Result Unit Halt) (lanes : ℕ) (first : HallSeat) (lane : Lane) (flow : List Step) → OnOk last (IsUnderWay lane.seat)
    → PostsMore lanes (end_steps lane.number end) first flow lane last → EndMade lanes first lane flow (stop_after (stop_at end) last)
end-made End (Ok x) lanes first lane flow live h = record { steps = flow ++ []; posted = h; makes = (append-nil flow, live) }
end-made End (Err back) lanes first lane flow live h =
    absurd (omega (arith, ap (λ (xs : List Step). length xs) h.1.2, length-append h.0 (h.1.0 ∷ h.1.1)))
end-made (Cut place) (Ok x) lanes first lane flow live h = record { steps = flow ++ Gap lane.number ∷ []; posted = h; makes = (refl, live) }
end-made (Cut place) (Err back) lanes first lane flow live h = one-back lanes first lane flow back h
end-made Fault (Ok x) lanes first lane flow live h = record { steps = flow ++ Gap lane.number ∷ []; posted = h; makes = (refl, live) }
end-made Fault (Err back) lanes first lane flow live h = one-back lanes first lane flow back h
end-made Limit (Ok x) lanes first lane flow live h = record { steps = flow ++ Gap lane.number ∷ []; posted = h; makes = (refl, live) }
end-made Limit (Err back) lanes first lane flow live h = one-back lanes first lane flow back h

-- the source gave no packet more
pub lane-ended : (end : FrameEnd) (stop : LaneStop) (lock : Lock HallView) (source now : Input) (old new : UnitReading) (from to : Lane) (was is : Coding)
    → ReadsOn source now old new was is (Err end) → ClosesLane lock end from to stop → TakesPacket lock source now old new from to (Err stop)
lane-ended end stop lock source now old new from to was is reads c = record {
  at_lock = c.at_lock;
  number = c.number;
  reads = λ before first h.
      let lanes = lanes_of lock.opening in
      let none = no-packet-read Qcif most_taken before source now old new was is end h.packets h.events h.read reads in
      let flow = map (step_of from.number) h.events in
      let octets = stream_of h.packets none.part in
      let posted = subst (λ (n : ℕ). PostsMore lanes (end_steps n end) first flow to c.last) (sym c.number) (c.posted first flow h.posted) in
      let made = end-made end c.last lanes first to flow c.live posted in
      subst (λ (s : LaneStop). RunsLane lanes to.number before now first to.seat s to.counts) (sym c.stop_is) (record {
        packets = h.packets;
        part = none.part;
        frames = h.read.frames;
        partial = none.partial;
        bytes = none.bytes;
        stops = stops-after (stop_at end) c.last octets none.part before now (end-stops end octets none.part before now none.why);
        flow = flow;
        is_flow = (h.events, h.read.happen, ap (λ (n : ℕ). map (step_of n) h.events) (sym c.number));
        steps = made.steps;
        has_made = made.posted.has_made;
        makes = made.makes;
        counted = made.posted.counted;
      });
}

-- ---- at the beginning

pub lane-begins : (lock : Lock HallView) (now : Input) (reader : UnitReading) (lane : Lane) → LaneBegins lock reader lane
    → HasFlowed (lanes_of lock.opening) now now lane.seat reader lane × MayRead lock now reader lane
lane-begins lock now reader lane b =
    let read : HasReadPackets Qcif most_taken now now reader [] [] =
    subst (λ (r : UnitReading). HasReadPackets Qcif most_taken now now r [] []) (sym b.fresh) (none-read Qcif most_taken now) in
    let posts : lane.counts.posts ≡ 0 = ap (λ (c : Counts). c.posts) b.counts in
    let gaps : lane.counts.gaps ≡ 0 = ap (λ (c : Counts). c.gaps) b.counts in (
      record {
        packets = [];
        events = [];
        read = read;
        posted = record {
          has_made = none-made (lanes_of lock.opening) lane.number lane.seat b.seat;
          counted = record { posts = posts; gaps = gaps };
        };
      },
      record {
        at_lock = b.at_lock;
        read = (now, [], [], read);
        few = omega (arith, posts, gaps);
        live = none-back lane.seat b.seat;
      },
    )
