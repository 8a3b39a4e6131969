-- Packets read from a source one by one, and what happens at them.
use Rattle.std.proofs.Common.{◌≡◌, ℕ, suc, Bool, List, [], ◌∷◌, ◌++◌, length, map, Option, Some, None, Result, Ok, Err, refl, sym, ◌∙◌, ap, ap₂, subst, arith, append-nil, length-append}
use Rattle.std.specs.List.{flat_map, AllByRecursion}
use Rattle.std.specs.Io.KnownBytes.{Consumes}
use Rattle.std.proofs.KnownBytes.{Consumes-nil, Consumes-trans}
use Rattle.std.proofs.lemmas.List.{map-append, length-map}
use Rattle.std.proofs.lemmas.Grind.{flat_map-append}
use Rattle.h261_pic.specs.Coded.{Coding, coding}
use Rattle.io_edge.specs.Allowance.{AllowanceState, Paused}
use Rattle.io_edge.specs.declared.allowance.Pause.{Pause}
use Rattle.io_edge.specs.declared.allowance.Pause.TheVariants as pause
use Rattle.io_edge.specs.Causes.{Rose}
use Rattle.io_edge.specs.Outside.{Input}
use Rattle.pel_model.specs.declared.Format.{Format}
use Rattle.pel_model.specs.Valid.{IsValid}
use Rattle.picture_laws.specs.Laws.{kept_length}
use Rattle.rtp_h261.specs.declared.depack.Fed.{Fed}
use Rattle.rtp_h261.specs.declared.depack.Unit.{Unit as Ended}
use Rattle.rtp_h261.specs.declared.depack.Unit.TheVariants.{Picture, Gap}
use Rattle.rtp_h261.specs.Depack.{Held, AnswersGiven, FinishedAt, HasUnit, WasFed, given_behind}
use Rattle.rtp_h261.specs.Events.{Event, Shown, Refused, AreUnitEvents, Happens, HappenAt, AreEvents, lost_events}
use Rattle.rtp_h261.specs.OneByOne.{State, state_of}
use Rattle.rtp_h261.specs.Packets.{piece_of}
use Rattle.rtp_h261.specs.ReadSoFar.{HasReadPackets, IsEventOf, Told, ReadsPacket, ReadsNoPacket}
use Rattle.rtp_h261.specs.UnitReader.{UnitReading, reading_after, depack_after, FeedsOn, ReadsOn, GivesNoMore}
use Rattle.rtp_h261.specs.Units.{Given, Piece, all_given, fed}
use Rattle.rtp_wire.specs.declared.frames.FrameEnd.{FrameEnd}
use Rattle.rtp_wire.specs.declared.frames.FrameEnd.TheVariants.{End, Cut, Fault, Limit}
use Rattle.rtp_wire.specs.Frames.{FramerState, frame, HasFrame, CallsNext, ReadsFrame, ReadsOrStays, TakesOne, IsPartial}
use Rattle.rtp_h261.proofs.EventLemmas.{one_more}
use Rattle.rtp_h261.proofs.StepLemmas.{front_law}

-- ---- frames

frames-more : (packets : List (List ℕ)) (packet : List ℕ) → AllByRecursion HasFrame packets → HasFrame packet → AllByRecursion HasFrame (packets ++ packet ∷ [])
frames-more [] packet all one = (one, tt)
frames-more (x ∷ packets) packet all one = (all.0, frames-more packets packet all.1 one)

joined : (packets : List (List ℕ)) (packet : List ℕ) → flat_map frame packets ++ frame packet ≡ flat_map frame (packets ++ packet ∷ [])
joined packets packet = sym (flat_map-append frame packets (packet ∷ []) ∙ ap (λ (xs : List ℕ). flat_map frame packets ++ xs) (append-nil (frame packet)))

long-frame : (packet : List ℕ) → length (frame packet) ≡ suc (suc (length packet))
long-frame packet = refl

-- ---- the events of a packet

unit-of : (format : Format) (given : Option (List Bool)) (unit : Option Ended) (old new : Coding) → HasUnit format given unit old new → new.format ≡ format → FinishedAt unit new
    → (events : List Event) × IsEventOf unit new events × AreUnitEvents format given events
unit-of format None None old new h f done = ([], refl, refl)
unit-of format None (Some unit) old new h f done = absurd h
unit-of format (Some bits) None old new h f done = absurd h
unit-of format (Some bits) (Some Picture) old new h f done = (
  Shown h.0 ∷ [],
  (
    Shown h.0,
    refl,
    record {
      picture = h.0;
      event_is = refl;
      coded_is = h.2 ∙ ap (λ (k : Format). coding k h.0) (sym f);
      valid = subst (λ (k : Format). IsValid k h.0) (sym f) h.1.1.valid;
      finished = done;
    },
  ),
  (Shown h.0, refl, h.1),
)
unit-of format (Some bits) (Some (Gap fault)) old new h f done = (
  Refused fault.place fault.why ∷ [],
  (Refused fault.place fault.why, refl, refl),
  (Refused fault.place fault.why, refl, h.0),
)

events-of : (format : Format) (given : Given) (answer : Fed) (old new : Coding) → AnswersGiven format given answer old new → new.format ≡ format → FinishedAt answer.unit new
    → (events : List Event) × Told answer new events × Happens format given events
events-of format given answer old new h f done =
    let unit = unit-of format given.unit answer.unit old new h.unit f done in (
      lost_events answer.lost ++ unit.0,
      record { unit = unit.0; is_unit = unit.1; order = refl },
      record { unit = unit.0; is_unit = unit.2; order = ap (λ (b : Bool). lost_events b ++ unit.0) h.lost },
    )

nothing-happens : (format : Format) → AreEvents format [] []
unfolding all_given
nothing-happens format = refl

-- what happens at one packet more
happens-more : (format : Format) (packets : List (List ℕ)) (packet : List ℕ) (events more : List Event) → AreEvents format packets events
    → Happens format (given_behind packets packet) more → AreEvents format (packets ++ packet ∷ []) (events ++ more)
happens-more format packets packet events more h k =
    let pieces = map piece_of packets in
    let split : map piece_of (packets ++ packet ∷ []) ≡ pieces ++ piece_of packet ∷ [] = map-append piece_of packets (packet ∷ []) in
    let given : given_behind packets packet ≡ fed (pieces ++ piece_of packet ∷ []) (length pieces) =
    ap₂ (λ (ps : List (Option Piece)) (n : ℕ). fed ps n) split (sym (length-map packets piece_of)) in
    let all : all_given pieces ++ given_behind packets packet ∷ [] ≡ all_given (map piece_of (packets ++ packet ∷ [])) =
    ap (λ (g : Given). all_given pieces ++ g ∷ []) given ∙ sym (front_law pieces (piece_of packet)) ∙ ap all_given (sym split) in
    subst (λ (gs : List Given). HappenAt format gs (events ++ more)) all (one_more format (all_given pieces) (given_behind packets packet) events more h k)

-- ---- a reader of nothing so far

pub none-read : (format : Format) (budget : ℕ) (before : Input) → HasReadPackets format budget before before (reading_after format budget []) [] []
none-read format budget before = record {
  reader_is = refl;
  within = omega arith;
  frames = tt;
  bytes = Consumes-nil before.left;
  happen = nothing-happens format;
  faults = refl;
}

-- ---- one packet more

framer-is : (f : FramerState) (taken budget : ℕ) → f.allowance.taken ≡ taken → f.allowance.budget ≡ budget → f.ended ≡ None
    → f ≡ record { allowance = record { taken = taken; budget = budget }; ended = None }
framer-is f taken budget t b e =
    ap₂ (λ (a : AllowanceState) (o : Option FrameEnd). record { allowance = a; ended = o })
    (ap₂ (λ (m n : ℕ). record { taken = m; budget = n }) t b) e

depack-is : (d : Held) (format : Format) (packets : List (List ℕ)) → d.format ≡ format → WasFed packets d → d ≡ depack_after format packets
depack-is d format packets f fed_is =
    ap₂ (λ (k : Format) (s : State). record { format = k; state = s }) f
    (fed_is ∙ ap (λ (k : Format). state_of (kept_length k) (map piece_of packets)) f)

read-by : (call : Result (List ℕ) FrameEnd) (format : Format) (budget : ℕ) (before mid now : Input) (old new : UnitReading) (was into : Coding) (answer : Fed) (packets : List (List ℕ)) (events : List Event)
    → HasReadPackets format budget before mid old packets events → CallsNext mid now old.framer new.framer call → FeedsOn old.depack new.depack was into call (Ok answer) → was.format ≡ format
    → ReadsPacket format budget before now new packets events answer into
read-by (Err end) format budget before mid now old new was into answer packets events h call feeds format_is = absurd feeds
read-by (Ok packet) format budget before mid now old new was into answer packets events h call feeds format_is =
    let framed : ReadsFrame mid now old.framer new.framer (Ok packet) =
    subst (λ (e : Option FrameEnd). ReadsOrStays e mid now old.framer new.framer (Ok packet)) (ap (λ (r : UnitReading). r.framer.ended) h.reader_is) call in
    let one = framed.frame_taken in
    let old_format : old.depack.format ≡ format = ap (λ (r : UnitReading). r.depack.format) h.reader_is in
    let was_fed : WasFed packets old.depack = subst (λ (r : UnitReading). WasFed packets r.depack) (sym h.reader_is) refl in
    let given = subst (λ (f : Format). AnswersGiven f (given_behind packets packet) answer was into) old_format (feeds.given packets was_fed) in
    let coded : into.format ≡ format = feeds.into ∙ format_is in
    let es = events-of format (given_behind packets packet) answer was into given coded feeds.finished in
    let joined_is : flat_map frame packets ++ one.took ≡ flat_map frame (packets ++ packet ∷ []) =
    ap (λ (xs : List ℕ). flat_map frame packets ++ xs) one.answer.0 ∙ joined packets packet in
    let old_taken : old.framer.allowance.taken ≡ length (flat_map frame packets) = ap (λ (r : UnitReading). r.framer.allowance.taken) h.reader_is in
    let old_budget : old.framer.allowance.budget ≡ budget = ap (λ (r : UnitReading). r.framer.allowance.budget) h.reader_is in
    let long = length-append (flat_map frame packets) one.took in
    let whole = ap length joined_is in
    let taken : new.framer.allowance.taken ≡ length (flat_map frame (packets ++ packet ∷ [])) = omega (arith, one.takes.taken, old_taken, long, whole) in
    let budget_is : new.framer.allowance.budget ≡ budget = one.takes.budget ∙ old_budget in
    record {
      packet = packet;
      more = es.0;
      told = es.1;
      read = record {
        reader_is =
            ap₂ (λ (f : FramerState) (d : Held). record { framer = f; depack = d })
            (framer-is new.framer (length (flat_map frame (packets ++ packet ∷ []))) budget taken budget_is framed.ended)
            (depack-is new.depack format (packets ++ packet ∷ []) (feeds.format ∙ old_format) (feeds.stands packets was_fed));
        within = omega (arith, one.takes.within, taken, budget_is);
        frames = frames-more packets packet h.frames one.answer.1;
        bytes = subst (Consumes before.left now.left) joined_is (Consumes-trans before.left mid.left now.left (flat_map frame packets) one.took h.bytes one.takes.bytes);
        happen = happens-more format packets packet events es.0 h.happen es.2;
        faults = one.answer.2 ∙ h.faults;
      };
      longer = omega (arith, long, whole, ap length one.answer.0, long-frame packet);
      coded_is = coded;
    }

pub packet-read : (format : Format) (budget : ℕ) (before mid now : Input) (old new : UnitReading) (was into : Coding) (answer : Fed) (packets : List (List ℕ)) (events : List Event)
    → HasReadPackets format budget before mid old packets events → ReadsOn mid now old new was into (Ok answer) → was.format ≡ format
    → ReadsPacket format budget before now new packets events answer into
packet-read format budget before mid now old new was into answer packets events h reads format_is =
    read-by reads.answer format budget before mid now old new was into answer packets events h reads.framed reads.fed format_is

-- ---- no packet more

paused-so : (p : Pause) (before mid now : Input) (a : AllowanceState) (taken budget : ℕ) → mid.faults ≡ before.faults → a.taken ≡ taken → a.budget ≡ budget
    → Paused p mid now a → Paused p before now (record { taken = taken; budget = budget })
paused-so pause.Limit before mid now a taken budget f t b h = (omega (arith, h.0, t, b), h.1 ∙ f)
paused-so pause.End before mid now a taken budget f t b h = (h.0, omega (arith, h.1, t, b), h.2 ∙ f)
paused-so pause.Fault before mid now a taken budget f t b h = (subst (λ (k : ℕ). Rose k now.faults) f h.0, omega (arith, h.1, t, b))

no-more : (end : FrameEnd) (budget : ℕ) (before mid now : Input) (old new : AllowanceState) (octets : List ℕ)
    → mid.faults ≡ before.faults → old.taken ≡ length octets → old.budget ≡ budget → (one : TakesOne mid now old new (Err end))
    → IsPartial one.took × GivesNoMore end (octets ++ one.took) one.took budget before now
no-more End budget before mid now old new octets f t b one =
    let taken : new.taken ≡ length (octets ++ one.took) = omega (arith, one.takes.taken, t, length-append octets one.took) in
    (subst IsPartial (sym one.answer.0) tt, (one.answer.0, paused-so pause.End before mid now new _ budget f taken (one.takes.budget ∙ b) one.answer.1))
no-more (Cut place) budget before mid now old new octets f t b one =
    let taken : new.taken ≡ length (octets ++ one.took) = omega (arith, one.takes.taken, t, length-append octets one.took) in
    (one.answer.2, (one.answer.0 ∙ taken, one.answer.1, paused-so pause.End before mid now new _ budget f taken (one.takes.budget ∙ b) one.answer.3))
no-more Limit budget before mid now old new octets f t b one =
    let taken : new.taken ≡ length (octets ++ one.took) = omega (arith, one.takes.taken, t, length-append octets one.took) in
    (one.answer.0, paused-so pause.Limit before mid now new _ budget f taken (one.takes.budget ∙ b) one.answer.1)
no-more Fault budget before mid now old new octets f t b one =
    let taken : new.taken ≡ length (octets ++ one.took) = omega (arith, one.takes.taken, t, length-append octets one.took) in
    (one.answer.0, paused-so pause.Fault before mid now new _ budget f taken (one.takes.budget ∙ b) one.answer.1)

none-by : (call : Result (List ℕ) FrameEnd) (format : Format) (budget : ℕ) (before mid now : Input) (old new : UnitReading) (was into : Coding) (end : FrameEnd) (packets : List (List ℕ)) (events : List Event)
    → HasReadPackets format budget before mid old packets events → CallsNext mid now old.framer new.framer call → FeedsOn old.depack new.depack was into call (Err end)
    → ReadsNoPacket end budget before now packets
none-by (Ok packet) format budget before mid now old new was into end packets events h call feeds = absurd feeds
none-by (Err other) format budget before mid now old new was into end packets events h call feeds =
    let going = subst (λ (e : Option FrameEnd). ReadsOrStays e mid now old.framer new.framer (Err other)) (ap (λ (r : UnitReading). r.framer.ended) h.reader_is) call in
    let framed : ReadsFrame mid now old.framer new.framer (Err end) = subst (λ (e : FrameEnd). ReadsFrame mid now old.framer new.framer (Err e)) (sym feeds.0) going in
    let one = framed.frame_taken in
    let so = no-more end budget before mid now old.framer.allowance new.framer.allowance (flat_map frame packets) h.faults
    (ap (λ (r : UnitReading). r.framer.allowance.taken) h.reader_is) (ap (λ (r : UnitReading). r.framer.allowance.budget) h.reader_is) one in
    record {
      part = one.took;
      partial = so.0;
      bytes = Consumes-trans before.left mid.left now.left (flat_map frame packets) one.took h.bytes one.takes.bytes;
      why = so.1;
    }

pub no-packet-read : (format : Format) (budget : ℕ) (before mid now : Input) (old new : UnitReading) (was into : Coding) (end : FrameEnd) (packets : List (List ℕ)) (events : List Event)
    → HasReadPackets format budget before mid old packets events → ReadsOn mid now old new was into (Err end) → ReadsNoPacket end budget before now packets
no-packet-read format budget before mid now old new was into end packets events h reads =
    none-by reads.answer format budget before mid now old new was into end packets events h reads.framed reads.fed
