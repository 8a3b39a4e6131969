-- The beginning of a reading, what was told behind one packet more, and the ends of the reading.
use Rattle.std.proofs.Common.{◌≡◌, inl, inr, ℕ, ◌+◌, ◌^◌, ◌<◌, ◌≤◌, Bool, List, [], ◌∷◌, ◌++◌, length, Option, Some, None, Ok, Err, refl, sym, ◌∙◌, ap, subst, arith, append-nil, length-append, count_by, cond}
use Rattle.std.specs.List.{flat_map}
use Rattle.std.specs.Io.KnownBytes.{Consumes, IsAtEnd}
use Rattle.std.proofs.KnownBytes.{Appends-nil}
use Rattle.std.proofs.lemmas.List.Sums.{sum_by-append, sum_by-cons}
use Rattle.h261_pic.specs.Coded.{Coding}
use Rattle.io_edge.specs.Causes.{Rose}
use Rattle.io_edge.specs.Outside.{Input, Output, Outside}
use Rattle.pel_model.specs.declared.Format.{Format}
use Rattle.rtp_h261.specs.declared.depack.Fed.{Fed}
use Rattle.rtp_h261.specs.declared.unit_end.UnitEnd.{UnitEnd}
use Rattle.rtp_h261.specs.declared.unit_end.UnitStop.{UnitStop}
use Rattle.rtp_h261.specs.declared.unit_end.UnitStop.TheVariants.{Done, ReadFault, WriteFault, Cut, Limit, NoMemory}
use Rattle.rtp_h261.specs.declared.unit_end.UnitTally.{UnitTally}
use Rattle.rtp_h261.specs.Events.{Event, Lost, Shown, Refused, is_picture, is_gap}
use Rattle.rtp_h261.specs.ReadSoFar.{HasReadPackets, ReadsPacket, ReadsNoPacket}
use Rattle.rtp_h261.specs.TellerEnds.{TellsUnits}
use Rattle.rtp_h261.specs.Tellers.{Duty, CountsMore}
use Rattle.rtp_h261.specs.ToldSoFar.{CanTell, HasTold, TellsPacket, TellsRead, stop_for}
use Rattle.rtp_h261.specs.UnitEnds.{Completes, ReadsUnits, UnitsEnd, UnitsRead, UnitsStop, WritesAll, no_units, whole_read, whole_by}
use Rattle.rtp_h261.specs.UnitReader.{UnitReading, reading_after}
use Rattle.rtp_wire.specs.declared.frames.FrameEnd.{FrameEnd}
use Rattle.rtp_wire.specs.declared.frames.FrameEnd.TheVariants as frame_end
use Rattle.rtp_wire.specs.Frames.{IsStream, LawOfOneStream, frame, stream_of}
use Rattle.rtp_h261.proofs.PacketsRead.{none-read}
use Rattle.rtp_h261.proofs.Putting.{more-none, told-behind, failed-behind}

-- ---- the beginning

pub at-start : (format : Format) (budget : ℕ) (here : Outside) (reader : UnitReading) (coded : Coding) (tally : UnitTally) (duty : Duty) → reader ≡ reading_after format budget []
    → tally ≡ no_units → coded.format ≡ format → duty.format ≡ format → HasTold format budget duty here here reader coded tally duty
at-start format budget here reader coded tally duty fresh none coded_is duty_is =
    let pictures : tally.pictures ≡ 0 = ap (λ (t : UnitTally). t.pictures) none in
    let gaps : tally.gaps ≡ 0 = ap (λ (t : UnitTally). t.gaps) none in
    let octets : tally.octets ≡ 0 = ap (λ (t : UnitTally). t.octets) none in
    let number : 1 ≡ tally.pictures + tally.gaps + 1 = omega (arith, pictures, gaps) in record {
      packets = [];
      events = [];
      read = subst (λ (r : UnitReading). HasReadPackets format budget here.source here.source r [] []) (sym fresh) (none-read format budget here.source);
      told = [];
      others = λ more. ap (λ (n : ℕ). duty.pieces n more) number;
      counts = more-none duty.counts;
      written = Appends-nil here.sink.written;
      octets = octets;
      counted = record { pictures = pictures; gaps = gaps };
      writes = refl;
      coded_is = coded_is;
      duty_is = duty_is;
      few = omega (arith, pictures, gaps);
      short = omega (arith, octets);
    }

-- the counts are small
pub can-tell : (format : Format) (budget : ℕ) (first : Duty) (before mid : Outside) (now : Input) (old new : UnitReading) (was into : Coding) (tally : UnitTally) (duty : Duty) (answer : Fed)
    (h : HasTold format budget first before mid old was tally duty) → ReadsPacket format budget before.source now new h.packets h.events answer into → budget ≤ 2 ^ 40
    → CanTell answer into duty tally
can-tell format budget first before mid now old new was into tally duty answer h p small = record {
  format = p.coded_is ∙ sym h.duty_is;
  events = p.more;
  told = p.told;
  few = omega (arith, h.few, h.read.within, small);
  short = omega (arith, h.short, h.read.within, small);
}

-- ---- what was written and counted

counted-more : (p : Event → Bool) (events more : List Event) (old now : ℕ) → old ≡ 0 + count_by p events → now ≡ old + count_by p more
    → now ≡ 0 + count_by p (events ++ more)
counted-more p events more old now h k = omega (arith, h, k, sum_by-append (λ (e : Event). cond (p e) 1 0) events more)

each-counted : (events : List Event) → count_by is_picture events + count_by is_gap events ≡ length events
each-counted [] = refl
each-counted (Lost ∷ events) =
    omega (arith, each-counted events, sum_by-cons (λ (e : Event). cond (is_picture e) 1 0) Lost events, sum_by-cons (λ (e : Event). cond (is_gap e) 1 0) Lost events)
each-counted (Shown p ∷ events) =
    omega (arith, each-counted events, sum_by-cons (λ (e : Event). cond (is_picture e) 1 0) (Shown p) events, sum_by-cons (λ (e : Event). cond (is_gap e) 1 0) (Shown p) events)
each-counted (Refused n w ∷ events) =
    omega (arith, each-counted events, sum_by-cons (λ (e : Event). cond (is_picture e) 1 0) (Refused n w) events, sum_by-cons (λ (e : Event). cond (is_gap e) 1 0) (Refused n w) events)

-- what was told is all that is to be written of the events
all-told : (pieces rest : List Event → List (List ℕ)) (events : List Event) (told : List (List ℕ)) → ((more : List Event) → pieces (events ++ more) ≡ told ++ rest more) → rest [] ≡ []
    → told ≡ pieces events
all-told pieces rest events told others nothing =
    sym (append-nil told) ∙ ap (λ (ls : List (List ℕ)). told ++ ls) (sym nothing) ∙ sym (others []) ∙ ap pieces (append-nil events)

told-is : (format : Format) (budget : ℕ) (first : Duty) (before now : Outside) (reader : UnitReading) (coded : Coding) (tally : UnitTally) (duty : Duty)
    (h : HasTold format budget first before now reader coded tally duty) → ((n : ℕ) → duty.pieces n [] ≡ []) → h.told ≡ first.pieces 1 h.events
told-is format budget first before now reader coded tally duty h nothing =
    all-told (first.pieces 1) (duty.pieces (tally.pictures + tally.gaps + 1)) h.events h.told h.others (nothing (tally.pictures + tally.gaps + 1))

writes-all : (format : Format) (budget : ℕ) (first : Duty) (before now : Outside) (reader : UnitReading) (coded : Coding) (tally : UnitTally) (duty : Duty)
    (h : HasTold format budget first before now reader coded tally duty) → ((n : ℕ) → duty.pieces n [] ≡ [])
    → WritesAll before.sink.written now.sink.written (first.pieces 1 h.events) tally.octets
writes-all format budget first before now reader coded tally duty h nothing =
    subst (λ (ls : List (List ℕ)). WritesAll before.sink.written now.sink.written ls tally.octets)
    (told-is format budget first before now reader coded tally duty h nothing)
    (h.written, h.octets)

number-next : (pictures gaps now_pictures now_gaps : ℕ) (more : List Event) → now_pictures ≡ pictures + count_by is_picture more → now_gaps ≡ gaps + count_by is_gap more
    → pictures + gaps + 1 + length more ≡ now_pictures + now_gaps + 1
number-next pictures gaps now_pictures now_gaps more h k = omega (arith, h, k, each-counted more)

-- ---- a packet

-- one packet more was read and told
pub next-told : {E : Type 0} (x : Unit) (format : Format) (budget : ℕ) (first : Duty) (before mid now : Outside) (old new : UnitReading) (was into : Coding) (tally after : UnitTally) (duty later : Duty) (answer : Fed)
    (h : HasTold format budget first before mid old was tally duty) (p : ReadsPacket format budget before.source now.source new h.packets h.events answer into)
    → TellsPacket {E = E} duty later tally after p.more mid.sink now.sink (Ok x) → HasTold format budget first before now new into after later
next-told {E = E} x format budget first before mid now old new was into tally after duty later answer h p k =
    let number = tally.pictures + tally.gaps + 1 in
    let put =
    told-behind {E = E} (Ok x) (first.pieces 1) (duty.pieces number) (later.pieces (number + length p.more)) first.counts duty.counts later.counts h.events p.more before.sink.written mid.sink.written now.sink.written 0 tally.octets after.octets
    (record { whole = h.told; counts_are = h.counts; others = h.others; bytes = h.written; counted = omega (arith, h.octets) }) k.told in
    record {
      packets = h.packets ++ p.packet ∷ [];
      events = h.events ++ p.more;
      read = p.read;
      told = put.whole;
      others = λ more. put.others more ∙ ap (λ (n : ℕ). put.whole ++ later.pieces n more) (number-next tally.pictures tally.gaps after.pictures after.gaps p.more k.counted.pictures k.counted.gaps);
      counts = put.counts_are;
      written = put.bytes;
      octets = omega (arith, put.counted);
      counted = record {
        pictures = counted-more is_picture h.events p.more tally.pictures after.pictures h.counted.pictures k.counted.pictures;
        gaps = counted-more is_gap h.events p.more tally.gaps after.gaps h.counted.gaps k.counted.gaps;
      };
      writes = k.cause.kept ∙ h.writes;
      coded_is = p.coded_is;
      duty_is = k.format ∙ h.duty_is;
      few = omega (arith, k.few, h.few, p.longer);
      short = omega (arith, k.short, h.short, p.longer);
    }

-- one packet more was read, and the sink failed
pub failed-told : {E : Type 0} (e : E) (format : Format) (budget : ℕ) (first : Duty) (before mid now : Outside) (old new : UnitReading) (was into : Coding) (tally after : UnitTally) (duty later : Duty) (answer : Fed)
    (h : HasTold format budget first before mid old was tally duty) (p : ReadsPacket format budget before.source now.source new h.packets h.events answer into)
    → TellsPacket duty later tally after p.more mid.sink now.sink (Err e) → ((n : ℕ) → duty.pieces n [] ≡ [])
    → TellsRead format budget first later before now (record { stop = WriteFault; tally = after })
failed-told e format budget first before mid now old new was into tally after duty later answer h p k nothing =
    let number = tally.pictures + tally.gaps + 1 in
    let both =
    failed-behind e (first.pieces 1) (duty.pieces number) (later.pieces (number + length p.more)) first.counts duty.counts later.counts h.events p.more before.sink.written mid.sink.written now.sink.written 0 tally.octets after.octets
    (record { whole = h.told; counts_are = h.counts; others = h.others; bytes = h.written; counted = omega (arith, h.octets) }) k.told in
    let put = both.0 in
    record {
      reads = record {
        took = flat_map frame (h.packets ++ p.packet ∷ []);
        bytes = p.read.bytes;
        packets = h.packets ++ p.packet ∷ [];
        part = [];
        stream = record { cut = sym (append-nil (flat_map frame (h.packets ++ p.packet ∷ []))); frames = p.read.frames; part = tt };
        stops = (refl, p.read.faults, subst (λ (f : ℕ). Rose f now.sink.faults) h.writes k.cause.failed);
        events = h.events ++ p.more;
        happen = p.read.happen;
        report = record {
          whole = put.whole;
          next = put.next;
          rest = put.rest [];
          order = ap (first.pieces 1) (sym (append-nil (h.events ++ p.more))) ∙ put.others [];
          count = put.count;
          front = put.front;
          bytes = put.bytes;
          counted = omega (arith, put.counted);
          earlier = h.packets;
          last = p.packet;
          split = refl;
          events_earlier = h.events;
          happen_earlier = h.read.happen;
          written_earlier = omega (arith, both.1, ap length (told-is format budget first before mid old was tally duty h nothing));
        };
        pictures = omega (arith, counted-more is_picture h.events p.more tally.pictures after.pictures h.counted.pictures k.counted.pictures);
        gaps = omega (arith, counted-more is_gap h.events p.more tally.gaps after.gaps h.counted.gaps k.counted.gaps);
      };
      counts = put.counts_are;
    }

-- ---- the end of the source

counts-told : (format : Format) (budget : ℕ) (first : Duty) (before now : Outside) (reader : UnitReading) (coded : Coding) (tally : UnitTally) (duty : Duty)
    (h : HasTold format budget first before now reader coded tally duty) → ((n : ℕ) → duty.pieces n [] ≡ []) → CountsMore first.counts duty.counts (length (first.pieces 1 h.events))
counts-told format budget first before now reader coded tally duty h nothing =
    subst (λ (ls : List (List ℕ)). CountsMore first.counts duty.counts (length ls)) (told-is format budget first before now reader coded tally duty h nothing) h.counts

-- no packet more was read
pub ended-told : (end : FrameEnd) (format : Format) (budget : ℕ) (first : Duty) (before mid now : Outside) (old : UnitReading) (was : Coding) (tally : UnitTally) (duty : Duty)
    (h : HasTold format budget first before mid old was tally duty) → ReadsNoPacket end budget before.source now.source h.packets → now.sink ≡ mid.sink → ((n : ℕ) → duty.pieces n [] ≡ [])
    → TellsRead format budget first duty before now (record { stop = stop_for end; tally = tally })
ended-told frame_end.End format budget first before mid now old was tally duty h p same nothing = record {
  reads = record {
    took = stream_of h.packets p.part;
    bytes = p.bytes;
    packets = h.packets;
    part = p.part;
    stream = record { cut = refl; frames = h.read.frames; part = p.partial };
    stops = (p.why, ap (λ (o : Output). o.faults) same ∙ h.writes);
    events = h.events;
    happen = h.read.happen;
    report =
        subst (λ (o : Output). WritesAll before.sink.written o.written (first.pieces 1 h.events) tally.octets) (sym same)
        (writes-all format budget first before mid old was tally duty h nothing);
    pictures = omega (arith, h.counted.pictures);
    gaps = omega (arith, h.counted.gaps);
  };
  counts = counts-told format budget first before mid old was tally duty h nothing;
}
ended-told (frame_end.Cut place) format budget first before mid now old was tally duty h p same nothing = record {
  reads = record {
    took = stream_of h.packets p.part;
    bytes = p.bytes;
    packets = h.packets;
    part = p.part;
    stream = record { cut = refl; frames = h.read.frames; part = p.partial };
    stops = (p.why, ap (λ (o : Output). o.faults) same ∙ h.writes);
    events = h.events;
    happen = h.read.happen;
    report =
        subst (λ (o : Output). WritesAll before.sink.written o.written (first.pieces 1 h.events) tally.octets) (sym same)
        (writes-all format budget first before mid old was tally duty h nothing);
    pictures = omega (arith, h.counted.pictures);
    gaps = omega (arith, h.counted.gaps);
  };
  counts = counts-told format budget first before mid old was tally duty h nothing;
}
ended-told frame_end.Fault format budget first before mid now old was tally duty h p same nothing = record {
  reads = record {
    took = stream_of h.packets p.part;
    bytes = p.bytes;
    packets = h.packets;
    part = p.part;
    stream = record { cut = refl; frames = h.read.frames; part = p.partial };
    stops = (p.why, ap (λ (o : Output). o.faults) same ∙ h.writes);
    events = h.events;
    happen = h.read.happen;
    report =
        subst (λ (o : Output). WritesAll before.sink.written o.written (first.pieces 1 h.events) tally.octets) (sym same)
        (writes-all format budget first before mid old was tally duty h nothing);
    pictures = omega (arith, h.counted.pictures);
    gaps = omega (arith, h.counted.gaps);
  };
  counts = counts-told format budget first before mid old was tally duty h nothing;
}
ended-told frame_end.Limit format budget first before mid now old was tally duty h p same nothing = record {
  reads = record {
    took = stream_of h.packets p.part;
    bytes = p.bytes;
    packets = h.packets;
    part = p.part;
    stream = record { cut = refl; frames = h.read.frames; part = p.partial };
    stops = (p.why, ap (λ (o : Output). o.faults) same ∙ h.writes);
    events = h.events;
    happen = h.read.happen;
    report =
        subst (λ (o : Output). WritesAll before.sink.written o.written (first.pieces 1 h.events) tally.octets) (sym same)
        (writes-all format budget first before mid old was tally duty h nothing);
    pictures = omega (arith, h.counted.pictures);
    gaps = omega (arith, h.counted.gaps);
  };
  counts = counts-told format budget first before mid old was tally duty h nothing;
}

-- ---- whole frames within the budget are read to their end

taken-all : (a b : Option (List ℕ)) (octets took : List ℕ) → a ≡ Some octets → Consumes a b took → IsAtEnd b → took ≡ octets
taken-all a None octets took h c e = let k : Consumes (Some octets) None took = subst (λ (x : Option (List ℕ)). Consumes x None took) h c in absurd k
taken-all a (Some rest) octets took h c e =
    let k : octets ≡ took ++ rest = subst (λ (x : Option (List ℕ)). Consumes x (Some rest) took) h c in
    sym (k ∙ ap (λ (xs : List ℕ). took ++ xs) e ∙ append-nil took)

taken-some : (a b : Option (List ℕ)) (octets took : List ℕ) → a ≡ Some octets → Consumes a b took → length took ≤ length octets
taken-some a None octets took h c = let k : Consumes (Some octets) None took = subst (λ (x : Option (List ℕ)). Consumes x None took) h c in absurd k
taken-some a (Some rest) octets took h c =
    let k : octets ≡ took ++ rest = subst (λ (x : Option (List ℕ)). Consumes x (Some rest) took) h c in
    omega (arith, ap length k, length-append took rest)

no-part : LawOfOneStream → (octets took part : List ℕ) (packets others : List (List ℕ)) → took ≡ octets → IsStream took packets part → IsStream octets others [] → 0 < length part → ⊥
no-part law octets took part packets others same h k long =
    let both = law octets packets others part [] (subst (λ (xs : List ℕ). IsStream xs packets part) same h) k in
    omega (arith, ap length both.1)

stops-of : {format : Format} {budget : ℕ} {pieces : List Event → List (List ℕ)} {before after : Outside} {end : UnitEnd} (stop : UnitStop) (h : UnitsRead format budget pieces before after end) → end.stop ≡ stop
    → UnitsStop stop h.took h.part budget before after
stops-of {budget = budget} {before = before} {after = after} stop h is = subst (λ (s : UnitStop). UnitsStop s h.took h.part budget before after) is h.stops

complete-by : LawOfOneStream → (stop : UnitStop) (format : Format) (budget : ℕ) (pieces : List Event → List (List ℕ)) (before after : Outside) (end : UnitEnd) → end.stop ≡ stop
    → UnitsEnd stop format budget pieces before after end
    → Completes budget before after end
complete-by law Done format budget pieces before after end is h octets told frames reads writes = inl is
complete-by law NoMemory format budget pieces before after end is h octets told frames reads writes = inr is
complete-by law ReadFault format budget pieces before after end is h octets told frames reads writes = absurd (reads (stops-of ReadFault h is).0.0)
complete-by law WriteFault format budget pieces before after end is h octets told frames reads writes = absurd (writes (stops-of WriteFault h is).2)
complete-by law (Cut place) format budget pieces before after end is h octets told frames reads writes =
    let s = (stops-of (Cut place) h is).0 in
    absurd (no-part law octets h.took h.part h.packets frames.packets (taken-all before.source.left after.source.left octets h.took told h.bytes s.2.0) h.stream frames.frames s.1)
complete-by law Limit format budget pieces before after end is h octets told frames reads writes =
    let s = (stops-of Limit h is).0 in
    absurd (omega (arith, s.0, taken-some before.source.left after.source.left octets h.took told h.bytes, frames.short))

-- what was read and written, where there was memory
ends-by : (stop : UnitStop) (format : Format) (budget : ℕ) (pieces : List Event → List (List ℕ)) (before after : Outside) (end : UnitEnd) → end.stop ≡ stop
    → UnitsRead format budget pieces before after end → UnitsEnd stop format budget pieces before after end
ends-by Done format budget pieces before after end is h = h
ends-by ReadFault format budget pieces before after end is h = h
ends-by WriteFault format budget pieces before after end is h = h
ends-by (Cut place) format budget pieces before after end is h = h
ends-by Limit format budget pieces before after end is h = h
ends-by NoMemory format budget pieces before after end is h = absurd (stops-of NoMemory h is)

-- the same pieces are told as written whole
same-whole : (stop : UnitStop) (format : Format) (budget : ℕ) (pieces : List Event → List (List ℕ)) (before after : Outside) (end : UnitEnd) (is : end.stop ≡ stop)
    (h : UnitsRead format budget pieces before after end) → whole_read h ≡ whole_by stop format budget pieces before after end (ends-by stop format budget pieces before after end is h)
unfolding ends-by
same-whole Done format budget pieces before after end is h = refl
same-whole ReadFault format budget pieces before after end is h = refl
same-whole WriteFault format budget pieces before after end is h = refl
same-whole (Cut place) format budget pieces before after end is h = refl
same-whole Limit format budget pieces before after end is h = refl
same-whole NoMemory format budget pieces before after end is h = absurd (stops-of NoMemory h is)

-- ---- how a reading ends

pub units-told : LawOfOneStream → (format : Format) (budget : ℕ) (old new : Duty) (before after : Outside) (end : UnitEnd) → TellsRead format budget old new before after end
    → TellsUnits format budget old new before after end
units-told law format budget old new before after end h =
    let ends = ends-by end.stop format budget (old.pieces 1) before after end refl h.reads in
    record {
      reads = record { ends = ends; completes = complete-by law end.stop format budget (old.pieces 1) before after end refl ends };
      counts = subst (CountsMore old.counts new.counts) (same-whole end.stop format budget (old.pieces 1) before after end refl h.reads) h.counts;
    }

-- there was no memory to begin
pub nothing_was_read : (format : Format) (budget : ℕ) (pieces : List Event → List (List ℕ)) (here : Outside) (end : UnitEnd) → end ≡ record { stop = NoMemory; tally = no_units }
    → ReadsUnits format budget pieces here here end
nothing_was_read format budget pieces here end is =
    subst (ReadsUnits format budget pieces here here) (sym is) (record { ends = (refl, refl); completes = λ octets told frames reads writes. inr refl })

pub nothing-told : (format : Format) (budget : ℕ) (duty : Duty) (here : Outside) (end : UnitEnd) → end ≡ record { stop = NoMemory; tally = no_units }
    → TellsUnits format budget duty duty here here end
nothing-told format budget duty here end is =
    subst (TellsUnits format budget duty duty here here) (sym is) (record {
      reads = record { ends = (refl, refl); completes = λ octets told frames reads writes. inr refl };
      counts = more-none duty.counts;
    })
