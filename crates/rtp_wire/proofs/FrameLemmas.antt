-- What the two fetches of a frame, its length and its packet, make of a call of a framer, and what it answers by the octets left.
use Rattle.std.proofs.Common.{◌≡◌, ◌⊎◌, ℕ, ◌+◌, ◌-◌, ◌*◌, ◌/◌, ◌%◌, ◌^◌, ◌<◌, ◌≤◌, nat_le, ◌==◌, Bool, true, false, List, [], ◌∷◌, ◌++◌, Option, Some, Result, Ok, Err, inl, inr, length, take, drop, refl, sym, ap, ap₂, subst, ◌∙◌, arith, length-append, length-take-le, take_all, append-nil, append_assoc}
use Rattle.std.specs.List.{flat_map}
use Rattle.std.specs.Io.KnownBytes.{IsAtEnd}
use Rattle.byteorder.specs.Endian.{big_bytes}
use Rattle.io_edge.specs.Allowance.{AllowanceState, Fetches, TakesOctets, Paused}
use Rattle.io_edge.specs.Outside.{Input}
use Rattle.io_edge.specs.declared.allowance.Pause.{Pause}
use Rattle.io_edge.specs.declared.allowance.Pause.TheVariants as pause
use Rattle.io_edge.specs.declared.allowance.Shortfall.{Shortfall}
use Rattle.io_edge.proofs.AllowanceLemmas.{takes-both, rest-of, paused-before}
use Rattle.rtp_wire.specs.declared.frames.FrameEnd.{FrameEnd}
use Rattle.rtp_wire.specs.declared.frames.FrameEnd.TheVariants.{End, Cut, Fault, Limit}
use Rattle.std.proofs.Math.Seq.{take-append_seam, take-append-add, drop-append_seam}
use Rattle.std.proofs.lemmas.Bool.{le-leb}
use Rattle.std.proofs.lemmas.Bool.Decides.{nat_tests}
use Rattle.rtp_wire.specs.Frames.{frame, IsPartial, HasFrame, has_frame, first_packet, end_before, next_frame, TakesFrame, TakesOne, ReadsFrame, ReadsOrStays, Framed, stream_of, LawOfAnswers, LawOfStreams}
use Rattle.rtp_wire.specs.Stops.{end_for}

-- a packet's length and fewer octets than it are no whole frame
pub partial_body : (size : ℕ) (octets : List ℕ) → size < 2 ^ 16 → length octets < size → IsPartial (big_bytes 2 size ++ octets)
partial_body size octets fits short = omega arith

-- fewer octets than a length has are no whole frame
pub partial_head : (octets : List ℕ) → length octets < 2 → IsPartial octets
partial_head [] short = tt
partial_head (_ ∷ []) short = tt
partial_head (_ ∷ _ ∷ _) short = absurd (omega arith)

-- no octets
no_octets : (octets : List ℕ) → length octets ≡ 0 → octets ≡ []
no_octets [] none = refl
no_octets (_ ∷ _) none = absurd (omega arith)

-- why a call ends that took these octets and paused between two frames, or inside one
pub pause_ends : (why : Pause) (is_between : Bool) (took : List ℕ) (before after : Input) (allowance : AllowanceState) → IsPartial took
    → (is_between ≡ true → took ≡ []) → (is_between ≡ false → 0 < length took) → Paused why before after allowance
    → TakesFrame (Err (end_for why is_between allowance.taken)) took before after allowance
pause_ends pause.Limit is_between took before after allowance part none some paused = (part, paused)
pause_ends pause.End true took before after allowance part none some paused = (none refl, paused)
pause_ends pause.End false took before after allowance part none some paused = (refl, some refl, part, paused)
pause_ends pause.Fault is_between took before after allowance part none some paused = (part, paused)

-- the length was not fetched
pub head_cut : (before after : Input) (old new : AllowanceState) (head : List ℕ) (short : Shortfall) → length head ≡ 2
    → Fetches (Err short) before after old new head
    → TakesOne before after old new (Err (end_for short.pause (short.count == 0) new.taken))
head_cut before after old new head short two fetched =
    let part = take short.count head in
    let long : length part ≡ short.count = length-take-le short.count head (omega arith) in
    record {
      took = part;
      takes = fetched.1;
      answer =
          pause_ends short.pause (short.count == 0) part before after new (partial_head part (omega arith)) (λ none. no_octets part (grind (arith, nat_tests)))
          (λ some. grind (arith, nat_tests)) fetched.2;
    }

-- the length was fetched, and the packet behind it was not
pub packet_cut : (before between after : Input) (first second third : AllowanceState) (size : ℕ) (head body : List ℕ) (short : Shortfall) → size < 2 ^ 16
    → big_bytes 2 size ≡ head → length body ≡ size → TakesOctets before between first second head → between.faults ≡ before.faults
    → Fetches (Err short) between after second third body
    → TakesOne before after first third (Err (end_for short.pause false third.taken))
packet_cut before between after first second third size head body short fits spelled long begun kept fetched =
    let part = take short.count body in
    let many : length part ≡ short.count = length-take-le short.count body (omega arith) in
    let two : length head ≡ 2 = ap length (sym spelled) in
    record {
      took = head ++ part;
      takes = takes-both before between after first second third head part begun fetched.1;
      answer =
          pause_ends short.pause false (head ++ part) before after third (subst (λ h. IsPartial (h ++ part)) spelled (partial_body size part fits (omega arith)))
          (λ no. absurd (cc)) (λ _. omega (arith, length-append head part)) (paused-before short.pause before between after third kept fetched.2);
    }

-- the length was fetched, and the packet too
pub packet_whole : (before between after : Input) (first second third : AllowanceState) (size : ℕ) (head body : List ℕ) → size < 2 ^ 16
    → big_bytes 2 size ≡ head → length body ≡ size → TakesOctets before between first second head → between.faults ≡ before.faults
    → TakesOctets between after second third body → after.faults ≡ between.faults
    → TakesOne before after first third (Ok body)
packet_whole before between after first second third size head body fits spelled long begun kept rest still =
    record {
      took = head ++ body;
      takes = takes-both before between after first second third head body begun rest;
      answer = (ap (λ h. h ++ body) (sym spelled) ∙ ap (λ n. big_bytes 2 n ++ body) (sym long), omega arith, still ∙ kept);
    }

-- what is less than a frame has none
pub partial_has_none : (octets : List ℕ) → IsPartial octets → has_frame octets ≡ false
partial_has_none [] h = refl
partial_has_none (_ ∷ []) h = refl
partial_has_none (high ∷ low ∷ octets) h = grind (arith, nat_tests)

-- a frame at the front is one, whatever follows
pub frame_is_first : (packet more : List ℕ) → HasFrame packet → (has_frame (frame packet ++ more) ≡ true) × (first_packet (frame packet ++ more) ≡ packet)
frame_is_first packet more fits =
    let size : length packet / 256 % 256 * 256 + length packet % 256 ≡ length packet = omega arith in (
      le-leb _ _ (omega (arith, length-append packet more)),
      ap (λ n. take n (packet ++ more)) size ∙ take-append_seam packet more,
    )

-- a whole frame within the budget is given
pub next_packet : (left : List ℕ) (taken budget : ℕ) (packet more : List ℕ) → left ≡ frame packet ++ more → HasFrame packet
    → taken + length (frame packet) ≤ budget → next_frame left taken budget ≡ Ok packet
unfolding next_frame
next_packet left taken budget packet more whole fits room =
    let k = budget - taken - length (frame packet) in
    let sum : budget - taken ≡ length (frame packet) + k = omega arith in
    let front : take (budget - taken) left ≡ frame packet ++ take k more =
    ap₂ take sum whole ∙ take-append-add (frame packet) more k in
    let here : has_frame (take (budget - taken) left) ≡ true = ap has_frame front ∙ (frame_is_first packet (take k more) fits).0 in
    rw here (ap Ok (ap first_packet whole ∙ (frame_is_first packet more fits).1))

-- the budget ends before a whole frame and before the stream
pub next_limit : (left : List ℕ) (taken budget : ℕ) → IsPartial (take (budget - taken) left) → budget ≤ taken + length left → next_frame left taken budget ≡ Err Limit
unfolding next_frame
next_limit left taken budget part full =
    let none : has_frame (take (budget - taken) left) ≡ false = partial_has_none (take (budget - taken) left) part in
    let all : nat_le budget (taken + length left) ≡ true = le-leb _ _ full in
    rw (none, all) refl

-- the stream ends before a whole frame and before the budget
pub next_end : (left : List ℕ) (taken budget : ℕ) → IsPartial left → taken + length left < budget → next_frame left taken budget ≡ Err (end_before left (taken + length left))
unfolding next_frame
next_end left taken budget part room =
    let all : take (budget - taken) left ≡ left = take_all (budget - taken) left (omega arith) in
    let none : has_frame (take (budget - taken) left) ≡ false = ap has_frame all ∙ partial_has_none left part in
    let some : nat_le budget (taken + length left) ≡ false = grind (arith, nat_tests) in
    rw (none, some) refl

-- a source at its end that tells its octets has none left
pub at_end : (known : Option (List ℕ)) (octets : List ℕ) → known ≡ Some octets → IsAtEnd known → octets ≡ []
at_end known octets is ends = subst IsAtEnd is ends

-- something of a frame is there
end_inside : (octets : List ℕ) (place : ℕ) → 0 < length octets → end_before octets place ≡ Cut place
end_inside [] place some = absurd (omega arith)
end_inside (_ ∷ _) place some = refl

-- where a source tells its octets, a call's answer is fixed
pub told : (left ys : List ℕ) (before after : Input) (old new : AllowanceState) (result : Result (List ℕ) FrameEnd) (h : TakesOne before after old new result)
    → after.left ≡ Some ys → left ≡ h.took ++ ys → (result ≡ Err Fault) ⊎ (result ≡ next_frame left old.taken old.budget)
told left ys before after old new (Ok packet) h rest whole =
    inr (sym (next_packet left old.taken old.budget packet ys (whole ∙ ap (λ x. x ++ ys) h.answer.0) h.answer.1 (omega (arith, ap length h.answer.0, h.takes.taken, h.takes.within, h.takes.budget))))
told left ys before after old new (Err End) h rest whole =
    let none : ys ≡ [] = at_end after.left ys rest h.answer.1.0 in
    let empty : left ≡ [] = whole ∙ ap₂ ◌++◌ h.answer.0 none in
    let ends : Err End ≡ next_frame [] old.taken old.budget =
    sym (next_end [] old.taken old.budget tt (omega (arith, h.takes.taken, h.takes.budget, h.answer.1.1, ap length h.answer.0))) in
    inr (ends ∙ ap (λ x. next_frame x old.taken old.budget) (sym empty))
told left ys before after old new (Err (Cut place)) h rest whole =
    let none : ys ≡ [] = at_end after.left ys rest h.answer.3.0 in
    let same : left ≡ h.took = whole ∙ ap (λ x. h.took ++ x) none ∙ append-nil h.took in
    let at : old.taken + length h.took ≡ place = sym h.takes.taken ∙ sym h.answer.0 in
    let ends = next_end h.took old.taken old.budget h.answer.2 (omega (arith, h.takes.taken, h.takes.budget, h.answer.3.1)) in
    inr (sym (ap (λ x. next_frame x old.taken old.budget) same ∙ ends ∙ ap Err (end_inside h.took _ h.answer.1 ∙ ap Cut at)))
told left ys before after old new (Err Limit) h rest whole =
    let size : old.budget - old.taken ≡ length h.took = omega (arith, h.takes.taken, h.takes.budget, h.answer.1.0) in
    let front : take (old.budget - old.taken) left ≡ h.took = ap₂ take size whole ∙ take-append_seam h.took ys in
    inr (sym (next_limit left old.taken old.budget (subst IsPartial (sym front) h.answer.0) (omega (arith, h.takes.taken, h.takes.budget, h.answer.1.0, ap length whole, length-append h.took ys))))
told left ys before after old new (Err Fault) h rest whole = inl refl

-- and so is that of a framer that has not ended
pub answers_fixed : LawOfAnswers
answers_fixed left before after old new result known going call =
    let reads : ReadsFrame before after old new result = subst (λ e. ReadsOrStays e before after old new result) going call in
    let one = reads.frame_taken in
    let rest = rest-of before after old.allowance new.allowance one.took left known one.takes in
    told left rest.0 before after old.allowance new.allowance result one rest.1 rest.2

-- a packet's frame, and then the stream of the others
stream-cons : (packet : List ℕ) (packets : List (List ℕ)) (rest : List ℕ) → stream_of (packet ∷ packets) rest ≡ frame packet ++ stream_of packets rest
stream-cons packet packets rest = append_assoc (frame packet) (flat_map frame packets) rest

-- a stream gives its packets in order, and then its end
pub frames_in_order : LawOfStreams
frames_in_order [] rest taken budget fits part room = next_end rest taken budget part room
frames_in_order (packet ∷ packets) rest taken budget fits part room =
    let more = stream_of packets rest in
    let whole : stream_of (packet ∷ packets) rest ≡ frame packet ++ more = stream-cons packet packets rest in
    let long : length (stream_of (packet ∷ packets) rest) ≡ length packet + 2 + length more = omega (arith, ap length whole, length-append packet more) in
    let first = next_packet (stream_of (packet ∷ packets) rest) taken budget packet more whole fits.0 (omega arith) in
    let size : length packet + 2 ≡ length (frame packet) = omega arith in
    let left : drop (length packet + 2) (stream_of (packet ∷ packets) rest) ≡ more =
    ap₂ drop size whole ∙ drop-append_seam (frame packet) more in
    let after = frames_in_order packets rest (taken + length packet + 2) budget fits.1 part (omega arith) in (
      first,
      subst (λ xs. Framed xs (taken + length packet + 2) budget packets (end_before rest (taken + length (stream_of (packet ∷ packets) rest)))) (sym left)
          (subst (λ place. Framed more (taken + length packet + 2) budget packets (end_before rest place)) (omega arith) after),
    )
