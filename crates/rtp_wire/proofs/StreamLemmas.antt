-- What the calls of a framer, one after another, make of a stream.
use Rattle.std.proofs.Common.{◌≡◌, ℕ, ◌+◌, List, [], ◌∷◌, ◌++◌, Some, Result, Ok, Err, length, take, drop, refl, sym, ap, ap₂, subst, ◌∙◌, arith, length-append, append-nil, append_assoc}
use Rattle.std.specs.List.{flat_map, AllByRecursion}
use Rattle.std.proofs.Math.Seq.{take-append_seam}
use Rattle.std.proofs.lemmas.List.{append_cancel_left}
use Rattle.std.proofs.lemmas.Grind.{flat_map-append}
use Rattle.io_edge.specs.Allowance.{AllowanceState}
use Rattle.io_edge.specs.Outside.{Input}
use Rattle.io_edge.proofs.AllowanceLemmas.{rest-of}
use Rattle.rtp_wire.specs.declared.frames.FrameEnd.{FrameEnd}
use Rattle.rtp_wire.specs.declared.frames.FrameEnd.TheVariants.{End, Cut, Fault, Limit}
use Rattle.rtp_wire.specs.Frames.{frame, HasFrame, IsPartial, TakesOne, ReadsFrame, ReadsOrStays, Framed, end_before, stream_of, IsStream, HasFramed, AfterFrame, LawOfCalls, LawOfOneStream}
use Rattle.rtp_wire.proofs.FrameLemmas.{frames_in_order, at_end}

-- one more frame at the end
frames_more : (packets : List (List ℕ)) (packet : List ℕ) → AllByRecursion HasFrame packets → HasFrame packet → AllByRecursion HasFrame (packets ++ packet ∷ [])
frames_more [] packet all one = (one, tt)
frames_more (x ∷ packets) packet all one = (all.0, frames_more packets packet all.1 one)

joined : (packets : List (List ℕ)) (packet : List ℕ) → flat_map frame (packets ++ packet ∷ []) ≡ flat_map frame packets ++ frame packet
joined packets packet = flat_map-append frame packets (packet ∷ []) ∙ ap (λ xs. flat_map frame packets ++ xs) (append-nil (frame packet))

-- the octets that were taken are the frames and what was taken of the next one
taken_of : (stream : List ℕ) (packets : List (List ℕ)) (at : ℕ) (left took more : List ℕ) (now : ℕ) → HasFramed stream packets at left
    → left ≡ took ++ more → now ≡ at + length took → take now stream ≡ stream_of packets took
taken_of stream packets at left took more now h taken counted =
    let front = stream_of packets took in
    let whole : stream ≡ front ++ more = h.cut ∙ ap (λ xs. flat_map frame packets ++ xs) taken ∙ sym (append_assoc (flat_map frame packets) took more) in
    let long : now ≡ length front = omega (arith, counted, h.counted, length-append (flat_map frame packets) took) in
    ap₂ take long whole ∙ take-append_seam front more

-- which are a stream where less than a frame was taken
taken_stream : (stream : List ℕ) (packets : List (List ℕ)) (left more : List ℕ) (at now : ℕ) (took : List ℕ) → HasFramed stream packets at left
    → left ≡ took ++ more → now ≡ at + length took → IsPartial took → IsStream (take now stream) packets took
taken_stream stream packets left more at now took h taken counted part =
    record { cut = taken_of stream packets at left took more now h taken counted; frames = h.frames; part = part }

-- what a call that may ask makes of the stream
after : (stream : List ℕ) (packets : List (List ℕ)) (left ys : List ℕ) (before now : Input) (old new : AllowanceState)
    (result : Result (List ℕ) FrameEnd) → HasFramed stream packets old.taken left → (one : TakesOne before now old new result)
    → now.left ≡ Some ys → left ≡ one.took ++ ys → AfterFrame stream packets now.left new result
after stream packets left ys before now old new (Ok packet) h one known taken =
    let whole : left ≡ frame packet ++ ys = taken ∙ ap (λ xs. xs ++ ys) one.answer.0 in (
      ys,
      known,
      record {
        cut =
            h.cut ∙ ap (λ xs. flat_map frame packets ++ xs) whole ∙ sym (append_assoc (flat_map frame packets) (frame packet) ys)
            ∙ ap (λ xs. xs ++ ys) (sym (joined packets packet));
        frames = frames_more packets packet h.frames one.answer.1;
        counted =
            omega (arith, one.takes.taken, h.counted, ap length one.answer.0, ap length (joined packets packet), length-append (flat_map frame packets) (frame packet));
      },
    )
after stream packets left ys before now old new (Err End) h one known taken =
    let none : left ≡ [] = taken ∙ ap₂ ◌++◌ one.answer.0 (at_end now.left ys known one.answer.1.0) in
    record { cut = h.cut ∙ ap (λ xs. flat_map frame packets ++ xs) none; frames = h.frames; part = tt }
after stream packets left ys before now old new (Err (Cut place)) h one known taken =
    let all : left ≡ one.took = taken ∙ ap (λ xs. one.took ++ xs) (at_end now.left ys known one.answer.3.0) ∙ append-nil one.took in (
      left,
      record { cut = h.cut; frames = h.frames; part = subst IsPartial (sym all) one.answer.2 },
      omega (arith, one.answer.1, ap length all),
      omega (arith, one.answer.0, one.takes.taken, h.counted, ap length all, ap length h.cut, length-append (flat_map frame packets) left),
    )
after stream packets left ys before now old new (Err Limit) h one known taken =
    (one.answer.1.0, (one.took, taken_stream stream packets left ys old.taken new.taken one.took h taken one.takes.taken one.answer.0))
after stream packets left ys before now old new (Err Fault) h one known taken =
    (one.took, taken_stream stream packets left ys old.taken new.taken one.took h taken one.takes.taken one.answer.0)

pub calls_frame : LawOfCalls
calls_frame stream packets left before now old new result known h going call =
    let reads : ReadsFrame before now old new result = subst (λ e. ReadsOrStays e before now old new result) going call in
    let one = reads.frame_taken in
    let rest = rest-of before now old.allowance new.allowance one.took left known one.takes in
    after stream packets left rest.0 before now old.allowance new.allowance result h one rest.1 rest.2

-- the answers that come one after the other are fixed
one_run : (left : List ℕ) (taken budget : ℕ) (packets others : List (List ℕ)) (e f : FrameEnd) → Framed left taken budget packets e → Framed left taken budget others f
    → packets ≡ others
one_run left taken budget [] [] e f h k = refl
one_run left taken budget [] (y ∷ others) e f h k = absurd (let no : Err e ≡ Ok y = sym h ∙ k.0 in cc)
one_run left taken budget (x ∷ packets) [] e f h k = absurd (let no : Err f ≡ Ok x = sym k ∙ h.0 in cc)
one_run left taken budget (x ∷ packets) (y ∷ others) e f h k =
    let both : Ok x ≡ Ok y = sym h.0 ∙ k.0 in
    let same : y ≡ x = cc in
    let rest : Framed (drop (length x + 2) left) (taken + length x + 2) budget others f =
    subst (λ z. Framed (drop (length z + 2) left) (taken + length z + 2) budget others f) same k.1 in
    ap₂ ◌∷◌ (sym same) (one_run (drop (length x + 2) left) (taken + length x + 2) budget packets others e f h.1 rest)

runs : (octets : List ℕ) (packets : List (List ℕ)) (rest : List ℕ) → IsStream octets packets rest
    → Framed octets 0 (length octets + 1) packets (end_before rest (0 + length (stream_of packets rest)))
runs octets packets rest h =
    subst (λ xs. Framed xs 0 (length octets + 1) packets (end_before rest (0 + length (stream_of packets rest)))) (sym h.cut)
    (frames_in_order packets rest 0 (length octets + 1) h.frames h.part (omega (arith, ap length h.cut)))

pub one_stream : LawOfOneStream
one_stream octets packets others rest end h k =
    let same : packets ≡ others = one_run octets 0 (length octets + 1) packets others _ _ (runs octets packets rest h) (runs octets others end k) in
    let whole : flat_map frame others ++ rest ≡ flat_map frame others ++ end = ap (λ ps. flat_map frame ps ++ rest) (sym same) ∙ sym h.cut ∙ k.cut in
    (same, append_cancel_left (flat_map frame others) rest end whole)
