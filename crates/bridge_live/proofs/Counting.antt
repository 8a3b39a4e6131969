-- How many turns the workers make of what they are given: a conference that has as many ends by its ticker.
use Rattle.std.proofs.Common.{◌≡◌, ℕ, ◌+◌, ◌*◌, ◌/◌, ◌%◌, take, ◌≤◌, ◌==◌, Bool, true, false, cond, List, [], ◌∷◌, ◌++◌, length, map, sum_by, sum, Option, None, Some, refl, sym, ap, ap₂, subst, ◌∙◌, arith, length-append, append_assoc}
use Rattle.std.proofs.lemmas.Bool.Decides.{nat_tests}
use Rattle.std.proofs.Math.Seq.{take-append_seam}
use Rattle.std.proofs.lemmas.Bool.{le-leb}
use Rattle.std.proofs.lemmas.List.{append_cancel_left, length-map}
use Rattle.std.proofs.lemmas.List.Sums.{sum_by-cons}
use Rattle.std.specs.List.{AllByRecursion, flat_map}
use Rattle.std.specs.Io.KnownBytes.{Consumes}
use mathlib.Core.List.{IsPrefix}
use Rattle.cif_pack.specs.Tallies.{one_if}
use Rattle.hall_core.specs.Machine.{turn_tells, is_ended}
use Rattle.hall_lock.proofs.Histories.{prefix_length}
use Rattle.io_edge.specs.Outside.{Input}
use Rattle.pel_model.specs.declared.Format.{Format}
use Rattle.pel_model.specs.declared.chair.Command.{Command}
use Rattle.pel_model.specs.History.{Step, Order}
use Rattle.rtp_h261.specs.Packets.{piece_of}
use Rattle.rtp_h261.specs.Units.{Given as GivenBy, all_given}
use Rattle.rtp_h261.proofs.GivenLemmas.{all_given_length}
use Rattle.rtp_wire.specs.Frames.{frame, HasFrame, IsPartial, has_frame, first_packet, stream_of, IsStream}
use Rattle.hall_lock.specs.Asking.{NoneEnded, EndsLast}
use Rattle.hall_lock.specs.Own.{made}
use Rattle.hall_lock.specs.Telling.{Tells}
use Rattle.rtp_h261.specs.Events.{Event, AreUnitEvents, lost_events, HappenAt}
use Rattle.pel_model.specs.declared.Format.TheVariants.{Qcif}
use Rattle.bridge_live.specs.declared.chair.ChairCounts.{ChairCounts}
use Rattle.bridge_live.specs.declared.ends.ChairStop.{ChairStop}
use Rattle.bridge_live.specs.declared.ends.ChairStop.TheVariants as chair_stop
use Rattle.bridge_live.specs.declared.ends.LaneStop.{LaneStop}
use Rattle.bridge_live.specs.declared.ends.LaneStop.TheVariants as lane_stop
use Rattle.bridge_live.specs.Chair.{AreOrders, heard_lines, OrdersOf, RunsChair}
use Rattle.bridge_live.specs.Endings.{LaneEnding}
use Rattle.bridge_live.specs.Flow.{IsFlow, step_of}
use Rattle.bridge_live.specs.Gathered.{LaneRan, LanesRan}
use Rattle.bridge_live.specs.Lane.{MakesOf}
use Rattle.bridge_live.specs.Lines.{line_feed, IsLine, Heard, Blank, Faulty, Said, IsHeard, AreHeard, said}
use Rattle.bridge_live.specs.Serve.{line_count_from, line_count, TellFrames}
use Rattle.bridge_live.specs.Worker.{HallSeat}
use Rattle.bridge_live.proofs.Finishing.{some-told, tells-front}
use Rattle.bridge_live.proofs.Telling.{HallTurn}

-- ---- a worker's turns by its steps

pub none-longer : (ts : List HallTurn) (steps : List Step) → NoneEnded is_ended ts → Tells turn_tells ts steps → length ts ≤ length steps
none-longer [] steps live e = omega arith
none-longer (t ∷ ts) steps live e =
    let one = some-told t e.0 live.0 e.2 in
    omega (
      arith,
      none-longer ts e.1 live.1 e.3,
      ap (λ (w : List Step). length w) e.4,
      length-append e.0 e.1,
      ap (λ (w : List Step). length w) one.2,
    )

pub one-longer : (ts : List HallTurn) (steps : List Step) → EndsLast is_ended ts → Tells turn_tells ts steps → length ts ≤ length steps + 1
one-longer ts steps e told =
    let all : Tells turn_tells (e.front ++ e.last ∷ []) steps = subst (λ (us : List HallTurn). Tells turn_tells us steps) e.all told in
    omega (
      arith,
      none-longer e.front steps e.none (tells-front e.front e.last steps e.ended all),
      ap (λ (us : List HallTurn). length us) e.all,
      length-append e.front (e.last ∷ []),
    )

-- ---- the packets of a stream of which a front was taken

-- what is less than a frame has none
partial-none : (octets : List ℕ) → IsPartial octets → has_frame octets ≡ false
partial-none [] h = refl
partial-none (_ ∷ []) h = refl
partial-none (high ∷ low ∷ octets) h = grind (arith, nat_tests)

-- a frame at the front is one, whatever follows
first-frame : (packet more : List ℕ) → HasFrame packet → (has_frame (frame packet ++ more) ≡ true) × (first_packet (frame packet ++ more) ≡ packet)
first-frame packet more fits =
    let size : length packet / 256 % 256 * 256 + length packet % 256 ≡ length packet = omega arith in (
      le-leb _ _ (omega (arith, length-append packet more)),
      ap (λ n. take n (packet ++ more)) size ∙ take-append_seam packet more,
    )

-- the frames of the first packet stand before the others
regroup : (p : List ℕ) (ps : List (List ℕ)) (part more : List ℕ) → stream_of (p ∷ ps) part ++ more ≡ frame p ++ (stream_of ps part ++ more)
regroup p ps part more =
    ap (λ (w : List ℕ). w ++ more) (append_assoc (frame p) (flat_map frame ps) part) ∙ append_assoc (frame p) (stream_of ps part) more

-- of two cuts of the same octets, the one that goes on behind its part begins the other
pub frames-begin : (packets others : List (List ℕ)) (part rest more : List ℕ) → AllByRecursion HasFrame packets → AllByRecursion HasFrame others → IsPartial rest
    → stream_of packets part ++ more ≡ stream_of others rest → IsPrefix packets others
frames-begin [] others part rest more fit fits short e = (others, refl)
frames-begin (p ∷ ps) [] part rest more fit fits short e =
    let whole : rest ≡ frame p ++ (stream_of ps part ++ more) = sym e ∙ regroup p ps part more in
    let has : has_frame rest ≡ true = ap has_frame whole ∙ (first-frame p (stream_of ps part ++ more) fit.0).0 in
    absurd (cc (has, partial-none rest short))
frames-begin (p ∷ ps) (q ∷ qs) part rest more fit fits short e =
    let left : List ℕ = stream_of ps part ++ more in
    let right : List ℕ = stream_of qs rest in
    let whole : frame p ++ left ≡ frame q ++ right = sym (regroup p ps part more) ∙ (e ∙ append_assoc (frame q) (flat_map frame qs) rest) in
    let same : p ≡ q =
    sym (first-frame p left fit.0).1 ∙ (ap first_packet whole ∙ (first-frame q right fits.0).1) in
    let tail : left ≡ right = append_cancel_left (frame p) left right (whole ∙ ap (λ (w : List ℕ). frame w ++ right) (sym same)) in
    let later = frames-begin ps qs part rest more fit.1 fits.1 short tail in
    (later.0, ap₂ (λ (x : List ℕ) (xs : List (List ℕ)). x ∷ xs) same later.1)

few-packets : (packets others : List (List ℕ)) (part rest octets : List ℕ) (before after : Option (List ℕ)) → AllByRecursion HasFrame packets
    → before ≡ Some octets → Consumes before after (stream_of packets part) → IsStream octets others rest → length packets ≤ length others
few-packets packets others part rest octets None after fit is took stream = absurd (cc is)
few-packets packets others part rest octets (Some xs) None fit is took stream = absurd took
few-packets packets others part rest octets (Some xs) (Some ys) fit is took stream =
    let same : xs ≡ octets = cc is in
    prefix_length packets others (frames-begin packets others part rest ys fit stream.frames stream.part (sym took ∙ (same ∙ stream.cut)))

-- ---- a packet makes two steps at most

few-units : (format : Format) (bits : Option (List Bool)) (events : List Event) → AreUnitEvents format bits events → length events ≤ 1
few-units format None events is = omega (arith, ap (λ (w : List Event). length w) is)
few-units format (Some bits) events is = omega (arith, ap (λ (w : List Event). length w) is.1)

few-lost : (lost : Bool) → length (lost_events lost) ≤ 1
few-lost true = omega arith
few-lost false = omega arith

few-events : (format : Format) (gs : List GivenBy) (events : List Event) → HappenAt format gs events → length events ≤ 2 * length gs
few-events format [] events h = omega (arith, ap (λ (w : List Event). length w) h)
few-events format (g ∷ gs) events h =
    omega (
      arith,
      few-events format gs h.1 h.3,
      ap (λ (w : List Event). length w) h.4,
      length-append h.0 h.1,
      ap (λ (w : List Event). length w) h.2.order,
      length-append (lost_events g.lost) h.2.unit,
      few-lost g.lost,
      few-units format g.unit h.2.unit h.2.is_unit,
    )

few-flow : (lane : ℕ) (packets : List (List ℕ)) (flow : List Step) → IsFlow lane packets flow → length flow ≤ 2 * length packets
few-flow lane packets flow f =
    omega (
      arith,
      few-events Qcif (all_given (map piece_of packets)) f.0 f.1,
      all_given_length (map piece_of packets),
      length-map packets piece_of,
      ap (λ (w : List Step). length w) f.2,
      length-map f.0 (step_of lane),
    )

made-of : (stop : LaneStop) (lane : ℕ) (flow steps : List Step) (seat : HallSeat) → MakesOf stop lane flow steps seat → Tells turn_tells (made seat) steps
    → length (made seat) ≤ length flow + 1
made-of lane_stop.Whole lane flow steps seat m told =
    omega (arith, none-longer (made seat) steps m.1.0 told, ap (λ (w : List Step). length w) m.0)
made-of lane_stop.Cut lane flow steps seat m told =
    omega (arith, none-longer (made seat) steps m.1.0 told, ap (λ (w : List Step). length w) m.0 ∙ length-append flow _)
made-of lane_stop.Fault lane flow steps seat m told =
    omega (arith, none-longer (made seat) steps m.1.0 told, ap (λ (w : List Step). length w) m.0 ∙ length-append flow _)
made-of lane_stop.Limit lane flow steps seat m told =
    omega (arith, none-longer (made seat) steps m.1.0 told, ap (λ (w : List Step). length w) m.0 ∙ length-append flow _)
made-of lane_stop.Ended lane flow steps seat m told =
    omega (arith, one-longer (made seat) steps m.1.0 told, prefix_length steps flow m.0)
made-of lane_stop.Over lane flow steps seat m told =
    omega (arith, none-longer (made seat) steps m.1.0 told, prefix_length steps flow m.0)

lane-few : (lanes lane : ℕ) (before : Input) (end : LaneEnding) (octets : List ℕ) (others : List (List ℕ)) (rest : List ℕ)
    → LaneRan lanes lane before end → before.left ≡ Some octets → IsStream octets others rest → length (made end.seat) ≤ 2 * length others + 1
lane-few lanes lane before end octets others rest ran is stream =
    let run = ran.2 in
    omega (
      arith,
      made-of end.stop lane run.flow run.steps end.seat run.makes run.has_made.told,
      few-flow lane run.packets run.flow run.is_flow,
      few-packets run.packets others run.part rest octets before.left end.source.left run.frames is run.bytes stream,
    )

-- ---- the chair's commands are no more than its lines

abbrev one-line : Bool → List ℕ → ℕ
one-line begun [] = one_if begun
one-line begun (b ∷ bs) = 1

ended-line : (begun : Bool) (line more : List ℕ) → IsLine line → line_count_from begun (line ++ line_feed ∷ more) ≡ 1 + line_count_from false more
ended-line begun [] more is = refl
ended-line begun (b ∷ bs) more is =
    let other : (b == line_feed) ≡ false = grind (arith, nat_tests, is.0) in
    ap (λ (v : Bool). cond v (1 + line_count_from false (bs ++ line_feed ∷ more)) (line_count_from true (bs ++ line_feed ∷ more))) other
    ∙ ended-line true bs more is.1

last-line : (begun : Bool) (line : List ℕ) → IsLine line → line_count_from begun line ≡ one-line begun line
last-line begun [] is = refl
last-line begun (b ∷ bs) is =
    let other : (b == line_feed) ≡ false = grind (arith, nat_tests, is.0) in
    ap (λ (v : Bool). cond v (1 + line_count_from false bs) (line_count_from true bs)) other ∙ (last-line true bs is.1 ∙ always bs)
  where
    always : (xs : List ℕ) → one-line true xs ≡ 1
    always [] = refl
    always (x ∷ xs) = refl

counted-lines : (lines : List (List ℕ)) (rest : List ℕ) → AllByRecursion IsLine lines → IsLine rest
    → line_count (flat_map (λ line. line ++ line_feed ∷ []) lines ++ rest) ≡ length lines + one-line false rest
counted-lines [] rest are is = omega (arith, last-line false rest is)
counted-lines (l ∷ ls) rest are is =
    let others : List ℕ = flat_map (λ line. line ++ line_feed ∷ []) ls in
    let cut : ((l ++ line_feed ∷ []) ++ others) ++ rest ≡ l ++ line_feed ∷ (others ++ rest) =
    append_assoc (l ++ line_feed ∷ []) others rest ∙ append_assoc l (line_feed ∷ []) (others ++ rest) in
    omega (arith, ap line_count cut, ended-line false l (others ++ rest) are.0, counted-lines ls rest are.1 is)

begun-one : (octets : List ℕ) → 1 ≤ line_count_from true octets
begun-one [] = omega arith
begun-one (b ∷ bs) =
    elim (b == line_feed) as (λ v. 1 ≤ cond v (1 + line_count_from false bs) (line_count_from true bs)) [ true ↦ omega arith | false ↦ begun-one bs ]

more-lines : (begun : Bool) (octets more : List ℕ) → line_count_from begun octets ≤ line_count_from begun (octets ++ more)
more-lines true [] more = begun-one more
more-lines false [] more = omega arith
more-lines begun (b ∷ bs) more =
    elim (b == line_feed) as (λ v. cond v (1 + line_count_from false bs) (line_count_from true bs) ≤ cond v (1 + line_count_from false (bs ++ more)) (line_count_from true (bs ++ more))) [
      | true ↦ omega (arith, more-lines false bs more)
      | false ↦ more-lines true bs more
    ]

said-one : (h : Heard) (more : List Heard) → length (said (h ∷ more)) ≤ length (said more) + 1
said-one Blank more = omega arith
said-one Faulty more = omega arith
said-one (Said command) more = omega arith

no-words : (h : Heard) → IsHeard [] h → length (said (h ∷ [])) ≤ 0
no-words Blank is = omega arith
no-words Faulty is = omega arith
no-words (Said command) is = absurd (cc (is.1.whole))

said-last : (rest : List ℕ) (h : Heard) → IsHeard rest h → length (said (h ∷ [])) ≤ one-line false rest
said-last [] h is = no-words h is
said-last (b ∷ bs) h is = said-one h []

few-said : (lines : List (List ℕ)) (heard : List Heard) → AreHeard lines heard → length (said heard) ≤ length lines
few-said [] [] are = omega arith
few-said [] (h ∷ hs) are = absurd are
few-said (l ∷ ls) [] are = absurd are
few-said (l ∷ ls) (h ∷ hs) are = omega (arith, said-one h hs, few-said ls hs are.1)

few-said-all : (lines : List (List ℕ)) (rest : List ℕ) (heard : List Heard) → AreHeard (lines ++ rest ∷ []) heard
    → length (said heard) ≤ length lines + one-line false rest
few-said-all [] rest [] are = absurd are
few-said-all [] rest (h ∷ []) are = omega (arith, said-last rest h are.0)
few-said-all [] rest (h ∷ g ∷ hs) are = absurd are.1
few-said-all (l ∷ ls) rest [] are = absurd are
few-said-all (l ∷ ls) rest (h ∷ hs) are = omega (arith, said-one h hs, few-said-all ls rest hs are.1)

few-commands : (stop : ChairStop) (lines : List (List ℕ)) (rest : List ℕ) (heard : List Heard) → AreHeard (heard_lines stop lines rest) heard
    → length (said heard) ≤ length lines + one-line false rest
few-commands chair_stop.Fault lines rest heard are = omega (arith, few-said lines heard are)
few-commands chair_stop.Limit lines rest heard are = omega (arith, few-said lines heard are)
few-commands chair_stop.Whole lines rest heard are = few-said-all lines rest heard are
few-commands chair_stop.Ended lines rest heard are = few-said-all lines rest heard are
few-commands chair_stop.Over lines rest heard are = few-said-all lines rest heard are

as-many : (commands : List Command) (steps : List Step) → AreOrders commands steps → length steps ≡ length commands
as-many [] [] are = refl
as-many (c ∷ cs) (Order given reply ∷ steps) are = omega (arith, as-many cs steps are.1)
as-many _ _ are = absurd are

ordered : (stop : ChairStop) (commands : List Command) (steps : List Step) (seat : HallSeat) → OrdersOf stop commands steps seat
    → Tells turn_tells (made seat) steps → length (made seat) ≤ length commands
ordered chair_stop.Ended commands steps seat o told =
    omega (
      arith,
      one-longer (made seat) steps o.4.0 told,
      as-many o.0 steps o.3,
      ap (λ (w : List Command). length w) o.2,
      length-append o.0 (o.1 ∷ []),
    )
ordered chair_stop.Over commands steps seat o told =
    omega (
      arith,
      none-longer (made seat) steps o.4.0 told,
      as-many o.0 steps o.3,
      ap (λ (w : List Command). length w) o.2,
      length-append o.0 (o.1 ∷ []),
    )
ordered chair_stop.Whole commands steps seat o told = omega (arith, none-longer (made seat) steps o.1.0 told, as-many commands steps o.0)
ordered chair_stop.Fault commands steps seat o told = omega (arith, none-longer (made seat) steps o.1.0 told, as-many commands steps o.0)
ordered chair_stop.Limit commands steps seat o told = omega (arith, none-longer (made seat) steps o.1.0 told, as-many commands steps o.0)

fewer-lines : (octets all : List ℕ) (before after : Option (List ℕ)) → before ≡ Some all → Consumes before after octets → line_count octets ≤ line_count all
fewer-lines octets all None after is took = absurd (cc is)
fewer-lines octets all (Some xs) None is took = absurd took
fewer-lines octets all (Some xs) (Some ys) is took =
    let same : xs ≡ all = cc is in
    omega (arith, more-lines false octets ys, ap line_count (sym took ∙ same))

pub chair-few : (lanes : ℕ) (before after : Input) (first last : HallSeat) (stop : ChairStop) (counts : ChairCounts) (octets : List ℕ)
    → RunsChair lanes before after first last stop counts → before.left ≡ Some octets → length (made last) ≤ line_count octets
chair-few lanes before after first last stop counts octets run is =
    omega (
      arith,
      ordered stop (said run.heard) run.steps last run.makes run.has_made.told,
      few-commands stop run.lines run.rest run.heard run.are_heard,
      ap line_count run.are_lines.cut,
      counted-lines run.lines run.rest run.are_lines.lines run.are_lines.rest,
      fewer-lines run.octets octets before.left after.left is run.bytes,
    )

-- ---- all workers

abbrev pub turns_of : HallSeat → ℕ
turns_of s = length (made s)

pub all-few : (lanes lane : ℕ) (befores : List Input) (ends : List LaneEnding) (frames : List ℕ) (chair mixer : HallSeat)
    → LanesRan lanes lane befores ends → TellFrames befores frames
    → sum_by turns_of (map (λ (e : LaneEnding). e.seat) ends ++ chair ∷ mixer ∷ []) ≤ 2 * sum frames + length befores + turns_of chair + turns_of mixer
all-few lanes lane [] [] [] chair mixer ran told = omega arith
all-few lanes lane [] [] (f ∷ fs) chair mixer ran told = absurd told
all-few lanes lane [] (e ∷ es) frames chair mixer ran told = absurd ran
all-few lanes lane (b ∷ bs) [] frames chair mixer ran told = absurd ran
all-few lanes lane (b ∷ bs) (e ∷ es) [] chair mixer ran told = absurd told
all-few lanes lane (b ∷ bs) (e ∷ es) (f ∷ fs) chair mixer ran told =
    let one = told.0 in
    omega (
      arith,
      all-few lanes (lane + 1) bs es fs chair mixer ran.1 told.1,
      lane-few lanes lane b e one.0 one.1 one.2 ran.0 one.3 one.4,
      one.5,
      sum_by-cons turns_of e.seat (map (λ (x : LaneEnding). x.seat) es ++ chair ∷ mixer ∷ []),
      sum_by-cons (λ (x : ℕ). x) f fs,
    )
