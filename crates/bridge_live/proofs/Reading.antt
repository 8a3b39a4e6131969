-- What a reader may conclude from what a live conference did.
use Rattle.std.proofs.Common.{◌≡◌, ℕ, ◌+◌, true, List, [], ◌∷◌, ◌++◌, length, map, Option, None, Some, sym, ap, subst, ◌∙◌, append-nil}
use Rattle.std.specs.List.{AllByRecursion}
use Rattle.std.specs.Io.KnownBytes.{Consumes, IsAtEnd}
use mathlib.Core.List.{IsPrefix}
use Rattle.hall_lock.proofs.Histories.{prefix_trans, prefix_length, prefix_whole}
use Rattle.io_edge.specs.Outside.{Input}
use Rattle.pel_model.specs.History.{Step, Gap, History, End}
use Rattle.rtp_wire.specs.Frames.{HasFrame, IsPartial, stream_of, IsStream}
use Rattle.bridge_live.specs.declared.calls.Halt.TheVariants as halt
use Rattle.bridge_live.specs.declared.ends.ChairStop.{ChairStop}
use Rattle.bridge_live.specs.declared.ends.ChairStop.TheVariants as chair_stop
use Rattle.bridge_live.specs.declared.ends.LaneStop.{LaneStop}
use Rattle.bridge_live.specs.declared.ends.LaneStop.TheVariants as lane_stop
use Rattle.bridge_live.specs.declared.ends.MixStop.{MixStop}
use Rattle.bridge_live.specs.declared.ends.MixStop.TheVariants as mix_stop
use Rattle.pel_model.specs.declared.chair.Command.{Command}
use Rattle.bridge_live.specs.Chair.{OrdersOf}
use Rattle.bridge_live.specs.Endings.{LaneEnding, Ending}
use Rattle.bridge_live.specs.Flow.{IsFlow, LawOfOneFlow, LawOfFlowFronts}
use Rattle.bridge_live.specs.Lane.{MakesOf, StopsAt}
use Rattle.bridge_live.specs.Serve.{LastCall, Closed, NoEnd, NoTick, Ticks, IsStopOf, EndsWith, LanesServe}
use Rattle.bridge_live.specs.ServeLaws.{StopTells, LawOfStops, MakesOfAll, LawOfLanes}
use Rattle.bridge_live.specs.Worker.{HallSeat, HasHalted}
use Rattle.bridge_live.proofs.Counting.{frames-begin}
use Rattle.bridge_live.proofs.Telling.{last-two}

-- ---- stops

lane-over : (stop : LaneStop) (lane : ℕ) (flow steps : List Step) (seat : HallSeat) → MakesOf stop lane flow steps seat → stop ≡ lane_stop.Over → seat.full ≡ true
lane-over lane_stop.Over lane flow steps seat m is = m.1.1
lane-over _ lane flow steps seat m is = absurd (cc is)

lane-ended : (stop : LaneStop) (lane : ℕ) (flow steps : List Step) (seat : HallSeat) → MakesOf stop lane flow steps seat → stop ≡ lane_stop.Ended → HasHalted halt.Ended seat
lane-ended lane_stop.Ended lane flow steps seat m is = m.1
lane-ended _ lane flow steps seat m is = absurd (cc is)

chair-over : (stop : ChairStop) (commands : List Command) (steps : List Step) (seat : HallSeat) → OrdersOf stop commands steps seat → stop ≡ chair_stop.Over → seat.full ≡ true
chair-over chair_stop.Over commands steps seat o is = o.4.1
chair-over _ commands steps seat o is = absurd (cc is)

chair-ended : (stop : ChairStop) (commands : List Command) (steps : List Step) (seat : HallSeat) → OrdersOf stop commands steps seat → stop ≡ chair_stop.Ended → HasHalted halt.Ended seat
chair-ended chair_stop.Ended commands steps seat o is = o.4
chair-ended _ commands steps seat o is = absurd (cc is)

mixer-over : (stop : MixStop) (last : LastCall) (taken : List ℕ) (H : History) (seat : HallSeat) → IsStopOf stop last → Ticks last taken H seat → stop ≡ mix_stop.Over → seat.full ≡ true
mixer-over stop NoEnd taken H seat s t is = t.2.1
mixer-over stop (NoTick step) taken H seat s t is = t.2.1
mixer-over stop Closed taken H seat s t is = absurd (subst (λ (m : MixStop). IsStopOf m Closed) is s)

module _ (turns : ℕ) (end : Ending) (H : History) where
  lanes-tell : (lanes lane : ℕ) (befores : List Input) (ends : List LaneEnding) (chair mixer : HallSeat) → LanesServe lanes lane H befores ends
      → AllByRecursion (λ (s : HallSeat). s.full ≡ true → end.number ≡ turns) (map (λ (e : LaneEnding). e.seat) ends ++ chair ∷ mixer ∷ [])
      → AllByRecursion (λ (s : HallSeat). HasHalted halt.Ended s → EndsWith End H) (map (λ (e : LaneEnding). e.seat) ends ++ chair ∷ mixer ∷ [])
      → AllByRecursion (λ (e : LaneEnding). StopTells turns end H (e.stop ≡ lane_stop.Over) (e.stop ≡ lane_stop.Ended)) ends
  lanes-tell lanes lane [] [] chair mixer serve full ended = tt
  lanes-tell lanes lane [] (e ∷ es) chair mixer serve full ended = absurd serve
  lanes-tell lanes lane (b ∷ bs) [] chair mixer serve full ended = absurd serve
  lanes-tell lanes lane (b ∷ bs) (e ∷ es) chair mixer serve full ended =
      let run = serve.0.runs in (
        (
          λ is. full.0 (lane-over e.stop lane run.flow run.steps e.seat run.makes is),
          λ is. ended.0 (lane-ended e.stop lane run.flow run.steps e.seat run.makes is),
        ),
        lanes-tell lanes (lane + 1) bs es chair mixer serve.1 full.1 ended.1,
      )

pub stops-law : LawOfStops
stops-law set turns given end tally s =
    let run = s.chair.runs in
    let full = last-two (λ (x : HallSeat). x.full ≡ true → end.number ≡ turns) end.lanes end.chair.seat end.mixer.seat s.full in
    let ended = last-two (λ (x : HallSeat). HasHalted halt.Ended x → EndsWith End s.history) end.lanes end.chair.seat end.mixer.seat s.ended in
    record {
      lanes = lanes-tell turns end s.history (length given.lanes) 0 given.lanes end.lanes end.chair.seat end.mixer.seat s.lanes s.full s.ended;
      chair = (
        λ is. full.0 (chair-over end.chair.stop _ run.steps end.chair.seat run.makes is),
        λ is. ended.0 (chair-ended end.chair.stop _ run.steps end.chair.seat run.makes is),
      );
      mixer = λ is. full.1 (mixer-over end.mixer.stop s.mixer.last_call s.mixer.taken s.history end.mixer.seat s.mixer.stops s.mixer.ticks is);
    }

-- ---- lanes

-- what was taken of a source that told its octets
pub record TookOf (octets taken : List ℕ) (after : Option (List ℕ)) : Type 0 where
  pub left : List ℕ
  pub cut : octets ≡ taken ++ left
  pub at_end : IsAtEnd after → left ≡ []

pub took-of : (octets taken : List ℕ) (before after : Option (List ℕ)) → before ≡ Some octets → Consumes before after taken → TookOf octets taken after
took-of octets taken None after is took = absurd (cc is)
took-of octets taken (Some xs) None is took = absurd took
took-of octets taken (Some xs) (Some ys) is took =
    let same : octets ≡ xs = cc is in record { left = ys; cut = same ∙ took; at_end = λ e. e }

module _ (one : LawOfOneFlow) (fronts : LawOfFlowFronts) where
  -- the flow of the packets that were taken
  front-flow : (lane : ℕ) (packets others : List (List ℕ)) (flow whole : List Step) → IsPrefix packets others → IsFlow lane packets flow → IsFlow lane others whole
      → IsPrefix flow whole
  front-flow lane packets others flow whole p f w =
      fronts lane packets p.0 flow whole f (subst (λ (ps : List (List ℕ)). IsFlow lane ps whole) (sym p.1) w)

  -- all of them were taken
  all-flow : (lane : ℕ) (octets part rest left : List ℕ) (packets others : List (List ℕ)) (flow whole : List Step) → AllByRecursion HasFrame packets → IsPartial part
      → octets ≡ stream_of packets part ++ left → left ≡ [] → IsStream octets others rest → IsFlow lane packets flow → IsFlow lane others whole → flow ≡ whole
  all-flow lane octets part rest left packets others flow whole fit short cut none stream f w =
      let there : stream_of packets part ++ left ≡ stream_of others rest = sym cut ∙ stream.cut in
      let back : stream_of others rest ++ [] ≡ stream_of packets part =
      append-nil (stream_of others rest) ∙ (sym there ∙ (ap (λ (w : List ℕ). stream_of packets part ++ w) none ∙ append-nil (stream_of packets part))) in
      let same : packets ≡ others =
      prefix_whole packets others (frames-begin packets others part rest left fit stream.frames stream.part there)
      (prefix_length others packets (frames-begin others packets rest part [] stream.frames fit short back)) in
      one lane others flow whole (subst (λ (ps : List (List ℕ)). IsFlow lane ps flow) same f) w

  made-of-all : (stop : LaneStop) (lane : ℕ) (octets part rest left : List ℕ) (packets others : List (List ℕ)) (flow whole steps : List Step) (seat : HallSeat) (before after : Input)
      → AllByRecursion HasFrame packets → IsPartial part → octets ≡ stream_of packets part ++ left → (IsAtEnd after.left → left ≡ [])
      → IsStream octets others rest → IsFlow lane packets flow → IsFlow lane others whole → StopsAt stop (stream_of packets part) part before after
      → MakesOf stop lane flow steps seat → MakesOfAll stop lane whole steps
  made-of-all lane_stop.Whole lane octets part rest left packets others flow whole steps seat before after fit short cut at-end stream f w stops m =
      m.0 ∙ all-flow lane octets part rest left packets others flow whole fit short cut (at-end stops.1) stream f w
  made-of-all lane_stop.Cut lane octets part rest left packets others flow whole steps seat before after fit short cut at-end stream f w stops m =
      m.0 ∙ ap (λ (xs : List Step). xs ++ Gap lane ∷ []) (all-flow lane octets part rest left packets others flow whole fit short cut (at-end stops.1) stream f w)
  made-of-all lane_stop.Ended lane octets part rest left packets others flow whole steps seat before after fit short cut at-end stream f w stops m =
      prefix_trans steps flow whole m.0 (front-flow lane packets others flow whole (frames-begin packets others part rest left fit stream.frames stream.part (sym cut ∙ stream.cut)) f w)
  made-of-all lane_stop.Over lane octets part rest left packets others flow whole steps seat before after fit short cut at-end stream f w stops m =
      prefix_trans steps flow whole m.0 (front-flow lane packets others flow whole (frames-begin packets others part rest left fit stream.frames stream.part (sym cut ∙ stream.cut)) f w)
  made-of-all lane_stop.Fault lane octets part rest left packets others flow whole steps seat before after fit short cut at-end stream f w stops m =
      (flow, front-flow lane packets others flow whole (frames-begin packets others part rest left fit stream.frames stream.part (sym cut ∙ stream.cut)) f w, m.0)
  made-of-all lane_stop.Limit lane octets part rest left packets others flow whole steps seat before after fit short cut at-end stream f w stops m =
      (flow, front-flow lane packets others flow whole (frames-begin packets others part rest left fit stream.frames stream.part (sym cut ∙ stream.cut)) f w, m.0)

  pub lanes-law : LawOfLanes
  lanes-law lanes lane history before end octets packets rest flow s told stream w =
      let run = s.runs in
      let took = took-of octets (stream_of run.packets run.part) before.left end.source.left told run.bytes in
      subst (λ (xs : List Step). MakesOfAll end.stop lane flow xs) s.steps_are
      (made-of-all end.stop lane octets run.part rest took.left run.packets packets run.flow flow run.steps end.seat before end.source run.frames run.partial
      took.cut took.at_end stream run.is_flow w run.stops run.makes)
