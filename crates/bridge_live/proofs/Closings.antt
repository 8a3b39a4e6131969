-- From the joined seats and the closed lock to what is known of a conference.
use Rattle.std.proofs.Common.{◌≡◌, ◌∙◌, refl, arith, ℕ, ◌+◌, ◌<◌, ◌≤◌, ◌^◌, true, sum_by, List, [], ◌∷◌, ◌++◌, length, map, subst, sym, ap}
use Rattle.std.proofs.lemmas.List.{append_assoc, append-nil}
use Rattle.std.proofs.lemmas.List.Folds.{fold-map}
use Rattle.cif_pack.specs.declared.packer.Settings.{Settings}
use Rattle.cif_pack.specs.declared.tally.Tally.{Tally}
use Rattle.hall_core.specs.declared.machine.HallCall.{HallCall}
use Rattle.hall_core.specs.declared.machine.HallReply.{HallReply}
use Rattle.hall_core.specs.Hall.{HallView, lanes_of}
use Rattle.hall_core.specs.Machine.{Fits, HallSteps}
use Rattle.hall_lock.specs.Places.{EachOnce}
use Rattle.hall_lock.specs.Seats.{Lock, IsOf}
use Rattle.hall_lock.specs.Turns.{Leads}
use Rattle.hall_lock.specs.Joining.{Joins}
use Rattle.hall_lock.specs.TurnLaws.{ShareLaw}
use Rattle.hall_lock.proofs.Every.{every_weaker}
use Rattle.io_edge.specs.Outside.{Input, Output}
use Rattle.bridge_live.specs.declared.ends.ChairEnd.{ChairEnd}
use Rattle.bridge_live.specs.declared.ends.LaneEnd.{LaneEnd}
use Rattle.bridge_live.specs.declared.mixer.MixCounts.{MixCounts}
use Rattle.bridge_live.specs.declared.worker.ChairWorker.{ChairWorker}
use Rattle.bridge_live.specs.declared.worker.MixWorker.{MixWorker}
use Rattle.bridge_live.specs.declared.worker.Worker.{Worker}
use Rattle.bridge_live.specs.declared.worker.Worker.TheVariants.{Lane, Chair, Mixer}
use Rattle.bridge_live.specs.Ending.{JoinsWorker, CrewDid, LanesJoined}
use Rattle.bridge_live.specs.Endings.{HandedIn, LaneEnding, ChairEnding, MixEnding, Ending, seats_of}
use Rattle.bridge_live.specs.Gathered.{LanesRan, ChairRan, MixerRan, Gathered, counted_together}
use Rattle.bridge_live.specs.Handed.{lane_ending, chair_ending}
use Rattle.bridge_live.specs.Lining.{new_seat, seat_behind, Opens}
use Rattle.bridge_live.specs.Worker.{HallSeat, owner}
use Rattle.bridge_live.proofs.Joining.{new-is-new}
use Rattle.bridge_live.proofs.Sharing.{work-from, few-counted}

-- what the end of the lock tells
pub record LockEnds (lock : Lock HallView) (last : HallSeat) (hall : HallView) (number : ℕ) : Type 0 where
  pub leads : Leads lanes_of Fits HallSteps lock.opening last.seen hall
  pub turns : number ≡ length last.seen
  pub within : number ≤ lock.turns
  pub places : EachOnce number (last.mine ++ last.past)
  pub full : last.full ≡ true → number ≡ lock.turns

module _ {S C K : Type 0} (reads : S → Input) (ticks : C → Input) (writes : K → Output) (lock : Lock HallView) (set : Settings)
    (given : HandedIn) where
  -- all ends together
  abbrev pub end_with : List (LaneEnd S) → ChairEnd S → MixWorker C K → (past last : HallSeat) → HallView → ℕ → Ending
  end_with ends chair mixer past last hall number = record {
    lanes = map (lane_ending reads) ends;
    chair = chair_ending reads chair;
    mixer = record { ticker = ticks mixer.ticker; sink = writes mixer.sink; stop = mixer.stop; seat = past };
    hall = hall;
    turns = last.seen;
    number = number;
  }

  pub gathered :
      (first mid next last past : HallSeat) (ends : List (LaneEnd S)) (worker : ChairWorker S) (mixer : MixWorker C K)
      (chair : ChairEnd S) (hall : HallView) (number : ℕ)
      → Opens (length given.lanes) lock → first.mine ≡ [] → first.past ≡ []
      → LanesJoined reads ticks writes lock set given first mid [] ends (Chair worker ∷ Mixer mixer ∷ [])
      → JoinsWorker lock worker.chair.seat chair.past.seat.value mid next → chair.source ≡ worker.source → chair.stop ≡ worker.stop
      → chair.counts ≡ worker.chair.counts → JoinsWorker lock mixer.mixer.seat past next last → LockEnds lock last hall number
      → ShareLaw HallView HallCall HallReply
      → Gathered set lock.turns lock.opening given (end_with ends chair mixer past last hall number) mixer.mixer.counts
  gathered first mid next last past ends worker mixer chair hall number opens mine joined j chair_in source stop counts mixer_in ended law =
      let n = length given.lanes in
      let end = end_with ends chair mixer past last hall number in
      let lane_seats = map (λ (lane : LaneEnding). lane.seat) (map (lane_ending reads) ends) in
      let chair_seat = chair.past.seat.value in
      let joins : Joins first (seats_of end) last =
      subst (λ ss. Joins first ss last) (append_assoc lane_seats (chair_seat ∷ []) (past ∷ []))
      (mixer_in.joins first (lane_seats ++ chair_seat ∷ []) (chair_in.joins first lane_seats j.joins)) in
      let lanes_ran : LanesRan n 0 given.lanes end.lanes =
      subst (λ (k : ℕ). LanesRan k 0 given.lanes end.lanes) opens.lanes_are
      (subst (λ bs. LanesRan (lanes_of lock.opening) 0 bs end.lanes) (sym (j.whole ∙ append-nil j.done)) j.ran) in
      let chair_told : ChairEnding = record { source = reads worker.source; stop = worker.stop; counts = worker.chair.counts; seat = worker.chair.seat } in
      let chair_is : chair_ending reads chair ≡ chair_told = rw (source, stop, counts, chair_in.past_is) refl in
      let chair_runs : ChairRan (lanes_of lock.opening) given.chair chair_told = (new_seat lock, new-is-new lock, j.rest.0.runs) in
      let chair_ran : ChairRan n given.chair end.chair =
      subst (λ (k : ℕ). ChairRan k given.chair end.chair) opens.lanes_are
      (subst (λ e. ChairRan (lanes_of lock.opening) given.chair e) (sym chair_is) chair_runs) in
      let mixer_told : HallSeat → MixEnding = λ seat. record { ticker = ticks mixer.ticker; sink = writes mixer.sink; stop = mixer.stop; seat = seat } in
      let mixer_runs : MixerRan (lanes_of lock.opening) set given.ticker given.sink (mixer_told mixer.mixer.seat) mixer.mixer.counts =
      (new_seat lock, new-is-new lock, j.rest.1.runs) in
      let mixer_ran : MixerRan n set given.ticker given.sink end.mixer mixer.mixer.counts =
      subst (λ (k : ℕ). MixerRan k set given.ticker given.sink end.mixer mixer.mixer.counts) opens.lanes_are
      (subst (λ seat. MixerRan (lanes_of lock.opening) set given.ticker given.sink (mixer_told seat) mixer.mixer.counts) (sym mixer_in.past_is) mixer_runs) in
      record {
        opens = opens.stands;
        lanes_are = opens.lanes_are;
        limit_is = opens.limit_is;
        leads = ended.leads;
        number = (ended.turns, ended.within);
        shared = law (owner n) first last (seats_of end) mine joined (work-from set given end mixer.mixer.counts lanes_ran chair_ran mixer_ran) joins
            (subst (λ (k : ℕ). EachOnce k (last.mine ++ last.past)) ended.turns ended.places);
        known = joins.seen.1;
        full = every_weaker (λ (s : HallSeat). s.full ≡ true → last.full ≡ true) (λ (s : HallSeat). s.full ≡ true → number ≡ lock.turns)
            (λ s knows is. ended.full (knows is)) (seats_of end) joins.full.1;
        lanes = lanes_ran;
        chair = chair_ran;
        mixer = mixer_ran;
      }

  -- all parts of the share are together
  pub shares-whole :
      (first mid next last past chair_past : HallSeat) (ends : List (LaneEnd S)) (worker : ChairWorker S) (mixer : MixWorker C K) (n : ℕ)
      → first ≡ seat_behind lock n → n ≡ length given.lanes + 2 → n ≤ 18
      → LanesJoined reads ticks writes lock set given first mid [] ends (Chair worker ∷ Mixer mixer ∷ [])
      → JoinsWorker lock worker.chair.seat chair_past mid next → JoinsWorker lock mixer.mixer.seat past next last → last.share ≡ 2 ^ 32
  shares-whole first mid next last past chair_past ends worker mixer n first_is n_is few j chair_in mixer_in =
      let done : length given.lanes ≡ length j.done = ap length (j.whole ∙ append-nil j.done) in
      omega (
        arith,
        ap (λ (s : HallSeat). s.share) first_is,
        n_is,
        few,
        done,
        j.number,
        j.share,
        chair_in.share,
        mixer_in.share,
        j.rest.0.runs.has_made.works.kept.1,
        j.rest.1.runs.mixes.has_made.works.kept.1,
      )

  -- the sums over the ends are those over what contracts see of them
  pub posts-same : (ends : List (LaneEnd S)) → sum_by (λ (lane : LaneEnding). lane.counts.posts) (map (lane_ending reads) ends) ≡ sum_by (λ (lane : LaneEnd S). lane.counts.posts) ends
  posts-same ends = fold-map (λ (a : ℕ) (lane : LaneEnding). a + lane.counts.posts) (lane_ending reads) 0 ends

  pub gaps-same : (ends : List (LaneEnd S)) → sum_by (λ (lane : LaneEnding). lane.counts.gaps) (map (lane_ending reads) ends) ≡ sum_by (λ (lane : LaneEnd S). lane.counts.gaps) ends
  gaps-same ends = fold-map (λ (a : ℕ) (lane : LaneEnding). a + lane.counts.gaps) (lane_ending reads) 0 ends

  pub tally-so :
      (ends seen : List (LaneEnd S)) (chair : ChairEnd S) (mixer : MixWorker C K) (past last : HallSeat) (hall : HallView) (number : ℕ)
      (counts : MixCounts) (tally : Tally) → seen ≡ ends
      → tally ≡ record {
        ticks = counts.ticks;
        pictures = sum_by (λ (lane : LaneEnd S). lane.counts.posts) seen;
        gaps = sum_by (λ (lane : LaneEnd S). lane.counts.gaps) seen;
        commands = chair.counts.commands;
        refused = chair.counts.refused;
        taken = counts.taken;
        packets = counts.packets;
        octets = counts.octets;
      }
      → tally ≡ counted_together (end_with ends chair mixer past last hall number) counts
  tally-so ends seen chair mixer past last hall number counts tally same told =
      let with_sums : ℕ → ℕ → Tally = λ pictures gaps. record {
        ticks = counts.ticks;
        pictures = pictures;
        gaps = gaps;
        commands = chair.counts.commands;
        refused = chair.counts.refused;
        taken = counts.taken;
        packets = counts.packets;
        octets = counts.octets;
      } in
      subst (λ (n : ℕ). tally ≡ with_sums n (sum_by (λ (lane : LaneEnding). lane.counts.gaps) (map (lane_ending reads) ends))) (sym (posts-same ends))
      (subst (λ (n : ℕ). tally ≡ with_sums (sum_by (λ (lane : LaneEnd S). lane.counts.posts) ends) n) (sym (gaps-same ends))
      (subst (λ xs. tally ≡ with_sums (sum_by (λ (lane : LaneEnd S). lane.counts.posts) xs) (sum_by (λ (lane : LaneEnd S). lane.counts.gaps) xs)) same told))

  module _ (first mid next last past : HallSeat) (ends seen : List (LaneEnd S)) (worker : ChairWorker S) (mixer : MixWorker C K)
      (chair : ChairEnd S) (hall : HallView) (number : ℕ) (opens : Opens (length given.lanes) lock) (mine : first.mine ≡ [])
      (joined : first.past ≡ []) (j : LanesJoined reads ticks writes lock set given first mid [] ends (Chair worker ∷ Mixer mixer ∷ []))
      (chair_in : JoinsWorker lock worker.chair.seat chair.past.seat.value mid next) (source : chair.source ≡ worker.source)
      (stop : chair.stop ≡ worker.stop) (counts : chair.counts ≡ worker.chair.counts)
      (mixer_in : JoinsWorker lock mixer.mixer.seat past next last) (ended : LockEnds lock last hall number)
      (law : ShareLaw HallView HallCall HallReply) (same : seen ≡ ends) where
    few-together :
        sum_by (λ (lane : LaneEnding). lane.counts.posts) (map (lane_ending reads) ends)
        + sum_by (λ (lane : LaneEnding). lane.counts.gaps) (map (lane_ending reads) ends) ≤ 2 ^ 45
    few-together =
        let known = gathered first mid next last past ends worker mixer chair hall number opens mine joined j chair_in source stop counts mixer_in ended law in
        let few = few-counted set lock.turns lock.opening given (end_with ends chair mixer past last hall number) mixer.mixer.counts known in
        omega (arith, few, ended.within, opens.few)

    pub few-pictures : sum_by (λ (lane : LaneEnd S). lane.counts.posts) seen < 2 ^ 64
    few-pictures =
        subst (λ xs. sum_by (λ (lane : LaneEnd S). lane.counts.posts) xs < 2 ^ 64) (sym same) (omega (arith, few-together, posts-same ends))

    pub few-gaps : sum_by (λ (lane : LaneEnd S). lane.counts.gaps) seen < 2 ^ 64
    few-gaps =
        subst (λ xs. sum_by (λ (lane : LaneEnd S). lane.counts.gaps) xs < 2 ^ 64) (sym same) (omega (arith, few-together, gaps-same ends))
