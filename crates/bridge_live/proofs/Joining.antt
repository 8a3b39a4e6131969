-- The ends of workers, one by one.
use Rattle.std.proofs.Common.{◌≡◌, ◌∙◌, refl, arith, ℕ, ◌+◌, ◌<◌, List, [], ◌∷◌, ◌++◌, length, map, subst, sym, ap}
use Rattle.std.proofs.lemmas.List.{append_assoc, append-nil, length_push, map-append}
use Rattle.cif_pack.specs.declared.packer.Settings.{Settings}
use Rattle.hall_core.specs.Hall.{HallView, lanes_of}
use Rattle.hall_lock.specs.Seats.{Lock, IsOf}
use Rattle.hall_lock.specs.Joining.{Joins}
use Rattle.hall_lock.proofs.Joined.{joins_none}
use Rattle.bridge_live.specs.declared.ends.LaneEnd.{LaneEnd}
use Rattle.bridge_live.specs.declared.worker.ChairWorker.{ChairWorker}
use Rattle.bridge_live.specs.declared.worker.LaneWorker.{LaneWorker}
use Rattle.bridge_live.specs.declared.worker.MixWorker.{MixWorker}
use Rattle.bridge_live.specs.declared.worker.Worker.{Worker}
use Rattle.bridge_live.specs.declared.worker.Worker.TheVariants.{Lane, Chair, Mixer}
use Rattle.bridge_live.specs.Crew.{LaneDid, ChairDid, MixDid}
use Rattle.bridge_live.specs.Ending.{JoinsWorker, CrewDid, LanesJoined}
use Rattle.bridge_live.specs.Endings.{HandedIn, LaneEnding}
use Rattle.bridge_live.specs.Gathered.{LaneRan, LanesRan}
use Rattle.bridge_live.specs.Handed.{lane_ending}
use Rattle.bridge_live.specs.Lining.{new_seat}
use Rattle.bridge_live.specs.Worker.{HallSeat, IsNew}
use Rattle.io_edge.specs.Outside.{Input, Output}

pub new-is-new : (lock : Lock HallView) → IsNew (new_seat lock)
new-is-new lock = record { mine = refl; past = refl; live = refl }

-- a lane more ran
ran-push :
    (lanes lane : ℕ) (befores : List Input) (ends : List LaneEnding) (before : Input) (end : LaneEnding) →
    LanesRan lanes lane befores ends → LaneRan lanes (lane + length befores) before end →
    LanesRan lanes lane (befores ++ before ∷ []) (ends ++ end ∷ [])
ran-push lanes lane [] [] before end ran one = (subst (λ n. LaneRan lanes n before end) (omega arith) one, tt)
ran-push lanes lane (b ∷ bs) (e ∷ es) before end ran one =
    (ran.0, ran-push lanes (lane + 1) bs es before end ran.1 (subst (λ n. LaneRan lanes n before end) (omega arith) one))
ran-push lanes lane [] (e ∷ es) before end ran one = absurd ran
ran-push lanes lane (b ∷ bs) [] before end ran one = absurd ran

module _ {S C K : Type 0} (reads : S → Input) (ticks : C → Input) (writes : K → Output) (lock : Lock HallView) (set : Settings)
    (given : HandedIn) where
  -- behind the lanes stand two workers
  pub crew-length : (number : ℕ) (left : List Input) (workers : List (Worker S C K)) → CrewDid reads ticks writes lock set given number left workers
      → length workers ≡ length left + 2
  crew-length number [] (Chair c ∷ Mixer m ∷ []) did = refl
  crew-length number (b ∷ bs) (Lane w ∷ ws) did = omega (arith, crew-length (number + 1) bs ws did.1)
  crew-length number [] [] did = absurd did
  crew-length number [] (Lane w ∷ ws) did = absurd did
  crew-length number [] (Mixer m ∷ ws) did = absurd did
  crew-length number [] (Chair c ∷ []) did = absurd did
  crew-length number [] (Chair c ∷ Lane w ∷ ws) did = absurd did
  crew-length number [] (Chair c ∷ Chair d ∷ ws) did = absurd did
  crew-length number [] (Chair c ∷ Mixer m ∷ w ∷ ws) did = absurd did
  crew-length number (b ∷ bs) [] did = absurd did
  crew-length number (b ∷ bs) (Chair c ∷ ws) did = absurd did
  crew-length number (b ∷ bs) (Mixer m ∷ ws) did = absurd did

  -- where more than two are left, a lane is first
  pub lane-first : (number : ℕ) (left : List Input) (workers : List (Worker S C K)) → CrewDid reads ticks writes lock set given number left workers
      → 2 < length workers → (worker : LaneWorker S) × (rest : List (Worker S C K)) × (workers ≡ Lane worker ∷ rest)
  lane-first number (b ∷ bs) (Lane w ∷ ws) did more = (w, ws, refl)
  lane-first number [] ws did more = absurd (omega (arith, crew-length number [] ws did))
  lane-first number (b ∷ bs) [] did more = absurd did
  lane-first number (b ∷ bs) (Chair c ∷ ws) did more = absurd did
  lane-first number (b ∷ bs) (Mixer m ∷ ws) did more = absurd did

  -- where a lane is first, one of the sources that are left is its own
  pub record LaneNext (number : ℕ) (left : List Input) (worker : LaneWorker S) (rest : List (Worker S C K)) : Type 0 where
    pub before : Input
    pub befores : List Input
    pub left_is : left ≡ before ∷ befores
    pub lane : LaneDid reads lock number before (new_seat lock) worker
    pub others : CrewDid reads ticks writes lock set given (number + 1) befores rest

  pub lane-next : (number : ℕ) (left : List Input) (worker : LaneWorker S) (rest : List (Worker S C K))
      → CrewDid reads ticks writes lock set given number left (Lane worker ∷ rest) → LaneNext number left worker rest
  lane-next number (b ∷ bs) worker rest did = record { before = b; befores = bs; left_is = refl; lane = did.0; others = did.1 }
  lane-next number [] worker rest did = absurd did

  -- where no lane is left, the chair and the mixer are
  pub others-last : (number : ℕ) (workers : List (Worker S C K)) → CrewDid reads ticks writes lock set given number [] workers
      → (chair : ChairWorker S) × (mixer : MixWorker C K) × (workers ≡ Chair chair ∷ Mixer mixer ∷ [])
  others-last number (Chair c ∷ Mixer m ∷ []) did = (c, m, refl)
  others-last number [] did = absurd did
  others-last number (Lane w ∷ ws) did = absurd did
  others-last number (Mixer m ∷ ws) did = absurd did
  others-last number (Chair c ∷ []) did = absurd did
  others-last number (Chair c ∷ Lane w ∷ ws) did = absurd did
  others-last number (Chair c ∷ Chair d ∷ ws) did = absurd did
  others-last number (Chair c ∷ Mixer m ∷ w ∷ ws) did = absurd did

  -- a lane more has its end
  pub joined-more :
      (old seat next : HallSeat) (left : List Input) (ends : List (LaneEnd S)) (worker : LaneWorker S) (rest : List (Worker S C K))
      (end : LaneEnd S) → LanesJoined reads ticks writes lock set given old seat left ends (Lane worker ∷ rest)
      → JoinsWorker lock worker.lane.seat end.past.seat.value seat next → end.source ≡ worker.source → end.stop ≡ worker.stop
      → end.counts ≡ worker.lane.counts
      → (later : List Input) × LanesJoined reads ticks writes lock set given old next later (ends ++ end ∷ []) rest
  joined-more old seat next left ends worker rest end j takes source stop counts =
      let n = lane-next (length j.done) left worker rest j.rest in
      let lanes = lanes_of lock.opening in
      let told : LaneEnding = record { source = reads worker.source; stop = worker.stop; counts = worker.lane.counts; seat = worker.lane.seat } in
      let told_is : lane_ending reads end ≡ told = rw (source, stop, counts, takes.past_is) refl in
      let pushed = map-append (lane_ending reads) ends (end ∷ []) in
      let seats = map-append (λ (lane : LaneEnding). lane.seat) (map (lane_ending reads) ends) (lane_ending reads end ∷ []) in
      let ran : LaneRan lanes (length j.done) n.before told = (new_seat lock, new-is-new lock, n.lane.runs) in (
        n.befores,
        record {
          done = j.done ++ n.before ∷ [];
          whole = j.whole ∙ ap (λ xs. j.done ++ xs) n.left_is ∙ sym (append_assoc j.done (n.before ∷ []) n.befores);
          ran = subst (λ es. LanesRan lanes 0 (j.done ++ n.before ∷ []) es) (sym pushed)
              (ran-push lanes 0 j.done (map (lane_ending reads) ends) n.before (lane_ending reads end) j.ran
              (subst (λ (k : ℕ). LaneRan lanes k n.before (lane_ending reads end)) (omega arith)
              (subst (λ e. LaneRan lanes (length j.done) n.before e) (sym told_is) ran)));
          number = length_push ends end ∙ ap (λ k. k + 1) j.number ∙ sym (length_push j.done n.before);
          rest = subst (λ (k : ℕ). CrewDid reads ticks writes lock set given k n.befores rest) (sym (length_push j.done n.before)) n.others;
          joins = subst (λ ss. Joins old ss next) (sym (ap (map (λ (lane : LaneEnding). lane.seat)) pushed ∙ seats))
              (takes.joins old (map (λ (lane : LaneEnding). lane.seat) (map (lane_ending reads) ends)) j.joins);
          same = takes.same;
          share = takes.share ∙ omega (arith, j.share, length_push ends end, n.lane.runs.has_made.works.kept.1);
        },
      )

  -- no lane has its end yet
  pub joined-none :
      (seat : HallSeat) (ends : List (LaneEnd S)) (workers : List (Worker S C K)) → ends ≡ [] → IsOf lock seat
      → CrewDid reads ticks writes lock set given 0 given.lanes workers
      → LanesJoined reads ticks writes lock set given seat seat given.lanes ends workers
  joined-none seat ends workers none same did = subst (λ es. LanesJoined reads ticks writes lock set given seat seat given.lanes es workers) (sym none) (record {
    done = [];
    whole = refl;
    ran = tt;
    number = refl;
    rest = did;
    joins = joins_none seat;
    same = same;
    share = omega arith;
  })

  -- all lanes have their ends
  pub none-left :
      (old seat : HallSeat) (left : List Input) (ends : List (LaneEnd S)) (workers : List (Worker S C K))
      → LanesJoined reads ticks writes lock set given old seat left ends workers → length workers < 3
      → LanesJoined reads ticks writes lock set given old seat [] ends workers
  none-left old seat [] ends workers j few = j
  none-left old seat (b ∷ bs) ends workers j few = absurd (omega (arith, few, crew-length (length j.done) (b ∷ bs) workers j.rest))

  -- behind the lanes the chair is first, and then the mixer alone
  pub record OthersNext (chair : ChairWorker S) (rest : List (Worker S C K)) : Type 0 where
    pub chair_did : ChairDid reads lock given.chair (new_seat lock) chair
    pub mixer : MixWorker C K
    pub rest_is : rest ≡ Mixer mixer ∷ []

  pub others-next : (number : ℕ) (chair : ChairWorker S) (rest : List (Worker S C K))
      → CrewDid reads ticks writes lock set given number [] (Chair chair ∷ rest) → OthersNext chair rest
  others-next number chair (Mixer m ∷ []) did = record { chair_did = did.0; mixer = m; rest_is = refl }
  others-next number chair [] did = absurd did
  others-next number chair (Lane w ∷ ws) did = absurd did
  others-next number chair (Chair w ∷ ws) did = absurd did
  others-next number chair (Mixer m ∷ w ∷ ws) did = absurd did
