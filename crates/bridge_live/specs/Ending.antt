-- Inner contracts alone use this; nothing here has to be believed.
-- The workers of a conference behind their work, whose seats are joined one by one.
use Rattle.std.specs.Prelude.{◌≡◌, ⊤, ℕ, ◌+◌, List, [], ◌∷◌, ◌++◌, length, map, sum_by, ◌≤◌, vec_capacity}
use Rattle.cif_pack.specs.declared.packer.Settings.{Settings}
use Rattle.cif_pack.specs.declared.tally.Tally.{Tally}
use Rattle.hall_core.specs.Hall.{HallView, lanes_of}
use Rattle.hall_lock.specs.Seats.{Lock, IsOf}
use Rattle.hall_lock.specs.Joining.{Joins}
use Rattle.bridge_live.specs.declared.chair.ChairCounts.{ChairCounts}
use Rattle.bridge_live.specs.declared.crew.Crew.{Crew}
use Rattle.bridge_live.specs.declared.ends.ChairEnd.{ChairEnd}
use Rattle.bridge_live.specs.declared.ends.LaneEnd.{LaneEnd}
use Rattle.io_edge.specs.Outside.{Input, Output}
use Rattle.bridge_live.specs.declared.mixer.MixCounts.{MixCounts}
use Rattle.bridge_live.specs.declared.worker.ChairWorker.{ChairWorker}
use Rattle.bridge_live.specs.declared.worker.LaneWorker.{LaneWorker}
use Rattle.bridge_live.specs.declared.worker.Worker.{Worker}
use Rattle.bridge_live.specs.declared.worker.Worker.TheVariants.{Lane, Chair, Mixer}
use Rattle.bridge_live.specs.Crew.{LaneDid, ChairDid, MixDid}
use Rattle.bridge_live.specs.Endings.{HandedIn, LaneEnding, Ending}
use Rattle.bridge_live.specs.Gathered.{LanesRan, Gathered, counted_together}
use Rattle.bridge_live.specs.Handed.{lane_ending}
use Rattle.bridge_live.specs.Lining.{Opens, new_seat, seat_behind}
use Rattle.bridge_live.specs.Worker.{HallSeat}

-- a worker's seat was joined into another, which took others in before
pub record JoinsWorker (lock : Lock HallView) (other past old new : HallSeat) : Type 0 where
  pub same : IsOf lock new
  pub past_is : past ≡ other
  pub share : new.share ≡ old.share + other.share
  pub joins : (first : HallSeat) (others : List HallSeat) → Joins first others old → Joins first (others ++ past ∷ []) new

module _ {S C K : Type 0} (reads : S → Input) (ticks : C → Input) (writes : K → Output) (lock : Lock HallView) (set : Settings)
    (given : HandedIn) where
  -- the lanes from this number on, which began with these sources, then the chair and the mixer
  abbrev pub CrewDid : ℕ → List Input → List (Worker S C K) → Type 0
  CrewDid number (before ∷ befores) (Lane worker ∷ workers) =
      LaneDid reads lock number before (new_seat lock) worker × CrewDid (number + 1) befores workers
  CrewDid number [] (Chair chair ∷ Mixer mixer ∷ []) =
      ChairDid reads lock given.chair (new_seat lock) chair
      × MixDid ticks writes lock set given.ticker given.sink (new_seat lock) mixer
  CrewDid number _ _ = ⊥

  -- the first lanes have their ends, and those from `left` on are left
  pub record LanesJoined (old new : HallSeat) (left : List Input) (ends : List (LaneEnd S)) (workers : List (Worker S C K)) :
      Type 0 where
    pub done : List Input
    pub whole : given.lanes ≡ done ++ left
    pub ran : LanesRan (lanes_of lock.opening) 0 done (map (lane_ending reads) ends)
    pub number : length ends ≡ length done
    pub rest : CrewDid (length done) left workers
    pub joins : Joins old (map (λ (lane : LaneEnding). lane.seat) (map (lane_ending reads) ends)) new
    pub same : IsOf lock new
    pub share : new.share ≡ old.share + length ends

-- what the workers counted, together
abbrev pub together : {S : Type 0} → List (LaneEnd S) → ChairCounts → MixCounts → Tally
together {S} lanes chair mixer = record {
  ticks = mixer.ticks;
  pictures = sum_by (λ (lane : LaneEnd S). lane.counts.posts) lanes;
  gaps = sum_by (λ (lane : LaneEnd S). lane.counts.gaps) lanes;
  commands = chair.commands;
  refused = chair.refused;
  taken = mixer.taken;
  packets = mixer.packets;
  octets = mixer.octets;
}

-- the crew is behind its work, whose seats were all split from the one that is left
pub record MayEnd {S C K : Type 0} (reads : S → Input) (ticks : C → Input) (writes : K → Output) (crew : Crew S C K) : Type 0
  where
    pub opens : Opens (lanes_of crew.lock.opening) crew.lock
    pub few : length crew.lists.workers.items ≤ 18
    pub seat : crew.seat ≡ seat_behind crew.lock (length crew.lists.workers.items)
    pub ends : crew.lists.ends.items ≡ []
    pub room : length crew.lists.workers.items ≤ vec_capacity crew.lists.ends + 2
    pub did : (set : Settings) × (given : HandedIn) × (lanes_of crew.lock.opening ≡ length given.lanes)
        × CrewDid reads ticks writes crew.lock set given 0 given.lanes crew.lists.workers.items

-- the seats of its lanes may be joined
pub record MayJoin {S C K : Type 0} (reads : S → Input) (ticks : C → Input) (writes : K → Output) (lock : Lock HallView)
    (old : HallSeat) (workers : List (Worker S C K)) (gone : List (LaneEnd S)) (space : ℕ) : Type 0 where
  pub seat : IsOf lock old
  pub ends : gone ≡ []
  pub room : length workers ≤ space + 2
  pub did : (set : Settings) × (given : HandedIn) × CrewDid reads ticks writes lock set given 0 given.lanes workers

-- a worker has its end
pub record EndsLane {S : Type 0} (lock : Lock HallView) (worker : LaneWorker S) (done : LaneEnd S) (old new : HallSeat) : Type 0
  where
    pub joins : JoinsWorker lock worker.lane.seat done.past.seat.value old new
    pub source : done.source ≡ worker.source
    pub end : (done.stop ≡ worker.stop) × (done.counts ≡ worker.lane.counts)

pub record EndsChair {S : Type 0} (lock : Lock HallView) (worker : ChairWorker S) (done : ChairEnd S) (old new : HallSeat) : Type 0
  where
    pub joins : JoinsWorker lock worker.chair.seat done.past.seat.value old new
    pub source : done.source ≡ worker.source
    pub end : (done.stop ≡ worker.stop) × (done.counts ≡ worker.chair.counts)

-- what is known behind all joins and the end of the lock; and what the workers counted, together
pub record GathersFrom (set : Settings) (lock : Lock HallView) (given : HandedIn) (end : Ending) (tally : Tally) : Type 0 where
  pub counts : MixCounts
  pub gathered : Gathered set lock.turns lock.opening given end counts
  pub tally_is : tally ≡ counted_together end counts
