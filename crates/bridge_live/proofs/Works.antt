-- What the workers that were lined up did, place by place and in order.
use Rattle.std.proofs.Common.{◌≡◌, ◌∙◌, refl, arith, ℕ, ◌+◌, ◌<◌, suc, All, List, [], ◌∷◌, ◌++◌, length, map, subst, sym, slice_index_or}
use Rattle.std.specs.Bool.{⊤}
use Rattle.std.proofs.lemmas.List.{length-append}
use Rattle.std.proofs.lemmas.List.Elements.{All-nil, All-cons, All-append, All-same}
use Rattle.cif_pack.specs.declared.packer.Settings.{Settings}
use Rattle.hall_core.specs.Hall.{HallView}
use Rattle.hall_lock.specs.Seats.{Lock}
use Rattle.bridge_live.specs.declared.crew.Crew.{Crew}
use Rattle.bridge_live.specs.declared.worker.ChairWorker.{ChairWorker}
use Rattle.bridge_live.specs.declared.worker.LaneWorker.{LaneWorker}
use Rattle.bridge_live.specs.declared.worker.MixWorker.{MixWorker}
use Rattle.bridge_live.specs.declared.worker.Worker.{Worker}
use Rattle.bridge_live.specs.declared.worker.Worker.TheVariants.{Lane, Chair, Mixer}
use Rattle.bridge_live.specs.Crew.{IsReadyToWork, LaneDid, ChairDid, MixDid, Worked}
use Rattle.bridge_live.specs.Ending.{CrewDid}
use Rattle.bridge_live.specs.Endings.{HandedIn}
use Rattle.bridge_live.specs.Handed.{given_of}
use Rattle.bridge_live.specs.Lining.{new_seat, LaneUp, ChairUp, MixUp, LanesUp, IsLinedUp}
use Rattle.io_edge.specs.Outside.{Input, Output}

-- ---- before the work

module _ {S C K : Type 0} (lock : Lock HallView) where
  lanes-ready : (number : ℕ) (lanes : List S) (up : List (Worker S C K)) → LanesUp lock number lanes up → All (IsReadyToWork lock) up
  lanes-ready number [] [] is = All-nil (IsReadyToWork lock)
  lanes-ready number (s ∷ ss) (Lane w ∷ ws) is = All-cons (IsReadyToWork lock) (Lane w) ws is.0.ready (lanes-ready (number + 1) ss ws is.1)
  lanes-ready number [] (w ∷ ws) is = absurd is
  lanes-ready number (s ∷ ss) [] is = absurd is
  lanes-ready number (s ∷ ss) (Chair w ∷ ws) is = absurd is
  lanes-ready number (s ∷ ss) (Mixer w ∷ ws) is = absurd is

  lanes-number : (number : ℕ) (lanes : List S) (up : List (Worker S C K)) → LanesUp lock number lanes up → length up ≡ length lanes
  lanes-number number [] [] is = refl
  lanes-number number (s ∷ ss) (Lane w ∷ ws) is = omega (arith, lanes-number (number + 1) ss ws is.1)
  lanes-number number [] (w ∷ ws) is = absurd is
  lanes-number number (s ∷ ss) [] is = absurd is
  lanes-number number (s ∷ ss) (Chair w ∷ ws) is = absurd is
  lanes-number number (s ∷ ss) (Mixer w ∷ ws) is = absurd is

module _ {S C K : Type 0} (set : Settings) (lanes : List S) (chair : S) (ticker : C) (sink : K) (crew : Crew S C K)
    (line : IsLinedUp set lanes chair ticker sink crew) where
  pub lined-ready : All (IsReadyToWork crew.lock) crew.lists.workers.items
  lined-ready =
      let ready = IsReadyToWork crew.lock in
      let others = Chair line.chair_worker ∷ Mixer line.mixer ∷ [] in
      All-same ready crew.lists.workers.items (line.up ++ others) line.in_line
      (All-append ready line.up others (lanes-ready crew.lock 0 lanes line.up line.lanes_up)
      (All-cons ready (Chair line.chair_worker) (Mixer line.mixer ∷ []) line.chair_up.ready
      (All-cons ready (Mixer line.mixer) [] line.mix_up.ready (All-nil ready))))

  pub lined-number : length crew.lists.workers.items ≡ length lanes + 2
  lined-number =
      let others = Chair line.chair_worker ∷ Mixer line.mixer ∷ [] in
      subst (λ ws. length ws ≡ length lanes + 2) (sym line.in_line)
      (omega (arith, length-append line.up others, lanes-number crew.lock 0 lanes line.up line.lanes_up))

-- ---- behind it

module _ {S C K : Type 0} (reads : S → Input) (ticks : C → Input) (writes : K → Output) (lock : Lock HallView) where
  abbrev AllWorked : List (Worker S C K) → List (Worker S C K) → Type 0
  AllWorked [] [] = ⊤
  AllWorked (old ∷ olds) (new ∷ news) = Worked reads ticks writes lock old new × AllWorked olds news
  AllWorked _ _ = ⊥

  all-worked :
      (old new : List (Worker S C K)) → length new ≡ length old
      → ((i : ℕ) (d : Worker S C K) → i < length old → Worked reads ticks writes lock (slice_index_or old i d) (slice_index_or new i d))
      → AllWorked old new
  all-worked [] [] same each = tt
  all-worked (a ∷ olds) (b ∷ news) same each =
      (each 0 a (omega arith), all-worked olds news (omega (arith, same)) (λ i d below. each (suc i) d (omega (arith, below))))
  all-worked [] (b ∷ news) same each = absurd (omega (arith, same))
  all-worked (a ∷ olds) [] same each = absurd (omega (arith, same))

  lane-did : (number : ℕ) (source : S) (old new : LaneWorker S) → LaneUp lock number source old
      → LaneDid reads lock old.lane.number (reads old.source) old.lane.seat new → LaneDid reads lock number (reads source) (new_seat lock) new
  lane-did number source old new up did =
      subst (λ (n : ℕ). LaneDid reads lock n (reads source) (new_seat lock) new) up.number_is
      (subst (λ s. LaneDid reads lock old.lane.number (reads s) (new_seat lock) new) up.source_is
      (subst (λ seat. LaneDid reads lock old.lane.number (reads old.source) seat new) up.seat_is did))

  chair-did : (source : S) (old new : ChairWorker S) → ChairUp lock source old
      → ChairDid reads lock (reads old.source) old.chair.seat new → ChairDid reads lock (reads source) (new_seat lock) new
  chair-did source old new up did =
      subst (λ s. ChairDid reads lock (reads s) (new_seat lock) new) up.source_is
      (subst (λ seat. ChairDid reads lock (reads old.source) seat new) up.seat_is did)

  mix-did : (set : Settings) (ticker : C) (sink : K) (old new : MixWorker C K) → MixUp lock set ticker sink old
      → MixDid ticks writes lock old.mixer.writer.settings (ticks old.ticker) (writes old.sink) old.mixer.seat new
      → MixDid ticks writes lock set (ticks ticker) (writes sink) (new_seat lock) new
  mix-did set ticker sink old new up did =
      subst (λ s. MixDid ticks writes lock s (ticks ticker) (writes sink) (new_seat lock) new) up.settings_is
      (subst (λ t. MixDid ticks writes lock old.mixer.writer.settings (ticks t) (writes sink) (new_seat lock) new) up.ticker_is
      (subst (λ k. MixDid ticks writes lock old.mixer.writer.settings (ticks old.ticker) (writes k) (new_seat lock) new) up.sink_is
      (subst (λ seat. MixDid ticks writes lock old.mixer.writer.settings (ticks old.ticker) (writes old.sink) seat new) up.seat_is did)))

  module _ (set : Settings) (chair : S) (ticker : C) (sink : K) (given : HandedIn) (chair_is : given.chair ≡ reads chair)
      (ticker_is : given.ticker ≡ ticks ticker) (sink_is : given.sink ≡ writes sink) (cw : ChairWorker S) (mw : MixWorker C K)
      (chair_up : ChairUp lock chair cw) (mix_up : MixUp lock set ticker sink mw) where
    crew-did : (number : ℕ) (lanes : List S) (up new : List (Worker S C K)) → LanesUp lock number lanes up
        → AllWorked (up ++ Chair cw ∷ Mixer mw ∷ []) new → CrewDid reads ticks writes lock set given number (map reads lanes) new
    crew-did number [] [] (Chair c ∷ Mixer m ∷ []) is did = (
      subst (λ i. ChairDid reads lock i (new_seat lock) c) (sym chair_is) (chair-did chair cw c chair_up did.0),
      subst (λ i. MixDid ticks writes lock set i given.sink (new_seat lock) m) (sym ticker_is)
          (subst (λ o. MixDid ticks writes lock set (ticks ticker) o (new_seat lock) m) (sym sink_is) (mix-did set ticker sink mw m mix_up did.1.0)),
    )
    crew-did number (s ∷ ss) (Lane w ∷ ws) (Lane v ∷ vs) is did =
        (lane-did number s w v is.0 did.0, crew-did (number + 1) ss ws vs is.1 did.1)
    crew-did number [] [] [] is did = absurd did
    crew-did number [] [] (Lane v ∷ vs) is did = absurd did.0
    crew-did number [] [] (Mixer v ∷ vs) is did = absurd did.0
    crew-did number [] [] (Chair c ∷ []) is did = absurd did.1
    crew-did number [] [] (Chair c ∷ Lane v ∷ vs) is did = absurd did.1.0
    crew-did number [] [] (Chair c ∷ Chair v ∷ vs) is did = absurd did.1.0
    crew-did number [] [] (Chair c ∷ Mixer m ∷ v ∷ vs) is did = absurd did.1.1
    crew-did number [] (w ∷ ws) new is did = absurd is
    crew-did number (s ∷ ss) [] new is did = absurd is
    crew-did number (s ∷ ss) (Chair w ∷ ws) new is did = absurd is
    crew-did number (s ∷ ss) (Mixer w ∷ ws) new is did = absurd is
    crew-did number (s ∷ ss) (Lane w ∷ ws) [] is did = absurd did
    crew-did number (s ∷ ss) (Lane w ∷ ws) (Chair v ∷ vs) is did = absurd did.0
    crew-did number (s ∷ ss) (Lane w ∷ ws) (Mixer v ∷ vs) is did = absurd did.0

module _ {S C K : Type 0} (reads : S → Input) (ticks : C → Input) (writes : K → Output) (set : Settings) (lanes : List S) (chair : S)
    (ticker : C) (sink : K) (crew : Crew S C K) (line : IsLinedUp set lanes chair ticker sink crew) where
  pub lined-did :
      (new : List (Worker S C K)) → length new ≡ length crew.lists.workers.items
      → ((i : ℕ) (d : Worker S C K) → i < length crew.lists.workers.items
      → Worked reads ticks writes crew.lock (slice_index_or crew.lists.workers.items i d) (slice_index_or new i d))
      → CrewDid reads ticks writes crew.lock set (given_of reads ticks writes lanes chair ticker sink) 0 (map reads lanes) new
  lined-did new same each =
      let old = line.up ++ Chair line.chair_worker ∷ Mixer line.mixer ∷ [] in
      let did : AllWorked reads ticks writes crew.lock old new =
      subst (λ ws. AllWorked reads ticks writes crew.lock ws new) line.in_line (all-worked reads ticks writes crew.lock crew.lists.workers.items new same each) in
      crew-did reads ticks writes crew.lock set chair ticker sink (given_of reads ticks writes lanes chair ticker sink) refl refl refl
      line.chair_worker line.mixer line.chair_up line.mix_up 0 lanes line.up new line.lanes_up did
