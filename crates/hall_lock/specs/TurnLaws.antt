-- Laws of turns, of every machine. Each stands on a public function.
use Rattle.std.specs.Prelude.{◌≡◌, ℕ, ◌≤◌, Bool, true, false, List, [], ◌∷◌, ◌++◌, length, filter, fold, flat_map}
use Rattle.hall_lock.specs.declared.view.Turn.{Turn}
use Rattle.hall_lock.specs.Places.{EachOnce}
use Rattle.hall_lock.specs.Seats.{SeatState, joined}
use Rattle.hall_lock.specs.Turns.{Goes}
use Rattle.hall_lock.specs.Asking.{NoneEnded}
use Rattle.hall_lock.specs.Finishing.{FinishLast, EndsByFinish}
use Rattle.hall_lock.specs.Joining.{Joins}
use Rattle.hall_lock.specs.Sorting.{joint, OwnsFrom, SortedFrom, WorkFrom, SharedOut}
use Rattle.hall_lock.specs.Telling.{Tells, StepsFrom, TellsPicked, pieces}
use mathlib.Core.List.{IsPrefix}

-- Where each place of the history is one of one worker's, each worker's turns are those at its places, and there are no
-- others.
pub record SortLaw (T : Type 0) : Type 0 where
  pub sorted :
      (owner : T → ℕ) (history : List T) (placess : List (List ℕ)) → OwnsFrom owner history 0 placess →
      EachOnce (length history) (joint placess) → SortedFrom owner history 0 placess
  pub counted : (n : ℕ) (places : List ℕ) → EachOnce n places → length places ≡ n

-- The workers' seats were joined into one that made no call, which then knows each place of the history: the history is
-- shared out among the workers.
abbrev pub ShareLaw : Type 0 → Type 0 → Type 0 → Type 0
ShareLaw M C R =
    (owner : Turn C R → ℕ) (first closing : SeatState M C R) (workers : List (SeatState M C R)) →
    first.mine ≡ [] → first.past ≡ [] → WorkFrom owner 0 workers → Joins first workers closing →
    EachOnce (length closing.seen) (closing.mine ++ closing.past) → SharedOut owner closing.seen workers

-- Seats are joined one by one.
pub record JoinLaw (M C R : Type 0) : Type 0 where
  pub none : (s : SeatState M C R) → Joins s [] s
  pub more :
      (old mid other : SeatState M C R) (others : List (SeatState M C R)) → Joins old others mid →
      IsPrefix mid.seen (joined mid other).seen → IsPrefix other.seen (joined mid other).seen →
      Joins old (others ++ other ∷ []) (joined mid other)

-- Where the turns that finish are all of one worker, and none of that worker's stands behind one of them, none of that
-- worker's is answered that the machine has ended, as long as there was room.
abbrev pub FinishLaw : {M C R : Type 0} → (M → C → R → M → Type 0) → Type 0
FinishLaw {M} {C} {R} steps =
    (is_over : M → Bool) (room : M → ℕ) (is_finish : C → Bool) (is_ended : R → Bool) →
    EndsByFinish steps is_over room is_finish is_ended →
    (own : Turn C R → Bool) → ((t : Turn C R) → is_finish t.call ≡ true → own t ≡ true) →
    (m n : M) (turns : List (Turn C R)) → Goes steps m turns n → is_over m ≡ false → length turns ≤ room m →
    FinishLast is_finish (filter own turns) → NoneEnded is_ended (filter own turns)

-- Turns tell their items one behind the other, one list of items where each turn tells one; and turns that tell nothing
-- may be left out or put in.
pub record TellLaw {T X : Type 0} (tells : T → List X → Type 0) : Type 0 where
  pub push :
      (ts : List T) (t : T) (items part : List X) → Tells tells ts items → tells t part →
      Tells tells (ts ++ t ∷ []) (items ++ part)
  pub one :
      ((t : T) (a b : List X) → tells t a → tells t b → a ≡ b) →
      (ts : List T) (items others : List X) → Tells tells ts items → Tells tells ts others → items ≡ others
  pub left_out :
      (test : T → Bool) → ((t : T) (part : List X) → test t ≡ false → tells t part → part ≡ []) →
      (ts : List T) (items : List X) → Tells tells ts items → Tells tells (filter test ts) items
  pub put_in :
      (test : T → Bool) → ((t : T) → test t ≡ false → tells t []) →
      (ts : List T) (items : List X) → Tells tells (filter test ts) items → Tells tells ts items

-- What is picked out of the history behind the turns is what was picked before, and then what the turns tell of it.
abbrev pub StepLaw : {T X : Type 0} → (T → List X → Type 0) → Type 0 → Type 0
StepLaw {T} {X} tells Y =
    (picked : List X → List Y) → ((new old : List X) → picked (new ++ old) ≡ picked old ++ picked new) →
    (old new : List X) (ts : List T) → StepsFrom tells old ts new →
    (items : List Y) × Tells (TellsPicked tells picked) ts items × (picked new ≡ picked old ++ items)

-- The output of one turn more; and turns that put nothing out and leave the state may be left out.
pub record PieceLaw (A T X : Type 0) : Type 0 where
  pub push :
      (next : A → T → A) (piece : A → T → List X) (a : A) (ts : List T) (t : T) →
      pieces next piece a (ts ++ t ∷ []) ≡ pieces next piece a ts ++ piece (fold next a ts) t
  pub left_out :
      (next : A → T → A) (piece : A → T → List X) (test : T → Bool) →
      ((a : A) (t : T) → test t ≡ false → (piece a t ≡ []) × (next a t ≡ a)) → (a : A) (ts : List T) →
      (pieces next piece a ts ≡ pieces next piece a (filter test ts))
      × (fold next a ts ≡ fold next a (filter test ts))

-- The same of items that need no state.
abbrev pub GatherLaw : Type 0 → Type 0 → Type 0
GatherLaw T X =
    (items : T → List X) (test : T → Bool) → ((t : T) → test t ≡ false → items t ≡ []) →
    (ts : List T) → flat_map items ts ≡ flat_map items (filter test ts)
