-- The turns of a history, sorted by who made them. Workers are numbered, and each turn has one owner.
use Rattle.std.specs.Prelude.{⊤, ◌≡◌, ℕ, ◌+◌, ◌<◌, ◌==◌, List, [], ◌∷◌, length, filter, sum_by, flat_map}
use Rattle.std.specs.List.{AllByRecursion}
use Rattle.hall_lock.specs.declared.view.Turn.{Turn}
use Rattle.hall_lock.specs.Seats.{SeatState}
use Rattle.hall_lock.specs.Own.{turns_at, Rise, made, InOrder}

-- all places of these lists
abbrev pub joint : List (List ℕ) → List ℕ
joint placess = flat_map (λ places. places) placess

module _ {T : Type 0} (owner : T → ℕ) where
  -- the turns that are the w-th worker's
  abbrev pub owned_by : ℕ → List T → List T
  owned_by w turns = filter (λ t. owner t == w) turns

  -- a list of places for each worker from the w-th on: they rise within the history, and the turns there are the worker's
  abbrev pub OwnsFrom : List T → ℕ → List (List ℕ) → Type 0
  OwnsFrom history w [] = ⊤
  OwnsFrom history w (places ∷ placess) =
      Rise 0 places (length history) × AllByRecursion (λ t. owner t ≡ w) (turns_at history places) × OwnsFrom history (w + 1) placess

  -- the turns of each worker from the w-th on are those at its places
  abbrev pub SortedFrom : List T → ℕ → List (List ℕ) → Type 0
  SortedFrom history w [] = ⊤
  SortedFrom history w (places ∷ placess) =
      (owned_by w history ≡ turns_at history places) × SortedFrom history (w + 1) placess

module _ {M C R : Type 0} (owner : Turn C R → ℕ) where
  -- a seat for each worker from the w-th on: all that it made is the worker's, and no seat was joined into it
  abbrev pub WorkFrom : ℕ → List (SeatState M C R) → Type 0
  WorkFrom w [] = ⊤
  WorkFrom w (s ∷ ss) =
      InOrder s × (s.past ≡ []) × AllByRecursion (λ t. owner t ≡ w) (made s) × WorkFrom (w + 1) ss

  -- the turns of each worker from the w-th on are those that its seat made
  abbrev pub MadeFrom : List (Turn C R) → ℕ → List (SeatState M C R) → Type 0
  MadeFrom history w [] = ⊤
  MadeFrom history w (s ∷ ss) = (owned_by owner w history ≡ made s) × MadeFrom history (w + 1) ss

  -- the history is the workers' turns and no others: each worker's are those that its seat made, in their order
  pub record SharedOut (history : List (Turn C R)) (workers : List (SeatState M C R)) : Type 0 where
    pub turns : MadeFrom history 0 workers
    pub count : length history ≡ sum_by (λ s. length (made s)) workers
    pub owned : AllByRecursion (λ t. owner t < length workers) history
