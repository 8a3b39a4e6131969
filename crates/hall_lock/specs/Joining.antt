-- What a seat knows after other seats were joined into it, one behind the other.
use Rattle.std.specs.Prelude.{◌≡◌, ◌+◌, true, false, List, [], ◌∷◌, ◌++◌, sum_by, flat_map}
use Rattle.std.specs.List.{AllByRecursion}
use mathlib.Core.List.{IsPrefix}
use Rattle.hall_lock.specs.Seats.{SeatState, joined}

module _ {M C R : Type 0} where
  pub record Joins (old : SeatState M C R) (others : List (SeatState M C R)) (new : SeatState M C R) : Type 0 where
    -- the places of the others follow those that were joined before
    pub past : new.past ≡ old.past ++ flat_map (λ o. o.mine ++ o.past) others
    pub share : new.share ≡ old.share + sum_by (λ o. o.share) others
    pub kept : (new.lock ≡ old.lock) × (new.mine ≡ old.mine) × (new.looks ≡ old.looks)
    -- what any of them had seen begins what the seat has seen
    pub seen : AllByRecursion (λ o. IsPrefix o.seen new.seen) (old ∷ others)
    -- the seat knows that all turns are drawn exactly where one of them knew it
    pub full : AllByRecursion (λ o. o.full ≡ true → new.full ≡ true) (old ∷ others)
    pub not_full : AllByRecursion (λ o. o.full ≡ false) (old ∷ others) → new.full ≡ false

  -- the other seat was joined into this one
  pub record TakesIn (old other new : SeatState M C R) : Type 0 where
    pub both : new ≡ joined old other
    -- one of the two histories begins the other
    pub line : IsPrefix old.seen new.seen × IsPrefix other.seen new.seen
    -- it is one seat more, where others were joined before
    pub joins :
        (first : SeatState M C R) (others : List (SeatState M C R)) → Joins first others old →
        Joins first (others ++ other ∷ []) new
