-- What contracts see of a lock and of a seat at it, and what a call changes of a seat.
use Rattle.std.specs.Prelude.{◌≡◌, ℕ, ◌+◌, ◌-◌, ◌^◌, ◌<◌, ◌≤◌, max, Bool, false, ◌||◌, List, [], ◌∷◌, ◌++◌, length, nat_le, if◌then◌else◌, Option, Some, refl}
use Rattle.std.specs.Coded.{Coded, code_by, coded×, coded_ℕ, coded_bool, coded_list, coded_option}
use Rattle.atomic_table.specs.Seated.{TableId, table_id_coded}
use Rattle.hall_lock.specs.declared.view.Turn.{Turn}
use Rattle.hall_lock.specs.Places.{AtMostOnce}

-- which lock it is, the machine that it was opened with, and the number of turns that it was made for
pub record Lock (M : Type 0) : Type 0 where
  pub name : TableId
  pub opening : M
  pub turns : ℕ

pub record SeatState (M C R : Type 0) : Type 0 where
  -- the lock that the seat is of
  pub lock : Lock (Option M)
  -- its part of the whole, which is 2 ^ 32
  pub share : ℕ
  -- the turns from the first one on, as far as it knows them
  pub seen : List (Turn C R)
  -- the places in `seen` of its own turns
  pub mine : List ℕ
  -- the places of the turns of the seats that were joined into it
  pub past : List ℕ
  -- the greatest number of turns passed that was read by it, by the seat that it was split from before the split, or by a seat joined into it
  pub front : ℕ
  -- whether one of these read that all turns are drawn
  pub full : Bool
  -- how often it read the number of turns passed itself
  pub looks : ℕ

-- the tuples as which both are stored
abbrev pub lock_code : {M : Type 0} → Coded M → Coded (Lock M)
lock_code {M} m = code_by (TableId × (M × ℕ)) (coded× table_id_coded (coded× m coded_ℕ))
    (λ l. (l.name, (l.opening, l.turns))) (λ p. record { name = p.0; opening = p.1.0; turns = p.1.1 }) (λ _. refl)

abbrev pub turn_code : {C R : Type 0} → Coded C → Coded R → Coded (Turn C R)
turn_code {C} {R} c r = code_by (C × R) (coded× c r) (λ t. (t.call, t.reply)) (λ p. record { call = p.0; reply = p.1 })
    (λ _. refl)

abbrev pub seat_code : {M C R : Type 0} → Coded M → Coded C → Coded R → Coded (SeatState M C R)
seat_code {M} {C} {R} m c r = code_by
    (Lock (Option M) × (ℕ × (List (Turn C R) × (List ℕ × (List ℕ × (ℕ × (Bool × ℕ)))))))
    (coded× (lock_code (coded_option m))
    (coded× coded_ℕ (coded× (coded_list (turn_code c r))
    (coded× (coded_list coded_ℕ) (coded× (coded_list coded_ℕ) (coded× coded_ℕ (coded× coded_bool coded_ℕ)))))))
    (λ s. (s.lock, (s.share, (s.seen, (s.mine, (s.past, (s.front, (s.full, s.looks))))))))
    (λ p. record {
      lock = p.0;
      share = p.1.0;
      seen = p.1.1.0;
      mine = p.1.1.1.0;
      past = p.1.1.1.1.0;
      front =
          p.1.1.1.1.1.0;
      full = p.1.1.1.1.1.1.0;
      looks = p.1.1.1.1.1.1.1;
    }) (λ _. refl)

module _ {X : Type 0} where
  -- the longer and the shorter of two histories
  abbrev pub longer : List X → List X → List X
  longer xs ys = (if nat_le (length xs) (length ys) then ys else xs)

  abbrev pub shorter : List X → List X → List X
  shorter xs ys = (if nat_le (length xs) (length ys) then xs else ys)

-- the lock as its seats name it
abbrev pub seats_lock : {M : Type 0} → Lock M → Lock (Option M)
seats_lock l = record { name = l.name; opening = Some l.opening; turns = l.turns }

module _ {M C R : Type 0} where
  -- the seat is of this lock: it came from the `reserve` that made it, at once or by splits
  abbrev pub IsOf : Lock M → SeatState M C R → Type 0
  IsOf l s = s.lock ≡ seats_lock l

  -- its places are places of what it has seen, each once
  abbrev pub OwnsPlaces : SeatState M C R → Type 0
  OwnsPlaces s = AtMostOnce (length s.seen) (s.mine ++ s.past)

  -- the seat that comes with a new lock
  abbrev pub first_seat : Lock M → SeatState M C R
  first_seat l = record {
    lock = seats_lock l;
    share = 2 ^ 32;
    seen = [];
    mine = [];
    past = [];
    front = 0;
    full =
        false;
    looks = 0;
  }

  -- a part of the seat, which knows what the seat knows, and has made no turn
  abbrev pub part_of : SeatState M C R → ℕ → SeatState M C R
  part_of s part = record s { share = part; mine = []; past = []; looks = 0 }

  -- what is left where a part is split off
  abbrev pub left_of : SeatState M C R → ℕ → SeatState M C R
  left_of s part = record s { share = s.share - part }

  -- a seat and another that was joined into it
  abbrev pub joined : SeatState M C R → SeatState M C R → SeatState M C R
  joined s o = record s {
    share = s.share + o.share;
    seen = longer s.seen o.seen;
    past =
        s.past ++ (o.mine ++ o.past);
    front = max s.front o.front;
    full = s.full || o.full;
  }
