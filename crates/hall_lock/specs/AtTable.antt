-- A seat at the table, and what each step tells the seat that made it: of what it knew, the number that it read, and what it knows after.
use Rattle.std.specs.Prelude.{◌≡◌, ℕ, ◌+◌, ◌-◌, ◌^◌, ◌<◌, ◌≤◌, ◌==◌, max, Bool, true, false, ◌||◌, List, [], ◌∷◌, ◌++◌, length, Option, Some, None, Box, MatchBool, IfSome, IfNone}
use Rattle.std.specs.Global.{Global}
use mathlib.Core.List.{IsPrefix}
use mathlib.Core.Option.{some}
use lib.ListN.{get_elem?}
use Rattle.atomic_table.specs.Table.{Me, Step, rest}
use Rattle.hall_lock.specs.declared.view.Turn.{Turn}
use Rattle.hall_lock.specs.declared.view.View.{View}
use Rattle.hall_lock.specs.Turns.{Leads}
use Rattle.hall_lock.specs.Places.{AtMostOnce, EachOnce}
use Rattle.hall_lock.specs.Seats.{longer, shorter, SeatState}
use Rattle.hall_lock.specs.Own.{Rise}
use Rattle.hall_lock.specs.Rule.{is_at}
use Rattle.atomic_table.specs.Seated.{TableId}
use Rattle.atomic_table.specs.declared.shared.Seat.{Seat}

-- a seat's view and the box, where it holds it
abbrev pub Sitting : Type 0 → Type 0 → Type 0 → Type 0
Sitting M C R = Me (Option (Box M Global)) (View M C R)

abbrev pub Stepped : Type 0 → Type 0
Stepped M = Step (Option (Box M Global))

abbrev pub Sitter : Type 0 → Type 0 → Type 0 → Type 0
Sitter M C R = Seat (Option (Box M Global)) (View M C R)

-- the table has the two words and the slot, and the seat is of it
abbrev pub IsTable : TableId → TableId → Type 0
IsTable z seat = (z.words ≡ 2) × (z.slots ≡ 1) × (seat ≡ z)

abbrev pub turn_of : {C R : Type 0} → C → R → Turn C R
turn_of call reply = record { call = call; reply = reply }

module _ {M C R : Type 0} where
  abbrev pub IsSame : Sitter M C R → Sitter M C R → Type 0
  IsSame old new = (new.table_id ≡ old.table_id) × (new.id ≡ old.id)

  -- a step left the seat with this
  abbrev pub Becomes : Sitter M C R → Sitting M C R → Sitter M C R → Type 0
  Becomes old me new = IsSame old new × (new.me ≡ me)

  -- a seat of the table, which was not joined into another
  pub record SitsAt (z : TableId) (seat : Sitter M C R) : Type 0 where
    pub at : IsTable z seat.table_id
    pub live : seat.me.0.spent ≡ false

  -- one that is not at the turn
  pub record WaitsAt (z : TableId) (seat : Sitter M C R) : Type 0 where
    pub at : IsTable z seat.table_id
    pub live : seat.me.0.spent ≡ false
    pub waits : seat.me.0.at_turn ≡ false

  -- one that may draw this ticket, which is below the number of turns
  pub record MayDraw (z : TableId) (seat : Sitter M C R) (ticket : ℕ) : Type 0 where
    pub at : IsTable z seat.table_id
    pub live : seat.me.0.spent ≡ false
    pub no_ticket : seat.me.0.ticket ≡ None
    pub left : ticket < seat.me.0.turns
    pub fits : ticket + 1 < 2 ^ 64

  -- one that keeps the slot, with this in it
  pub record KeepsSlot (z : TableId) (seat : Sitter M C R) (box : Option (Box M Global)) : Type 0 where
    pub at : IsTable z seat.table_id
    pub holds : seat.me.1 ≡ (0, box) ∷ []

  -- a seat between two calls
  pub record IsAtRest (me : Sitting M C R) : Type 0 where
    pub live : me.0.spent ≡ false
    pub no_ticket : me.0.ticket ≡ None
    pub waits : me.0.at_turn ≡ false
    pub holds_nothing : me.1 ≡ []
    pub own : AtMostOnce (length me.0.seen) (me.0.mine ++ me.0.past)

  pub record RestsAt (z : TableId) (seat : Sitter M C R) : Type 0 where
    pub at : IsTable z seat.table_id
    pub rest : IsAtRest seat.me

  -- the same, where its own places rise
  pub record IsSettled (me : Sitting M C R) : Type 0 where
    pub rest : IsAtRest me
    pub order : Rise 0 me.0.mine (length me.0.seen)

  -- what contracts see of a view
  abbrev pub shown : TableId → View M C R → SeatState M C R
  shown z v = record {
    lock = record { name = z; opening = v.opening; turns = v.turns };
    share = v.share;
    seen =
        v.seen;
    mine = v.mine;
    past = v.past;
    front = v.front;
    full = v.full;
    looks = v.looks;
  }

  -- the view of the first seat
  abbrev pub first_view : M → ℕ → View M C R
  first_view m most = record {
    opening = Some m;
    turns = most;
    share = 2 ^ 32;
    seen = [];
    met = [];
    mine = [];
    past =
        [];
    front = 0;
    ticket = None;
    at_turn = false;
    full = false;
    looks = 0;
    spent = false;
  }

  -- a load of `tickets`
  abbrev pub saw_tickets : Stepped M → Sitting M C R → ℕ → Sitting M C R → Type 0
  saw_tickets st me n me' = (n ≤ me.0.turns)
      × MatchBool (n == me.0.turns) (me' ≡ (record me.0 { full = true }, me.1)) (me' ≡ me)

  -- a load of `tickets` whose number is let go
  abbrev pub recalled : Stepped M → Sitting M C R → ℕ → Sitting M C R → Type 0
  recalled st me n me' = (me' ≡ me) × IsPrefix me.0.met me.0.seen
      × AtMostOnce (length me.0.seen) (me.0.mine ++ me.0.past)

  -- a compare and exchange of `tickets`
  abbrev pub drew : Stepped M → Sitting M C R → ℕ → Sitting M C R → Type 0
  drew st me n me' = MatchBool (n == st.first)
      ((me' ≡ (record me.0 { ticket = Some st.first }, me.1)) × (me.0.full ≡ false)) (me' ≡ me)

  -- the seat has its ticket, and is not at the turn
  pub record IsWaiting (me : Sitting M C R) (ticket : ℕ) : Type 0 where
    pub live : me.0.spent ≡ false
    pub drawn : me.0.ticket ≡ Some ticket
    pub waits : me.0.at_turn ≡ false
    pub holds_nothing : me.1 ≡ []

  pub record AwaitsTurn (z : TableId) (seat : Sitter M C R) (ticket : ℕ) : Type 0 where
    pub at : IsTable z seat.table_id
    pub waiting : IsWaiting seat.me ticket

  -- the seat is at its turn
  pub record IsTurning (me : Sitting M C R) (ticket : ℕ) : Type 0 where
    pub live : me.0.spent ≡ false
    pub drawn : me.0.ticket ≡ Some ticket
    pub here : me.0.at_turn ≡ true

  -- loads of `turn` changed `front` and `looks` alone
  pub record Waits (me me' : Sitting M C R) : Type 0 where
    pub front : ℕ
    pub looks : ℕ
    pub after : me' ≡ (record me.0 { front = front; looks = looks }, me.1)
    pub not_fallen : me.0.front ≤ front
    pub not_fewer : me.0.looks ≤ looks

  -- the view after a load of `turn`
  abbrev pub looking : View M C R → ℕ → View M C R
  looking v n = record v { front = n; looks = v.looks + 1 }

  -- the view of a seat that came to the turn
  abbrev pub turning : View M C R → ℕ → List (Turn C R) → View M C R
  turning v n log = record v { front = n; looks = v.looks + 1; at_turn = true; seen = log }

  -- the view of a seat that has passed its turn
  abbrev pub passing : View M C R → List (Turn C R) → View M C R
  passing v added = record v {
    seen = v.seen ++ added;
    mine = v.mine ++ length v.seen ∷ [];
    ticket = None;
    at_turn =
        false;
  }

  -- the views that a split leaves and makes
  abbrev pub cut_left : ℕ → View M C R → View M C R
  cut_left part v = record v { share = v.share - part }

  abbrev pub cut_right : ℕ → View M C R → View M C R
  cut_right part v = record v {
    share = part;
    mine = [];
    past = [];
    met = [];
    looks = 0;
    ticket = None;
    at_turn =
        false;
  }

  -- the view that a join leaves
  abbrev pub glued : View M C R → View M C R → View M C R
  glued v w = record v {
    share = v.share + w.share;
    seen = longer v.seen w.seen;
    met = shorter v.seen w.seen;
    past =
        v.past ++ (w.mine ++ w.past);
    front = max v.front w.front;
    full = v.full || w.full;
  }

  -- a store of `turn`, which adds the turn to the history
  abbrev pub passed : List (Turn C R) → Stepped M → Sitting M C R → ℕ → Sitting M C R → Type 0
  passed added st me n me' = (me' ≡ (passing me.0 added, rest me.1))
      × AtMostOnce (length me'.0.seen) (me'.0.mine ++ me'.0.past)

  -- ---- what the steps tell

  -- `tickets` stands at n
  pub record Learns (old : Sitter M C R) (n : ℕ) (new : Sitter M C R) : Type 0 where
    pub same : IsSame old new
    pub bound : n ≤ old.me.0.turns
    pub told :
        MatchBool (n == old.me.0.turns) (new.me ≡ (record old.me.0 { full = true }, old.me.1)) (new.me ≡ old.me)

  -- the ticket is drawn, or another number stands at `tickets`
  pub record DrawsOne (old : Sitter M C R) (ticket : ℕ) (drawn : Bool) (new : Sitter M C R) : Type 0 where
    pub same : IsSame old new
    pub told :
        MatchBool drawn
        ((new.me ≡ (record old.me.0 { ticket = Some ticket }, old.me.1)) × (old.me.0.full ≡ false))
        (new.me ≡ old.me)

  -- the next ticket is drawn, or all of them are
  pub record Draws (old : Sitter M C R) (turns : ℕ) (ticket : Option ℕ) (new : Sitter M C R) : Type 0 where
    pub same : IsSame old new
    pub drawn :
        IfSome ticket (λ k.
        (new.me ≡ (record old.me.0 { ticket = Some k }, [])) × (k < turns) × (old.me.0.full ≡ false))
    pub full : IfNone ticket (new.me ≡ (record old.me.0 { full = true }, []))

  -- nothing changes, and the rule says this of the seat's own lists
  pub record Recalls (old new : Sitter M C R) : Type 0 where
    pub stays : Becomes old old.me new
    pub line : IsPrefix old.me.0.met old.me.0.seen
    pub own : AtMostOnce (length old.me.0.seen) (old.me.0.mine ++ old.me.0.past)

  -- the box is out of the slot
  pub record TakesOut (old : Sitter M C R) (box : Box M Global) (new : Sitter M C R) : Type 0 where
    pub held : old.me.1 ≡ (0, Some box) ∷ []
    pub empty : Becomes old (old.me.0, (0, None) ∷ []) new

  -- the turn is passed
  pub record Passes (old : Sitter M C R) (turn : Turn C R) (new : Sitter M C R) : Type 0 where
    pub told : Becomes old (passing old.me.0 (turn ∷ []), []) new
    pub rest : IsAtRest new.me

  -- a part of the share is another seat's
  pub record Cuts (old : Sitter M C R) (part : ℕ) (new other : Sitter M C R) : Type 0 where
    pub left : Becomes old (cut_left part old.me.0, []) new
    pub at : other.table_id ≡ old.table_id
    pub right : other.me ≡ (cut_right part old.me.0, [])

  -- the other seat is joined into this one
  pub record Glues (old other new : Sitter M C R) : Type 0 where
    pub told : Becomes old (glued old.me.0 other.me.0, []) new
    pub line : IsPrefix (shorter old.me.0.seen other.me.0.seen) (longer old.me.0.seen other.me.0.seen)
    pub rest : IsAtRest new.me

module _ {M C R S : Type 0} (shape : M → S) (fits : S → C → Type 0) (steps : M → C → R → M → Type 0) where
  -- the turns lead from the machine that the view names to n
  abbrev pub LeadsFrom : Option M → List (Turn C R) → M → Type 0
  LeadsFrom o turns n = (m : M) × (o ≡ Some m) × Leads shape fits steps m turns n

  -- the seat took the box at its turn, the n-th
  pub record TakesBox (me : Sitting M C R) (n : ℕ) (me' : Sitting M C R) : Type 0 where
    pub log : List (Turn C R)
    pub box : Box M Global
    pub after : me' ≡ (turning me.0 n log, (0, Some box) ∷ me.1)
    pub grows : IsPrefix me.0.seen log
    pub long : length log ≡ n
    pub leads : LeadsFrom me.0.opening log box.value

  -- a load of `turn`
  abbrev pub looked : Stepped M → Sitting M C R → ℕ → Sitting M C R → Type 0
  looked st me n me' = (length me.0.seen ≤ n) × (me.0.front ≤ n) × (n ≤ me.0.turns)
      × MatchBool (is_at n me.0.ticket) (TakesBox me n me') (me' ≡ (looking me.0 n, me.1))

  -- `turn` stands at n, and where that is its ticket, the seat has the box
  pub record ReadsTurn (old : Sitter M C R) (n : ℕ) (new : Sitter M C R) : Type 0 where
    pub same : IsSame old new
    pub seen : length old.me.0.seen ≤ n
    pub not_fallen : old.me.0.front ≤ n
    pub within : n ≤ old.me.0.turns
    pub told : MatchBool (is_at n old.me.0.ticket) (TakesBox old.me n new.me) (new.me ≡ (looking old.me.0 n, old.me.1))

  -- the machine that the view names may be asked this call
  abbrev pub FitsFrom : Option M → C → Type 0
  FitsFrom o call = (m : M) × (o ≡ Some m) × fits (shape m) call

  -- the seat has the box, to which all that it has seen leads
  abbrev pub HasBox : Sitting M C R → Type 0
  HasBox me = (b : Box M Global) × (me.1 ≡ (0, Some b) ∷ []) × LeadsFrom me.0.opening me.0.seen b.value

  -- the seat is at its turn and may pass it, where the history with this turn leads to its box
  pub record MayPass (z : TableId) (seat : Sitter M C R) (ticket : ℕ) (turn : Turn C R) : Type 0 where
    pub at : IsTable z seat.table_id
    pub turning : IsTurning seat.me ticket
    pub fits_word : ticket + 1 < 2 ^ 64
    pub led :
        (b : Box M Global) × (seat.me.1 ≡ (0, Some b) ∷ [])
        × LeadsFrom seat.me.0.opening (seat.me.0.seen ++ turn ∷ []) b.value

  -- the seat is at its turn, with the box
  pub record HasTurn (z : TableId) (seat : Sitter M C R) (ticket : ℕ) : Type 0 where
    pub at : IsTable z seat.table_id
    pub turning : IsTurning seat.me ticket
    pub fits_word : ticket + 1 < 2 ^ 64
    pub has_box : HasBox seat.me

  -- the turn is made and passed
  pub record MakesTurn (old : Sitter M C R) (turn : Turn C R) (new : Sitter M C R) : Type 0 where
    pub passed : Passes old turn new
    pub led : (m : M) × LeadsFrom old.me.0.opening (old.me.0.seen ++ turn ∷ []) m

  -- the seat came to its turn, the n-th, after one or more loads of `turn`
  pub record Arrives (me : Sitting M C R) (n : ℕ) (me' : Sitting M C R) : Type 0 where
    pub log : List (Turn C R)
    pub box : Box M Global
    pub looks : ℕ
    pub after : me' ≡ (record me.0 { front = n; looks = looks; at_turn = true; seen = log }, (0, Some box) ∷ [])
    pub looked_more : me.0.looks < looks
    pub not_fallen : me.0.front ≤ n
    pub grows : IsPrefix me.0.seen log
    pub long : length log ≡ n
    pub leads : LeadsFrom me.0.opening log box.value

  -- the lock as it is closed: the box is home, and every turn passed is accounted for by the one seat
  pub record IsClosing (words : List ℕ) (slots : List (Option (Box M Global))) (v : View M C R) : Type 0 where
    pub box : Box M Global
    pub word : get_elem? words 1 ≡ some (length v.seen)
    pub slot : get_elem? slots 0 ≡ some (Some box)
    pub leads : LeadsFrom v.opening v.seen box.value
    pub places : EachOnce (length v.seen) (v.mine ++ v.past)
    pub front : v.front ≤ length v.seen
    pub full : v.full ≡ true → length v.seen ≡ v.turns
    pub within : length v.seen ≤ v.turns
