-- The rule of the lock, which every step keeps: what holds at each moment of its two words, its slot and the views of all seats.
-- Word 0 is `tickets`, the number of turns drawn, and word 1 is `turn`, the number of turns passed. The slot is for the box with the machine.
use Rattle.std.specs.Prelude.{◌≡◌, ◌⊎◌, ℕ, ◌^◌, ◌≤◌, ◌==◌, Bool, true, false, ◌&&◌, List, [], ◌∷◌, ◌++◌, length, sum_by, nat_lt, nat_le, if◌then◌else◌, Option, Some, None, Box}
use Rattle.std.specs.Global.{Global}
use mathlib.Core.List.{IsPrefix}
use mathlib.Core.Option.{none, some}
use mathlib.Core.Option as maybe
use lib.ListN.{get_elem?}
use Rattle.atomic_table.specs.Table.{State}
use Rattle.hall_lock.specs.declared.view.Turn.{Turn}
use Rattle.hall_lock.specs.declared.view.View.{View}
use Rattle.hall_lock.specs.Turns.{Leads}
use Rattle.hall_lock.specs.Places.{times, one_below}

-- whether x is that ticket
abbrev pub is_at : ℕ → Option ℕ → Bool
is_at x None = false
is_at x (Some k) = k == x

-- 1 at the tickets that are drawn and not yet passed, and 0 at every other number
abbrev pub waits : ℕ → ℕ → ℕ → ℕ
waits turn tickets x = (if nat_le turn x && nat_lt x tickets then 1 else 0)

module _ {M C R : Type 0} where
  -- what is counted of a view
  abbrev pub share_of : View M C R → ℕ
  share_of v = v.share

  abbrev pub has_ticket : ℕ → View M C R → ℕ
  has_ticket x v = (if is_at x v.ticket then 1 else 0)

  abbrev pub has_turn : View M C R → ℕ
  has_turn v = (if v.at_turn then 1 else 0)

  abbrev pub has_place : ℕ → View M C R → ℕ
  has_place x v = times x (v.mine ++ v.past)

  -- the view that a joined seat leaves
  abbrev pub spent_view : View M C R
  spent_view = record {
    opening = None;
    turns = 0;
    share = 0;
    seen = [];
    met = [];
    mine = [];
    past = [];
    front =
        0;
    ticket = None;
    at_turn = false;
    full = false;
    looks = 0;
    spent = true;
  }

  -- what holds of each view that is not spent, where `log` is the list of the turns passed
  pub record IsSeated (m : M) (most tickets turn : ℕ) (log : List (Turn C R)) (v : View M C R) : Type 0 where
    pub opened : v.opening ≡ Some m
    pub limited : v.turns ≡ most
    pub part : 1 ≤ v.share
    pub knows : IsPrefix v.seen log
    pub heard : IsPrefix v.met v.seen
    pub behind : v.front ≤ turn
    pub places : (x : ℕ) → length v.seen ≤ x → has_place x v ≡ 0
    pub holds_turn : v.at_turn ≡ true → (v.ticket ≡ Some turn) × (v.seen ≡ log)
    pub sold_out : v.full ≡ true → tickets ≡ most

module _ {M C R S : Type 0} (shape : M → S) (fits : S → C → Type 0) (steps : M → C → R → M → Type 0) (m : M) (most : ℕ)
  where
    -- The slot is in the keeping of the one seat that is at the turn; or none is, and it is home with a box to which the turns passed lead
    abbrev pub Slot : List (Turn C R) → List (maybe.Option (Option (Box M Global))) → ℕ → Type 0
    Slot log homes at = ((homes ≡ none ∷ []) × (at ≡ 1))
        ⊎ ((b : Box M Global) × (homes ≡ some (Some b) ∷ []) × (at ≡ 0) × Leads shape fits steps m log b.value)

    pub record IsKept (s : State (Option (Box M Global)) (View M C R)) : Type 0 where
      pub tickets : ℕ
      pub turn : ℕ
      -- the turns passed, which go with the box
      pub log : List (Turn C R)
      pub words : s.words ≡ tickets ∷ turn ∷ []
      pub drawn : turn ≤ tickets
      pub bounded : tickets ≤ most
      -- each number from `turn` up to `tickets` is the ticket of one view, and no other number is a ticket
      pub queue : (x : ℕ) → sum_by (has_ticket x) s.views ≡ waits turn tickets x
      pub long : length log ≡ turn
      pub slot : Slot log s.homes (sum_by has_turn s.views)
      -- each place below `turn` is in `mine` or `past` of one view, once
      pub places : (x : ℕ) → sum_by (has_place x) s.views ≡ one_below turn x
      pub shares : sum_by share_of s.views ≡ 2 ^ 32
      pub seats : (i : ℕ) (v : View M C R) → get_elem? s.views i ≡ some v → v.spent ≡ false
          → IsSeated m most tickets turn log v
      pub gone : (i : ℕ) (v : View M C R) → get_elem? s.views i ≡ some v → v.spent ≡ true → v ≡ spent_view
