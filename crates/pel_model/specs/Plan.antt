-- The chair's plan of the four places: what the commands given so far have made of it. The commands stand newest
-- first, and begin from four empty places without pins. A conference has `lanes` lanes, numbered from 0.
use Rattle.std.specs.Prelude.{ℕ, ◌==◌, nat_lt, nat_le, Bool, true, false, not, ◌&&◌, ◌||◌, if◌then◌else◌, Option, Some, None, is_none, List, [], ◌∷◌, find}
use Rattle.std.specs.Option.{option_or}
use Rattle.std.specs.List.{list_any, list_all, position_or_len}
use Rattle.pel_model.specs.declared.Quad.{Quad}
use Rattle.pel_model.specs.declared.Quad.TheVariants.{One, Two, Three, Four}
use Rattle.pel_model.specs.declared.chair.Command.{Command}
use Rattle.pel_model.specs.declared.chair.Command.TheVariants.{Place, Clear, Swap, Speaker, Pin, Unpin}
use Rattle.pel_model.specs.declared.chair.Reply.{Reply}
use Rattle.pel_model.specs.declared.chair.Reply.TheVariants.{Done, NoLane, SamePlace, AllPinned}
use Rattle.pel_model.specs.Regions.{number_of}

-- the lane in each place, the pins, and the lanes of the `speaker` commands that were done, newest first
pub record Stage : Type 0 where
  pub lane_in : Quad → Option ℕ
  pub is_pinned : Quad → Bool
  pub speakers : List ℕ

-- the places, the lowest first
abbrev pub places : List Quad
places = One ∷ Two ∷ Three ∷ Four ∷ []

abbrev pub is_same : Quad → Quad → Bool
is_same p q = number_of p == number_of q

-- it is lane c
abbrev pub is_lane : ℕ → Option ℕ → Bool
is_lane c None = false
is_lane c (Some d) = c == d

-- lane c stands in a place
abbrev pub is_standing : Stage → ℕ → Bool
is_standing s c = list_any (λ q. is_lane c (s.lane_in q)) places

-- the first refusal that holds, else Done
abbrev pub answer_at : ℕ → Stage → Command → Reply
answer_at lanes s (Place q c) =
    if nat_le lanes c then NoLane else if is_lane c (s.lane_in q) then SamePlace else Done
answer_at lanes s (Clear q) = if is_none (s.lane_in q) then SamePlace else Done
answer_at lanes s (Swap p q) =
    if is_same p q || (is_none (s.lane_in p) && is_none (s.lane_in q)) then SamePlace else Done
answer_at lanes s (Speaker c) =
    if nat_le lanes c then NoLane
    else if not (is_standing s c) && list_all s.is_pinned places then AllPinned else Done
answer_at lanes s (Pin q) = Done
answer_at lanes s (Unpin q) = Done

-- how many `speaker` commands were done since lane c last spoke: all of them, if it never did
abbrev pub silence : List ℕ → ℕ → ℕ
silence speakers c = position_or_len (λ d. d == c) speakers

-- the first lane spoke less recently than the second; one that never spoke is less recent than any that did
abbrev pub spoke_before : List ℕ → Option ℕ → Option ℕ → Bool
spoke_before speakers (Some c) (Some d) = nat_lt (silence speakers d) (silence speakers c)
spoke_before speakers (Some c) None = false
spoke_before speakers None d = false

-- the lowest empty unpinned place
abbrev pub vacant_place : Stage → Option Quad
vacant_place s = find (λ q. not (s.is_pinned q) && is_none (s.lane_in q)) places

-- where `before p q` says that the lane in place p spoke less recently than the one in place q: an unpinned place is
-- quieter than this one
abbrev pub has_quieter : (Quad → Bool) → (Quad → Quad → Bool) → Quad → Bool
has_quieter is_pinned before q = list_any (λ p. not (is_pinned p) && before p q) places

-- the lowest unpinned place than which none is quieter
abbrev pub quietest_by : (Quad → Bool) → (Quad → Quad → Bool) → Option Quad
quietest_by is_pinned before = find (λ q. not (is_pinned q) && not (has_quieter is_pinned before q)) places

-- the unpinned place whose lane spoke least recently, the lowest of several
abbrev pub quietest_place : Stage → Option Quad
quietest_place s = quietest_by s.is_pinned (λ p q. spoke_before s.speakers (s.lane_in p) (s.lane_in q))

-- the place that a speaker takes who stands in none
abbrev pub place_for_speaker : Stage → Option Quad
place_for_speaker s = option_or (vacant_place s) (quietest_place s)

abbrev pub is_place : Option Quad → Quad → Bool
is_place None q = false
is_place (Some p) q = is_same p q

-- the lane, where it is not lane c
abbrev pub without : ℕ → Option ℕ → Option ℕ
without c lane = if is_lane c lane then None else lane

-- what a command makes of the stage, where no refusal holds
abbrev pub carried_out : Stage → Command → Stage
carried_out s (Place q c) = record s { lane_in = λ p. if is_same q p then Some c else without c (s.lane_in p) }
carried_out s (Clear q) = record s { lane_in = λ p. if is_same q p then None else s.lane_in p }
carried_out s (Swap p q) =
    record s { lane_in = λ r. if is_same p r then s.lane_in q else if is_same q r then s.lane_in p else s.lane_in r }
carried_out s (Speaker c) = record s {
  lane_in = λ p. if not (is_standing s c) && is_place (place_for_speaker s) p then Some c else s.lane_in p;
  speakers = c ∷ s.speakers;
}
carried_out s (Pin q) = record s { is_pinned = λ p. is_same q p || s.is_pinned p }
carried_out s (Unpin q) = record s { is_pinned = λ p. not (is_same q p) && s.is_pinned p }

abbrev pub is_done : Reply → Bool
is_done Done = true
is_done NoLane = false
is_done SamePlace = false
is_done AllPinned = false

-- a refused command changes nothing
abbrev pub ordered : ℕ → Stage → Command → Stage
ordered lanes s c = if is_done (answer_at lanes s c) then carried_out s c else s

-- what stands after the commands
abbrev pub stage : ℕ → List Command → Stage
stage lanes [] = record { lane_in = λ _. None; is_pinned = λ _. false; speakers = [] }
stage lanes (c ∷ commands) = ordered lanes (stage lanes commands) c

-- the lane that stands in a place after the commands
abbrev pub at : ℕ → List Command → Quad → Option ℕ
at lanes commands q = (stage lanes commands).lane_in q

-- whether the place is pinned after them
abbrev pub pinned : ℕ → List Command → Quad → Bool
pinned lanes commands q = (stage lanes commands).is_pinned q

-- the lanes that spoke, newest first
abbrev pub speakers : ℕ → List Command → List ℕ
speakers lanes commands = (stage lanes commands).speakers

-- the reply to a command that follows them
abbrev pub answer : ℕ → List Command → Command → Reply
answer lanes commands c = answer_at lanes (stage lanes commands) c

abbrev pub is_same_lane : Option ℕ → Option ℕ → Bool
is_same_lane None None = true
is_same_lane (Some c) (Some d) = c == d
is_same_lane None (Some d) = false
is_same_lane (Some c) None = false

-- whether the last of the commands changed the lane in a place
abbrev pub changed : ℕ → List Command → Quad → Bool
changed lanes [] q = false
changed lanes (c ∷ commands) q = not (is_same_lane (at lanes (c ∷ commands) q) (at lanes commands q))
