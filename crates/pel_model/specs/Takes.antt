-- Which pictures the ticks of a conference take, and for which lanes they wait.
use Rattle.std.specs.Prelude.{ℕ, ◌+◌, ◌^◌, ◌==◌, nat_lt, Bool, true, not, ◌&&◌, if◌then◌else◌, Option, Some, None, List, [], ◌∷◌, length, find, sum_by}
use Rattle.std.specs.List.{list_any, range_with_len}
use Rattle.pel_model.specs.declared.Quad.{Quad}
use Rattle.pel_model.specs.declared.held.Held.{Held}
use Rattle.pel_model.specs.declared.note.Take.{Take}
use Rattle.pel_model.specs.declared.note.TickNote.{TickNote}
use Rattle.pel_model.specs.History.{History, Order, Tick, arrivals, commands, lane_at, taken_in}
use Rattle.pel_model.specs.Lanes.{Arrival, held_above, first_to_show, low_after}
use Rattle.pel_model.specs.Plan.{places, is_lane, changed}
use Rattle.pel_model.specs.Records.{Picture}

-- ---- tenancies: a lane's stay in a place. A command that changes the lane in a place begins a new one, even where the
-- lane stood there before

abbrev pub serial_or : Option Take → Option ℕ → Option ℕ
serial_or None last = last
serial_or (Some take) last = Some take.serial

-- the serial that was taken last in the place's present tenancy, if any was
abbrev pub last_taken : ℕ → History → Quad → Option ℕ
last_taken lanes [] q = None
last_taken lanes (Order command reply ∷ H) q =
    if changed lanes (command ∷ commands H) q then None else last_taken lanes H q
last_taken lanes (Tick note ∷ H) q = serial_or (taken_in q note) (last_taken lanes H q)
last_taken lanes (_ ∷ H) q = last_taken lanes H q

-- ---- what is held

-- the place in which a lane stands
abbrev pub place_of : ℕ → History → ℕ → Option Quad
place_of lanes H c = find (λ q. is_lane c (lane_at lanes H q)) places

-- what a tick makes of it, if the lane stands in this place
abbrev pub low_behind : ℕ → History → Option Quad → List (Arrival Picture) → ℕ → ℕ
low_behind lanes H None came low = low
low_behind lanes H (Some q) came low = low_after (last_taken lanes H q) (held_above low came) low

-- the greatest serial of a lane that a tick took or passed, or else 0
abbrev pub low_serial : ℕ → History → ℕ → ℕ
low_serial lanes [] c = 0
low_serial lanes (Tick note ∷ H) c =
    low_behind lanes H (place_of lanes H c) (arrivals H c) (low_serial lanes H c)
low_serial lanes (_ ∷ H) c = low_serial lanes H c

-- the pictures of a lane that are held, the oldest first
abbrev pub held_pictures : ℕ → History → ℕ → List (Held Picture)
held_pictures lanes H c = held_above (low_serial lanes H c) (arrivals H c)

-- ---- what is taken

abbrev pub choice_of : ℕ → History → Quad → Option ℕ → Option (Held Picture)
choice_of lanes H q None = None
choice_of lanes H q (Some c) = first_to_show (last_taken lanes H q) (held_pictures lanes H c)

-- what the next tick takes in a place: the first held picture of its lane that is a refresh or has the serial behind the
-- one that the place's tenancy took last
abbrev pub choice : ℕ → History → Quad → Option (Held Picture)
choice lanes H q = choice_of lanes H q (lane_at lanes H q)

abbrev pub take_of : Option ℕ → Option (Held Picture) → Option Take
take_of None picture = None
take_of (Some c) None = None
take_of (Some c) (Some h) = Some (record { lane = c; serial = h.serial })

-- as its note has it
abbrev pub take : ℕ → History → Quad → Option Take
take lanes H q = take_of (lane_at lanes H q) (choice lanes H q)

-- ---- for which lanes the conference waits

abbrev pub is_held : ℕ → List (Held Picture) → Bool
is_held serial held = list_any (λ (h : Held Picture). h.serial == serial) held

-- the tenancy took nothing yet, or the serial behind the one it took last was given out and is not held
abbrev pub is_at_loss : Option ℕ → (count : ℕ) → List (Held Picture) → Bool
is_at_loss None count held = true
is_at_loss (Some last) count held = nat_lt last count && not (is_held (last + 1) held)

-- the lane stands in a place, and cannot go on there but by a refresh
abbrev pub is_waited_for : ℕ → History → ℕ → Bool
is_waited_for lanes H c =
    list_any
    (λ q. is_lane c (lane_at lanes H q)
    && is_at_loss (last_taken lanes H q) (length (arrivals H c)) (held_pictures lanes H c))
    places

-- a bit for each lane that is waited for, that of lane c being 2 ^ c
abbrev pub waiting : ℕ → History → ℕ
waiting lanes H =
    sum_by (λ c. if is_waited_for lanes H c then 2 ^ c else 0) (range_with_len 0 lanes)
