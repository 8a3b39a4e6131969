-- Packets one by one: what has to be held of the packets that came so that the next one gives what it should.
use Rattle.std.specs.Prelude.{◌≡◌, ℕ, ◌^◌, ◌==◌, nat_le, Bool, true, false, not, ◌&&◌, if◌then◌else◌}
use Rattle.std.specs.Prelude.{List, [], ◌∷◌, ◌++◌, length, take, Option, None, Some, option_map}
use Rattle.rtp_h261.specs.Units.{Piece, Part, Skipped, Run, Given, gives_nothing, number_after, distance, member}
use Rattle.rtp_h261.specs.Units.{later, is_starter, is_complete, bits_of, parts_of, all_given, fed}

-- ---- what is held

pub data Mode : Type 0 where
  -- no run was met, or packets were lost
  Seek : Mode
  -- the last run is complete
  Idle : Mode
  -- inside a run with this timestamp, of which these bits came
  Collect : ℕ → List Bool → Mode

-- the expected sequence number, once a packet counted, and the mode
pub record State : Type 0 where
  pub next : Option ℕ
  pub mode : Mode

-- by the last part, where so many bits of a run are kept
abbrev pub mode_behind : ℕ → Option Part → Mode
mode_behind room None = Seek
mode_behind room (Some (Skipped p)) = Seek
mode_behind room (Some (Run s ps)) =
    if is_complete s ps then Idle else Collect s.stamp (take room (bits_of s ps))

abbrev pub last_part : Option Part → List Part → Option Part
last_part before [] = before
last_part before (x ∷ xs) = last_part (Some x) xs

-- the last packet that counts
abbrev pub last_member : Option Piece → List (Option Piece) → Option Piece
last_member last [] = last
last_member last (p ∷ ps) = last_member (later last (member last p)) ps

-- what is held of these packets
unfoldable pub state_of : ℕ → List (Option Piece) → State
state_of room packets = record {
  next = option_map number_after (last_member None packets);
  mode = mode_behind room (last_part None (parts_of packets));
}

-- ---- one packet more

-- bits of a run were taken: a unit at the marker
abbrev pub closed : Bool → ℕ → List Bool → Bool → Mode × Given
closed lost stamp bits marker =
    if marker then (Idle, record { lost = lost; unit = Some bits })
    else (Collect stamp bits, record { lost = lost; unit = None })

-- a packet outside a run
abbrev pub starting : ℕ → Bool → Piece → Mode × Given
starting room lost p =
    if is_starter p then closed lost p.stamp (take room p.bits) p.marker
    else (Seek, record { lost = lost; unit = None })

-- a packet behind an unfinished run, which may go on with it
abbrev pub collected : ℕ → Bool → ℕ → List Bool → Piece → Mode × Given
collected room true stamp bits p = closed false stamp (take room (bits ++ p.bits)) p.marker
collected room false stamp bits p = starting room true p

abbrev pub turned : ℕ → Bool → Mode → Piece → Mode × Given
turned room joined Seek p = starting room false p
turned room joined Idle p = starting room (not (joined && is_starter p)) p
turned room joined (Collect stamp bits) p = collected room (joined && (p.stamp == stamp)) stamp bits p

abbrev pub comes_late : Option ℕ → Piece → Bool
comes_late None p = false
comes_late (Some next) p = nat_le (2 ^ 15) (distance next p)

abbrev pub follows : Option ℕ → Piece → Bool
follows None p = true
follows (Some next) p = distance next p == 0

abbrev pub moved : Piece → Mode × Given → State × Given
moved p turn = (record { next = Some (number_after p); mode = turn.0 }, turn.1)

unfoldable pub step : ℕ → State → Option Piece → State × Given
step room state None = (state, gives_nothing)
step room state (Some p) =
    if comes_late state.next p then (state, gives_nothing)
    else moved p (turned room (follows state.next p) state.mode p)

-- what is given, of which so many bits are kept
abbrev pub kept_given : ℕ → Given → Given
kept_given room g = record { lost = g.lost; unit = option_map (take room) g.unit }

-- What a packet gives at its place in the whole list is what one step gives from what is held of the packets before it,
-- and that step leaves what is held of all of them.
abbrev pub LawOfSteps : Type 0
LawOfSteps =
    (room : ℕ) (packets : List (Option Piece)) (p : Option Piece)
    → step room (state_of room packets) p
    ≡ (state_of room (packets ++ p ∷ []), kept_given room (fed (packets ++ p ∷ []) (length packets)))

-- A packet more changes nothing of what was given before it.
abbrev pub LawOfFronts : Type 0
LawOfFronts =
    (packets : List (Option Piece)) (p : Option Piece)
    → all_given (packets ++ p ∷ []) ≡ all_given packets ++ fed (packets ++ p ∷ []) (length packets) ∷ []
