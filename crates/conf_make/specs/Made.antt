-- The made conference: what its entries say, and the octets of its file.
use Rattle.std.specs.Prelude.{ℕ, zero, suc, ◌+◌, ◌*◌, ◌%◌, ◌==◌, nat_lt, Bool, ◌&&◌, ◌||◌, if◌then◌else◌, List, [], ◌∷◌, ◌++◌, length, take, map}
use Rattle.std.specs.List.{concat}
use Rattle.byteorder.specs.Endian.{big_bytes}
use Rattle.chair_words.specs.Line.{line_saying}
use Rattle.conf_file.specs.Entries.{Content, Packet, Chair, Tick, End, P, C, T, E}
use Rattle.conf_file.specs.Header.{header_of}
use Rattle.pel_model.specs.declared.Quad.TheVariants.{One, Two, Three, Four}
use Rattle.pel_model.specs.declared.chair.Command.TheVariants.{Place, Speaker}
use Rattle.conf_make.specs.Draws.{next_state, draw}
use Rattle.conf_make.specs.Packets.{made_packet}
use Rattle.conf_make.specs.Pictures.{grey_picture, drawn_picture, behind_picture}

-- ---- a lane at a tick. Ticks are counted from 1, lanes from 0; `state` is that of the generator before the lane's first draw

-- one in fifty packets is lost, and none of the first tick
abbrev pub is_lost : (tick state : ℕ) → Bool
is_lost tick state = nat_lt 1 tick && draw (next_state state) % 50 == 0

-- the first picture is grey, and one in twenty
abbrev pub is_grey : (tick lane : ℕ) → Bool
is_grey tick lane = tick == 1 || (tick + lane) % 20 == 1

-- TR counts pictures of 29.97 Hz, of which a tick is three
abbrev pub tr_at : (tick : ℕ) → ℕ
tr_at tick = 3 * tick % 32

abbrev pub picture : (tick lane state : ℕ) → List Bool
picture tick lane state = if is_grey tick lane then grey_picture (tr_at tick) else drawn_picture (tr_at tick) state

unfoldable pub sent : (tick lane state : ℕ) → List Content
sent tick lane state =
    if is_lost tick state then [] else Packet lane (made_packet tick lane (picture tick lane (next_state state))) ∷ []

unfoldable pub behind_lane : (tick lane state : ℕ) → ℕ
behind_lane tick lane state =
    if is_lost tick state || is_grey tick lane then next_state state else behind_picture (next_state state)

-- ---- all lanes at a tick: so many of them, from this one on

abbrev pub all_sent : (count tick lane state : ℕ) → List Content
all_sent zero tick lane state = []
all_sent (suc count) tick lane state =
    sent tick lane state ++ all_sent count tick (suc lane) (behind_lane tick lane state)

abbrev pub behind_lanes : (count tick lane state : ℕ) → ℕ
behind_lanes zero tick lane state = state
behind_lanes (suc count) tick lane state = behind_lanes count tick (suc lane) (behind_lane tick lane state)

-- ---- a tick in a conference of so many lanes

-- at one in twenty-five a lane that is drawn becomes the speaker
unfoldable pub spoken : (lanes tick state : ℕ) → List Content
spoken lanes tick state =
    if tick % 25 == 0 then Chair (Speaker (draw (next_state state) % lanes)) ∷ [] else []

unfoldable pub behind_spoken : (tick state : ℕ) → ℕ
behind_spoken tick state = if tick % 25 == 0 then next_state state else state

-- what the lanes send, the speaker, and a tick of three steps
unfoldable pub tick_entries : (lanes tick state : ℕ) → List Content
tick_entries lanes tick state =
    all_sent lanes tick 0 state ++ (spoken lanes tick (behind_lanes lanes tick 0 state) ++ Tick 3 ∷ [])

unfoldable pub behind_tick : (lanes tick state : ℕ) → ℕ
behind_tick lanes tick state = behind_spoken tick (behind_lanes lanes tick 0 state)

-- so many ticks, from this one on
abbrev pub all_ticks : (count lanes tick state : ℕ) → List Content
all_ticks zero lanes tick state = []
all_ticks (suc count) lanes tick state =
    tick_entries lanes tick state ++ all_ticks count lanes (suc tick) (behind_tick lanes tick state)

-- ---- the conference

-- the first lanes stand in the places
unfoldable pub placed_lanes : (lanes : ℕ) → List Content
placed_lanes lanes = take lanes (Chair (Place One 0) ∷ Chair (Place Two 1) ∷ Chair (Place Three 2) ∷ Chair (Place Four 3) ∷ [])

abbrev pub contents : (seed ticks lanes : ℕ) → List Content
contents seed ticks lanes = placed_lanes lanes ++ (all_ticks ticks lanes 1 seed ++ End ∷ [])

-- an entry's octets
abbrev pub entry_of : Content → List ℕ
entry_of (Packet lane packet) = P ∷ lane ∷ (big_bytes 2 (length packet) ++ packet)
entry_of (Chair command) = C ∷ length (line_saying command) ∷ line_saying command
entry_of (Tick step) = T ∷ step ∷ []
entry_of End = E ∷ []

-- the header and the entries, one behind the other
abbrev pub pieces : (seed ticks lanes : ℕ) → List (List ℕ)
pieces seed ticks lanes = header_of lanes ∷ map entry_of (contents seed ticks lanes)

abbrev pub made : (seed ticks lanes : ℕ) → List ℕ
made seed ticks lanes = concat (pieces seed ticks lanes)
