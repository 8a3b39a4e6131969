-- What is told of a conference file: the lines of its entries, which are told of its history step by step. Entries and
-- steps stand newest first here, and lines in the order in which they are written.
use Rattle.std.specs.Prelude.{◌≡◌, ℕ, ◌+◌, ◌==◌, if◌then◌else◌, Option, None, Some, List, [], ◌∷◌, ◌++◌, length, map, take}
use Rattle.bridge_replay.specs.declared.idle.Idle.{Idle}
use Rattle.bridge_replay.specs.declared.idle.Idle.TheVariants.{Unusable, Repeated, Late}
use Rattle.bridge_replay.specs.FileHistory.{oldest_first, packets_in, AfterEntry}
use Rattle.bridge_replay.specs.Lines.{idle_line, lines_of_events, command_line, tick_line, end_line}
use Rattle.conf_file.specs.Entries.{Content, Packet, Chair, Tick, End}
use Rattle.conf_file.specs.File.{HasRead}
use Rattle.pel_model.specs.declared.Format.TheVariants.{Qcif}
use Rattle.pel_model.specs.declared.note.TickNote.{TickNote}
use Rattle.pel_model.specs.History.{History, Tick as Ticked, arrivals, commands}
use Rattle.pel_model.specs.Plan.{answer}
use Rattle.rtp_h261.specs.Depack.{given_behind}
use Rattle.rtp_h261.specs.Events.{Event, Happens}
use Rattle.rtp_h261.specs.OneByOne.{last_member}
use Rattle.rtp_h261.specs.Packets.{piece_of}
use Rattle.rtp_h261.specs.Units.{Piece, is_late}

-- A packet that does not count, where `last` is the one that counted last in its lane: it is not usable, or it comes late
-- (RFC 3550, 5.1, of sequence numbers), and then it is a repeated one where it has the number of that one.
abbrev pub idle_behind : (last packet : Option Piece) → Option Idle
idle_behind last None = Some Unusable
idle_behind None (Some p) = None
idle_behind (Some last) (Some p) =
    if is_late last p then Some (if p.number == last.number then Repeated else Late) else None

-- why a packet gives nothing behind these of its lane, where it does not count
abbrev pub why_idle : List (List ℕ) → List ℕ → Option Idle
why_idle packets packet = idle_behind (last_member None (map piece_of packets)) (piece_of packet)

abbrev pub idle_lines : (place lane : ℕ) → Option Idle → List (List ℕ)
idle_lines place lane None = []
idle_lines place lane (Some idle) = idle_line place lane idle ∷ []

-- the lines of an entry at this place, where those entries and this history stand before it, and that history after it
abbrev pub AreEntryLines : (lanes place : ℕ) → List Content → Content → (before after : History) → List (List ℕ) → Type 0
-- a packet that does not count, or what happens at the packet
AreEntryLines lanes place entries (Packet lane packet) before after lines =
    (events : List Event) × Happens Qcif (given_behind (packets_in entries lane) packet) events
    × (lines ≡ idle_lines place lane (why_idle (packets_in entries lane) packet)
    ++ lines_of_events place lane (length (arrivals before lane) + 1) events)
AreEntryLines lanes place entries (Chair command) before after lines =
    lines ≡ command_line place command (answer lanes (commands before) command) ∷ []
AreEntryLines lanes place entries (Tick step) before after lines =
    (note : TickNote) × (after ≡ Ticked note ∷ before) × (lines ≡ tick_line place note ∷ [])
AreEntryLines lanes place entries End before after lines = lines ≡ end_line place ∷ []

-- in these octets so many stand before what follows the header and the entries
abbrev pub StandsBehind : (octets : List ℕ) → (lanes : ℕ) → List Content → (place : ℕ) → Type 0
StandsBehind octets lanes entries place = HasRead (take place octets) lanes (oldest_first entries) place []

-- the lines of the entries of these octets, whose history this is
abbrev pub AreLinesOf : (octets : List ℕ) → (lanes : ℕ) → List Content → History → List (List ℕ) → Type 0
AreLinesOf octets lanes [] history lines = (history ≡ []) × (lines ≡ [])
AreLinesOf octets lanes (e ∷ entries) history lines =
    (before : History) × (former : List (List ℕ)) × AreLinesOf octets lanes entries before former
    × AfterEntry lanes entries e before history
    × (place : ℕ) × StandsBehind octets lanes entries place
    × (here : List (List ℕ)) × AreEntryLines lanes place entries e before history here × (lines ≡ former ++ here)

-- one list of lines at most is told of entries
abbrev pub LawOfOneAccount : Type 0
LawOfOneAccount =
    (octets : List ℕ) (lanes : ℕ) (entries : List Content) (history : History) (x y : List (List ℕ))
    → AreLinesOf octets lanes entries history x → AreLinesOf octets lanes entries history y → x ≡ y
