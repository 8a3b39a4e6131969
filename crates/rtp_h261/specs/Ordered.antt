-- The packets of a stream in order. Networks swap packets, and their sequence numbers tell the order in which they were sent
-- (RFC 3550, 5.1). A packet that comes before its turn waits for those before it, as long as no more than a width wait.
use Rattle.std.specs.Prelude.{ℕ, ◌+◌, ◌%◌, ◌^◌, ◌==◌, nat_le, nat_lt, Bool, false, ◌||◌, if◌then◌else◌}
use Rattle.std.specs.Prelude.{List, [], ◌∷◌, ◌++◌, length, map, insert, Option, None, Some, option_map}
use Rattle.std.specs.List.{list_any, position_or_len}
use Rattle.std.specs.Option.{unwrap_or}
use Rattle.rtp_h261.specs.Packets.{piece_of}
use Rattle.rtp_h261.specs.Units.{Piece, ahead}

-- a usable packet: its sequence number and its octets
pub record Arrival : Type 0 where
  pub number : ℕ
  pub octets : List ℕ

-- octets, where they are a usable packet
abbrev pub arrival_of : List ℕ → Option Arrival
arrival_of octets = option_map (λ (p : Piece). record { number = p.number; octets = octets }) (piece_of octets)

abbrev pub with_usable : Option Arrival → List Arrival → List Arrival
with_usable None packets = packets
with_usable (Some p) packets = p ∷ packets

-- the usable ones of some packets
abbrev pub usable_of : List (List ℕ) → List Arrival
usable_of [] = []
usable_of (octets ∷ packets) = with_usable (arrival_of octets) (usable_of packets)

-- the number that is expected, once a packet came, and the packets that wait, the nearest to it first
pub record Queue : Type 0 where
  pub next : Option ℕ
  pub waiting : List Arrival

abbrev pub no_queue : Queue
no_queue = record { next = None; waiting = [] }

-- ---- a packet comes

-- at first the number of the first packet is expected
abbrev pub expected_at : Option ℕ → Arrival → ℕ
expected_at next p = unwrap_or next p.number

-- half the circle of numbers or more past the expected one, or of the number of one that waits
abbrev pub is_stale : ℕ → List Arrival → ℕ → Bool
is_stale expected waiting number =
    nat_le (2 ^ 15) (ahead expected number) || list_any (λ (q : Arrival). q.number == number) waiting

-- farther past the expected number than another
abbrev pub is_farther : ℕ → ℕ → Arrival → Bool
is_farther expected number q = nat_lt (ahead expected number) (ahead expected q.number)

-- a packet waits before the first that is farther
abbrev pub with_waiting : ℕ → List Arrival → Arrival → List Arrival
with_waiting expected waiting p = insert waiting (position_or_len (is_farther expected p.number) waiting) p

-- behind a packet that came: a stale one gives nothing, and any other begins to wait
abbrev pub joined_by : Queue → Arrival → Queue
joined_by q p = record {
  next = Some (expected_at q.next p);
  waiting =
      if is_stale (expected_at q.next p) q.waiting p.number then q.waiting
      else with_waiting (expected_at q.next p) q.waiting p;
}

-- ---- packets are given out

abbrev pub is_expected : Option ℕ → ℕ → Bool
is_expected None number = false
is_expected (Some expected) number = number == expected

-- the nearest is given out where it is the expected one, or more wait than the width
abbrev pub goes_out : ℕ → Option ℕ → List Arrival → Bool
goes_out width next [] = false
goes_out width next (p ∷ ps) = is_expected next p.number || nat_lt width (length (p ∷ ps))

-- the number behind it is then expected
abbrev pub number_behind : Arrival → ℕ
number_behind p = (p.number + 1) % 2 ^ 16

-- those of the packets that wait that are given out, one after the other
abbrev pub let_out : ℕ → Option ℕ → List Arrival → List Arrival
let_out width next [] = []
let_out width next (p ∷ ps) =
    if goes_out width next (p ∷ ps) then p ∷ let_out width (Some (number_behind p)) ps else []

-- and what is left
abbrev pub kept_back : ℕ → Option ℕ → List Arrival → Queue
kept_back width next [] = record { next = next; waiting = [] }
kept_back width next (p ∷ ps) =
    if goes_out width next (p ∷ ps) then kept_back width (Some (number_behind p)) ps
    else record { next = next; waiting = p ∷ ps }

abbrev pub due : ℕ → Queue → List Arrival
due width q = let_out width q.next q.waiting

abbrev pub settled : ℕ → Queue → Queue
settled width q = kept_back width q.next q.waiting

-- ---- packets come, one after the other

-- what waits behind them
abbrev pub queue_behind : ℕ → Queue → List Arrival → Queue
queue_behind width q [] = q
queue_behind width q (p ∷ ps) = queue_behind width (settled width (joined_by q p)) ps

-- what is given out as they come
abbrev pub given_out : ℕ → Queue → List Arrival → List Arrival
given_out width q [] = []
given_out width q (p ∷ ps) = due width (joined_by q p) ++ given_out width (settled width (joined_by q p)) ps

abbrev pub octets_in : List Arrival → List (List ℕ)
octets_in packets = map (λ (p : Arrival). p.octets) packets

-- The packets of a stream that are fed, in their order, where no more than `width` wait.
unfoldable pub in_order : ℕ → List (List ℕ) → List (List ℕ)
in_order width packets = octets_in (given_out width no_queue (usable_of packets))
