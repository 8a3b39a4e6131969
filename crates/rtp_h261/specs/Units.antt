-- Units from packets: which packets belong together, what each of them gives, and where packets were lost. A stream's
-- packets come by unreliable transport: some are lost, repeated or late (RFC 3550, 5.1, of sequence numbers). A picture is
-- sent in packets of one timestamp with numbers that follow one another, the marker bit set on its last (RFC 4587, 4.1).
-- Everything is said of the whole list of packets.
use Rattle.std.specs.Prelude.{ℕ, zero, suc, ◌+◌, ◌-◌, ◌%◌, ◌^◌, ◌==◌, nat_le, Bool, false, not, ◌&&◌}
use Rattle.std.specs.Prelude.{if◌then◌else◌, List, [], ◌∷◌, ◌++◌, length, take, slice_index_or, Option, None, Some}
use Rattle.pel_bits.specs.Bits.{number}

-- what a usable packet brings
pub record Piece : Type 0 where
  pub number : ℕ
  pub stamp : ℕ
  pub marker : Bool
  pub bits : List Bool

-- ---- which packets count

-- the sequence number behind a packet's
abbrev pub number_after : Piece → ℕ
number_after p = (p.number + 1) % 2 ^ 16

-- how far a number is past an expected one, round the circle of sequence numbers
abbrev pub ahead : ℕ → ℕ → ℕ
ahead expected number = (number + 2 ^ 16 - expected) % 2 ^ 16

abbrev pub distance : ℕ → Piece → ℕ
distance expected p = ahead expected p.number

-- late or repeated: half the circle or more past the number behind that of `last`
abbrev pub is_late : Piece → Piece → Bool
is_late last p = nat_le (2 ^ 15) (distance (number_after last) p)

-- the very next one
abbrev pub is_joined : Piece → Piece → Bool
is_joined last p = distance (number_after last) p == 0

-- a packet, where it is usable and not late
abbrev pub member : Option Piece → Option Piece → Option Piece
member last None = None
member None (Some p) = Some p
member (Some last) (Some p) = if is_late last p then None else Some p

-- the last member behind one more packet
abbrev pub later : Option Piece → Option Piece → Option Piece
later last None = last
later last (Some p) = Some p

-- the packets that count, each in its place, where `last` is the one before them
abbrev pub members : Option Piece → List (Option Piece) → List (Option Piece)
members last [] = []
members last (p ∷ ps) = member last p ∷ members (later last (member last p)) ps

abbrev pub present_pieces : List (Option Piece) → List Piece
present_pieces [] = []
present_pieces (None ∷ ps) = present_pieces ps
present_pieces (Some p ∷ ps) = p ∷ present_pieces ps

-- ---- runs

-- A packet that begins a picture: its bits begin with the picture start code (H.261, 4.2.1.1), 20 bits that spell 16.
abbrev pub is_starter : Piece → Bool
is_starter p = nat_le 20 (length p.bits) && number (take 20 p.bits) == 16

-- Behind `last`, in a run with this timestamp, a packet goes on with it: the run is not at its marker, and the packet is
-- the very next one and has the timestamp.
abbrev pub goes_on : ℕ → Piece → Piece → Bool
goes_on stamp last p = not last.marker && (is_joined last p && p.stamp == stamp)

-- the longest list of packets that go on with a run
abbrev pub run_behind : ℕ → Piece → List Piece → List Piece
run_behind stamp last [] = []
run_behind stamp last (p ∷ ps) = if goes_on stamp last p then p ∷ run_behind stamp p ps else []

-- a packet that is in no run, or a run: its starter and the packets behind it
pub data Part : Type 0 where
  Skipped : Piece → Part
  Run : Piece → List Piece → Part

abbrev pub part_at : Piece → List Piece → Part
part_at p ps = if is_starter p then Run p (run_behind p.stamp p ps) else Skipped p

-- how many packets a part has behind its first
abbrev pub more : Part → ℕ
more (Skipped p) = 0
more (Run p ps) = length ps

-- The packets cut into parts from their front, where so many of them belong to a part that was cut already.
abbrev pub cut_parts : ℕ → List Piece → List Part
cut_parts inside [] = []
cut_parts (suc inside) (p ∷ ps) = cut_parts inside ps
cut_parts zero (p ∷ ps) = part_at p ps ∷ cut_parts (more (part_at p ps)) ps

abbrev pub last_piece : Piece → List Piece → Piece
last_piece p [] = p
last_piece p (q ∷ qs) = last_piece q qs

-- a run is complete where its last packet has the marker
abbrev pub is_complete : Piece → List Piece → Bool
is_complete p ps = (last_piece p ps).marker

abbrev pub bits_of : Piece → List Piece → List Bool
bits_of p [] = p.bits
bits_of p (q ∷ qs) = p.bits ++ bits_of q qs

abbrev pub first_of : Part → Piece
first_of (Skipped p) = p
first_of (Run p ps) = p

-- ---- what packets give

-- what a packet gives: whether a loss is seen at it, and the bits of the unit that ends with it
pub record Given : Type 0 where
  pub lost : Bool
  pub unit : Option (List Bool)

abbrev pub gives_nothing : Given
gives_nothing = record { lost = false; unit = None }

-- A loss is seen at the first packet behind a run, but not where the run is complete and the very next packet begins
-- another.
abbrev pub loses : Option Part → Piece → Bool
loses None p = false
loses (Some (Skipped q)) p = false
loses (Some (Run s ps)) p = not (is_complete s ps && (is_joined (last_piece s ps) p && is_starter p))

-- the unit that a run is
abbrev pub unit_of : Piece → List Piece → Option (List Bool)
unit_of s ps = if is_complete s ps then Some (bits_of s ps) else None

-- a loss at the first packet, and the unit at the last
abbrev pub run_gives : Bool → Option (List Bool) → List Piece → List Given
run_gives lost unit [] = record { lost = lost; unit = unit } ∷ []
run_gives lost unit (_ ∷ ps) = record { lost = lost; unit = None } ∷ run_gives false unit ps

abbrev pub part_gives : Bool → Part → List Given
part_gives lost (Skipped p) = record { lost = lost; unit = None } ∷ []
part_gives lost (Run s ps) = run_gives lost (unit_of s ps) ps

-- what the packets of parts give, where this part is the one before them
abbrev pub parts_give : Option Part → List Part → List Given
parts_give before [] = []
parts_give before (x ∷ xs) = part_gives (loses before (first_of x)) x ++ parts_give (Some x) xs

-- what is given in the places of members, and nothing in the others
abbrev pub spread : List (Option Piece) → List Given → List Given
spread [] gs = []
spread (None ∷ ms) gs = gives_nothing ∷ spread ms gs
spread (Some _ ∷ ms) [] = gives_nothing ∷ spread ms []
spread (Some _ ∷ ms) (g ∷ gs) = g ∷ spread ms gs

-- the packets that count, cut into parts
abbrev pub parts_of : List (Option Piece) → List Part
parts_of packets = cut_parts 0 (present_pieces (members None packets))

-- what each packet gives
unfoldable pub all_given : List (Option Piece) → List Given
all_given packets = spread (members None packets) (parts_give None (parts_of packets))

-- what packet i gives, from 0 on
abbrev pub fed : List (Option Piece) → ℕ → Given
fed packets i = slice_index_or (all_given packets) i gives_nothing
