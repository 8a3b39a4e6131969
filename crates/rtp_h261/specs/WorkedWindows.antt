-- What windows give out of some packets, each shown by its number alone.
use Rattle.std.specs.Prelude.{◌≡◌, ℕ, List, [], ◌∷◌, map}
use Rattle.rtp_h261.specs.Ordered.{Arrival, Queue, no_queue, joined_by, due, settled}

abbrev pub numbered : ℕ → Arrival
numbered number = record { number = number; octets = [] }

-- the numbers of those that are given out as each packet comes
abbrev pub dues : ℕ → Queue → List ℕ → List (List ℕ)
dues width q [] = []
dues width q (number ∷ numbers) =
    map (λ (p : Arrival). p.number) (due width (joined_by q (numbered number)))
    ∷ dues width (settled width (joined_by q (numbered number))) numbers

abbrev pub GivesOut : ℕ → List ℕ → List (List ℕ) → Type 0
GivesOut width numbers given = dues width no_queue numbers ≡ given

-- a packet that comes two places late, with room for two and for one
abbrev pub TwoPlacesLate : Type 0
TwoPlacesLate =
    GivesOut 2 (0 ∷ 2 ∷ 3 ∷ 1 ∷ []) ((0 ∷ []) ∷ [] ∷ [] ∷ (1 ∷ 2 ∷ 3 ∷ []) ∷ [])
    × GivesOut 1 (0 ∷ 2 ∷ 3 ∷ 1 ∷ []) ((0 ∷ []) ∷ [] ∷ (2 ∷ 3 ∷ []) ∷ [] ∷ [])

-- without room a packet is given out as it comes, or never
abbrev pub NoRoom : Type 0
NoRoom = GivesOut 0 (7 ∷ 9 ∷ 8 ∷ 9 ∷ 10 ∷ []) ((7 ∷ []) ∷ (9 ∷ []) ∷ [] ∷ [] ∷ (10 ∷ []) ∷ [])

-- round the circle the least distance counts and not the least number
abbrev pub PastTheLastNumber : Type 0
PastTheLastNumber =
    GivesOut 2 (65533 ∷ 1 ∷ 65535 ∷ 0 ∷ 65534 ∷ []) ((65533 ∷ []) ∷ [] ∷ [] ∷ (65535 ∷ 0 ∷ 1 ∷ []) ∷ [] ∷ [])
    × GivesOut 3 (65533 ∷ 1 ∷ 65535 ∷ 0 ∷ 65534 ∷ []) ((65533 ∷ []) ∷ [] ∷ [] ∷ [] ∷ (65534 ∷ 65535 ∷ 0 ∷ 1 ∷ []) ∷ [])

-- one that waits comes again, and one that was given out
abbrev pub ComesAgain : Type 0
ComesAgain = GivesOut 3 (5 ∷ 7 ∷ 7 ∷ 5 ∷ 6 ∷ []) ((5 ∷ []) ∷ [] ∷ [] ∷ [] ∷ (6 ∷ 7 ∷ []) ∷ [])

-- the number 1 is expected: 32,767 past it is early, and 32,768 past it is late
abbrev pub HalfTheCircle : Type 0
HalfTheCircle = GivesOut 1 (0 ∷ 32769 ∷ 32768 ∷ 2 ∷ []) ((0 ∷ []) ∷ [] ∷ [] ∷ (2 ∷ []) ∷ [])

-- the packets before the first that came are late, and what waits at the end is not given out
abbrev pub BothEnds : Type 0
BothEnds = GivesOut 2 (4 ∷ 3 ∷ 7 ∷ 6 ∷ []) ((4 ∷ []) ∷ [] ∷ [] ∷ [] ∷ [])

-- all of these
pub record WorkedWindows : Type 0 where
  pub late : TwoPlacesLate
  pub none : NoRoom
  pub round : PastTheLastNumber
  pub again : ComesAgain
  pub half : HalfTheCircle
  pub ends : BothEnds
