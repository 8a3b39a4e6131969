-- What some lists of packets give. `opens` is a packet whose bits begin a picture, and `goes` one whose bits do not.
use Rattle.std.specs.Prelude.{◌≡◌, ℕ, Bool, true, false, List, [], ◌∷◌, ◌++◌, Option, None, Some}
use Rattle.rtp_h261.specs.Units.{Piece, Given, gives_nothing, all_given}

-- a picture start code (H.261, 4.2.1.1), and its bits with one more
abbrev pub start_code : List Bool
start_code =
    false ∷ false ∷ false ∷ false ∷ false ∷ false ∷ false ∷ false ∷ false ∷ false ∷ false ∷ false ∷ false ∷ false
    ∷ false ∷ true ∷ false ∷ false ∷ false ∷ false ∷ []

abbrev pub opened : List Bool
opened = start_code ++ true ∷ []

abbrev pub piece : ℕ → ℕ → Bool → List Bool → Option Piece
piece number stamp marker bits = Some (record { number = number; stamp = stamp; marker = marker; bits = bits })

abbrev pub opens : ℕ → ℕ → Bool → Option Piece
opens number stamp marker = piece number stamp marker opened

abbrev pub goes : ℕ → ℕ → Bool → Option Piece
goes number stamp marker = piece number stamp marker (false ∷ true ∷ [])

abbrev pub unit : List Bool → Given
unit bits = record { lost = false; unit = Some bits }

abbrev pub loss : Given
loss = record { lost = true; unit = None }

abbrev pub loss_and_unit : List Bool → Given
loss_and_unit bits = record { lost = true; unit = Some bits }

-- two packets of one picture, the first of another, then the second is missing and two pictures of one packet come
abbrev pub LostMiddlePacket : Type 0
LostMiddlePacket =
    all_given (opens 0 10 false ∷ goes 1 10 true ∷ opens 2 20 false ∷ opens 4 30 true ∷ opens 5 40 true ∷ [])
    ≡ gives_nothing ∷ unit (opened ++ false ∷ true ∷ []) ∷ gives_nothing ∷ loss_and_unit opened ∷ unit opened ∷ []

-- packets that come again
abbrev pub RepeatedPackets : Type 0
RepeatedPackets =
    all_given (opens 0 10 true ∷ opens 0 10 true ∷ opens 1 20 true ∷ opens 0 10 true ∷ [])
    ≡ unit opened ∷ gives_nothing ∷ unit opened ∷ gives_nothing ∷ []

-- numbers go on from 65,535 to 0, in a picture and between two
abbrev pub NumbersPastTheLast : Type 0
NumbersPastTheLast =
    all_given (opens 65534 10 true ∷ opens 65535 20 false ∷ goes 0 20 true ∷ opens 1 30 true ∷ [])
    ≡ unit opened ∷ gives_nothing ∷ unit (opened ++ false ∷ true ∷ []) ∷ unit opened ∷ []

-- behind number 0 the number 1 is expected: 32,767 past it is far ahead, and a loss; 32,768 past it is late
abbrev pub LatePackets : Type 0
LatePackets =
    (all_given (opens 0 10 true ∷ opens 32768 20 true ∷ []) ≡ unit opened ∷ loss_and_unit opened ∷ [])
    × (all_given (opens 0 10 true ∷ opens 32769 20 true ∷ opens 1 30 true ∷ [])
    ≡ unit opened ∷ gives_nothing ∷ unit opened ∷ [])

-- a packet with another timestamp ends a run that is not at its marker, and so does one that begins a picture: the bits
-- of the run are no unit, and the packet begins the next one where it can
abbrev pub StampsInARun : Type 0
StampsInARun =
    (all_given (opens 0 10 false ∷ opens 1 20 true ∷ []) ≡ gives_nothing ∷ loss_and_unit opened ∷ [])
    × (all_given (opens 0 10 false ∷ goes 1 20 true ∷ opens 2 20 true ∷ []) ≡ gives_nothing ∷ loss ∷ unit opened ∷ [])
    × (all_given (opens 0 10 false ∷ opens 1 10 true ∷ []) ≡ gives_nothing ∷ unit (opened ++ opened) ∷ [])

-- a packet outside a run that begins no picture gives nothing at first, and a loss behind a picture
abbrev pub MarkerWithoutAStart : Type 0
MarkerWithoutAStart =
    (all_given (goes 7 10 true ∷ goes 9 10 true ∷ opens 12 20 true ∷ []) ≡ gives_nothing ∷ gives_nothing ∷ unit opened ∷ [])
    × (all_given (opens 0 10 true ∷ goes 1 20 true ∷ goes 2 20 true ∷ opens 3 30 true ∷ [])
    ≡ unit opened ∷ loss ∷ gives_nothing ∷ unit opened ∷ [])
    × (all_given (piece 0 10 true [] ∷ piece 1 10 true start_code ∷ piece 2 10 true [] ∷ [])
    ≡ gives_nothing ∷ unit start_code ∷ loss ∷ [])

-- packets that are no packets change nothing, in a run and between two, and a loss is told once
abbrev pub PlacesOfALoss : Type 0
PlacesOfALoss =
    (all_given (opens 0 10 false ∷ None ∷ goes 1 10 true ∷ None ∷ opens 2 20 true ∷ [])
    ≡ gives_nothing ∷ gives_nothing ∷ unit (opened ++ false ∷ true ∷ []) ∷ gives_nothing ∷ unit opened ∷ [])
    × (all_given (opens 0 10 true ∷ goes 2 20 false ∷ goes 4 20 false ∷ goes 6 20 true ∷ opens 7 30 true ∷ [])
    ≡ unit opened ∷ loss ∷ gives_nothing ∷ gives_nothing ∷ unit opened ∷ [])
    × (all_given (opens 0 10 false ∷ goes 2 10 false ∷ goes 3 10 true ∷ opens 4 30 true ∷ [])
    ≡ gives_nothing ∷ loss ∷ gives_nothing ∷ unit opened ∷ [])

-- all of these
pub record WorkedPackets : Type 0 where
  pub lost : LostMiddlePacket
  pub repeated : RepeatedPackets
  pub turn : NumbersPastTheLast
  pub late : LatePackets
  pub stamps : StampsInARun
  pub marker : MarkerWithoutAStart
  pub places : PlacesOfALoss
