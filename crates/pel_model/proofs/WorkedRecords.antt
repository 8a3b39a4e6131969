-- Worked records: pictures that have every kind of macroblock and every rule of vectors, with the bits and the elements
-- that another implementation of H.261 makes of them. The files of worked values beside this one use them.
use Rattle.std.specs.Prelude.{ℕ, ◌-◌, ◌==◌, Bool, true, false, cond, List, [], ◌∷◌, ◌++◌, replicate, Option, Some, None, ℤ, pos, negsuc, codes}
use Rattle.pel_model.specs.declared.MbKind.{MbKind}
use Rattle.pel_model.specs.declared.MbKind.TheVariants.{Intra, IntraQuant, Inter, InterQuant, Mc, McCoded, McQuant, McFil, McFilCoded, McFilQuant}
use Rattle.pel_model.specs.Records.{Across, Down, Coefficient, Block, Macroblock, Group, Picture}
use Rattle.pel_model.specs.Grammar.{Element, Psc, Tr, Ptype, Pei, Gbsc, Gn, Gquant, Gei, Mba, Mtype, Mquant, Mvd, Cbp, Dc, Tcoeff, Eob}

-- the bits that digits say; spaces stand between elements
abbrev pub digits : List ℕ → List Bool
digits [] = []
digits (c ∷ cs) = cond (c == 32) (digits cs) ((c == 49) ∷ digits cs)

-- ---- short words for records

-- a coefficient with a code, and one that is an escape
abbrev pub pair : ℕ → ℤ → Coefficient
pair run level = record { run = run; level = level; long = false }

abbrev pub escape : ℕ → ℤ → Coefficient
escape run level = record { run = run; level = level; long = true }

-- a block that is not Intra, and one that is
abbrev pub coded : List Coefficient → Option Block
coded coefficients = Some (record { dc = None; coefficients = coefficients })

abbrev pub intra : ℕ → List Coefficient → Option Block
intra dc coefficients = Some (record { dc = Some dc; coefficients = coefficients })

abbrev pub none_sent : List (Option Block)
none_sent = replicate 6 None

-- the n-th of six blocks alone
abbrev pub only : ℕ → Option Block → List (Option Block)
only n block = replicate (n - 1) None ++ block ∷ replicate (6 - n) None

abbrev pub sent : (address : ℕ) → MbKind → (mquant : Option ℕ) → (across down : ℤ) → List (Option Block) → Macroblock
sent address kind mquant across down blocks =
    record { address = address; kind = kind; mquant = mquant; across = across; down = down; blocks = blocks }

abbrev pub group_of : (number quant : ℕ) → List Macroblock → Group
group_of number quant macroblocks = record { number = number; quant = quant; macroblocks = macroblocks }

-- ---- kinds

-- all ten kinds of macroblock, with two quantisers of groups and four of macroblocks, escapes (two of them of pairs that have
-- codes), negative levels, and blocks that fill their 64 places
abbrev pub kinds : Picture
kinds = record {
  tr = 21;
  groups =
      group_of 1 8 (
      sent 1 Inter None (pos 0) (pos 0) (only 1 (coded (pair 0 (pos 1) ∷ pair 0 (negsuc 0) ∷ pair 0 (negsuc 14)
      ∷ [])))
      ∷ sent 2 InterQuant (Some 5) (pos 0) (pos 0) (only 6 (coded (pair 2 (negsuc 0) ∷ escape 0 (pos 1)
      ∷ escape 0 (negsuc 126) ∷ [])))
      ∷ sent 3 Inter None (pos 0) (pos 0) (coded (pair 0 (negsuc 0) ∷ []) ∷ coded (pair 26 (pos 1) ∷ [])
      ∷ coded (pair 0 (pos 2) ∷ pair 4 (pos 2) ∷ []) ∷ coded (escape 0 (pos 1) ∷ pair 1 (pos 7) ∷ [])
      ∷ None ∷ None ∷ [])
      ∷ sent 4 Mc None (pos 3) (pos 2) none_sent
      ∷ sent 5 McCoded None (negsuc 1) (pos 2) (only 5 (coded (pair 0 (negsuc 0) ∷ [])))
      ∷ sent 6 McQuant (Some 31) (negsuc 1) (pos 15) (only 4 (coded (pair 0 (pos 1) ∷ [])))
      ∷ sent 7 McFil None (pos 0) (pos 0) none_sent
      ∷ sent 8 McFilCoded None (negsuc 14) (pos 1) (only 3 (coded (pair 0 (pos 1) ∷ [])))
      ∷ sent 9 McFilQuant (Some 1) (pos 15) (pos 15) (only 2 (coded (pair 0 (pos 1) ∷ [])))
      ∷ sent 10 Intra None (pos 0) (pos 0) (intra 1 [] ∷ intra 127 (pair 0 (pos 1) ∷ [])
      ∷ intra 129 (pair 0 (negsuc 0) ∷ []) ∷ intra 255 (escape 62 (pos 1) ∷ [])
      ∷ intra 254 (escape 0 (pos 1) ∷ []) ∷ intra 16 (pair 0 (pos 3) ∷ pair 5 (negsuc 2) ∷ []) ∷ [])
      ∷ sent 11 IntraQuant (Some 17) (pos 0) (pos 0) (replicate 6 (intra 255 []))
      ∷ sent 12 Inter None (pos 0) (pos 0) (coded (pair 0 (pos 1) ∷ []) ∷ coded (pair 0 (pos 1) ∷ [])
      ∷ coded (pair 0 (pos 1) ∷ []) ∷ coded (pair 0 (pos 1) ∷ []) ∷ coded (pair 0 (pos 1) ∷ [])
      ∷ coded (escape 63 (negsuc 0) ∷ []) ∷ [])
      ∷ [])
      ∷ group_of 3 9 (
      sent 33 Inter None (pos 0) (pos 0) (only 1 (coded (pair 0 (pos 1) ∷ [])))
      ∷ [])
      ∷ group_of 5 31 []
      ∷ [];
}

abbrev pub kinds_bits : List Bool
kinds_bits = digits (
    codes "00000000000000010000 10101 000011 0"
    ++ codes "0000000000000001 0001 01000 0"
    ++ codes "1 1 1010 10 111 00000000101111 10"
    ++ codes "1 00001 00101 01011 01011 000001 000000 00000001 000001 000000 10000001 10"
    ++ codes "1 1 111 11 10 00000000110110 10 01000 00000011110 10 000001 000000 00000001 00000000101010 10"
    ++ codes "1 000000001 00010 0010"
    ++ codes "1 00000001 00001011 1 01001 11 10"
    ++ codes "1 0000000001 11111 1 00000011110 1101 10 10"
    ++ codes "1 001 0010 00000011011"
    ++ codes "1 01 00000011011 010 1100 10 10"
    ++ codes "1 000001 00001 0011 00000011100 1011 10 10"
    ++ codes "1 0001 00000001 10 01111111 110 10 10000001 111 10 11111111 000001 111110 00000001 10 11111110 000001 000000 00000001 10 00010000 001010 00000000100101 10"
    ++ codes "1 0000001 10001 11111111 10 11111111 10 11111111 10 11111111 10 11111111 10 11111111 10"
    ++ codes "1 1 001100 10 10 10 10 10 10 10 10 10 10 000001 111111 11111111 10"
    ++ codes "0000000000000001 0011 01001 0"
    ++ codes "00000011000 1 1010 10 10"
    ++ codes "0000000000000001 0101 11111 0")

abbrev pub kinds_elements : List Element
kinds_elements =
    Psc ∷ Tr 21 ∷ Ptype 3 ∷ Pei false
    ∷ Gbsc ∷ Gn 1 ∷ Gquant 8 ∷ Gei false
    ∷ Mba 1 ∷ Mtype Inter ∷ Cbp 32 ∷ Tcoeff (pair 0 (pos 1)) ∷ Tcoeff (pair 0 (negsuc 0))
    ∷ Tcoeff (pair 0 (negsuc 14)) ∷ Eob
    ∷ Mba 1 ∷ Mtype InterQuant ∷ Mquant 5 ∷ Cbp 1 ∷ Tcoeff (pair 2 (negsuc 0)) ∷ Tcoeff (escape 0 (pos 1))
    ∷ Tcoeff (escape 0 (negsuc 126)) ∷ Eob
    ∷ Mba 1 ∷ Mtype Inter ∷ Cbp 60 ∷ Tcoeff (pair 0 (negsuc 0)) ∷ Eob ∷ Tcoeff (pair 26 (pos 1)) ∷ Eob
    ∷ Tcoeff (pair 0 (pos 2)) ∷ Tcoeff (pair 4 (pos 2)) ∷ Eob ∷ Tcoeff (escape 0 (pos 1))
    ∷ Tcoeff (pair 1 (pos 7)) ∷ Eob
    ∷ Mba 1 ∷ Mtype Mc ∷ Mvd Across (pos 3, negsuc 28) ∷ Mvd Down (pos 2, negsuc 29)
    ∷ Mba 1 ∷ Mtype McCoded ∷ Mvd Across (negsuc 4, pos 27) ∷ Mvd Down (pos 0, pos 0) ∷ Cbp 2
    ∷ Tcoeff (pair 0 (negsuc 0)) ∷ Eob
    ∷ Mba 1 ∷ Mtype McQuant ∷ Mquant 31 ∷ Mvd Across (pos 0, pos 0) ∷ Mvd Down (pos 13, negsuc 18) ∷ Cbp 4
    ∷ Tcoeff (pair 0 (pos 1)) ∷ Eob
    ∷ Mba 1 ∷ Mtype McFil ∷ Mvd Across (pos 2, negsuc 29) ∷ Mvd Down (negsuc 14, pos 17)
    ∷ Mba 1 ∷ Mtype McFilCoded ∷ Mvd Across (negsuc 14, pos 17) ∷ Mvd Down (pos 1, pos 1) ∷ Cbp 8
    ∷ Tcoeff (pair 0 (pos 1)) ∷ Eob
    ∷ Mba 1 ∷ Mtype McFilQuant ∷ Mquant 1 ∷ Mvd Across (negsuc 1, pos 30) ∷ Mvd Down (pos 14, negsuc 17) ∷ Cbp 16
    ∷ Tcoeff (pair 0 (pos 1)) ∷ Eob
    ∷ Mba 1 ∷ Mtype Intra ∷ Dc 1 ∷ Eob ∷ Dc 127 ∷ Tcoeff (pair 0 (pos 1)) ∷ Eob ∷ Dc 129
    ∷ Tcoeff (pair 0 (negsuc 0)) ∷ Eob ∷ Dc 255 ∷ Tcoeff (escape 62 (pos 1)) ∷ Eob ∷ Dc 254
    ∷ Tcoeff (escape 0 (pos 1)) ∷ Eob ∷ Dc 16 ∷ Tcoeff (pair 0 (pos 3)) ∷ Tcoeff (pair 5 (negsuc 2)) ∷ Eob
    ∷ Mba 1 ∷ Mtype IntraQuant ∷ Mquant 17 ∷ Dc 255 ∷ Eob ∷ Dc 255 ∷ Eob ∷ Dc 255 ∷ Eob ∷ Dc 255 ∷ Eob ∷ Dc 255
    ∷ Eob ∷ Dc 255 ∷ Eob
    ∷ Mba 1 ∷ Mtype Inter ∷ Cbp 63 ∷ Tcoeff (pair 0 (pos 1)) ∷ Eob ∷ Tcoeff (pair 0 (pos 1)) ∷ Eob
    ∷ Tcoeff (pair 0 (pos 1)) ∷ Eob ∷ Tcoeff (pair 0 (pos 1)) ∷ Eob ∷ Tcoeff (pair 0 (pos 1)) ∷ Eob
    ∷ Tcoeff (escape 63 (negsuc 0)) ∷ Eob
    ∷ Gbsc ∷ Gn 3 ∷ Gquant 9 ∷ Gei false
    ∷ Mba 33 ∷ Mtype Inter ∷ Cbp 32 ∷ Tcoeff (pair 0 (pos 1)) ∷ Eob
    ∷ Gbsc ∷ Gn 5 ∷ Gquant 31 ∷ Gei false ∷ []

-- ---- vectors

-- vectors: behind a macroblock with none, at the addresses 1, 12 and 23, behind an address that is not sent, and by the
-- second value of their words
abbrev pub vectors : Picture
vectors = record {
  tr = 0;
  groups =
      group_of 1 31 []
      ∷ group_of 3 4 (
      sent 10 Mc None (pos 3) (negsuc 1) none_sent
      ∷ sent 11 Mc None (negsuc 0) (negsuc 1) none_sent
      ∷ sent 12 Mc None (pos 1) (pos 0) none_sent
      ∷ sent 13 Mc None (pos 1) (pos 0) none_sent
      ∷ sent 22 Mc None (negsuc 14) (pos 15) none_sent
      ∷ sent 23 Mc None (pos 15) (negsuc 14) none_sent
      ∷ sent 24 Mc None (negsuc 14) (pos 14) none_sent
      ∷ sent 26 Mc None (pos 2) (pos 3) none_sent
      ∷ sent 27 Inter None (pos 0) (pos 0) (only 1 (coded (pair 0 (pos 1) ∷ [])))
      ∷ sent 28 McFil None (pos 1) (pos 1) none_sent
      ∷ sent 29 McFil None (pos 1) (pos 1) none_sent
      ∷ sent 30 Intra None (pos 0) (pos 0) (replicate 6 (intra 255 []))
      ∷ sent 31 Mc None (pos 0) (negsuc 0) none_sent
      ∷ [])
      ∷ group_of 5 1 (
      sent 1 McFil None (pos 0) (negsuc 0) none_sent
      ∷ sent 2 McQuant (Some 2) (pos 0) (negsuc 0) (only 1 (coded (pair 0 (pos 1) ∷ [])))
      ∷ sent 4 Inter None (pos 0) (pos 0) (only 6 (coded (pair 0 (pos 1) ∷ [])))
      ∷ [])
      ∷ [];
}

abbrev pub vectors_bits : List Bool
vectors_bits = digits (
    codes "00000000000000010000 00000 000011 0"
    ++ codes "0000000000000001 0001 11111 0"
    ++ codes "0000000000000001 0011 00100 0"
    ++ codes "00001011 000000001 00010 0011"
    ++ codes "1 000000001 0000111 1"
    ++ codes "1 000000001 010 1"
    ++ codes "1 000000001 1 1"
    ++ codes "0000110 000000001 00000011011 00000011010"
    ++ codes "1 000000001 00000011010 00000011011"
    ++ codes "1 000000001 0010 00011"
    ++ codes "011 000000001 0010 00010"
    ++ codes "1 1 1010 10 10"
    ++ codes "1 001 010 010"
    ++ codes "1 001 1 1"
    ++ codes "1 0001 11111111 10 11111111 10 11111111 10 11111111 10 11111111 10 11111111 10"
    ++ codes "1 000000001 1 011"
    ++ codes "0000000000000001 0101 00001 0"
    ++ codes "1 001 1 011"
    ++ codes "1 0000000001 00010 1 1 1010 10 10"
    ++ codes "011 1 01011 10 10")

abbrev pub vectors_elements : List Element
vectors_elements =
    Psc ∷ Tr 0 ∷ Ptype 3 ∷ Pei false
    ∷ Gbsc ∷ Gn 1 ∷ Gquant 31 ∷ Gei false
    ∷ Gbsc ∷ Gn 3 ∷ Gquant 4 ∷ Gei false
    ∷ Mba 10 ∷ Mtype Mc ∷ Mvd Across (pos 3, negsuc 28) ∷ Mvd Down (negsuc 1, pos 30)
    ∷ Mba 1 ∷ Mtype Mc ∷ Mvd Across (negsuc 3, pos 28) ∷ Mvd Down (pos 0, pos 0)
    ∷ Mba 1 ∷ Mtype Mc ∷ Mvd Across (pos 1, pos 1) ∷ Mvd Down (pos 0, pos 0)
    ∷ Mba 1 ∷ Mtype Mc ∷ Mvd Across (pos 0, pos 0) ∷ Mvd Down (pos 0, pos 0)
    ∷ Mba 9 ∷ Mtype Mc ∷ Mvd Across (negsuc 14, pos 17) ∷ Mvd Down (pos 15, negsuc 16)
    ∷ Mba 1 ∷ Mtype Mc ∷ Mvd Across (pos 15, negsuc 16) ∷ Mvd Down (negsuc 14, pos 17)
    ∷ Mba 1 ∷ Mtype Mc ∷ Mvd Across (pos 2, negsuc 29) ∷ Mvd Down (negsuc 2, pos 29)
    ∷ Mba 2 ∷ Mtype Mc ∷ Mvd Across (pos 2, negsuc 29) ∷ Mvd Down (pos 3, negsuc 28)
    ∷ Mba 1 ∷ Mtype Inter ∷ Cbp 32 ∷ Tcoeff (pair 0 (pos 1)) ∷ Eob
    ∷ Mba 1 ∷ Mtype McFil ∷ Mvd Across (pos 1, pos 1) ∷ Mvd Down (pos 1, pos 1)
    ∷ Mba 1 ∷ Mtype McFil ∷ Mvd Across (pos 0, pos 0) ∷ Mvd Down (pos 0, pos 0)
    ∷ Mba 1 ∷ Mtype Intra ∷ Dc 255 ∷ Eob ∷ Dc 255 ∷ Eob ∷ Dc 255 ∷ Eob ∷ Dc 255 ∷ Eob ∷ Dc 255 ∷ Eob ∷ Dc 255 ∷ Eob
    ∷ Mba 1 ∷ Mtype Mc ∷ Mvd Across (pos 0, pos 0) ∷ Mvd Down (negsuc 0, negsuc 0)
    ∷ Gbsc ∷ Gn 5 ∷ Gquant 1 ∷ Gei false
    ∷ Mba 1 ∷ Mtype McFil ∷ Mvd Across (pos 0, pos 0) ∷ Mvd Down (negsuc 0, negsuc 0)
    ∷ Mba 1 ∷ Mtype McQuant ∷ Mquant 2 ∷ Mvd Across (pos 0, pos 0) ∷ Mvd Down (pos 0, pos 0) ∷ Cbp 32
    ∷ Tcoeff (pair 0 (pos 1)) ∷ Eob
    ∷ Mba 2 ∷ Mtype Inter ∷ Cbp 1 ∷ Tcoeff (pair 0 (pos 1)) ∷ Eob ∷ []

-- ---- wide

-- a CIF picture, with vectors over the edges of groups and up to the edges of the picture
abbrev pub wide : Picture
wide = record {
  tr = 31;
  groups =
      group_of 1 8 (
      sent 11 McCoded None (pos 15) (pos 0) (only 1 (coded (pair 0 (pos 1) ∷ escape 3 (negsuc 4)
      ∷ escape 0 (pos 127) ∷ [])))
      ∷ sent 12 InterQuant (Some 3) (pos 0) (pos 0) (None ∷ None ∷ None ∷ coded (pair 0 (negsuc 0) ∷ [])
      ∷ coded (pair 0 (pos 1) ∷ []) ∷ None ∷ [])
      ∷ [])
      ∷ group_of 2 9 (
      sent 1 McFilQuant (Some 30) (negsuc 14) (pos 15) (only 6 (coded (pair 10 (pos 2) ∷ [])))
      ∷ sent 2 McFil None (negsuc 14) (pos 15) none_sent
      ∷ sent 13 Intra None (pos 0) (pos 0) (intra 255 [] ∷ intra 7 (pair 0 (negsuc 1) ∷ []) ∷ intra 255 []
      ∷ intra 255 [] ∷ intra 255 [] ∷ intra 255 [] ∷ [])
      ∷ [])
      ∷ group_of 3 1 []
      ∷ group_of 4 1 []
      ∷ group_of 5 1 []
      ∷ group_of 6 1 []
      ∷ group_of 7 1 []
      ∷ group_of 8 10 (
      sent 33 IntraQuant (Some 12) (pos 0) (pos 0) (replicate 6 (intra 255 []))
      ∷ [])
      ∷ group_of 9 31 (
      sent 23 Mc None (pos 0) (pos 15) none_sent
      ∷ [])
      ∷ group_of 10 1 []
      ∷ group_of 11 1 []
      ∷ group_of 12 1 (
      sent 32 Inter None (pos 0) (pos 0) (only 2 (coded (pair 0 (pos 1) ∷ [])))
      ∷ sent 33 McCoded None (negsuc 0) (negsuc 14) (only 5 (coded (pair 3 (pos 1) ∷ [])))
      ∷ [])
      ∷ [];
}

abbrev pub wide_bits : List Bool
wide_bits = digits (
    codes "00000000000000010000 11111 000111 0"
    ++ codes "0000000000000001 0001 01000 0"
    ++ codes "00001010 00000001 00000011010 1 1010 10 000001 000011 11111011 000001 000000 01111111 10"
    ++ codes "1 00001 00011 0010011 11 10 10 10"
    ++ codes "0000000000000001 0010 01001 0"
    ++ codes "1 000001 11110 00000011011 00000011010 01011 00000000100000 10"
    ++ codes "1 001 1 1"
    ++ codes "00001010 0001 11111111 10 00000111 01001 10 11111111 10 11111111 10 11111111 10 11111111 10"
    ++ codes "0000000000000001 0011 00001 0"
    ++ codes "0000000000000001 0100 00001 0"
    ++ codes "0000000000000001 0101 00001 0"
    ++ codes "0000000000000001 0110 00001 0"
    ++ codes "0000000000000001 0111 00001 0"
    ++ codes "0000000000000001 1000 01010 0"
    ++ codes "00000011000 0000001 01100 11111111 10 11111111 10 11111111 10 11111111 10 11111111 10 11111111 10"
    ++ codes "0000000000000001 1001 11111 0"
    ++ codes "00000100010 000000001 1 00000011010"
    ++ codes "0000000000000001 1010 00001 0"
    ++ codes "0000000000000001 1011 00001 0"
    ++ codes "0000000000000001 1100 00001 0"
    ++ codes "00000011001 1 1011 10 10"
    ++ codes "1 00000001 011 00000011011 01001 001110 10")

abbrev pub wide_elements : List Element
wide_elements =
    Psc ∷ Tr 31 ∷ Ptype 7 ∷ Pei false
    ∷ Gbsc ∷ Gn 1 ∷ Gquant 8 ∷ Gei false
    ∷ Mba 11 ∷ Mtype McCoded ∷ Mvd Across (pos 15, negsuc 16) ∷ Mvd Down (pos 0, pos 0) ∷ Cbp 32
    ∷ Tcoeff (pair 0 (pos 1)) ∷ Tcoeff (escape 3 (negsuc 4)) ∷ Tcoeff (escape 0 (pos 127)) ∷ Eob
    ∷ Mba 1 ∷ Mtype InterQuant ∷ Mquant 3 ∷ Cbp 6 ∷ Tcoeff (pair 0 (negsuc 0)) ∷ Eob ∷ Tcoeff (pair 0 (pos 1)) ∷ Eob
    ∷ Gbsc ∷ Gn 2 ∷ Gquant 9 ∷ Gei false
    ∷ Mba 1 ∷ Mtype McFilQuant ∷ Mquant 30 ∷ Mvd Across (negsuc 14, pos 17) ∷ Mvd Down (pos 15, negsuc 16)
    ∷ Cbp 1 ∷ Tcoeff (pair 10 (pos 2)) ∷ Eob
    ∷ Mba 1 ∷ Mtype McFil ∷ Mvd Across (pos 0, pos 0) ∷ Mvd Down (pos 0, pos 0)
    ∷ Mba 11 ∷ Mtype Intra ∷ Dc 255 ∷ Eob ∷ Dc 7 ∷ Tcoeff (pair 0 (negsuc 1)) ∷ Eob ∷ Dc 255 ∷ Eob ∷ Dc 255 ∷ Eob
    ∷ Dc 255 ∷ Eob ∷ Dc 255 ∷ Eob
    ∷ Gbsc ∷ Gn 3 ∷ Gquant 1 ∷ Gei false
    ∷ Gbsc ∷ Gn 4 ∷ Gquant 1 ∷ Gei false
    ∷ Gbsc ∷ Gn 5 ∷ Gquant 1 ∷ Gei false
    ∷ Gbsc ∷ Gn 6 ∷ Gquant 1 ∷ Gei false
    ∷ Gbsc ∷ Gn 7 ∷ Gquant 1 ∷ Gei false
    ∷ Gbsc ∷ Gn 8 ∷ Gquant 10 ∷ Gei false
    ∷ Mba 33 ∷ Mtype IntraQuant ∷ Mquant 12 ∷ Dc 255 ∷ Eob ∷ Dc 255 ∷ Eob ∷ Dc 255 ∷ Eob ∷ Dc 255 ∷ Eob ∷ Dc 255
    ∷ Eob ∷ Dc 255 ∷ Eob
    ∷ Gbsc ∷ Gn 9 ∷ Gquant 31 ∷ Gei false
    ∷ Mba 23 ∷ Mtype Mc ∷ Mvd Across (pos 0, pos 0) ∷ Mvd Down (pos 15, negsuc 16)
    ∷ Gbsc ∷ Gn 10 ∷ Gquant 1 ∷ Gei false
    ∷ Gbsc ∷ Gn 11 ∷ Gquant 1 ∷ Gei false
    ∷ Gbsc ∷ Gn 12 ∷ Gquant 1 ∷ Gei false
    ∷ Mba 32 ∷ Mtype Inter ∷ Cbp 16 ∷ Tcoeff (pair 0 (pos 1)) ∷ Eob
    ∷ Mba 1 ∷ Mtype McCoded ∷ Mvd Across (negsuc 0, negsuc 0) ∷ Mvd Down (negsuc 14, pos 17) ∷ Cbp 2
    ∷ Tcoeff (pair 3 (pos 1)) ∷ Eob ∷ []
