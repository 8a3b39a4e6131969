-- Worked values of the grammar's rules: for each rule pictures that are read otherwise without it. The answers were computed
-- by another implementation of H.261.
use Rattle.std.specs.Prelude.{◌≡◌, ℕ, zero, suc, Bool, true, false, cond, List, [], ◌∷◌, ◌++◌, map, length, reverse, take, codes, refl, ℤ, pos, negsuc}
use Rattle.pel_model.specs.declared.Format.{Format}
use Rattle.pel_model.specs.declared.Format.TheVariants.{Qcif, Cif}
use Rattle.pel_model.specs.declared.MbKind.TheVariants.{Intra, McFilQuant}
use Rattle.pel_model.specs.declared.Why.TheVariants.{BadAddress, BadDc, BadGroup, BadLevel, BadQuant, BadVector, Cut, NoCode, NoStart, StillImage, TooMany, VectorOutside, WrongFormat, TooLong}
use Rattle.pel_model.specs.Bits.{field, number}
use Rattle.pel_model.specs.Codes.{mba_table, mtype_table, mvd_table, cbp_table, tcoeff_table}
use Rattle.pel_model.specs.Records.{Across, Down}
use Rattle.pel_model.specs.Walk.{Standing, Good, Stop, Bad, skipped, start}
use Rattle.pel_model.specs.Grammar.{Element, Psc, Tr, Ptype, Pei, Pspare, Gbsc, Gn, Gquant, Gei, Gspare, Stuffing, Mba, Mtype, Mquant, Mvd, Cbp, Dc, Tcoeff, Eob, slot, may_end, begun, group, address, quantiser, vector_component, rows, next, next_within_limit}
use Rattle.pel_model.proofs.WorkedOutcomes.{Outcome, Whole, At, run, answer_from}
use Rattle.pel_model.proofs.WorkedRecords.{digits, pair, kinds_bits, kinds_elements, vectors_bits, vectors_elements, wide_bits, wide_elements}

-- ---- what is read: the elements, and where a picture may end what they say

-- the elements up to the lawful end or a fault, the newest first
abbrev pub read_on : Standing Element → List Element → (Element → ℕ → List Element) → List Element
read_on (Good e n) before more = more e n
read_on Stop before more = before
read_on (Bad why) before more = before

unfoldable pub read_from : (fuel : ℕ) → Format → List Element → List Bool × ℕ → List Element
read_from zero format before r = before
read_from (suc fuel) format before r =
    read_on (next_within_limit format before r) before (λ e n. read_from fuel format (e ∷ before) (skipped n r))

abbrev pub elements_of : Format → List Bool → List Element
elements_of format bits = reverse (read_from (length bits) format [] (start bits))

pub elements_of_kinds : elements_of Qcif kinds_bits ≡ kinds_elements
unfolding read_from next_within_limit next rows field number mba_table mtype_table mvd_table cbp_table tcoeff_table
elements_of_kinds = refl

pub elements_of_vectors : elements_of Qcif vectors_bits ≡ vectors_elements
unfolding read_from next_within_limit next rows field number mba_table mtype_table mvd_table cbp_table tcoeff_table
elements_of_vectors = refl

pub elements_of_wide : elements_of Cif wide_bits ≡ wide_elements
unfolding read_from next_within_limit next rows field number mba_table mtype_table mvd_table cbp_table tcoeff_table
elements_of_wide = refl

-- how many groups were begun, the last one's number, the last address, the quantiser in effect and the last vector, at
-- each place where a picture may end: behind its header, a group's, a macroblock
abbrev pub said : List Element → List (ℕ × ℕ × ℕ × ℕ × ℤ × ℤ)
said [] = []
said (e ∷ before) =
    cond (may_end (slot (e ∷ before)))
    ((
      begun (e ∷ before),
      group (e ∷ before),
      address (e ∷ before),
      quantiser (e
          ∷ before),
      vector_component Across (e ∷ before),
      vector_component Down (e ∷ before),
    ) ∷ said before)
    (said before)

pub said_by_kinds : reverse (said (reverse kinds_elements)) ≡
    (0, 0, 0, 0, pos 0, pos 0)
    ∷ (1, 1, 0, 8, pos 0, pos 0)
    ∷ (1, 1, 1, 8, pos 0, pos 0)
    ∷ (1, 1, 2, 5, pos 0, pos 0)
    ∷ (1, 1, 3, 5, pos 0, pos 0)
    ∷ (1, 1, 4, 5, pos 3, pos 2)
    ∷ (1, 1, 5, 5, negsuc 1, pos 2)
    ∷ (1, 1, 6, 31, negsuc 1, pos 15)
    ∷ (1, 1, 7, 31, pos 0, pos 0)
    ∷ (1, 1, 8, 31, negsuc 14, pos 1)
    ∷ (1, 1, 9, 1, pos 15, pos 15)
    ∷ (1, 1, 10, 1, pos 0, pos 0)
    ∷ (1, 1, 11, 17, pos 0, pos 0)
    ∷ (1, 1, 12, 17, pos 0, pos 0)
    ∷ (2, 3, 0, 9, pos 0, pos 0)
    ∷ (2, 3, 33, 9, pos 0, pos 0)
    ∷ (3, 5, 0, 31, pos 0, pos 0)
    ∷ []
said_by_kinds = refl

pub said_by_vectors : reverse (said (reverse vectors_elements)) ≡
    (0, 0, 0, 0, pos 0, pos 0)
    ∷ (1, 1, 0, 31, pos 0, pos 0)
    ∷ (2, 3, 0, 4, pos 0, pos 0)
    ∷ (2, 3, 10, 4, pos 3, negsuc 1)
    ∷ (2, 3, 11, 4, negsuc 0, negsuc 1)
    ∷ (2, 3, 12, 4, pos 1, pos 0)
    ∷ (2, 3, 13, 4, pos 1, pos 0)
    ∷ (2, 3, 22, 4, negsuc 14, pos 15)
    ∷ (2, 3, 23, 4, pos 15, negsuc 14)
    ∷ (2, 3, 24, 4, negsuc 14, pos 14)
    ∷ (2, 3, 26, 4, pos 2, pos 3)
    ∷ (2, 3, 27, 4, pos 0, pos 0)
    ∷ (2, 3, 28, 4, pos 1, pos 1)
    ∷ (2, 3, 29, 4, pos 1, pos 1)
    ∷ (2, 3, 30, 4, pos 0, pos 0)
    ∷ (2, 3, 31, 4, pos 0, negsuc 0)
    ∷ (3, 5, 0, 1, pos 0, pos 0)
    ∷ (3, 5, 1, 1, pos 0, negsuc 0)
    ∷ (3, 5, 2, 2, pos 0, negsuc 0)
    ∷ (3, 5, 4, 2, pos 0, pos 0)
    ∷ []
said_by_vectors = refl

pub said_by_wide : reverse (said (reverse wide_elements)) ≡
    (0, 0, 0, 0, pos 0, pos 0)
    ∷ (1, 1, 0, 8, pos 0, pos 0)
    ∷ (1, 1, 11, 8, pos 15, pos 0)
    ∷ (1, 1, 12, 3, pos 0, pos 0)
    ∷ (2, 2, 0, 9, pos 0, pos 0)
    ∷ (2, 2, 1, 30, negsuc 14, pos 15)
    ∷ (2, 2, 2, 30, negsuc 14, pos 15)
    ∷ (2, 2, 13, 30, pos 0, pos 0)
    ∷ (3, 3, 0, 1, pos 0, pos 0)
    ∷ (4, 4, 0, 1, pos 0, pos 0)
    ∷ (5, 5, 0, 1, pos 0, pos 0)
    ∷ (6, 6, 0, 1, pos 0, pos 0)
    ∷ (7, 7, 0, 1, pos 0, pos 0)
    ∷ (8, 8, 0, 10, pos 0, pos 0)
    ∷ (8, 8, 33, 12, pos 0, pos 0)
    ∷ (9, 9, 0, 31, pos 0, pos 0)
    ∷ (9, 9, 23, 31, pos 0, pos 15)
    ∷ (10, 10, 0, 1, pos 0, pos 0)
    ∷ (11, 11, 0, 1, pos 0, pos 0)
    ∷ (12, 12, 0, 1, pos 0, pos 0)
    ∷ (12, 12, 32, 1, pos 0, pos 0)
    ∷ (12, 12, 33, 1, negsuc 0, negsuc 14)
    ∷ []
said_by_wide = refl

-- ---- where pictures end, and their first faults

-- a header of a picture with TR 1, and those of groups with quantiser 8
abbrev pub qcif : List ℕ
qcif = codes "00000000000000010000 00001 000011 0"

abbrev pub cif : List ℕ
cif = codes "00000000000000010000 00001 000111 0"

abbrev pub gob_1 : List ℕ
gob_1 = codes "0000000000000001 0001 01000 0"

abbrev pub gob_2 : List ℕ
gob_2 = codes "0000000000000001 0010 01000 0"

abbrev pub gob_3 : List ℕ
gob_3 = codes "0000000000000001 0011 01000 0"

abbrev pub gob_4 : List ℕ
gob_4 = codes "0000000000000001 0100 01000 0"

abbrev pub gob_5 : List ℕ
gob_5 = codes "0000000000000001 0101 01000 0"

abbrev pub gob_6 : List ℕ
gob_6 = codes "0000000000000001 0110 01000 0"

abbrev pub gob_7 : List ℕ
gob_7 = codes "0000000000000001 0111 01000 0"

abbrev pub gob_8 : List ℕ
gob_8 = codes "0000000000000001 1000 01000 0"

abbrev pub gob_9 : List ℕ
gob_9 = codes "0000000000000001 1001 01000 0"

abbrev pub gob_10 : List ℕ
gob_10 = codes "0000000000000001 1010 01000 0"

abbrev pub gob_11 : List ℕ
gob_11 = codes "0000000000000001 1011 01000 0"

abbrev pub gob_12 : List ℕ
gob_12 = codes "0000000000000001 1100 01000 0"

-- six blocks with INTRADC 255 alone
abbrev pub grey : List ℕ
grey = codes "11111111 10 11111111 10 11111111 10 11111111 10 11111111 10 11111111 10"

-- a format, the place at which a picture begins, its bits, and how it ends
abbrev pub Case : Type 0
Case = Format × ℕ × List Bool × Outcome

abbrev pub AreAnswered : List Case → Type 0
AreAnswered cases = map (λ c. answer_from c.1 c.0 c.2) cases ≡ map (λ c. c.3) cases

-- headers of pictures (4.2.1): 000101 is a still picture of the other format, and the format is judged first
abbrev pub picture_headers : List Case
picture_headers =
    -- a still picture of the other format
    (Qcif, 0, digits (codes "00000000000000010000 00001 000101 0"), At 25 WrongFormat)
    -- the same where CIF is wanted
    ∷ (Cif, 0, digits (codes "00000000000000010000 00001 000001 0"), At 25 WrongFormat)
    -- a still picture of the format
    ∷ (Qcif, 0, digits (codes "00000000000000010000 00001 000001 0"), At 25 StillImage)
    -- all other bits of the type are free
    ∷ (Qcif, 0, digits (codes "00000000000000010000 00001 111011 0"), Whole 32)
    ∷ (Cif, 0, digits (codes "00000000000000010000 00001 111111 0"), Whole 32)  -- and in CIF
    ∷ (Cif, 0, digits (codes "00000000000000010000 00001 000110 0"), Whole 32)  -- and 0
    ∷ (Qcif, 0, digits (codes "00000000000000010001 00001 000011 0"), At 0 NoStart)  -- other bits than a start code
    ∷ (Qcif, 0, digits (codes "1"), At 0 NoStart)  -- fewer bits that begin no start code
    -- two spare octets
    ∷ (Qcif, 0, digits (codes "00000000000000010000 00001 000011 1 00000000 1 11111111 0"), Whole 50)
    ∷ (Qcif, 0, digits (codes "00000000000000010000 00001 000011 1 0000000"), At 32 Cut)  -- a spare octet cut
    -- no flag behind a spare octet
    ∷ (Qcif, 0, digits (codes "00000000000000010000 00001 000011 1 00000000"), At 40 Cut)
    ∷ (Qcif, 0, digits (qcif ++ codes "1 1 1010 10 10"), At 32 NoCode)  -- a macroblock behind the header
    ∷ (Qcif, 0, digits (qcif ++ codes "00000001111"), At 32 NoCode)  -- stuffing behind the header
    -- another picture behind the header
    ∷ (Qcif, 0, digits (qcif ++ codes "00000000000000010000 00001 000011 0"), At 48 BadGroup)
    ∷ []

pub picture_headers_are : AreAnswered picture_headers
unfolding run next_within_limit next rows field number mba_table mtype_table mvd_table cbp_table tcoeff_table
picture_headers_are = refl

-- headers of groups (4.2.2)
abbrev pub group_headers : List Case
group_headers =
    (Qcif, 0, digits (qcif ++ codes "0000000000000001 0001 00001 0"), Whole 58)  -- quantiser 1
    ∷ (Qcif, 0, digits (qcif ++ codes "0000000000000001 0001 11111 0"), Whole 58)  -- quantiser 31
    ∷ (Cif, 0, digits (cif ++ codes "0000000000000001 0001 00000 0"), At 52 BadQuant)  -- quantiser 0
    ∷ (Qcif, 0, digits (qcif ++ gob_2), At 48 BadGroup)  -- a group that only CIF has
    ∷ (Qcif, 0, digits (qcif ++ gob_6), At 48 BadGroup)  -- group 6
    ∷ (Cif, 0, digits (cif ++ gob_2), Whole 58)  -- group 2 of CIF
    ∷ (Cif, 0, digits (cif ++ gob_12), Whole 58)  -- group 12
    ∷ (Cif, 0, digits (cif ++ codes "0000000000000001 0000 01000 0"), At 48 BadGroup)  -- group 0
    ∷ (Cif, 0, digits (cif ++ codes "0000000000000001 1101 01000 0"), At 48 BadGroup)  -- group 13
    ∷ (Qcif, 0, digits (qcif ++ gob_5 ++ gob_3), At 74 BadGroup)  -- groups that fall
    ∷ (Cif, 0, digits (cif ++ gob_4 ++ gob_4), At 74 BadGroup)  -- a group twice
    ∷ (Qcif, 0, digits (qcif ++ gob_1 ++ gob_5), Whole 84)  -- a group left out
    -- two spare octets, stuffing and a macroblock
    ∷ (
      Qcif,
      0,
      digits (qcif
          ++ codes "0000000000000001 0001 01000 1 10000001 1 00000000 0 00000001111 1 1 1010 10 10"),
      Whole 97,
    )
    -- no flag behind a spare octet
    ∷ (Qcif, 0, digits (qcif ++ codes "0000000000000001 0001 01000 1 10000001"), At 66 Cut)
    -- a macroblock with all six blocks, stuffing twice, and another macroblock
    ∷ (
      Qcif,
      0,
      digits (qcif ++ gob_1 ++ codes "1 0001" ++ grey
          ++ codes "00000001111 00000001111 1 1 1010 10 10"),
      Whole 155,
    )
    ∷ (Qcif, 0, digits (qcif ++ gob_1 ++ codes "00000001111" ++ gob_3), Whole 95)  -- a header behind stuffing
    ∷ []

pub group_headers_are : AreAnswered group_headers
unfolding run next_within_limit next rows field number mba_table mtype_table mvd_table cbp_table tcoeff_table
group_headers_are = refl

-- addresses (4.2.3.1) and kinds (4.2.3.2)
abbrev pub addresses : List Case
addresses =
    (Qcif, 0, digits (qcif ++ gob_1 ++ codes "00000011000 1 1010 10 10"), Whole 78)  -- address 33
    -- address 34 by a difference of 1
    ∷ (Qcif, 0, digits (qcif ++ gob_1 ++ codes "00000011000 1 1010 10 10 1 1 1010 10 10"), At 78 BadAddress)
    -- address 33 by two differences, and in the next group again
    ∷ (
      Qcif,
      0,
      digits (qcif ++ gob_1 ++ codes "011 1 1010 10 10 00000011010 1 1010 10 10" ++ gob_3
          ++ codes "00000011000 1 1010 10 10"),
      Whole 136,
    )
    -- stuffing leaves the address
    ∷ (
      Qcif,
      0,
      digits (qcif ++ gob_1
          ++ codes "00000011000 1 1010 10 10 00000001111 1 1 1010 10 10"),
      At 89 BadAddress,
    )
    ∷ (Cif, 0, digits (cif ++ gob_1 ++ codes "1 0000000000"), At 59 NoCode)  -- no kind of ten zeros
    ∷ (Cif, 0, digits (cif ++ gob_1 ++ codes "1 1 000000000"), At 60 NoCode)  -- no pattern of nine zeros
    ∷ []

pub addresses_are : AreAnswered addresses
unfolding run next_within_limit next rows field number mba_table mtype_table mvd_table cbp_table tcoeff_table
addresses_are = refl

-- quantisers of macroblocks (4.2.3.3)
abbrev pub quantisers : List Case
quantisers =
    (Qcif, 0, digits (qcif ++ gob_1 ++ codes "1 00001 00001 1010 10 10"), Whole 77)  -- 1
    ∷ (Qcif, 0, digits (qcif ++ gob_1 ++ codes "1 00001 11111 1010 10 10"), Whole 77)  -- 31
    ∷ (Qcif, 0, digits (qcif ++ gob_1 ++ codes "1 0000001 00000" ++ grey), At 66 BadQuant)  -- 0 of Intra
    ∷ (Cif, 0, digits (cif ++ gob_1 ++ codes "1 0000000001 00000 1 1 1010 10 10"), At 69 BadQuant)  -- 0 of Mc
    -- 0 of Mc with the filter
    ∷ (Qcif, 0, digits (qcif ++ gob_1 ++ codes "1 000001 00000 1 1 1010 10 10"), At 65 BadQuant)
    ∷ []

pub quantisers_are : AreAnswered quantisers
unfolding run next_within_limit next rows field number mba_table mtype_table mvd_table cbp_table tcoeff_table
quantisers_are = refl

-- vectors (4.2.3.4): components from -15 to 15 that stay within the picture
abbrev pub components : List Case
components =
    (Qcif, 0, digits (qcif ++ gob_1 ++ codes "1 000000001 00000011010 1"), Whole 80)  -- 15 across
    ∷ (Qcif, 0, digits (qcif ++ gob_1 ++ codes "011 000000001 00000011011 1"), Whole 82)  -- -15 across
    ∷ (Qcif, 0, digits (qcif ++ gob_1 ++ codes "011 000000001 00000011001 1"), At 70 BadVector)  -- -16 and 16
    -- 15, and one more
    ∷ (Qcif, 0, digits (qcif ++ gob_1 ++ codes "1 000000001 00000011010 1 1 000000001 010 1"), At 90 BadVector)
    -- -15, and one less
    ∷ (Qcif, 0, digits (qcif ++ gob_1 ++ codes "011 000000001 00000011011 1 1 000000001 011 1"), At 92 BadVector)
    -- 15, and a second value of 1 - 32 would be -16
    ∷ (Qcif, 0, digits (qcif ++ gob_3 ++ codes "1 000000001 1 00000011010 1 000000001 1 010"), At 91 BadVector)
    -- 14 and 2, or -30: -16
    ∷ (Qcif, 0, digits (qcif ++ gob_3 ++ codes "1 000000001 1 00000011100 1 000000001 1 0010"), At 91 BadVector)
    -- 15 and 2, or -30: -15
    ∷ (Qcif, 0, digits (qcif ++ gob_3 ++ codes "1 000000001 1 00000011010 1 000000001 1 0010"), Whole 95)
    ∷ (Qcif, 0, digits (qcif ++ gob_1 ++ codes "1 000000001 011 1"), At 68 VectorOutside)  -- the left edge
    ∷ (Qcif, 0, digits (qcif ++ gob_1 ++ codes "1 000000001 1 011"), At 69 VectorOutside)  -- the upper edge
    -- an address behind the edge
    ∷ (Qcif, 0, digits (qcif ++ gob_1 ++ codes "00001001 000000001 011 1"), At 75 VectorOutside)
    -- its upper side is 16 samples below the edge
    ∷ (Qcif, 0, digits (qcif ++ gob_1 ++ codes "00001001 000000001 1 00000011011"), Whole 87)
    ∷ (Qcif, 0, digits (qcif ++ gob_1 ++ codes "00001010 000000001 010 1"), At 75 VectorOutside)  -- the right edge
    -- 16 samples before the right edge
    ∷ (Qcif, 0, digits (qcif ++ gob_1 ++ codes "00001011 000000001 00000011010 1"), Whole 87)
    ∷ (Qcif, 0, digits (qcif ++ gob_5 ++ codes "00000011000 000000001 1 010"), At 79 VectorOutside)  -- the lower edge
    -- 16 samples above the lower edge
    ∷ (Qcif, 0, digits (qcif ++ gob_5 ++ codes "00000100011 000000001 1 00000011010"), Whole 90)
    -- the lower edge of group 3 is within
    ∷ (Qcif, 0, digits (qcif ++ gob_3 ++ codes "00000011000 000000001 1 00000011010"), Whole 90)
    -- the upper edge of group 3 is within
    ∷ (Qcif, 0, digits (qcif ++ gob_3 ++ codes "1 000000001 1 00000011011"), Whole 80)
    ∷ (Cif, 0, digits (cif ++ gob_2 ++ codes "1 000000001 1 011"), At 69 VectorOutside)  -- the upper edge of group 2
    ∷ (Cif, 0, digits (cif ++ gob_2 ++ codes "1 000000001 00000011011 1"), Whole 80)  -- left of group 2
    ∷ (Cif, 0, digits (cif ++ gob_3 ++ codes "1 000000001 011 1"), At 68 VectorOutside)  -- left of group 3
    ∷ (Cif, 0, digits (cif ++ gob_7 ++ codes "00001010 000000001 00000011010 1"), Whole 87)  -- right of group 7
    ∷ (Cif, 0, digits (cif ++ gob_8 ++ codes "00001010 000000001 010 1"), At 75 VectorOutside)  -- right of group 8
    -- 16 samples left of the right edge
    ∷ (Cif, 0, digits (cif ++ gob_8 ++ codes "00001011 000000001 00000011010 1"), Whole 87)
    ∷ (Cif, 0, digits (cif ++ gob_10 ++ codes "00000011000 000000001 1 00000011010"), Whole 90)  -- below group 10
    ∷ (Cif, 0, digits (cif ++ gob_11 ++ codes "00000011000 000000001 1 010"), At 79 VectorOutside)  -- below group 11
    ∷ (Cif, 0, digits (cif ++ gob_12 ++ codes "00000011000 000000001 1 010"), At 79 VectorOutside)  -- below group 12
    ∷ (Cif, 0, digits (cif ++ gob_12 ++ codes "00000011000 000000001 1 1"), Whole 80)  -- the last macroblock of CIF
    ∷ (Cif, 0, digits (cif ++ gob_12 ++ codes "1 000000001 1 00000011011"), Whole 80)  -- above group 12
    -- an error of both kinds: 16 is judged first
    ∷ (Qcif, 0, digits (qcif ++ gob_1 ++ codes "00001010 000000001 00000011001 1"), At 75 BadVector)
    ∷ []

pub components_are : AreAnswered components
unfolding run next_within_limit next rows field number mba_table mtype_table mvd_table cbp_table tcoeff_table
components_are = refl

-- predictors (4.2.3.4), shown by vectors that leave the picture or do not
abbrev pub predictors : List Case
predictors =
    -- none at address 1
    (
      Qcif,
      0,
      digits (qcif ++ gob_1 ++ codes "00001010 000000001 00000011011 1" ++ gob_3
          ++ codes "1 000000001 1 1"),
      Whole 125,
    )
    -- none at address 12: -1 would leave the picture
    ∷ (Qcif, 0, digits (qcif ++ gob_1 ++ codes "00001010 000000001 011 1 1 000000001 1 1"), Whole 91)
    -- none at address 23
    ∷ (Qcif, 0, digits (qcif ++ gob_1 ++ codes "00000100011 000000001 011 1 1 000000001 1 1"), Whole 94)
    -- one at address 24
    ∷ (
      Qcif,
      0,
      digits (qcif ++ gob_1
          ++ codes "00000100010 000000001 00000011010 1 1 000000001 00000011010 1"),
      Whole 112,
    )
    -- none behind a macroblock that is not MC
    ∷ (
      Qcif,
      0,
      digits (qcif ++ gob_1
          ++ codes "00001011 000000001 00000011010 1 1 1 1010 10 10 00000001111 00001010 000000001 1 1"),
      Whole 127,
    )
    -- none behind a macroblock that is not MC, in the same row
    ∷ (
      Qcif,
      0,
      digits (qcif ++ gob_1
          ++ codes "0000110 000000001 00000011010 1 1 1 1010 10 10 1 000000001 1 1"),
      Whole 108,
    )
    -- that vector kept would leave the picture
    ∷ (
      Qcif,
      0,
      digits (qcif ++ gob_1
          ++ codes "0000110 000000001 00000011010 1 1 000000001 1 1 1 000000001 1 1"),
      At 108 VectorOutside,
    )
    -- none behind a macroblock that is not MC: 15 would not be in range
    ∷ (
      Qcif,
      0,
      digits (qcif ++ gob_1
          ++ codes "1 000000001 00000011010 1 1 1 1010 10 10 1 000000001 010 1"),
      Whole 104,
    )
    -- none behind an Intra macroblock
    ∷ (
      Qcif,
      0,
      digits (qcif ++ gob_1 ++ codes "1 000000001 00000011010 1 1 0001" ++ grey
          ++ codes "1 000000001 010 1"),
      Whole 159,
    )
    -- none behind an address that is not sent
    ∷ (Qcif, 0, digits (qcif ++ gob_1 ++ codes "1 000000001 00000011010 1 011 000000001 010 1"), Whole 96)
    -- one behind stuffing
    ∷ (
      Qcif,
      0,
      digits (qcif ++ gob_1
          ++ codes "1 000000001 00000011010 1 00000001111 1 000000001 010 1"),
      At 101 BadVector,
    )
    -- the components apart: 15 across, 0 down
    ∷ (Qcif, 0, digits (qcif ++ gob_1 ++ codes "1 000000001 00000011010 1 1 000000001 1 010"), Whole 94)
    ∷ []

pub predictors_are : AreAnswered predictors
unfolding run next_within_limit next rows field number mba_table mtype_table mvd_table cbp_table tcoeff_table
predictors_are = refl

-- blocks (4.2.4)
abbrev pub blocks : List Case
blocks =
    -- INTRADC 1, 127, 129, 254, 255 and 2
    (
      Qcif,
      0,
      digits (qcif ++ gob_1
          ++ codes "1 0001 00000001 10 01111111 10 10000001 10 11111110 10 11111111 10 00000010 10"),
      Whole 123,
    )
    -- five blocks of six
    ∷ (
      Qcif,
      0,
      digits (qcif ++ gob_1
          ++ codes "1 0001 11111111 10 11111111 10 11111111 10 11111111 10 11111111 10"),
      At 113 Cut,
    )
    -- a seventh block
    ∷ (Qcif, 0, digits (qcif ++ gob_1 ++ codes "1 0001" ++ grey ++ codes "11111111 10"), At 133 Cut)
    -- INTRADC 128 in the last block
    ∷ (
      Qcif,
      0,
      digits (qcif ++ gob_1
          ++ codes "1 0001 11111111 10 11111111 10 11111111 10 11111111 10 11111111 10 10000000 10"),
      At 113 BadDc,
    )
    ∷ (Cif, 0, digits (cif ++ gob_1 ++ codes "1 0001 00000000 10"), At 63 BadDc)  -- INTRADC 0
    -- an end of a block first: level 1 of a block that is not Intra
    ∷ (Qcif, 0, digits (qcif ++ gob_1 ++ codes "1 1 1010 10 10"), Whole 68)
    ∷ (Qcif, 0, digits (qcif ++ gob_1 ++ codes "1 1 1010 11 10"), Whole 68)  -- 11 first: level 1, negative
    ∷ (Qcif, 0, digits (qcif ++ gob_1 ++ codes "1 1 1010 1"), At 64 Cut)  -- a sign cut
    -- fewer blocks than the pattern says
    ∷ (Qcif, 0, digits (qcif ++ gob_1 ++ codes "1 1 001100 10 10 10 10 10 10 10 10 10 10"), At 86 Cut)
    ∷ (Qcif, 0, digits (qcif ++ gob_1 ++ codes "1 1 0010100 10 10 10 10"), Whole 75)  -- pattern 33
    ∷ (Qcif, 0, digits (qcif ++ gob_1 ++ codes "1 1 00000111 10 10 10 10 10 10 10 10"), Whole 84)  -- pattern 30
    -- INTRADC and run 62
    ∷ (
      Qcif,
      0,
      digits (qcif ++ gob_1
          ++ codes "1 0001 11111111 000001 111110 00000001 10 11111111 10 11111111 10 11111111 10 11111111 10 11111111 10"),
      Whole 143,
    )
    -- INTRADC and run 63
    ∷ (Qcif, 0, digits (qcif ++ gob_1 ++ codes "1 0001 11111111 000001 111111 00000001 10"), At 71 TooMany)
    -- run 63 without INTRADC
    ∷ (Qcif, 0, digits (qcif ++ gob_1 ++ codes "1 1 1010 000001 111111 00000001 10"), Whole 86)
    -- run 63 behind one coefficient
    ∷ (Qcif, 0, digits (qcif ++ gob_1 ++ codes "1 1 1010 10 000001 111111 00000001 10"), At 66 TooMany)
    -- runs 26, 26 and 9, and a code of run 0
    ∷ (
      Qcif,
      0,
      digits (qcif ++ gob_1
          ++ codes "1 1 1010 00000000110110 00000000110110 0000000100010 110 10"),
      Whole 110,
    )
    -- runs 26, 26 and 9, and a code of run 1
    ∷ (
      Qcif,
      0,
      digits (qcif ++ gob_1
          ++ codes "1 1 1010 00000000110110 00000000110110 00001010 0110 10"),
      At 100 TooMany,
    )
    -- two blocks of 64
    ∷ (
      Qcif,
      0,
      digits (qcif ++ gob_1
          ++ codes "1 1 0010100 000001 111111 00000001 10 000001 111111 00000001 10"),
      Whole 111,
    )
    ∷ (Qcif, 0, digits (qcif ++ gob_1 ++ codes "1 1 1010 000001 000000 01111111 10"), Whole 86)  -- level 127
    ∷ (Qcif, 0, digits (qcif ++ gob_1 ++ codes "1 1 1010 000001 000000 11111111 10"), Whole 86)  -- level -1
    ∷ (Qcif, 0, digits (qcif ++ gob_1 ++ codes "1 1 1010 000001 000000 10000001 10"), Whole 86)  -- level -127
    ∷ (Qcif, 0, digits (qcif ++ gob_1 ++ codes "1 1 1010 000001 000000 10000000 10"), At 64 BadLevel)  -- level -128
    ∷ (Qcif, 0, digits (qcif ++ gob_1 ++ codes "1 1 1010 000001 000000 00000000 10"), At 64 BadLevel)  -- level 0
    -- level 0 past the 64th place: the level is judged first
    ∷ (Qcif, 0, digits (qcif ++ gob_1 ++ codes "1 1 1010 10 000001 111111 00000000 10"), At 66 BadLevel)
    -- level -128 past the 64th place
    ∷ (Cif, 0, digits (cif ++ gob_1 ++ codes "1 1 1010 10 000001 111111 10000000 10"), At 66 BadLevel)
    ∷ []

pub blocks_are : AreAnswered blocks
unfolding run next_within_limit next rows field number mba_table mtype_table mvd_table cbp_table tcoeff_table
blocks_are = refl

-- the limit: pictures begun near it; the last bit of an element and 26 bits for each header to come are counted
abbrev pub limits : List Case
limits =
    (Qcif, 65426, digits (qcif), Whole 65458)  -- a picture header alone up to the limit
    ∷ (Qcif, 65427, digits (qcif), At 65458 TooLong)  -- one bit later
    ∷ (Cif, 261800, digits (cif), Whole 261832)  -- and in CIF
    ∷ (Cif, 261801, digits (cif), At 261832 TooLong)  -- one bit later
    ∷ (Qcif, 65426, digits (qcif ++ gob_1), Whole 65484)  -- a group header up to the limit: two more are to come
    -- one bit later the flag of the picture header is too long
    ∷ (Qcif, 65427, digits (qcif ++ gob_1), At 65458 TooLong)
    -- a group header with a spare octet
    ∷ (Qcif, 65417, digits (qcif ++ codes "0000000000000001 0001 01000 1 00000000 0"), Whole 65484)
    -- one bit later its last flag is too long
    ∷ (Qcif, 65418, digits (qcif ++ codes "0000000000000001 0001 01000 1 00000000 0"), At 65484 TooLong)
    ∷ (Cif, 261800, digits (cif ++ gob_1), Whole 261858)  -- in CIF eleven are to come
    ∷ (Cif, 261801, digits (cif ++ gob_1), At 261832 TooLong)  -- one bit later
    ∷ (Cif, 261735, digits (cif ++ gob_12 ++ codes "1 0001" ++ grey), Whole 261858)  -- the last group of CIF
    ∷ (Cif, 261736, digits (cif ++ gob_12 ++ codes "1 0001" ++ grey), At 261857 TooLong)  -- one bit later
    -- all twelve groups: nothing is to come
    ∷ (
      Cif,
      261790,
      digits (cif ++ gob_1 ++ gob_2 ++ gob_3 ++ gob_4 ++ gob_5 ++ gob_6 ++ gob_7 ++ gob_8 ++ gob_9
          ++ gob_10 ++ gob_11 ++ gob_12 ++ codes "1 1 1010 10 10"),
      Whole 262144,
    )
    -- one bit later the end of the block is too long
    ∷ (
      Cif,
      261791,
      digits (cif ++ gob_1 ++ gob_2 ++ gob_3 ++ gob_4 ++ gob_5 ++ gob_6 ++ gob_7 ++ gob_8 ++ gob_9
          ++ gob_10 ++ gob_11 ++ gob_12 ++ codes "1 1 1010 10 10"),
      At 262143 TooLong,
    )
    -- stuffing up to the limit
    ∷ (Qcif, 65415, digits (qcif ++ gob_1 ++ gob_3 ++ gob_5 ++ codes "00000001111"), Whole 65536)
    -- one bit later
    ∷ (Qcif, 65416, digits (qcif ++ gob_1 ++ gob_3 ++ gob_5 ++ codes "00000001111"), At 65526 TooLong)
    -- zeros behind the limit are not counted
    ∷ (Qcif, 65426, digits (qcif ++ gob_1 ++ gob_3 ++ gob_5 ++ codes "0000000"), Whole 65536)
    -- a spare octet past the limit
    ∷ (Qcif, 65426, digits (codes "00000000000000010000 00001 000011 1 00000000 0"), At 65458 TooLong)
    -- too long is judged last: behind WrongFormat
    ∷ (Qcif, 65433, digits (codes "00000000000000010000 00001 000111 0"), At 65458 WrongFormat)
    ∷ (Cif, 261807, digits (codes "00000000000000010000 00001 000101 0"), At 261832 StillImage)  -- behind StillImage
    -- behind BadGroup, where more groups are begun than the format has
    ∷ (Qcif, 65410, digits (qcif ++ gob_1 ++ gob_3 ++ gob_5 ++ gob_5), At 65536 BadGroup)
    -- behind BadQuant
    ∷ (Qcif, 65420, digits (qcif ++ gob_1 ++ gob_3 ++ gob_5 ++ codes "1 00001 00000"), At 65536 BadQuant)
    -- behind BadAddress
    ∷ (
      Qcif,
      65404,
      digits (qcif ++ gob_1 ++ gob_3 ++ gob_5
          ++ codes "00000011000 000000001 1 1 1"),
      At 65536 BadAddress,
    )
    -- behind BadVector
    ∷ (
      Qcif,
      65413,
      digits (qcif ++ gob_1 ++ gob_3 ++ gob_5
          ++ codes "011 000000001 00000011001 1"),
      At 65535 BadVector,
    )
    -- behind VectorOutside
    ∷ (
      Cif,
      261783,
      digits (cif ++ gob_1 ++ gob_2 ++ gob_3 ++ gob_4 ++ gob_5 ++ gob_6 ++ gob_7 ++ gob_8 ++ gob_9
          ++ gob_10 ++ gob_11 ++ gob_12 ++ codes "00001010 000000001 010"),
      At 262144 VectorOutside,
    )
    -- behind BadDc
    ∷ (Qcif, 65420, digits (qcif ++ gob_1 ++ gob_3 ++ gob_5 ++ codes "1 0001 10000000"), At 65535 BadDc)
    -- behind BadLevel
    ∷ (
      Qcif,
      65419,
      digits (qcif ++ gob_1 ++ gob_3 ++ gob_5
          ++ codes "1 1 1010 000001 000000 00000000"),
      At 65535 BadLevel,
    )
    -- behind TooMany
    ∷ (
      Qcif,
      65417,
      digits (qcif ++ gob_1 ++ gob_3 ++ gob_5
          ++ codes "1 1 1010 10 000001 111111 00000001"),
      At 65535 TooMany,
    )
    -- a word that is cut is cut, past the limit too
    ∷ (Qcif, 65426, digits (qcif ++ gob_1 ++ gob_3 ++ gob_5 ++ codes "0000001"), At 65536 Cut)
    -- no word is no word, past the limit too
    ∷ (Qcif, 65426, digits (qcif ++ gob_1 ++ gob_3 ++ gob_5 ++ codes "00000000001"), At 65536 NoCode)
    ∷ []

pub limits_are : AreAnswered limits
unfolding run next_within_limit next rows field number mba_table mtype_table mvd_table cbp_table tcoeff_table
limits_are = refl

-- ends: behind a header, a macroblock or stuffing, with 0 to 7 zeros
abbrev pub ends : List Case
ends =
    (Qcif, 0, digits (qcif ++ gob_1 ++ codes "1 1 1010 10 10 0000000"), Whole 68)  -- seven zeros behind a macroblock
    -- eight zeros behind a macroblock
    ∷ (Qcif, 0, digits (qcif ++ gob_1 ++ codes "1 1 1010 10 10 00000000"), At 68 Cut)
    ∷ (Qcif, 0, digits (qcif ++ gob_1 ++ codes "1 1 1010 10 10 0000001"), At 68 Cut)  -- a 1 among them
    ∷ (Cif, 0, digits (cif ++ codes "0000000"), Whole 32)  -- seven zeros behind a picture header
    ∷ (Cif, 0, digits (cif ++ codes "0000001"), At 32 NoCode)  -- a 1 among them
    ∷ (Cif, 0, digits (cif ++ codes "001"), At 32 NoCode)  -- two zeros and a 1 behind a picture header
    ∷ (Cif, 0, digits (cif ++ gob_7 ++ codes "00000001111 0000000"), Whole 69)  -- seven zeros behind stuffing
    ∷ (Cif, 0, digits (cif ++ gob_7 ++ codes "00000001111 00000000"), At 69 Cut)  -- eight zeros behind stuffing
    ∷ []

pub ends_are : AreAnswered ends
unfolding run next_within_limit next rows field number mba_table mtype_table mvd_table cbp_table tcoeff_table
ends_are = refl

-- ---- spare octets and stuffing, and the fronts of a picture

-- it is cut in the third block of its second macroblock
abbrev pub dressed : List Bool
dressed = digits (
    codes "00000000000000010000 00001 000011 1 10000001 0"
    ++ codes "0000000000000001 0001 01000 1 00000011 0 00000001111 1 000001 00001 1 1 1010 10 10 1 0001 11111111 10 11111111 10")

pub elements_of_dressed : elements_of Qcif dressed ≡
    Psc ∷ Tr 1 ∷ Ptype 3 ∷ Pei true ∷ Pspare 129 ∷ Pei false
    ∷ Gbsc ∷ Gn 1 ∷ Gquant 8 ∷ Gei true ∷ Gspare 3 ∷ Gei false
    ∷ Stuffing
    ∷ Mba 1 ∷ Mtype McFilQuant ∷ Mquant 1 ∷ Mvd Across (pos 0, pos 0) ∷ Mvd Down (pos 0, pos 0) ∷ Cbp 32
    ∷ Tcoeff (pair 0 (pos 1)) ∷ Eob
    ∷ Mba 1 ∷ Mtype Intra ∷ Dc 255 ∷ Eob ∷ Dc 255 ∷ Eob ∷ []
unfolding read_from next_within_limit next rows field number mba_table mtype_table mvd_table cbp_table tcoeff_table
elements_of_dressed = refl

-- its fronts up to each element: it ends lawfully where a picture may, and else is cut
abbrev pub fronts : List (ℕ × Outcome)
fronts =
    (0, At 0 Cut)
    ∷ (20, At 20 Cut)
    ∷ (25, At 25 Cut)
    ∷ (31, At 31 Cut)
    ∷ (32, At 32 Cut)
    ∷ (40, At 40 Cut)
    ∷ (41, Whole 41)
    ∷ (57, At 57 Cut)
    ∷ (61, At 61 Cut)
    ∷ (66, At 66 Cut)
    ∷ (67, At 67 Cut)
    ∷ (75, At 75 Cut)
    ∷ (76, Whole 76)
    ∷ (87, Whole 87)
    ∷ (88, At 88 Cut)
    ∷ (94, At 94 Cut)
    ∷ (99, At 99 Cut)
    ∷ (100, At 100 Cut)
    ∷ (101, At 101 Cut)
    ∷ (105, At 105 Cut)
    ∷ (107, At 107 Cut)
    ∷ (109, Whole 109)
    ∷ (110, At 110 Cut)
    ∷ (114, At 114 Cut)
    ∷ (122, At 122 Cut)
    ∷ (124, At 124 Cut)
    ∷ (132, At 132 Cut)
    ∷ (134, At 134 Cut)
    ∷ []

pub fronts_are : map (λ f. answer_from 0 Qcif (take f.0 dressed)) fronts ≡ map (λ f. f.1) fronts
unfolding run next_within_limit next rows field number mba_table mtype_table mvd_table cbp_table tcoeff_table
fronts_are = refl
