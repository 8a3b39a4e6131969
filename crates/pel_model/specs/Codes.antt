-- The code tables of H.261 (4.2.3 and 4.2.4): each is a list of codewords, as digits in the order in which they
-- are sent, with what they mean. No codeword of a list is a prefix of another of it.
use Rattle.std.specs.Prelude.{ℕ, ◌==◌, ◌&&◌, ◌||◌, not, ℤ, pos, negsuc, Bool, true, false, List, [], ◌∷◌, codes}
use Rattle.std.specs.List.{list_any}
use Rattle.pel_model.specs.declared.MbKind.{MbKind}
use Rattle.pel_model.specs.declared.MbKind.TheVariants.{Intra, IntraQuant, Inter, InterQuant, Mc, McCoded, McQuant, McFil, McFilCoded, McFilQuant}

-- a codeword, from its digits
abbrev pub word : List ℕ → List Bool
word [] = []
word (digit ∷ digits) = (digit == 49) ∷ word digits

-- PSC (4.2.1.1) and GBSC (4.2.2.1)
abbrev pub picture_start_code : List Bool
picture_start_code = word (codes "00000000000000010000")

abbrev pub group_start_code : List Bool
group_start_code = word (codes "0000000000000001")

-- MBA (4.2.3.1): the difference to the address before
unfoldable pub mba_table : List (List Bool × ℕ)
mba_table =
    (word (codes "1"), 1)
    ∷ (word (codes "011"), 2)
    ∷ (word (codes "010"), 3)
    ∷ (word (codes "0011"), 4)
    ∷ (word (codes "0010"), 5)
    ∷ (word (codes "00011"), 6)
    ∷ (word (codes "00010"), 7)
    ∷ (word (codes "0000111"), 8)
    ∷ (word (codes "0000110"), 9)
    ∷ (word (codes "00001011"), 10)
    ∷ (word (codes "00001010"), 11)
    ∷ (word (codes "00001001"), 12)
    ∷ (word (codes "00001000"), 13)
    ∷ (word (codes "00000111"), 14)
    ∷ (word (codes "00000110"), 15)
    ∷ (word (codes "0000010111"), 16)
    ∷ (word (codes "0000010110"), 17)
    ∷ (word (codes "0000010101"), 18)
    ∷ (word (codes "0000010100"), 19)
    ∷ (word (codes "0000010011"), 20)
    ∷ (word (codes "0000010010"), 21)
    ∷ (word (codes "00000100011"), 22)
    ∷ (word (codes "00000100010"), 23)
    ∷ (word (codes "00000100001"), 24)
    ∷ (word (codes "00000100000"), 25)
    ∷ (word (codes "00000011111"), 26)
    ∷ (word (codes "00000011110"), 27)
    ∷ (word (codes "00000011101"), 28)
    ∷ (word (codes "00000011100"), 29)
    ∷ (word (codes "00000011011"), 30)
    ∷ (word (codes "00000011010"), 31)
    ∷ (word (codes "00000011001"), 32)
    ∷ (word (codes "00000011000"), 33)
    ∷ []

-- MBA stuffing (4.2.3.1), which stands in the list behind the differences
abbrev pub stuffing_word : List Bool
stuffing_word = word (codes "00000001111")

-- MTYPE (4.2.3.2)
unfoldable pub mtype_table : List (List Bool × MbKind)
mtype_table =
    (word (codes "0001"), Intra)
    ∷ (word (codes "0000001"), IntraQuant)
    ∷ (word (codes "1"), Inter)
    ∷ (word (codes "00001"), InterQuant)
    ∷ (word (codes "000000001"), Mc)
    ∷ (word (codes "00000001"), McCoded)
    ∷ (word (codes "0000000001"), McQuant)
    ∷ (word (codes "001"), McFil)
    ∷ (word (codes "01"), McFilCoded)
    ∷ (word (codes "000001"), McFilQuant)
    ∷ []

-- MVD (4.2.3.4): the one or two differences that a codeword stands for
unfoldable pub mvd_table : List (List Bool × (ℤ × ℤ))
mvd_table =
    (word (codes "1"), (pos 0, pos 0))
    ∷ (word (codes "011"), (negsuc 0, negsuc 0))
    ∷ (word (codes "010"), (pos 1, pos 1))
    ∷ (word (codes "0011"), (negsuc 1, pos 30))
    ∷ (word (codes "0010"), (pos 2, negsuc 29))
    ∷ (word (codes "00011"), (negsuc 2, pos 29))
    ∷ (word (codes "00010"), (pos 3, negsuc 28))
    ∷ (word (codes "0000111"), (negsuc 3, pos 28))
    ∷ (word (codes "0000110"), (pos 4, negsuc 27))
    ∷ (word (codes "00001011"), (negsuc 4, pos 27))
    ∷ (word (codes "00001010"), (pos 5, negsuc 26))
    ∷ (word (codes "00001001"), (negsuc 5, pos 26))
    ∷ (word (codes "00001000"), (pos 6, negsuc 25))
    ∷ (word (codes "00000111"), (negsuc 6, pos 25))
    ∷ (word (codes "00000110"), (pos 7, negsuc 24))
    ∷ (word (codes "0000010111"), (negsuc 7, pos 24))
    ∷ (word (codes "0000010110"), (pos 8, negsuc 23))
    ∷ (word (codes "0000010101"), (negsuc 8, pos 23))
    ∷ (word (codes "0000010100"), (pos 9, negsuc 22))
    ∷ (word (codes "0000010011"), (negsuc 9, pos 22))
    ∷ (word (codes "0000010010"), (pos 10, negsuc 21))
    ∷ (word (codes "00000100011"), (negsuc 10, pos 21))
    ∷ (word (codes "00000100010"), (pos 11, negsuc 20))
    ∷ (word (codes "00000100001"), (negsuc 11, pos 20))
    ∷ (word (codes "00000100000"), (pos 12, negsuc 19))
    ∷ (word (codes "00000011111"), (negsuc 12, pos 19))
    ∷ (word (codes "00000011110"), (pos 13, negsuc 18))
    ∷ (word (codes "00000011101"), (negsuc 13, pos 18))
    ∷ (word (codes "00000011100"), (pos 14, negsuc 17))
    ∷ (word (codes "00000011011"), (negsuc 14, pos 17))
    ∷ (word (codes "00000011010"), (pos 15, negsuc 16))
    ∷ (word (codes "00000011001"), (negsuc 15, pos 16))
    ∷ []

-- CBP (4.2.3.5): 32, 16, 8, 4 for the luminance blocks, 2 for CB and 1 for CR
unfoldable pub cbp_table : List (List Bool × ℕ)
cbp_table =
    (word (codes "111"), 60)
    ∷ (word (codes "1101"), 4)
    ∷ (word (codes "1100"), 8)
    ∷ (word (codes "1011"), 16)
    ∷ (word (codes "1010"), 32)
    ∷ (word (codes "10011"), 12)
    ∷ (word (codes "10010"), 48)
    ∷ (word (codes "10001"), 20)
    ∷ (word (codes "10000"), 40)
    ∷ (word (codes "01111"), 28)
    ∷ (word (codes "01110"), 44)
    ∷ (word (codes "01101"), 52)
    ∷ (word (codes "01100"), 56)
    ∷ (word (codes "01011"), 1)
    ∷ (word (codes "01010"), 61)
    ∷ (word (codes "01001"), 2)
    ∷ (word (codes "01000"), 62)
    ∷ (word (codes "001111"), 24)
    ∷ (word (codes "001110"), 36)
    ∷ (word (codes "001101"), 3)
    ∷ (word (codes "001100"), 63)
    ∷ (word (codes "0010111"), 5)
    ∷ (word (codes "0010110"), 9)
    ∷ (word (codes "0010101"), 17)
    ∷ (word (codes "0010100"), 33)
    ∷ (word (codes "0010011"), 6)
    ∷ (word (codes "0010010"), 10)
    ∷ (word (codes "0010001"), 18)
    ∷ (word (codes "0010000"), 34)
    ∷ (word (codes "00011111"), 7)
    ∷ (word (codes "00011110"), 11)
    ∷ (word (codes "00011101"), 19)
    ∷ (word (codes "00011100"), 35)
    ∷ (word (codes "00011011"), 13)
    ∷ (word (codes "00011010"), 49)
    ∷ (word (codes "00011001"), 21)
    ∷ (word (codes "00011000"), 41)
    ∷ (word (codes "00010111"), 14)
    ∷ (word (codes "00010110"), 50)
    ∷ (word (codes "00010101"), 22)
    ∷ (word (codes "00010100"), 42)
    ∷ (word (codes "00010011"), 15)
    ∷ (word (codes "00010010"), 51)
    ∷ (word (codes "00010001"), 23)
    ∷ (word (codes "00010000"), 43)
    ∷ (word (codes "00001111"), 25)
    ∷ (word (codes "00001110"), 37)
    ∷ (word (codes "00001101"), 26)
    ∷ (word (codes "00001100"), 38)
    ∷ (word (codes "00001011"), 29)
    ∷ (word (codes "00001010"), 45)
    ∷ (word (codes "00001001"), 53)
    ∷ (word (codes "00001000"), 57)
    ∷ (word (codes "00000111"), 30)
    ∷ (word (codes "00000110"), 46)
    ∷ (word (codes "00000101"), 54)
    ∷ (word (codes "00000100"), 58)
    ∷ (word (codes "000000111"), 31)
    ∷ (word (codes "000000110"), 47)
    ∷ (word (codes "000000101"), 55)
    ∷ (word (codes "000000100"), 59)
    ∷ (word (codes "000000011"), 27)
    ∷ (word (codes "000000010"), 39)
    ∷ []

-- TCOEFF (4.2.4.1): run and level of the codes that a sign bit follows, without run 0 and level 1
unfoldable pub tcoeff_table : List (List Bool × (ℕ × ℕ))
tcoeff_table =
    (word (codes "0100"), (0, 2))
    ∷ (word (codes "00101"), (0, 3))
    ∷ (word (codes "0000110"), (0, 4))
    ∷ (word (codes "00100110"), (0, 5))
    ∷ (word (codes "00100001"), (0, 6))
    ∷ (word (codes "0000001010"), (0, 7))
    ∷ (word (codes "000000011101"), (0, 8))
    ∷ (word (codes "000000011000"), (0, 9))
    ∷ (word (codes "000000010011"), (0, 10))
    ∷ (word (codes "000000010000"), (0, 11))
    ∷ (word (codes "0000000011010"), (0, 12))
    ∷ (word (codes "0000000011001"), (0, 13))
    ∷ (word (codes "0000000011000"), (0, 14))
    ∷ (word (codes "0000000010111"), (0, 15))
    ∷ (word (codes "011"), (1, 1))
    ∷ (word (codes "000110"), (1, 2))
    ∷ (word (codes "00100101"), (1, 3))
    ∷ (word (codes "0000001100"), (1, 4))
    ∷ (word (codes "000000011011"), (1, 5))
    ∷ (word (codes "0000000010110"), (1, 6))
    ∷ (word (codes "0000000010101"), (1, 7))
    ∷ (word (codes "0101"), (2, 1))
    ∷ (word (codes "0000100"), (2, 2))
    ∷ (word (codes "0000001011"), (2, 3))
    ∷ (word (codes "000000010100"), (2, 4))
    ∷ (word (codes "0000000010100"), (2, 5))
    ∷ (word (codes "00111"), (3, 1))
    ∷ (word (codes "00100100"), (3, 2))
    ∷ (word (codes "000000011100"), (3, 3))
    ∷ (word (codes "0000000010011"), (3, 4))
    ∷ (word (codes "00110"), (4, 1))
    ∷ (word (codes "0000001111"), (4, 2))
    ∷ (word (codes "000000010010"), (4, 3))
    ∷ (word (codes "000111"), (5, 1))
    ∷ (word (codes "0000001001"), (5, 2))
    ∷ (word (codes "0000000010010"), (5, 3))
    ∷ (word (codes "000101"), (6, 1))
    ∷ (word (codes "000000011110"), (6, 2))
    ∷ (word (codes "000100"), (7, 1))
    ∷ (word (codes "000000010101"), (7, 2))
    ∷ (word (codes "0000111"), (8, 1))
    ∷ (word (codes "000000010001"), (8, 2))
    ∷ (word (codes "0000101"), (9, 1))
    ∷ (word (codes "0000000010001"), (9, 2))
    ∷ (word (codes "00100111"), (10, 1))
    ∷ (word (codes "0000000010000"), (10, 2))
    ∷ (word (codes "00100011"), (11, 1))
    ∷ (word (codes "00100010"), (12, 1))
    ∷ (word (codes "00100000"), (13, 1))
    ∷ (word (codes "0000001110"), (14, 1))
    ∷ (word (codes "0000001101"), (15, 1))
    ∷ (word (codes "0000001000"), (16, 1))
    ∷ (word (codes "000000011111"), (17, 1))
    ∷ (word (codes "000000011010"), (18, 1))
    ∷ (word (codes "000000011001"), (19, 1))
    ∷ (word (codes "000000010111"), (20, 1))
    ∷ (word (codes "000000010110"), (21, 1))
    ∷ (word (codes "0000000011111"), (22, 1))
    ∷ (word (codes "0000000011110"), (23, 1))
    ∷ (word (codes "0000000011101"), (24, 1))
    ∷ (word (codes "0000000011100"), (25, 1))
    ∷ (word (codes "0000000011011"), (26, 1))
    ∷ []

-- run 0 and level 1 as the first coefficient of a block that has no INTRADC, and everywhere else
abbrev pub first_one_word : List Bool
first_one_word = word (codes "1")

abbrev pub later_one_word : List Bool
later_one_word = word (codes "11")

-- escape, which 6 bits of run and 8 bits of level follow
abbrev pub escape_word : List Bool
escape_word = word (codes "000001")

-- the end of a block, which cannot stand first where there is no INTRADC
abbrev pub end_of_block_word : List Bool
end_of_block_word = word (codes "10")

-- ---- the columns of the table of MTYPE

-- the row of a kind, from 0
abbrev pub row_of : MbKind → ℕ
row_of Intra = 0
row_of IntraQuant = 1
row_of Inter = 2
row_of InterQuant = 3
row_of Mc = 4
row_of McCoded = 5
row_of McQuant = 6
row_of McFil = 7
row_of McFilCoded = 8
row_of McFilQuant = 9

abbrev pub is_intra : MbKind → Bool
is_intra Intra = true
is_intra IntraQuant = true
is_intra _ = false

abbrev pub has_mquant : MbKind → Bool
has_mquant IntraQuant = true
has_mquant InterQuant = true
has_mquant McQuant = true
has_mquant McFilQuant = true
has_mquant _ = false

-- a macroblock of such a kind is motion compensated
abbrev pub has_vector : MbKind → Bool
has_vector Intra = false
has_vector IntraQuant = false
has_vector Inter = false
has_vector InterQuant = false
has_vector _ = true

abbrev pub has_cbp : MbKind → Bool
has_cbp Intra = false
has_cbp IntraQuant = false
has_cbp Mc = false
has_cbp McFil = false
has_cbp _ = true

-- ---- prefix freedom

-- the first list is a prefix of the second
abbrev pub is_prefix : List Bool → List Bool → Bool
is_prefix [] bits = true
is_prefix (b ∷ bs) [] = false
is_prefix (true ∷ bs) (true ∷ cs) = is_prefix bs cs
is_prefix (false ∷ bs) (false ∷ cs) = is_prefix bs cs
is_prefix (b ∷ bs) (c ∷ cs) = false

-- no codeword is a prefix of another
abbrev pub is_prefix_free : List (List Bool) → Bool
is_prefix_free [] = true
is_prefix_free (w ∷ ws) = not (list_any (λ v. is_prefix w v || is_prefix v w) ws) && is_prefix_free ws
