-- Worked compositions: the text of a CIF picture with another picture in each place, and of one with a picture in one place
-- alone, as another implementation makes them.
use Rattle.std.specs.Prelude.{◌≡◌, ℕ, zero, suc, ◌+◌, Bool, List, [], ◌∷◌, ◌++◌, map, take, drop, replicate, Option, Some, None, pos, negsuc, codes, refl}
use Rattle.pel_model.specs.Headers.{group_header_text, picture_header_text}
use Rattle.pel_model.specs.declared.Format.TheVariants.{Cif}
use Rattle.pel_model.specs.declared.MbKind.TheVariants.{Intra, Inter, Mc, McCoded, McFil}
use Rattle.pel_model.specs.declared.Quad.{Quad}
use Rattle.pel_model.specs.declared.Quad.TheVariants.{One, Two, Three, Four}
use Rattle.pel_model.specs.Bits.{field, number}
use Rattle.pel_model.specs.Composed.{composed_of, groups_in}
use Rattle.pel_model.specs.Codes.{mba_table, mtype_table, mvd_table, cbp_table, tcoeff_table}
use Rattle.pel_model.specs.Records.{Macroblock, Group, Picture}
use Rattle.pel_model.specs.Regions.{number_of, blank, composed, shown_in}
use Rattle.pel_model.specs.Text.{text, macroblocks_text, macroblock_text, block_text, coefficient_word}
use Rattle.pel_model.proofs.WorkedRecords.{digits, pair, coded, intra, only, none_sent, sent, group_of}

abbrev pub first : Picture
first = record {
  tr = 1;
  groups =
      group_of 1 2 (
      sent 1 Inter None (pos 0) (pos 0) (only 1 (coded (pair 0 (pos 1) ∷ [])))
      ∷ [])
      ∷ group_of 3 3 []
      ∷ group_of 5 4 (
      sent 33 Mc None (pos 0) (negsuc 0) none_sent
      ∷ [])
      ∷ [];
}

abbrev pub second : Picture
second = record {
  tr = 2;
  groups =
      group_of 1 5 []
      ∷ group_of 3 6 (
      sent 11 McFil None (negsuc 0) (pos 1) none_sent
      ∷ sent 12 Mc None (pos 0) (pos 0) none_sent
      ∷ [])
      ∷ group_of 5 7 []
      ∷ [];
}

abbrev pub third : Picture
third = record {
  tr = 3;
  groups =
      group_of 1 8 (
      sent 33 McCoded None (negsuc 14) (pos 15) (only 6 (coded (pair 0 (pos 1) ∷ [])))
      ∷ [])
      ∷ group_of 3 9 []
      ∷ group_of 5 10 []
      ∷ [];
}

abbrev pub fourth : Picture
fourth = record {
  tr = 4;
  groups =
      group_of 1 11 []
      ∷ group_of 3 12 []
      ∷ group_of 5 13 (
      sent 2 Intra None (pos 0) (pos 0) (replicate 6 (intra 1 []))
      ∷ [])
      ∷ [];
}

-- ---- all four

pub composed_text : text Cif (composed 7 first second third fourth) ≡ digits (
    codes "00000000000000010000 00111 000111 0"
    ++ codes "0000000000000001 0001 00010 0"
    ++ codes "1 1 1010 10 10"
    ++ codes "0000000000000001 0010 00101 0"
    ++ codes "0000000000000001 0011 00011 0"
    ++ codes "0000000000000001 0100 00110 0"
    ++ codes "00001010 001 011 010"
    ++ codes "1 000000001 1 1"
    ++ codes "0000000000000001 0101 00100 0"
    ++ codes "00000011000 000000001 1 011"
    ++ codes "0000000000000001 0110 00111 0"
    ++ codes "0000000000000001 0111 01000 0"
    ++ codes "00000011000 00000001 00000011011 00000011010 01011 10 10"
    ++ codes "0000000000000001 1000 01011 0"
    ++ codes "0000000000000001 1001 01001 0"
    ++ codes "0000000000000001 1010 01100 0"
    ++ codes "0000000000000001 1011 01010 0"
    ++ codes "0000000000000001 1100 01101 0"
    ++ codes "011 0001 00000001 10 00000001 10 00000001 10 00000001 10 00000001 10 00000001 10")
unfolding picture_header_text group_header_text macroblocks_text macroblock_text block_text coefficient_word field number mba_table mtype_table mvd_table cbp_table tcoeff_table
composed_text = refl

-- ---- one alone: what is elsewhere are groups with quantiser 1 and no macroblocks

pub shown_in_one : text Cif (shown_in One 20 first) ≡ digits (
    codes "00000000000000010000 10100 000111 0"
    ++ codes "0000000000000001 0001 00010 0"
    ++ codes "1 1 1010 10 10"
    ++ codes "0000000000000001 0010 00001 0"
    ++ codes "0000000000000001 0011 00011 0"
    ++ codes "0000000000000001 0100 00001 0"
    ++ codes "0000000000000001 0101 00100 0"
    ++ codes "00000011000 000000001 1 011"
    ++ codes "0000000000000001 0110 00001 0"
    ++ codes "0000000000000001 0111 00001 0"
    ++ codes "0000000000000001 1000 00001 0"
    ++ codes "0000000000000001 1001 00001 0"
    ++ codes "0000000000000001 1010 00001 0"
    ++ codes "0000000000000001 1011 00001 0"
    ++ codes "0000000000000001 1100 00001 0")
unfolding picture_header_text group_header_text macroblocks_text macroblock_text block_text coefficient_word field number mba_table mtype_table mvd_table cbp_table tcoeff_table
shown_in_one = refl

pub shown_in_two : text Cif (shown_in Two 21 second) ≡ digits (
    codes "00000000000000010000 10101 000111 0"
    ++ codes "0000000000000001 0001 00001 0"
    ++ codes "0000000000000001 0010 00101 0"
    ++ codes "0000000000000001 0011 00001 0"
    ++ codes "0000000000000001 0100 00110 0"
    ++ codes "00001010 001 011 010"
    ++ codes "1 000000001 1 1"
    ++ codes "0000000000000001 0101 00001 0"
    ++ codes "0000000000000001 0110 00111 0"
    ++ codes "0000000000000001 0111 00001 0"
    ++ codes "0000000000000001 1000 00001 0"
    ++ codes "0000000000000001 1001 00001 0"
    ++ codes "0000000000000001 1010 00001 0"
    ++ codes "0000000000000001 1011 00001 0"
    ++ codes "0000000000000001 1100 00001 0")
unfolding picture_header_text group_header_text macroblocks_text macroblock_text block_text coefficient_word field number mba_table mtype_table mvd_table cbp_table tcoeff_table
shown_in_two = refl

pub shown_in_three : text Cif (shown_in Three 22 third) ≡ digits (
    codes "00000000000000010000 10110 000111 0"
    ++ codes "0000000000000001 0001 00001 0"
    ++ codes "0000000000000001 0010 00001 0"
    ++ codes "0000000000000001 0011 00001 0"
    ++ codes "0000000000000001 0100 00001 0"
    ++ codes "0000000000000001 0101 00001 0"
    ++ codes "0000000000000001 0110 00001 0"
    ++ codes "0000000000000001 0111 01000 0"
    ++ codes "00000011000 00000001 00000011011 00000011010 01011 10 10"
    ++ codes "0000000000000001 1000 00001 0"
    ++ codes "0000000000000001 1001 01001 0"
    ++ codes "0000000000000001 1010 00001 0"
    ++ codes "0000000000000001 1011 01010 0"
    ++ codes "0000000000000001 1100 00001 0")
unfolding picture_header_text group_header_text macroblocks_text macroblock_text block_text coefficient_word field number mba_table mtype_table mvd_table cbp_table tcoeff_table
shown_in_three = refl

pub shown_in_four : text Cif (shown_in Four 23 fourth) ≡ digits (
    codes "00000000000000010000 10111 000111 0"
    ++ codes "0000000000000001 0001 00001 0"
    ++ codes "0000000000000001 0010 00001 0"
    ++ codes "0000000000000001 0011 00001 0"
    ++ codes "0000000000000001 0100 00001 0"
    ++ codes "0000000000000001 0101 00001 0"
    ++ codes "0000000000000001 0110 00001 0"
    ++ codes "0000000000000001 0111 00001 0"
    ++ codes "0000000000000001 1000 01011 0"
    ++ codes "0000000000000001 1001 00001 0"
    ++ codes "0000000000000001 1010 01100 0"
    ++ codes "0000000000000001 1011 00001 0"
    ++ codes "0000000000000001 1100 01101 0"
    ++ codes "011 0001 00000001 10 00000001 10 00000001 10 00000001 10 00000001 10 00000001 10")
unfolding picture_header_text group_header_text macroblocks_text macroblock_text block_text coefficient_word field number mba_table mtype_table mvd_table cbp_table tcoeff_table
shown_in_four = refl

-- ---- a picture all of whose blocks have INTRADC 255 and no coefficient, in the fourth place: its headers and their places

abbrev pub grey_macroblocks : (last more : ℕ) → List Macroblock
grey_macroblocks last zero = []
grey_macroblocks last (suc more) =
    sent (last + 1) Intra None (pos 0) (pos 0) (replicate 6 (intra 255 [])) ∷ grey_macroblocks (last + 1) more

abbrev pub grey : Picture
grey = record { tr = 1; groups = map (λ n. group_of n 8 (grey_macroblocks 0 33)) (1 ∷ 3 ∷ 5 ∷ []) }

abbrev pub headers_at : List ℕ → List Bool → List (List Bool)
headers_at places bits = map (λ place. take 26 (drop place bits)) places

pub headers_of_the_fourth : headers_at (214 ∷ 2411 ∷ 4608 ∷ []) (text Cif (shown_in Four 1 grey))
    ≡ digits (codes "0000000000000001 1000 01000 0")
    ∷ digits (codes "0000000000000001 1010 01000 0")
    ∷ digits (codes "0000000000000001 1100 01000 0")
    ∷ []
unfolding picture_header_text group_header_text macroblocks_text macroblock_text block_text coefficient_word field number mba_table mtype_table mvd_table cbp_table tcoeff_table
headers_of_the_fourth = refl

pub numbers_of_places : map number_of (One ∷ Two ∷ Three ∷ Four ∷ []) ≡ 1 ∷ 2 ∷ 3 ∷ 4 ∷ []
numbers_of_places = refl

-- ---- each place gets its own picture, and a place that is shown none sends nothing

abbrev each : Quad → Option Picture
each One = Some first
each Two = Some second
each Three = Some third
each Four = Some fourth

pub in_each_place : composed_of 7 each ≡ composed 7 first second third fourth
in_each_place = refl

abbrev third_alone : Quad → Option Picture
third_alone Three = Some third
third_alone _ = None

pub in_one_place : composed_of 8 third_alone ≡ composed 8 blank blank third blank
in_one_place = refl

-- the groups of a CIF picture that stand in each place
pub groups_of_places : map (λ (q : Quad). map (λ (g : Group). g.number) (groups_in q (composed 7 first second third fourth))) (One ∷ Two ∷ Three ∷ Four ∷ [])
    ≡ (1 ∷ 3 ∷ 5 ∷ []) ∷ (2 ∷ 4 ∷ 6 ∷ []) ∷ (7 ∷ 9 ∷ 11 ∷ []) ∷ (8 ∷ 10 ∷ 12 ∷ []) ∷ []
groups_of_places = refl
