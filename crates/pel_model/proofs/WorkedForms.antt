-- Worked input forms, bit by bit; each was read by another implementation as the picture that stands beside it.
use Rattle.std.proofs.Common.{replicate, map, ◌≡◌, ℕ, ◌+◌, ◌-◌, ◌*◌, ◌<◌, ◌≤◌, Bool, true, false, List, [], ◌∷◌, ◌++◌, length, Some, None, pos, codes, refl, sym, ap, subst, arith}
use Rattle.std.proofs.lemmas.Bool.{ltb-true, ltb-false}
use Rattle.std.proofs.lemmas.List.Elements.{All-nil, All-cons}
use Rattle.pel_model.specs.declared.Format.TheVariants.{Qcif, Cif}
use Rattle.pel_model.specs.declared.MbKind.TheVariants.{Inter}
use Rattle.pel_model.specs.Bits.{field, number}
use Rattle.pel_model.specs.Codes.{word, mba_table, mtype_table, mvd_table, cbp_table, tcoeff_table}
use Rattle.pel_model.specs.Records.{Macroblock, Picture}
use Rattle.pel_model.specs.Regions.{empty_group}
use Rattle.pel_model.specs.Text.{text, macroblocks_text, macroblock_text, block_text, coefficient_word}
use Rattle.pel_model.specs.Valid.{group_numbers, IsValidMacroblock, IsValidGroup, IsValid}
use Rattle.pel_model.specs.Headers.{FreeBits, picture_header_text, group_header_text}
use Rattle.pel_model.specs.Spelling.{LeftOut, Sent, Form, strict_form, GroupsFit, IsSpelling, stuffed_text, input_text}
use Rattle.pel_model.specs.Accepts.{counted_length, IsAccepted, LegalCif}
use Rattle.pel_model.proofs.WorkedRecords.{digits, kinds, kinds_bits, wide_bits, wide, group_of}
use Rattle.pel_model.proofs.WorkedValid.{silent_groups, silent_are_valid, silent_cif, picture_of, cif_numbers}

abbrev pub plain : FreeBits
plain = record { split = false; document = false; release = false; spare = true }

-- a header alone, and seven zeros
abbrev pub nothing : Form
nothing = record { free = plain; spares = []; groups = LeftOut ∷ LeftOut ∷ LeftOut ∷ []; zeros = 7 }

abbrev pub nothing_sent : Picture
nothing_sent = record { tr = 1; groups = empty_group 1 ∷ empty_group 3 ∷ empty_group 5 ∷ [] }

pub header_alone : (input_text Qcif nothing nothing_sent ≡ word (codes "000000000000000100000000100001100000000")) × (counted_length Qcif nothing nothing_sent ≡ 32 + 3 * 26)
unfolding picture_header_text field
header_alone = (refl, refl)

-- the same in CIF, without zeros: twelve groups are left out
abbrev pub nothing_in_cif : Form
nothing_in_cif = record { free = plain; spares = []; groups = replicate 12 LeftOut; zeros = 0 }

abbrev pub cif_picture : Picture
cif_picture = record { tr = 1; groups = map empty_group (group_numbers Cif) }

pub cif_header_alone : (input_text Cif nothing_in_cif cif_picture ≡ word (codes "00000000000000010000000010001110")) × (counted_length Cif nothing_in_cif cif_picture ≡ 344)
unfolding picture_header_text field
cif_header_alone = (refl, refl)

-- a group with two stuffings behind its header, and three zeros
abbrev pub stuffed : Form
stuffed = record { free = plain; spares = []; groups = Sent [] 2 [] ∷ LeftOut ∷ LeftOut ∷ []; zeros = 3 }

abbrev pub one_header : Picture
one_header = record {
  tr = 1;
  groups = (record { number = 1; quant = 8; macroblocks = [] }) ∷ empty_group 3
      ∷ empty_group 5 ∷ [];
}

pub stuffed_group : (input_text Qcif stuffed one_header ≡ word (codes "00000000000000010000000010000110000000000000000100010100000000000111100000001111000")) × (counted_length Qcif stuffed one_header ≡ 80 + 2 * 26)
unfolding picture_header_text group_header_text stuffed_text field
stuffed_group = (refl, refl)

-- free bits 1, 0, 1 and 0, two spare octets behind the picture header; group 1 with a spare octet, two stuffings, a
-- macroblock of one block and a stuffing; group 3 left out; group 5 with quantiser 10; five zeros
abbrev pub dressed : Form
dressed = record {
  free = record { split = true; document = false; release = true; spare = false };
  spares = 0 ∷ 255 ∷ [];
  groups = Sent (69 ∷ []) 2 (1 ∷ []) ∷ LeftOut ∷ Sent [] 0 [] ∷ [];
  zeros = 5;
}

abbrev pub one_macroblock : Macroblock
one_macroblock = record { address = 1; kind = Inter; mquant = None; across = pos 0; down = pos 0; blocks = Some (record { dc = None; coefficients = (record { run = 0; level = pos 1; long = false }) ∷ [] }) ∷ None ∷ None ∷ None ∷ None ∷ None ∷ [] }

abbrev pub one_block : Picture
one_block = record {
  tr = 1;
  groups = (record { number = 1; quant = 8; macroblocks = one_macroblock ∷ [] })
      ∷ empty_group 3 ∷ (record { number = 5; quant = 10; macroblocks = [] }) ∷ [];
}

abbrev pub dressed_bits : List Bool
dressed_bits = word (codes "000000000000000100000000110101010000000011111111100000000000000001000101000101000101000000001111000000011111110101010000000011110000000000000001010101010000000")

pub dressed_text : (input_text Qcif dressed one_block ≡ dressed_bits) × (counted_length Qcif dressed one_block ≡ 159 - 5 + 26)
unfolding picture_header_text group_header_text stuffed_text macroblock_text block_text coefficient_word field number mba_table mtype_table mvd_table cbp_table tcoeff_table
dressed_text = (refl, refl)

-- a CIF picture with spare octets and stuffing in several places; where no number of stuffings is given there is none
abbrev pub wide_form : Form
wide_form = record {
  free = record { split = false; document = true; release = true; spare = false };
  spares = 5 ∷ [];
  groups =
      Sent [] 0 (2 ∷ [])
      ∷ Sent (7 ∷ 255 ∷ []) 1 (0 ∷ 1 ∷ [])
      ∷ LeftOut
      ∷ LeftOut
      ∷ LeftOut
      ∷ LeftOut
      ∷ LeftOut
      ∷ Sent [] 0 []
      ∷ Sent (0 ∷ []) 0 (1 ∷ [])
      ∷ LeftOut
      ∷ LeftOut
      ∷ Sent [] 3 []
      ∷ [];
  zeros = 1;
}

pub wide_text : (input_text Cif wide_form wide ≡ digits (
    codes "00000000000000010000 11111 011110 1 00000101 0"
    ++ codes "0000000000000001 0001 01000 0"
    ++ codes "00001010 00000001 00000011010 1 1010 10 000001 000011 11111011 000001 000000 01111111 10 00000001111 00000001111"
    ++ codes "1 00001 00011 0010011 11 10 10 10"
    ++ codes "0000000000000001 0010 01001 1 00000111 1 11111111 0 00000001111"
    ++ codes "1 000001 11110 00000011011 00000011010 01011 00000000100000 10"
    ++ codes "1 001 1 1 00000001111"
    ++ codes "00001010 0001 11111111 10 00000111 01001 10 11111111 10 11111111 10 11111111 10 11111111 10"
    ++ codes "0000000000000001 1000 01010 0"
    ++ codes "00000011000 0000001 01100 11111111 10 11111111 10 11111111 10 11111111 10 11111111 10 11111111 10"
    ++ codes "0000000000000001 1001 11111 1 00000000 0"
    ++ codes "00000100010 000000001 1 00000011010 00000001111"
    ++ codes "0000000000000001 1100 00001 0 00000001111 00000001111 00000001111"
    ++ codes "00000011001 1 1011 10 10"
    ++ codes "1 00000001 011 00000011011 01001 001110 10"
    ++ codes "0")) × (counted_length Cif wide_form wide ≡ 697 + 7 * 26)
unfolding picture_header_text group_header_text stuffed_text macroblock_text block_text coefficient_word field number mba_table mtype_table mvd_table cbp_table tcoeff_table
wide_text = (refl, refl)

-- in its strict form a picture is its strict text
pub strict_texts :
    (input_text Qcif (strict_form kinds) kinds ≡ kinds_bits)
    × (input_text Cif (strict_form wide) wide ≡ wide_bits)
    × (counted_length Cif (strict_form wide) wide ≡ 755)
unfolding picture_header_text group_header_text stuffed_text macroblock_text block_text coefficient_word field number mba_table mtype_table mvd_table cbp_table tcoeff_table
strict_texts = (refl, refl, refl)

-- ---- what a form may leave out, and how many zeros it may have

-- a group that is left out, and one whose form is that of a group that is sent
pub forms_that_fit : GroupsFit (LeftOut ∷ Sent [] 0 [] ∷ []) (empty_group 1 ∷ group_of 3 9 (one_macroblock ∷ []) ∷ [])
forms_that_fit = ((refl, refl), (tt, tt))

-- a group with another quantiser than 1, one with a macroblock, a group without a form, and a form without a group
pub forms_that_do_not :
    (GroupsFit (LeftOut ∷ []) (group_of 1 2 [] ∷ []) → ⊥)
    × (GroupsFit (LeftOut ∷ []) (group_of 1 1 (one_macroblock ∷ []) ∷ []) → ⊥)
    × (GroupsFit [] (empty_group 1 ∷ []) → ⊥)
    × (GroupsFit (LeftOut ∷ []) [] → ⊥)
forms_that_do_not = (
  (λ h. let e : 2 ≡ 1 = h.0.0 in omega (arith, e)),
  (λ h. let e : 1 ≡ 0 = ap (λ (ms : List Macroblock). length ms) h.0.1 in omega (arith, e)),
  (λ h. h),
  (λ h. h),
)

-- seven zeros
pub seven_zeros : IsSpelling Qcif nothing (word (codes "000000000000000100000000100001100000000")) nothing_sent
unfolding picture_header_text field
seven_zeros = record { fits = ((refl, refl), ((refl, refl), ((refl, refl), tt))); zeros = ltb-true 7 8 refl; text = refl }

-- eight zeros; other bits than the text; a form that does not fit
pub no_spellings :
    (IsSpelling Qcif (record nothing { zeros = 8 }) (word (codes "0000000000000001000000001000011000000000")) nothing_sent → ⊥)
    × (IsSpelling Qcif nothing [] nothing_sent → ⊥)
    × (IsSpelling Qcif nothing (word (codes "000000000000000100000000100001100000000")) one_header → ⊥)
unfolding picture_header_text field
no_spellings = (
  (λ h. let lt : 8 < 8 = h.zeros in omega (arith, lt)),
  (λ h. let e : 0 ≡ 39 = ap (λ (bits : List Bool). length bits) h.text in omega (arith, e)),
  (λ h. let e : 8 ≡ 1 = h.fits.0.0 in omega (arith, e)),
)

-- ---- the limit

-- spare octets of 9 bits and stuffings of 11 up to the last bit of a QCIF picture, and one bit more; two groups are left out
abbrev pub filled : (spares stuffings : ℕ) → Form
filled spares stuffings =
    record {
      free = plain;
      spares = replicate spares 0;
      groups = Sent [] stuffings [] ∷ LeftOut ∷ LeftOut
          ∷ [];
      zeros = 0;
    }

header_is_valid : IsValid Qcif one_header
header_is_valid = record {
  so_far = record {
    tr = ltb-true 1 32 refl;
    numbers = refl;
    groups =
        All-cons (IsValidGroup Qcif) (group_of 1 8 []) (empty_group 3 ∷ empty_group 5 ∷ [])
        (record { quant = (ltb-true 0 8 refl, ltb-false 31 8 refl); addresses = tt; macroblocks = All-nil (IsValidMacroblock Qcif 1) })
        (silent_are_valid Qcif (3 ∷ 5 ∷ []));
  };
  whole = refl;
}

pub counted_at_the_limit : (counted_length Qcif (filled 1 5947) one_header ≡ 65536) × (counted_length Qcif (filled 6 5943) one_header ≡ 65537)
unfolding picture_header_text group_header_text stuffed_text field
counted_at_the_limit = (refl, refl)

pub accepted_at_the_limit : IsAccepted Qcif (filled 1 5947) (input_text Qcif (filled 1 5947) one_header) one_header
accepted_at_the_limit = record {
  spelling = record { fits = (tt, ((refl, refl), ((refl, refl), tt))); zeros = ltb-true 0 8 refl; text = refl };
  valid = header_is_valid;
  short = subst (λ n. n ≤ 65536) (sym counted_at_the_limit.0) (ltb-false 65536 65536 refl);
}

-- one bit past the limit; a picture with TR 32, whose text is that of TR 0; other bits
pub not_accepted :
    ((bits : List Bool) → IsAccepted Qcif (filled 6 5943) bits one_header → ⊥)
    × (IsAccepted Qcif nothing (word (codes "000000000000000100000000000001100000000")) (record nothing_sent { tr = 32 }) → ⊥)
    × (IsAccepted Qcif nothing [] nothing_sent → ⊥)
unfolding picture_header_text field
not_accepted = (
  (λ bits h. let le : 65537 ≤ 65536 = subst (λ n. n ≤ 65536) counted_at_the_limit.1 h.short in omega (arith, le)),
  (λ h. let lt : 32 < 32 = h.valid.so_far.tr in omega (arith, lt)),
  (λ h. no_spellings.1 h.spelling),
)

-- ---- legal texts

pub a_legal_text : LegalCif (digits (
    codes "00000000000000010000 00000 000111 0"
    ++ codes "0000000000000001 0001 00001 0"
    ++ codes "0000000000000001 0010 00001 0"
    ++ codes "0000000000000001 0011 00001 0"
    ++ codes "0000000000000001 0100 00001 0"
    ++ codes "0000000000000001 0101 00001 0"
    ++ codes "0000000000000001 0110 00001 0"
    ++ codes "0000000000000001 0111 00001 0"
    ++ codes "0000000000000001 1000 00001 0"
    ++ codes "0000000000000001 1001 00001 0"
    ++ codes "0000000000000001 1010 00001 0"
    ++ codes "0000000000000001 1011 00001 0"
    ++ codes "0000000000000001 1100 00001 0"))
unfolding picture_header_text group_header_text macroblocks_text field
a_legal_text = (picture_of 0 (silent_groups cif_numbers), silent_cif, refl, ltb-false 262144 344 refl)

-- at most 262,144 bits, all of which may be there, of a valid picture
pub bounds_of_legal_texts :
    ((bits : List Bool) → LegalCif bits → length bits ≤ 262144)
    × ((pic : Picture) → IsValid Cif pic → length (text Cif pic) ≤ 262144 → LegalCif (text Cif pic))
    × ((bits : List Bool) → LegalCif bits → (pic : Picture) × IsValid Cif pic × (bits ≡ text Cif pic))
bounds_of_legal_texts = ((λ bits h. h.3), (λ pic valid short. (pic, valid, refl, short)), (λ bits h. (h.0, h.1, h.2)))
