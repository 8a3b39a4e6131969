-- Worked pictures: the strict texts of three records, bit by bit.
use Rattle.std.specs.Prelude.{◌≡◌, ℕ, zero, suc, ◌+◌, Bool, false, List, [], ◌∷◌, ◌++◌, length, replicate, Option, Some, None, ℤ, pos, negsuc, codes, refl}
use Rattle.pel_model.specs.Headers.{group_header_text, picture_header_text}
use Rattle.pel_model.specs.declared.Format.TheVariants.{Qcif, Cif}
use Rattle.pel_model.specs.declared.MbKind.TheVariants.{Intra, Inter, Mc}
use Rattle.pel_model.specs.declared.Quad.TheVariants.{Four}
use Rattle.pel_model.specs.Bits.{field, number}
use Rattle.pel_model.specs.Codes.{word, mba_table, mtype_table, mvd_table, cbp_table, tcoeff_table}
use Rattle.pel_model.specs.Records.{Block, Macroblock, Group, Picture}
use Rattle.pel_model.specs.Regions.{shown_in}
use Rattle.pel_model.specs.Text.{text, macroblocks_text, macroblock_text, block_text, coefficient_word}

abbrev sent : ℕ → List Macroblock → Picture
sent tr macroblocks =
    record { tr = tr; groups = (record { number = 1; quant = 8; macroblocks = macroblocks }) ∷ (record { number = 3; quant = 8; macroblocks = [] }) ∷ (record { number = 5; quant = 8; macroblocks = [] }) ∷ [] }

abbrev header : List Bool
header = word (codes "00000000000000010000" ++ codes "00001" ++ codes "000011" ++ codes "0")

abbrev group_at : List ℕ → List Bool
group_at number = word (codes "0000000000000001" ++ number ++ codes "01000" ++ codes "0")

-- one block with level 1 first
abbrev small : Picture
small = sent 1
    ((record { address = 1; kind = Inter; mquant = None; across = pos 0; down = pos 0; blocks = Some (record { dc = None; coefficients = (record { run = 0; level = pos 1; long = false }) ∷ [] }) ∷ None ∷ None ∷ None ∷ None ∷ None ∷ [] }) ∷ [])

pub small_text : text Qcif small
    ≡ header ++ group_at (codes "0001") ++ word (codes "1" ++ codes "1" ++ codes "1010" ++ codes "10" ++ codes "10") ++ group_at (codes "0011") ++ group_at (codes "0101")
unfolding picture_header_text group_header_text macroblocks_text macroblock_text block_text coefficient_word field number mba_table mtype_table mvd_table cbp_table tcoeff_table
small_text = refl

abbrev moving : ℕ → ℤ → Macroblock
moving address across = record { address = address; kind = Mc; mquant = None; across = across; down = pos 0; blocks = replicate 6 None }

-- the predictor starts anew at address 12 and is kept at 13
abbrev turn : Picture
turn = sent 1 (moving 11 (negsuc 1) ∷ moving 12 (pos 1) ∷ moving 13 (pos 1) ∷ [])

pub turn_text : text Qcif turn
    ≡ header ++ group_at (codes "0001")
    ++ word (codes "00001010" ++ codes "000000001" ++ codes "0011" ++ codes "1")
    ++ word (codes "1" ++ codes "000000001" ++ codes "010" ++ codes "1")
    ++ word (codes "1" ++ codes "000000001" ++ codes "1" ++ codes "1")
    ++ group_at (codes "0011") ++ group_at (codes "0101")
unfolding picture_header_text group_header_text macroblocks_text macroblock_text block_text coefficient_word field number mba_table mtype_table mvd_table cbp_table tcoeff_table
turn_text = refl

-- a picture all of whose blocks have INTRADC 255 and no coefficient has 6,545 bits; in a CIF picture with nothing
-- elsewhere it has 6,779
abbrev grey_block : Option Block
grey_block = Some (record { dc = Some 255; coefficients = [] })

abbrev grey_macroblocks : (last more : ℕ) → List Macroblock
grey_macroblocks last zero = []
grey_macroblocks last (suc more) =
    record { address = last + 1; kind = Intra; mquant = None; across = pos 0; down = pos 0; blocks = replicate 6 grey_block }
    ∷ grey_macroblocks (last + 1) more

abbrev grey_group : ℕ → Group
grey_group number = record { number = number; quant = 8; macroblocks = grey_macroblocks 0 33 }

abbrev grey : Picture
grey = record { tr = 1; groups = grey_group 1 ∷ grey_group 3 ∷ grey_group 5 ∷ [] }

pub grey_lengths : (length (text Qcif grey) ≡ 6545) × (length (text Cif (shown_in Four 1 grey)) ≡ 6779)
unfolding picture_header_text group_header_text macroblocks_text macroblock_text block_text coefficient_word field number mba_table mtype_table mvd_table cbp_table tcoeff_table
grey_lengths = (refl, refl)
