-- Worked texts: the strict texts and the marks of the worked records, and the levels of blocks, as another implementation of
-- H.261 has them.
use Rattle.std.specs.Prelude.{◌≡◌, ℕ, Bool, true, false, List, [], ◌∷◌, map, replicate, Option, Some, None, ℤ, pos, negsuc, refl}
use Rattle.pel_model.specs.Headers.{group_header_text, picture_header_text}
use Rattle.pel_model.specs.declared.Format.TheVariants.{Qcif, Cif}
use Rattle.pel_model.specs.declared.Mark.{Mark}
use Rattle.pel_model.specs.declared.MbKind.TheVariants.{Intra, Inter, McFilQuant}
use Rattle.pel_model.specs.Bits.{field, number}
use Rattle.pel_model.specs.Codes.{mba_table, mtype_table, mvd_table, cbp_table, tcoeff_table}
use Rattle.pel_model.specs.Records.{Across, Down, Coefficient, Block, Group, quantiser_behind}
use Rattle.pel_model.specs.Text.{text, macroblocks_text, macroblock_text, block_text, coefficient_word}
use Rattle.pel_model.specs.Marks.{marks_of}
use Rattle.pel_model.specs.Levels.{levels}
use Rattle.pel_model.specs.Elements.{spare_elements, macroblock_elements}
use Rattle.pel_model.specs.Grammar.{Gei, Gspare, Mba, Mtype, Mquant, Mvd, Cbp, Dc, Tcoeff, Eob}
use Rattle.pel_model.proofs.WorkedRecords.{kinds, kinds_bits, vectors, vectors_bits, wide, wide_bits, pair, escape, only, coded, intra, sent}

-- ---- strict texts

pub text_of_kinds : text Qcif kinds ≡ kinds_bits
unfolding picture_header_text group_header_text macroblocks_text macroblock_text block_text coefficient_word field number mba_table mtype_table mvd_table cbp_table tcoeff_table
text_of_kinds = refl

pub text_of_vectors : text Qcif vectors ≡ vectors_bits
unfolding picture_header_text group_header_text macroblocks_text macroblock_text block_text coefficient_word field number mba_table mtype_table mvd_table cbp_table tcoeff_table
text_of_vectors = refl

pub text_of_wide : text Cif wide ≡ wide_bits
unfolding picture_header_text group_header_text macroblocks_text macroblock_text block_text coefficient_word field number mba_table mtype_table mvd_table cbp_table tcoeff_table
text_of_wide = refl

-- ---- marks

abbrev pub mark : (at len group address quant : ℕ) → (across down : ℤ) → Bool → Mark
mark at len group address quant across down intra = record {
  at = at;
  len = len;
  group = group;
  address = address;
  quant_after = quant;
  h_after = across;
  v_after = down;
  intra = intra;
}

pub marks_of_kinds : marks_of kinds ≡
    mark 58 27 1 1 8 (pos 0) (pos 0) false
    ∷ mark 85 63 1 2 5 (pos 0) (pos 0) false
    ∷ mark 148 79 1 3 5 (pos 0) (pos 0) false
    ∷ mark 227 19 1 4 5 (pos 3) (pos 2) false
    ∷ mark 246 27 1 5 5 (negsuc 1) (pos 2) false
    ∷ mark 273 36 1 6 31 (negsuc 1) (pos 15) false
    ∷ mark 309 19 1 7 31 (pos 0) (pos 0) false
    ∷ mark 328 25 1 8 31 (negsuc 14) (pos 1) false
    ∷ mark 353 35 1 9 1 (pos 15) (pos 15) false
    ∷ mark 388 131 1 10 1 (pos 0) (pos 0) true
    ∷ mark 519 73 1 11 17 (pos 0) (pos 0) true
    ∷ mark 592 50 1 12 17 (pos 0) (pos 0) false
    ∷ mark 668 20 3 33 9 (pos 0) (pos 0) false
    ∷ []
unfolding picture_header_text group_header_text macroblocks_text macroblock_text block_text coefficient_word field number mba_table mtype_table mvd_table cbp_table tcoeff_table
marks_of_kinds = refl

pub marks_of_vectors : marks_of vectors ≡
    mark 84 26 3 10 4 (pos 3) (negsuc 1) false
    ∷ mark 110 18 3 11 4 (negsuc 0) (negsuc 1) false
    ∷ mark 128 14 3 12 4 (pos 1) (pos 0) false
    ∷ mark 142 12 3 13 4 (pos 1) (pos 0) false
    ∷ mark 154 38 3 22 4 (negsuc 14) (pos 15) false
    ∷ mark 192 32 3 23 4 (pos 15) (negsuc 14) false
    ∷ mark 224 19 3 24 4 (negsuc 14) (pos 14) false
    ∷ mark 243 21 3 26 4 (pos 2) (pos 3) false
    ∷ mark 264 10 3 27 4 (pos 0) (pos 0) false
    ∷ mark 274 10 3 28 4 (pos 1) (pos 1) false
    ∷ mark 284 6 3 29 4 (pos 1) (pos 1) false
    ∷ mark 290 65 3 30 4 (pos 0) (pos 0) true
    ∷ mark 355 14 3 31 4 (pos 0) (negsuc 0) false
    ∷ mark 395 8 5 1 1 (pos 0) (negsuc 0) false
    ∷ mark 403 26 5 2 2 (pos 0) (negsuc 0) false
    ∷ mark 429 13 5 4 2 (pos 0) (pos 0) false
    ∷ []
unfolding picture_header_text group_header_text macroblocks_text macroblock_text block_text coefficient_word field number mba_table mtype_table mvd_table cbp_table tcoeff_table
marks_of_vectors = refl

pub marks_of_wide : marks_of wide ≡
    mark 58 76 1 11 8 (pos 15) (pos 0) false
    ∷ mark 134 26 1 12 3 (pos 0) (pos 0) false
    ∷ mark 186 55 2 1 30 (negsuc 14) (pos 15) false
    ∷ mark 241 6 2 2 30 (negsuc 14) (pos 15) false
    ∷ mark 247 77 2 13 30 (pos 0) (pos 0) true
    ∷ mark 480 83 8 33 12 (pos 0) (pos 0) true
    ∷ mark 589 32 9 23 31 (pos 0) (pos 15) false
    ∷ mark 699 20 12 32 1 (pos 0) (pos 0) false
    ∷ mark 719 36 12 33 1 (negsuc 0) (negsuc 14) false
    ∷ []
unfolding picture_header_text group_header_text macroblocks_text macroblock_text block_text coefficient_word field number mba_table mtype_table mvd_table cbp_table tcoeff_table
marks_of_wide = refl

-- the quantisers in effect at the ends of groups
pub quantisers_of_kinds : map (λ (g : Group). quantiser_behind g.quant g.macroblocks) kinds.groups ≡ 17 ∷ 9 ∷ 31 ∷ []
quantisers_of_kinds = refl

pub quantisers_of_vectors : map (λ (g : Group). quantiser_behind g.quant g.macroblocks) vectors.groups ≡ 31 ∷ 4
    ∷ 2 ∷ []
quantisers_of_vectors = refl

pub quantisers_of_wide : map (λ (g : Group). quantiser_behind g.quant g.macroblocks) wide.groups ≡ 3 ∷ 30 ∷ 1 ∷ 1
    ∷ 1 ∷ 1 ∷ 1 ∷ 12 ∷ 31 ∷ 1 ∷ 1 ∷ 1 ∷ []
quantisers_of_wide = refl

-- ---- the levels of blocks, in the order of transmission (4.2.4)

abbrev pub block : Option ℕ → List Coefficient → Block
block dc coefficients = record { dc = dc; coefficients = coefficients }

pub levels_of_blocks : map levels (
    block None (pair 0 (pos 1) ∷ [])
    ∷ block (Some 255) []
    ∷ block (Some 2) (pair 2 (negsuc 0) ∷ escape 3 (pos 127) ∷ pair 0 (pos 2) ∷ [])
    ∷ block (Some 254) []
    ∷ block (Some 1) (escape 62 (negsuc 126) ∷ [])
    ∷ []) ≡
    (pos 1 ∷ replicate 63 (pos 0))
    ∷ (pos 1024 ∷ replicate 63 (pos 0))
    ∷ (pos 16 ∷ pos 0 ∷ pos 0 ∷ negsuc 0 ∷ pos 0 ∷ pos 0 ∷ pos 0 ∷ pos 127 ∷ pos 2 ∷ replicate 55 (pos 0))
    ∷ (pos 2032 ∷ replicate 63 (pos 0))
    ∷ (pos 8 ∷ pos 0 ∷ pos 0 ∷ pos 0 ∷ pos 0 ∷ pos 0 ∷ pos 0 ∷ pos 0 ∷ pos 0 ∷ pos 0 ∷ pos 0 ∷ pos 0 ∷ pos 0
    ∷ pos 0 ∷ pos 0 ∷ pos 0 ∷ pos 0 ∷ pos 0 ∷ pos 0 ∷ pos 0 ∷ pos 0 ∷ pos 0 ∷ pos 0 ∷ pos 0 ∷ pos 0 ∷ pos 0
    ∷ pos 0 ∷ pos 0 ∷ pos 0 ∷ pos 0 ∷ pos 0 ∷ pos 0 ∷ pos 0 ∷ pos 0 ∷ pos 0 ∷ pos 0 ∷ pos 0 ∷ pos 0 ∷ pos 0
    ∷ pos 0 ∷ pos 0 ∷ pos 0 ∷ pos 0 ∷ pos 0 ∷ pos 0 ∷ pos 0 ∷ pos 0 ∷ pos 0 ∷ pos 0 ∷ pos 0 ∷ pos 0 ∷ pos 0
    ∷ pos 0 ∷ pos 0 ∷ pos 0 ∷ pos 0 ∷ pos 0 ∷ pos 0 ∷ pos 0 ∷ pos 0 ∷ pos 0 ∷ pos 0 ∷ pos 0 ∷ negsuc 126
    ∷ replicate 0 (pos 0))
    ∷ []
levels_of_blocks = refl

-- ---- the elements of macroblocks: one with all that its kind may have, whose address is 7 above the one before, and one with
-- two blocks

pub elements_of_moving : macroblock_elements 7 (negsuc 1, pos 30) (pos 14, negsuc 17) (sent 9 McFilQuant (Some 1) (pos 15) (pos 14) (only 2 (coded (pair 0 (pos 1) ∷ escape 3 (negsuc 1) ∷ [])))) ≡
    Mba 7 ∷ Mtype McFilQuant ∷ Mquant 1 ∷ Mvd Across (negsuc 1, pos 30) ∷ Mvd Down (pos 14, negsuc 17) ∷ Cbp 16
    ∷ Tcoeff (pair 0 (pos 1)) ∷ Tcoeff (escape 3 (negsuc 1)) ∷ Eob ∷ []
unfolding number
elements_of_moving = refl

pub elements_of_standing : macroblock_elements 7 (negsuc 1, pos 30) (pos 14, negsuc 17) (sent 9 Inter None (pos 0) (pos 0) (coded (pair 0 (pos 1) ∷ []) ∷ None ∷ None ∷ None ∷ None ∷ coded (pair 0 (negsuc 0) ∷ []) ∷ [])) ≡
    Mba 7 ∷ Mtype Inter ∷ Cbp 33 ∷ Tcoeff (pair 0 (pos 1)) ∷ Eob ∷ Tcoeff (pair 0 (negsuc 0)) ∷ Eob ∷ []
unfolding number
elements_of_standing = refl

pub elements_of_still : macroblock_elements 7 (negsuc 1, pos 30) (pos 14, negsuc 17) (sent 9 Intra None (pos 0) (pos 0) (intra 1 [] ∷ intra 2 (pair 0 (pos 1) ∷ []) ∷ intra 3 [] ∷ intra 4 [] ∷ intra 5 [] ∷ intra 6 [] ∷ [])) ≡
    Mba 7 ∷ Mtype Intra ∷ Dc 1 ∷ Eob ∷ Dc 2 ∷ Tcoeff (pair 0 (pos 1)) ∷ Eob ∷ Dc 3 ∷ Eob ∷ Dc 4 ∷ Eob ∷ Dc 5
    ∷ Eob ∷ Dc 6 ∷ Eob ∷ []
unfolding number
elements_of_still = refl

pub elements_of_spares : spare_elements Gei Gspare (5 ∷ 255 ∷ []) ≡ Gei true ∷ Gspare 5 ∷ Gei true ∷ Gspare 255 ∷ Gei false ∷ []
elements_of_spares = refl
