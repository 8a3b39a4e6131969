-- Worked packets: the ends of the atoms of pictures, where the pictures are cut, and their packets octet by octet, as
-- another implementation gives them.
use Rattle.std.specs.Prelude.{◌≡◌, ℕ, zero, suc, ◌+◌, ℤ, pos, negsuc, false, true, List, [], ◌∷◌, ◌++◌, length, map, replicate, Option, Some, None, refl}
use Rattle.cif_pack.specs.declared.atoms.AtomEnd.{AtomEnd}
use Rattle.cif_pack.specs.declared.packer.Settings.{Settings}
use Rattle.cif_pack.specs.Atoms.{atom_ends}
use Rattle.cif_pack.specs.Cuts.{cuts}
use Rattle.cif_pack.specs.Packets.{stamp_at, sequence_after, packets, framed, sent_packets, out}
use Rattle.cif_pack.specs.Payload.{bits_packed, payload_header, sbit_of, ebit_of, no_context}
use Rattle.pel_bits.specs.Bits as OctetBits
use Rattle.pel_model.specs.declared.MbKind.TheVariants.{Intra, IntraQuant, Inter, Mc, McQuant}
use Rattle.pel_model.specs.Bits.{field, number}
use Rattle.pel_model.specs.Codes.{mba_table, mtype_table, mvd_table, cbp_table, tcoeff_table}
use Rattle.pel_model.specs.Headers.{picture_header_text, group_header_text}
use Rattle.pel_model.specs.Records.{Block, Macroblock, Group, Picture}
use Rattle.pel_model.specs.Text.{macroblocks_text, macroblock_text, block_text, coefficient_word}

-- ---- macroblocks

abbrev grey_blocks : List (Option Block)
grey_blocks = replicate 6 (Some (record { dc = Some 255; coefficients = [] }))

-- Intra, all grey
abbrev grey : ℕ → Macroblock
grey address = record { address = address; kind = Intra; mquant = None; across = pos 0; down = pos 0; blocks = grey_blocks }

abbrev grey_with : (address mquant : ℕ) → Macroblock
grey_with address mquant = record { address = address; kind = IntraQuant; mquant = Some mquant; across = pos 0; down = pos 0; blocks = grey_blocks }

-- a vector alone
abbrev moving : ℕ → ℤ → ℤ → Macroblock
moving address across down = record { address = address; kind = Mc; mquant = None; across = across; down = down; blocks = replicate 6 None }

-- a vector, a quantiser and one coefficient
abbrev moving_with : ℕ → ℤ → ℤ → ℕ → Macroblock
moving_with address across down mquant = record {
  address = address;
  kind = McQuant;
  mquant = Some mquant;
  across = across;
  down = down;
  blocks = Some (record { dc = None; coefficients = record { run = 0; level = pos 1; long = false } ∷ [] }) ∷ replicate 5 None;
}

-- two coefficients, one of them an escape, in the last block
abbrev inter : ℕ → Macroblock
inter address = record {
  address = address;
  kind = Inter;
  mquant = None;
  across = pos 0;
  down = pos 0;
  blocks = replicate 5 None ++ Some (record { dc = None; coefficients = record { run = 1; level = negsuc 1; long = false } ∷ record { run = 3; level = pos 77; long = true } ∷ [] }) ∷ [];
}

abbrev group : (number quant : ℕ) → List Macroblock → Group
group number quant macroblocks = record { number = number; quant = quant; macroblocks = macroblocks }

-- kinds, quantisers and vectors of several sorts, and groups with no macroblocks
abbrev mixed : Picture
mixed = record {
  tr = 3;
  groups =
      group 1 8 (grey 1 ∷ grey 2 ∷ moving 3 (negsuc 3) (pos 3) ∷ grey 5 ∷ []) ∷
      group 2 9 (moving 7 (negsuc 2) (pos 5) ∷ grey 8 ∷ moving 9 (pos 15) (pos 0) ∷ moving 10 (pos 14) (pos 1) ∷ []) ∷
      group 3 1 [] ∷
      group 4 31 (moving 12 (negsuc 14) (pos 7) ∷ moving 13 (negsuc 13) (negsuc 8) ∷ grey 14 ∷ grey_with 20 17 ∷ inter 21 ∷ moving 22 (negsuc 4) (pos 5) ∷ grey 24 ∷ []) ∷
      group 5 5 (grey 33 ∷ []) ∷
      group 6 1 [] ∷
      group 7 6 (moving_with 1 (pos 6) (negsuc 6) 13 ∷ grey 2 ∷ grey 3 ∷ inter 4 ∷ moving 5 (negsuc 0) (pos 2) ∷ grey 7 ∷ []) ∷
      group 8 1 [] ∷
      group 9 1 [] ∷
      group 10 1 [] ∷
      group 11 1 [] ∷
      group 12 2 (inter 31 ∷ inter 32 ∷ []) ∷ [];
}

-- one group alone has macroblocks
abbrev short : Picture
short = record {
  tr = 4;
  groups =
      group 1 1 [] ∷
      group 2 1 [] ∷
      group 3 3 (grey 1 ∷ moving 2 (negsuc 1) (negsuc 0) ∷ grey 3 ∷ []) ∷
      group 4 1 [] ∷
      group 5 1 [] ∷
      group 6 1 [] ∷
      group 7 1 [] ∷
      group 8 1 [] ∷
      group 9 1 [] ∷
      group 10 1 [] ∷
      group 11 1 [] ∷
      group 12 1 [] ∷ [];
}

-- ---- the ends of atoms, and the cuts

abbrev end : (at gobn mbap quant : ℕ) → ℤ → ℤ → AtomEnd
end at gobn mbap quant across down = record { at = at; context = record { gobn = gobn; mbap = mbap; quant = quant; across = across; down = down } }

pub ends_of_mixed : atom_ends mixed
    ≡ (
    end 123 1 0 8 (pos 0) (pos 0) ∷ end 188 1 1 8 (pos 0) (pos 0) ∷ end 210 1 2 8 (negsuc 3) (pos 3) ∷ end 277 0 0 0 (pos 0) (pos 0) ∷
    end 330 2 6 9 (negsuc 2) (pos 5) ∷ end 395 2 7 9 (pos 0) (pos 0) ∷ end 417 2 8 9 (pos 15) (pos 0) ∷ end 433 0 0 0 (pos 0) (pos 0) ∷
    end 459 0 0 0 (pos 0) (pos 0) ∷ end 521 4 11 31 (negsuc 14) (pos 7) ∷ end 545 4 12 31 (negsuc 13) (negsuc 8) ∷ end 610 4 13 31 (pos 0) (pos 0) ∷
    end 687 4 19 17 (pos 0) (pos 0) ∷ end 723 4 20 17 (pos 0) (pos 0) ∷ end 749 4 21 17 (negsuc 4) (pos 5) ∷ end 816 0 0 0 (pos 0) (pos 0) ∷
    end 917 0 0 0 (pos 0) (pos 0) ∷ end 943 0 0 0 (pos 0) (pos 0) ∷ end 1009 7 0 13 (pos 6) (negsuc 6) ∷ end 1074 7 1 13 (pos 0) (pos 0) ∷
    end 1139 7 2 13 (pos 0) (pos 0) ∷ end 1175 7 3 13 (pos 0) (pos 0) ∷ end 1192 7 4 13 (negsuc 0) (pos 2) ∷ end 1259 0 0 0 (pos 0) (pos 0) ∷
    end 1285 0 0 0 (pos 0) (pos 0) ∷ end 1311 0 0 0 (pos 0) (pos 0) ∷ end 1337 0 0 0 (pos 0) (pos 0) ∷ end 1363 0 0 0 (pos 0) (pos 0) ∷
    end 1435 12 30 2 (pos 0) (pos 0) ∷ end 1471 0 0 0 (pos 0) (pos 0) ∷ [])
unfolding picture_header_text group_header_text macroblocks_text macroblock_text block_text coefficient_word field number mba_table mtype_table mvd_table cbp_table tcoeff_table
ends_of_mixed = refl

abbrev places : List AtomEnd → List ℕ
places ends = map (λ (e : AtomEnd). e.at) ends

-- at most 24 octets of the text to a packet, and at most 23
pub cuts_of_mixed : (places (cuts 40 0 (atom_ends mixed)) ≡ 188 ∷ 330 ∷ 459 ∷ 610 ∷ 749 ∷ 917 ∷ 1074 ∷ 1259 ∷ 1435 ∷ 1471 ∷ [])
    × (places (cuts 39 0 (atom_ends mixed)) ≡ 123 ∷ 277 ∷ 433 ∷ 610 ∷ 749 ∷ 917 ∷ 1074 ∷ 1192 ∷ 1363 ∷ 1471 ∷ [])
unfolding picture_header_text group_header_text macroblocks_text macroblock_text block_text coefficient_word field number mba_table mtype_table mvd_table cbp_table tcoeff_table
cuts_of_mixed = (refl, refl)

-- ---- packets, octet by octet

-- in packets of at most 40 octets, from sequence number 65,533 on, with timestamps that pass 2^32
abbrev settings : Settings
settings = record { mtu = 40; seq = 65533; stamp = 4294967000; ssrc = 1211250225 }

-- of `mixed` the second begins behind a macroblock with no vector, which stands behind none with one, the third behind one with
-- a vector, the fifth behind one that follows one with a vector, the sixth behind another quantiser; the second of `short` begins
-- on the border of an octet
pub packets_of_pictures : sent_packets settings 0 ((1, mixed) ∷ (9, short) ∷ [])
    ≡ (
    (128 ∷ 31 ∷ 255 ∷ 253 ∷ 0 ∷ 0 ∷ 10 ∷ 147 ∷ 72 ∷ 50 ∷ 54 ∷ 49 ∷ 17 ∷ 0 ∷ 0 ∷ 0 ∷ 0 ∷ 1 ∷ 1 ∷ 142 ∷ 0 ∷ 1 ∷ 20 ∷ 35 ∷ 255 ∷ 127 ∷ 223 ∷ 247 ∷
    253 ∷ 255 ∷ 127 ∷ 209 ∷ 255 ∷ 191 ∷ 239 ∷ 251 ∷ 254 ∷ 255 ∷ 191 ∷ 224 ∷ []) ∷
    (128 ∷ 31 ∷ 255 ∷ 254 ∷ 0 ∷ 0 ∷ 10 ∷ 147 ∷ 72 ∷ 50 ∷ 54 ∷ 49 ∷ 153 ∷ 16 ∷ 160 ∷ 0 ∷ 8 ∷ 4 ∷ 56 ∷ 152 ∷ 255 ∷ 223 ∷ 247 ∷ 253 ∷ 255 ∷ 127 ∷ 223 ∷ 240 ∷
    0 ∷ 9 ∷ 36 ∷ 32 ∷ 8 ∷ 194 ∷ 128 ∷ []) ∷
    (128 ∷ 31 ∷ 255 ∷ 255 ∷ 0 ∷ 0 ∷ 10 ∷ 147 ∷ 72 ∷ 50 ∷ 54 ∷ 49 ∷ 85 ∷ 35 ∷ 39 ∷ 165 ∷ 35 ∷ 255 ∷ 127 ∷ 223 ∷ 247 ∷ 253 ∷ 255 ∷ 127 ∷ 208 ∷ 8 ∷ 26 ∷ 192 ∷
    45 ∷ 0 ∷ 0 ∷ 152 ∷ 64 ∷ []) ∷
    (128 ∷ 31 ∷ 0 ∷ 0 ∷ 0 ∷ 0 ∷ 10 ∷ 147 ∷ 72 ∷ 50 ∷ 54 ∷ 49 ∷ 121 ∷ 0 ∷ 0 ∷ 0 ∷ 0 ∷ 0 ∷ 41 ∷ 240 ∷ 72 ∷ 4 ∷ 13 ∷ 131 ∷ 64 ∷ 40 ∷ 12 ∷ 199 ∷
    254 ∷ 255 ∷ 191 ∷ 239 ∷ 251 ∷ 254 ∷ 255 ∷ 128 ∷ []) ∷
    (128 ∷ 31 ∷ 0 ∷ 1 ∷ 0 ∷ 0 ∷ 10 ∷ 147 ∷ 72 ∷ 50 ∷ 54 ∷ 49 ∷ 77 ∷ 70 ∷ 252 ∷ 0 ∷ 6 ∷ 6 ∷ 63 ∷ 247 ∷ 253 ∷ 255 ∷ 127 ∷ 223 ∷ 247 ∷ 253 ∷ 172 ∷ 104 ∷
    33 ∷ 166 ∷ 208 ∷ 8 ∷ 88 ∷ 80 ∷ []) ∷
    (128 ∷ 31 ∷ 0 ∷ 2 ∷ 0 ∷ 0 ∷ 10 ∷ 147 ∷ 72 ∷ 50 ∷ 54 ∷ 49 ∷ 173 ∷ 74 ∷ 199 ∷ 101 ∷ 3 ∷ 31 ∷ 251 ∷ 254 ∷ 255 ∷ 191 ∷ 239 ∷ 251 ∷ 254 ∷ 0 ∷ 1 ∷ 82 ∷
    128 ∷ 192 ∷ 255 ∷ 223 ∷ 247 ∷ 253 ∷ 255 ∷ 127 ∷ 223 ∷ 240 ∷ []) ∷
    (128 ∷ 31 ∷ 0 ∷ 3 ∷ 0 ∷ 0 ∷ 10 ∷ 147 ∷ 72 ∷ 50 ∷ 54 ∷ 49 ∷ 185 ∷ 0 ∷ 0 ∷ 0 ∷ 0 ∷ 0 ∷ 11 ∷ 4 ∷ 0 ∷ 2 ∷ 230 ∷ 64 ∷ 22 ∷ 132 ∷ 3 ∷ 213 ∷
    71 ∷ 254 ∷ 255 ∷ 191 ∷ 239 ∷ 251 ∷ 254 ∷ 255 ∷ 128 ∷ []) ∷
    (128 ∷ 31 ∷ 0 ∷ 4 ∷ 0 ∷ 0 ∷ 10 ∷ 147 ∷ 72 ∷ 50 ∷ 54 ∷ 49 ∷ 85 ∷ 112 ∷ 180 ∷ 0 ∷ 35 ∷ 255 ∷ 127 ∷ 223 ∷ 247 ∷ 253 ∷ 255 ∷ 127 ∷ 218 ∷ 198 ∷ 130 ∷ 26 ∷
    109 ∷ 0 ∷ 178 ∷ 99 ∷ 255 ∷ 127 ∷ 223 ∷ 247 ∷ 253 ∷ 255 ∷ 127 ∷ 192 ∷ []) ∷
    (128 ∷ 31 ∷ 0 ∷ 5 ∷ 0 ∷ 0 ∷ 10 ∷ 147 ∷ 72 ∷ 50 ∷ 54 ∷ 49 ∷ 117 ∷ 0 ∷ 0 ∷ 0 ∷ 0 ∷ 0 ∷ 48 ∷ 16 ∷ 0 ∷ 12 ∷ 132 ∷ 0 ∷ 3 ∷ 65 ∷ 0 ∷ 0 ∷
    216 ∷ 64 ∷ 0 ∷ 56 ∷ 32 ∷ 26 ∷ 172 ∷ 104 ∷ 33 ∷ 166 ∷ 192 ∷ []) ∷
    (128 ∷ 159 ∷ 0 ∷ 6 ∷ 0 ∷ 0 ∷ 10 ∷ 147 ∷ 72 ∷ 50 ∷ 54 ∷ 49 ∷ 101 ∷ 207 ∷ 8 ∷ 0 ∷ 26 ∷ 198 ∷ 130 ∷ 26 ∷ 108 ∷ []) ∷
    (128 ∷ 31 ∷ 0 ∷ 7 ∷ 0 ∷ 0 ∷ 104 ∷ 107 ∷ 72 ∷ 50 ∷ 54 ∷ 49 ∷ 1 ∷ 0 ∷ 0 ∷ 0 ∷ 0 ∷ 1 ∷ 2 ∷ 14 ∷ 0 ∷ 1 ∷ 16 ∷ 128 ∷ 0 ∷ 72 ∷ 32 ∷ 0 ∷
    19 ∷ 26 ∷ 63 ∷ 247 ∷ 253 ∷ 255 ∷ 127 ∷ 223 ∷ 247 ∷ 253 ∷ 0 ∷ 155 ∷ []) ∷
    (128 ∷ 31 ∷ 0 ∷ 8 ∷ 0 ∷ 0 ∷ 104 ∷ 107 ∷ 72 ∷ 50 ∷ 54 ∷ 49 ∷ 29 ∷ 48 ∷ 143 ∷ 223 ∷ 143 ∷ 253 ∷ 255 ∷ 127 ∷ 223 ∷ 247 ∷ 253 ∷ 255 ∷ 0 ∷ 0 ∷ 160 ∷ 64 ∷
    0 ∷ 42 ∷ 16 ∷ 0 ∷ 11 ∷ 4 ∷ 0 ∷ 2 ∷ 225 ∷ 0 ∷ []) ∷
    (128 ∷ 159 ∷ 0 ∷ 9 ∷ 0 ∷ 0 ∷ 104 ∷ 107 ∷ 72 ∷ 50 ∷ 54 ∷ 49 ∷ 53 ∷ 0 ∷ 0 ∷ 0 ∷ 0 ∷ 0 ∷ 192 ∷ 64 ∷ 0 ∷ 50 ∷ 16 ∷ 0 ∷ 13 ∷ 4 ∷ 0 ∷ 3 ∷
    97 ∷ 0 ∷ 0 ∷ 224 ∷ 64 ∷ []) ∷ [])
unfolding picture_header_text group_header_text macroblocks_text macroblock_text block_text coefficient_word field number mba_table mtype_table mvd_table cbp_table tcoeff_table bits_packed OctetBits.field OctetBits.number
packets_of_pictures = refl

-- each stands in a frame
pub framed_packets : framed ((1 ∷ 2 ∷ 3 ∷ []) ∷ replicate 300 7 ∷ []) ≡ 0 ∷ 3 ∷ 1 ∷ 2 ∷ 3 ∷ 1 ∷ 44 ∷ replicate 300 7
framed_packets = refl

pub octets_of_pictures : length (out settings 0 ((1, mixed) ∷ (9, short) ∷ [])) ≡ 490
unfolding picture_header_text group_header_text macroblocks_text macroblock_text block_text coefficient_word field number mba_table mtype_table mvd_table cbp_table tcoeff_table bits_packed OctetBits.field OctetBits.number
octets_of_pictures = refl

-- sequence numbers have 16 bits, and timestamps 32
pub numbers_wrap : (sequence_after settings 2 ≡ 65535) × (sequence_after settings 3 ≡ 0) × (stamp_at settings 0 ≡ 4294967000) × (stamp_at settings 1 ≡ 2707)
numbers_wrap = (refl, refl, refl, refl)

-- ---- four grey pictures

abbrev greys : (last more : ℕ) → List Macroblock
greys last zero = []
greys last (suc more) = grey (last + 1) ∷ greys (last + 1) more

abbrev grey_group : ℕ → Group
grey_group number = group number 8 (greys 0 33)

abbrev four_greys : Picture
four_greys = record { tr = 1; groups = map grey_group (1 ∷ 2 ∷ 3 ∷ 4 ∷ 5 ∷ 6 ∷ 7 ∷ 8 ∷ 9 ∷ 10 ∷ 11 ∷ 12 ∷ []) }

-- 26,084 bits are cut behind the second macroblock of the sixth group and behind the fifth of the eleventh
pub cuts_of_four_greys : cuts 1400 0 (atom_ends four_greys)
    ≡ end 11043 6 1 8 (pos 0) (pos 0) ∷ end 22093 11 4 8 (pos 0) (pos 0) ∷ end 26084 0 0 0 (pos 0) (pos 0) ∷ []
unfolding picture_header_text group_header_text macroblocks_text macroblock_text block_text coefficient_word field number mba_table mtype_table mvd_table cbp_table tcoeff_table
cuts_of_four_greys = refl

pub payload_headers_of_four_greys :
    (bits_packed (payload_header (sbit_of 0) (ebit_of 11043) false true no_context) ≡ 0x15 ∷ 0 ∷ 0 ∷ 0 ∷ [])
    × (bits_packed (payload_header (sbit_of 11043) (ebit_of 22093) false true (end 11043 6 1 8 (pos 0) (pos 0)).context) ≡ 0x6D ∷ 0x60 ∷ 0xA0 ∷ 0 ∷ [])
    × (bits_packed (payload_header (sbit_of 22093) (ebit_of 26084) false true (end 22093 11 4 8 (pos 0) (pos 0)).context) ≡ 0xB1 ∷ 0xB2 ∷ 0x20 ∷ 0 ∷ [])
unfolding bits_packed OctetBits.field OctetBits.number
payload_headers_of_four_greys = (refl, refl, refl)

-- 3,317 octets in all, with the frames
pub lengths_of_four_greys :
    map length (packets (record settings { mtu = 1400 }) 1 0 four_greys) ≡ 1397 ∷ 1398 ∷ 516 ∷ []
unfolding picture_header_text group_header_text macroblocks_text macroblock_text block_text coefficient_word field number mba_table mtype_table mvd_table cbp_table tcoeff_table bits_packed OctetBits.field OctetBits.number
lengths_of_four_greys = refl
