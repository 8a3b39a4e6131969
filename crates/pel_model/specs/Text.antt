-- The strict text of a picture: the words of its layers (H.261, 4.2), in order, with no spare byte, no stuffing and
-- no bit behind the last word.
use Rattle.std.specs.Prelude.{ℕ, ◌-◌, ◌==◌, ◌&&◌, ◌||◌, not, Bool, true, false, cond, if◌then◌else◌, ℤ, pos, negsuc, ◌-ℤ◌, nat_abs, List, [], ◌∷◌, ◌++◌, map, flat_map, Option, Some, None, is_some}
use Rattle.std.specs.Ordering.{int_eq}
use Rattle.pel_model.specs.declared.Format.{Format}
use Rattle.pel_model.specs.declared.MbKind.{MbKind}
use Rattle.pel_model.specs.Bits.{field, number}
use Rattle.pel_model.specs.Codes.{mba_table, mtype_table, mvd_table, cbp_table, tcoeff_table, first_one_word, later_one_word, escape_word, end_of_block_word, row_of, has_vector, has_cbp}
use Rattle.pel_model.specs.Headers.{strict_bits, picture_header_text, group_header_text}
use Rattle.pel_model.specs.Records.{Axis, Across, Down, Coefficient, Block, Macroblock, Group, Picture, component}

-- the codeword of a table whose meaning passes the test
abbrev pub word_of : {A : Type 0} → (A → Bool) → List (List Bool × A) → List Bool
word_of test [] = []
word_of test (row ∷ rows) = if test row.1 then row.0 else word_of test rows

-- ---- the block layer (4.2.4)

-- a level in 8 bits of two's complement
abbrev pub twos_complement : ℤ → ℕ
twos_complement (pos n) = n
twos_complement (negsuc n) = 255 - n

abbrev pub is_negative : ℤ → Bool
is_negative (pos n) = false
is_negative (negsuc n) = true

-- the codeword of a run and a level, where that of run 0 and level 1 is `one`
abbrev pub pair_word : List Bool → ℕ → ℕ → List Bool
pair_word one run level =
    if run == 0 && level == 1 then one else word_of (λ pair. pair.0 == run && pair.1 == level) tcoeff_table

-- a coefficient: its codeword and sign, or an escape with 6 bits of run and 8 of level
unfoldable pub coefficient_word : List Bool → Coefficient → List Bool
coefficient_word one c =
    if c.long then escape_word ++ field c.run 6 ++ field (twos_complement c.level) 8
    else pair_word one c.run (nat_abs c.level) ++ is_negative c.level ∷ []

-- the first coefficient's `one` is given, the later ones have the other
abbrev pub coefficients_text : List Bool → List Coefficient → List Bool
coefficients_text one [] = []
coefficients_text one (c ∷ cs) = coefficient_word one c ++ coefficients_text later_one_word cs

abbrev pub dc_text : Option ℕ → List Bool
dc_text None = []
dc_text (Some n) = field n 8

abbrev pub one_word : Option ℕ → List Bool
one_word None = first_one_word
one_word (Some n) = later_one_word

unfoldable pub block_text : Block → List Bool
block_text b = dc_text b.dc ++ coefficients_text (one_word b.dc) b.coefficients ++ end_of_block_word

abbrev pub sent_block_text : Option Block → List Bool
sent_block_text None = []
sent_block_text (Some b) = block_text b

-- ---- the macroblock layer (4.2.3)

abbrev pub address_of : Option Macroblock → ℕ
address_of None = 0
address_of (Some m) = m.address

-- the vector before does not predict that of a macroblock with this difference of addresses and this address (4.2.3.4):
-- at the left edge of the group's rows, and after an address that was not sent
abbrev pub resets_predictor : (difference address : ℕ) → Bool
resets_predictor difference address = not (difference == 1) || address == 1 || address == 12 || address == 23

-- a component of the vector before, 0 where it does not predict, or where the macroblock before has no vector
abbrev pub predictor : Axis → Option Macroblock → Macroblock → ℤ
predictor axis None m = pos 0
predictor axis (Some last) m =
    cond (resets_predictor (m.address - last.address) m.address || not (has_vector last.kind)) (pos 0) (component axis last)

abbrev pub mba_word : Option Macroblock → Macroblock → List Bool
mba_word last m = word_of (λ n. n == m.address - address_of last) mba_table

abbrev pub mtype_word : MbKind → List Bool
mtype_word kind = word_of (λ k. row_of k == row_of kind) mtype_table

abbrev pub mquant_text : Option ℕ → List Bool
mquant_text None = []
mquant_text (Some q) = field q 5

-- the word one of whose values is the component less its predictor
abbrev pub mvd_word : Axis → Option Macroblock → Macroblock → List Bool
mvd_word axis last m =
    word_of (λ v. int_eq v.0 (component axis m -ℤ predictor axis last m) || int_eq v.1 (component axis m -ℤ predictor axis last m)) mvd_table

abbrev pub mvd_text : Option Macroblock → Macroblock → List Bool
mvd_text last m = if has_vector m.kind then mvd_word Across last m ++ mvd_word Down last m else []

-- CBP is the number whose bits say which of the six blocks are sent
abbrev pub coded_block_pattern : List (Option Block) → ℕ
coded_block_pattern blocks = number (map is_some blocks)

abbrev pub cbp_text : Macroblock → List Bool
cbp_text m = if has_cbp m.kind then word_of (λ n. n == coded_block_pattern m.blocks) cbp_table else []

-- a macroblock behind the one that was sent before it in its group
unfoldable pub macroblock_text : Option Macroblock → Macroblock → List Bool
macroblock_text last m =
    mba_word last m ++ mtype_word m.kind ++ mquant_text m.mquant ++ mvd_text last m ++ cbp_text m ++ flat_map sent_block_text m.blocks

unfoldable pub macroblocks_text : Option Macroblock → List Macroblock → List Bool
macroblocks_text last [] = []
macroblocks_text last (m ∷ ms) = macroblock_text last m ++ macroblocks_text (Some m) ms

-- ---- the layers of groups and pictures (4.2.2, 4.2.1)

-- a header without spare octets
abbrev pub group_header : (number quant : ℕ) → List Bool
group_header number quant = group_header_text number quant []

abbrev pub group_text : Group → List Bool
group_text g = group_header g.number g.quant ++ macroblocks_text None g.macroblocks

abbrev pub picture_header : Format → (tr : ℕ) → List Bool
picture_header format tr = picture_header_text format strict_bits [] tr

abbrev pub text : Format → Picture → List Bool
text format picture = picture_header format picture.tr ++ flat_map group_text picture.groups
