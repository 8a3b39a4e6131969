-- The grammar of a coded picture (H.261, 4.2): its elements, what may stand where, and which of them are at fault.
use Rattle.std.specs.Prelude.{ℕ, zero, suc, ◌+◌, ◌-◌, ◌*◌, ◌/◌, ◌%◌, ◌==◌, ◌&&◌, ◌||◌, not, Bool, true, false, cond, ℤ, pos, negsuc, neg_ℤ, ◌+ℤ◌, List, [], ◌∷◌, ◌++◌, length, map, Option, Some, None, nat_lt}
use Rattle.std.specs.List.{list_any}
use Rattle.pel_model.specs.declared.Format.{Format}
use Rattle.pel_model.specs.declared.Format.TheVariants.{Qcif, Cif}
use Rattle.pel_model.specs.declared.MbKind.{MbKind}
use Rattle.pel_model.specs.declared.MbKind.TheVariants.{Intra}
use Rattle.pel_model.specs.declared.Why.{Why}
use Rattle.pel_model.specs.declared.Why.TheVariants.{NoStart, WrongFormat, StillImage, NoCode, BadGroup, BadQuant, BadAddress, BadVector, VectorOutside, BadDc, BadLevel, TooMany, TooLong}
use Rattle.pel_model.specs.Codes.{picture_start_code, group_start_code, mba_table, stuffing_word, mtype_table, mvd_table, cbp_table, tcoeff_table, first_one_word, later_one_word, escape_word, end_of_block_word, is_intra, has_mquant, has_vector, has_cbp}
use Rattle.pel_model.specs.Records.{Axis, Across, Down, Coefficient, quantiser_after}
use Rattle.pel_model.specs.Headers.{group_header_length}
use Rattle.pel_model.specs.Text.{resets_predictor}
use Rattle.pel_model.specs.Valid.{side, corner, stays_within, group_size, group_numbers, group_count, limit}
use Rattle.pel_model.specs.Walk.{Reading, Standing, Stop, Bad, Row, read, judged}

-- ---- elements

-- a picture layer (4.2.1): PSC, TR, PTYPE with its 6 bits as a number, PEI, PSPARE; a group layer (4.2.2): GBSC, GN,
-- GQUANT, GEI, GSPARE; a macroblock layer (4.2.3): stuffing, MBA with the difference of addresses, MTYPE, MQUANT, MVD with
-- the two values of its word, CBP; a block layer (4.2.4): INTRADC with its 8 bits as a number, TCOEFF, EOB
pub data Element : Type 0 where
  Psc : Element
  Tr : ℕ → Element
  Ptype : ℕ → Element
  Pei : Bool → Element
  Pspare : ℕ → Element
  Gbsc : Element
  Gn : ℕ → Element
  Gquant : ℕ → Element
  Gei : Bool → Element
  Gspare : ℕ → Element
  Stuffing : Element
  Mba : ℕ → Element
  Mtype : MbKind → Element
  Mquant : ℕ → Element
  Mvd : Axis → ℤ × ℤ → Element
  Cbp : ℕ → Element
  Dc : ℕ → Element
  Tcoeff : Coefficient → Element
  Eob : Element

-- ---- what the elements before say, which stand newest first

-- the kind of the last macroblock
abbrev pub kind : List Element → MbKind
kind [] = Intra
kind (Mtype k ∷ before) = k
kind (_ ∷ before) = kind before

-- the blocks of the last macroblock that are still to come: all six, or those of CBP
abbrev pub ones : ℕ → ℕ
ones c = c / 32 % 2 + c / 16 % 2 + c / 8 % 2 + c / 4 % 2 + c / 2 % 2 + c % 2

abbrev pub blocks : List Element → ℕ
blocks [] = 0
blocks (Mtype k ∷ before) = cond (is_intra k) 6 0
blocks (Cbp c ∷ before) = ones c
blocks (Eob ∷ before) = blocks before - 1
blocks (_ ∷ before) = blocks before

-- how many coefficients the block has so far, the zeros among them
abbrev pub filled : List Element → ℕ
filled (Dc n ∷ before) = 1
filled (Tcoeff c ∷ before) = filled before + c.run + 1
filled _ = 0

-- the number of the last group, and how many groups were begun
abbrev pub group : List Element → ℕ
group [] = 0
group (Gn n ∷ before) = n
group (_ ∷ before) = group before

abbrev pub begun : List Element → ℕ
begun [] = 0
begun (Gbsc ∷ before) = begun before + 1
begun (_ ∷ before) = begun before

-- the address of the last macroblock, 0 at the beginning of a group
abbrev pub address : List Element → ℕ
address [] = 0
address (Gbsc ∷ before) = 0
address (Mba n ∷ before) = address before + n
address (_ ∷ before) = address before

-- the quantiser in effect
abbrev pub quantiser : List Element → ℕ
quantiser [] = 0
quantiser (Gquant q ∷ before) = q
quantiser (Mquant q ∷ before) = quantiser_after (quantiser before) (Some q)
quantiser (_ ∷ before) = quantiser before

-- ---- vectors (4.2.3.4)

abbrev pub in_range : ℤ → Bool
in_range (pos n) = nat_lt n 16
in_range (negsuc n) = nat_lt n 15

-- the predictor with that value of MVD's pair which gives -15 to 15
abbrev pub component_from : ℤ → ℤ × ℤ → ℤ
component_from predictor v = cond (in_range (predictor +ℤ v.0)) (predictor +ℤ v.0) (predictor +ℤ v.1)

abbrev pub same_axis : Axis → Axis → Bool
same_axis Across Across = true
same_axis Down Down = true
same_axis _ _ = false

-- a component of the last macroblock's vector, 0 where its kind has none; before its MVD the predictor
abbrev pub vector_component : Axis → List Element → ℤ
vector_component axis [] = pos 0
vector_component axis (Gbsc ∷ before) = pos 0
vector_component axis (Mba n ∷ before) = cond (resets_predictor n (address before + n)) (pos 0) (vector_component axis before)
vector_component axis (Mtype k ∷ before) = cond (has_vector k) (vector_component axis before) (pos 0)
vector_component axis (Mvd a v ∷ before) = cond (same_axis a axis) (component_from (vector_component axis before) v) (vector_component axis before)
vector_component axis (_ ∷ before) = vector_component axis before

-- ---- what may stand behind these elements

-- the element that is due; at AtGroup a group or the picture's end, at AtMacroblock also a macroblock or stuffing, at
-- AtFirst the first coefficient of a block without INTRADC, at AtCoefficient a later one or the block's end
pub data Slot : Type 0 where
  AtPsc AtTr AtPtype AtPei AtPspare AtGroup AtGn AtGquant AtGei AtGspare AtMacroblock AtMtype AtMquant AtCbp AtDc AtFirst AtCoefficient : Slot
  AtMvd : Axis → Slot

abbrev pub block_slot : MbKind → ℕ → Slot
block_slot k zero = AtMacroblock
block_slot k (suc n) = cond (is_intra k) AtDc AtFirst

abbrev pub cbp_slot : MbKind → Slot
cbp_slot k = cond (has_cbp k) AtCbp (block_slot k (cond (is_intra k) 6 0))

abbrev pub vector_slot : MbKind → Slot
vector_slot k = cond (has_vector k) (AtMvd Across) (cbp_slot k)

abbrev pub slot : List Element → Slot
slot [] = AtPsc
slot (Psc ∷ before) = AtTr
slot (Tr n ∷ before) = AtPtype
slot (Ptype n ∷ before) = AtPei
slot (Pei b ∷ before) = cond b AtPspare AtGroup
slot (Pspare n ∷ before) = AtPei
slot (Gbsc ∷ before) = AtGn
slot (Gn n ∷ before) = AtGquant
slot (Gquant q ∷ before) = AtGei
slot (Gei b ∷ before) = cond b AtGspare AtMacroblock
slot (Gspare n ∷ before) = AtGei
slot (Stuffing ∷ before) = AtMacroblock
slot (Mba n ∷ before) = AtMtype
slot (Mtype k ∷ before) = cond (has_mquant k) AtMquant (vector_slot k)
slot (Mquant q ∷ before) = vector_slot (kind before)
slot (Mvd Across v ∷ before) = AtMvd Down
slot (Mvd Down v ∷ before) = cbp_slot (kind before)
slot (Cbp c ∷ before) = block_slot (kind before) (ones c)
slot (Dc n ∷ before) = AtCoefficient
slot (Tcoeff c ∷ before) = AtCoefficient
slot (Eob ∷ before) = block_slot (kind before) (blocks before - 1)

-- ---- the words of a slot

-- one word; any bits of a width; a flag; the words of a table
abbrev pub word_row : List Bool → Element → Row Element
word_row code e = record { code = code; tail = 0; make = λ _. e }

abbrev pub field_rows : ℕ → (ℕ → Element) → List (Row Element)
field_rows width make = record { code = []; tail = width; make = make } ∷ []

abbrev pub flag_rows : (Bool → Element) → List (Row Element)
flag_rows make = field_rows 1 (λ n. make (n == 1))

abbrev pub table_rows : {A : Type 0} → List (List Bool × A) → (A → Element) → List (Row Element)
table_rows table make = map (λ row. word_row row.0 (make row.1)) table

-- a level by its sign bit, and by 8 bits in two's complement (4.2.4.1)
abbrev pub signed : ℕ → ℕ → ℤ
signed level sign = cond (sign == 0) (pos level) (neg_ℤ (pos level))

abbrev pub from_twos_complement : ℕ → ℤ
from_twos_complement n = cond (nat_lt n 128) (pos n) (neg_ℤ (pos (256 - n)))

-- a code, which the sign follows, and an escape, which run and level follow
abbrev pub coefficient_row : List Bool → ℕ → ℕ → Row Element
coefficient_row code run level =
    record { code = code; tail = 1; make = λ sign. Tcoeff (record { run = run; level = signed level sign; long = false }) }

abbrev pub escape_row : Row Element
escape_row =
    record { code = escape_word; tail = 14; make = λ n. Tcoeff (record { run = n / 256; level = from_twos_complement (n % 256); long = true }) }

abbrev pub coefficient_rows : List (Row Element)
coefficient_rows = map (λ row. coefficient_row row.0 row.1.0 row.1.1) tcoeff_table ++ escape_row ∷ []

abbrev pub first_rows : List (Row Element)
first_rows = coefficient_row first_one_word 0 1 ∷ coefficient_rows

abbrev pub later_rows : List (Row Element)
later_rows = coefficient_row later_one_word 0 1 ∷ coefficient_rows ++ word_row end_of_block_word Eob ∷ []

abbrev pub mba_rows : List (Row Element)
mba_rows = table_rows mba_table Mba ++ word_row stuffing_word Stuffing ∷ []

abbrev pub gbsc_row : Row Element
gbsc_row = word_row (group_start_code) Gbsc

unfoldable pub rows : Slot → List (Row Element)
rows AtPsc = word_row (picture_start_code) Psc ∷ []
rows AtTr = field_rows 5 Tr
rows AtPtype = field_rows 6 Ptype
rows AtPei = flag_rows Pei
rows AtPspare = field_rows 8 Pspare
rows AtGroup = gbsc_row ∷ []
rows AtGn = field_rows 4 Gn
rows AtGquant = field_rows 5 Gquant
rows AtGei = flag_rows Gei
rows AtGspare = field_rows 8 Gspare
rows AtMacroblock = mba_rows ++ gbsc_row ∷ []
rows AtMtype = table_rows mtype_table Mtype
rows AtMquant = field_rows 5 Mquant
rows (AtMvd axis) = table_rows mvd_table (Mvd axis)
rows AtCbp = table_rows cbp_table Cbp
rows AtDc = field_rows 8 Dc
rows AtFirst = first_rows
rows AtCoefficient = later_rows

-- ---- which elements are at fault

-- PTYPE's fourth bit is the format, 1 for CIF, and its fifth is HI_RES, 0 where the still picture mode is on (4.2.1.3)
abbrev pub names_format : Format → ℕ → Bool
names_format Qcif ptype = ptype / 4 % 2 == 0
names_format Cif ptype = ptype / 4 % 2 == 1

abbrev pub is_group : Format → ℕ → Bool
is_group format n = list_any (λ number. number == n) (group_numbers format)

abbrev pub is_forbidden_level : ℤ → Bool
is_forbidden_level (pos n) = n == 0
is_forbidden_level (negsuc n) = n == 127

-- the conditions of an element behind these elements, in their order
abbrev pub faults : Format → List Element → Element → List (Bool × Why)
faults format before (Ptype p) = (not (names_format format p), WrongFormat) ∷ (p / 2 % 2 == 0, StillImage) ∷ []
faults format before (Gn n) = (not (is_group format n && nat_lt (group before) n), BadGroup) ∷ []
faults format before (Gquant q) = (q == 0, BadQuant) ∷ []
faults format before (Mquant q) = (q == 0, BadQuant) ∷ []
faults format before (Mba n) = (nat_lt group_size (address before + n), BadAddress) ∷ []
faults format before (Mvd axis v) =
    (not (in_range (component_from (vector_component axis before) v)), BadVector)
    ∷ (not (stays_within (side format axis) (corner axis (group before) (address before)) (component_from (vector_component axis before) v)), VectorOutside)
    ∷ []
faults format before (Dc n) = (n == 0 || n == 128, BadDc) ∷ []
faults format before (Tcoeff c) =
    (c.long && is_forbidden_level c.level, BadLevel) ∷ (nat_lt 64 (filled before + c.run + 1), TooMany) ∷ []
faults format before _ = []

-- the first condition that holds
abbrev pub first_why : List (Bool × Why) → Option Why
first_why [] = None
first_why (f ∷ fs) = cond f.0 (Some f.1) (first_why fs)

-- ---- the grammar

-- the lawful end: behind a header, a macroblock or stuffing, 0 to 7 bits are left and all are 0
abbrev pub may_end : Slot → Bool
may_end AtGroup = true
may_end AtMacroblock = true
may_end _ = false

abbrev pub is_end : List Bool → Bool
is_end left = nat_lt (length left) 8 && not (list_any (λ b. b) left)

-- bits that do not begin with PSC, nor are a prefix of it, are no picture
abbrev pub or_no_start : Slot → Standing Element → Standing Element
or_no_start AtPsc (Bad NoCode) = Bad NoStart
or_no_start _ here = here

abbrev pub at_slot : Slot → List Bool → Standing Element
at_slot due left = cond (may_end due && is_end left) Stop (or_no_start due (read (rows due) left))

-- what stands behind these elements, whatever the length of the picture
unfoldable pub next : Format → List Element → Reading → Standing Element
next format before r = judged (λ e n. first_why (faults format before e)) (at_slot (slot before) r.0)

-- ---- the limit of a picture

-- an element's end, and the bits of each group header not yet begun
abbrev pub counted : Format → List Element → ℕ → ℕ
counted format before end = end + group_header_length * (group_count format - begun before)

-- what stands behind these elements in a picture; last of all conditions, no element ends past the limit
unfoldable pub next_within_limit : Format → List Element → Reading → Standing Element
next_within_limit format before r =
    judged (λ e n. cond (nat_lt (limit format) (counted format (e ∷ before) (r.1 + n))) (Some TooLong) None)
    (next format before r)
