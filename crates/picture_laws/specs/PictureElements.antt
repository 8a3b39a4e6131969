-- The elements of a picture in an input form, in their order, and what it means that elements tell a picture.
use Rattle.std.specs.Prelude.{◌≡◌, ℕ, ◌-◌, ◌||◌, Bool, if◌then◌else◌, ℤ, pos, ◌-ℤ◌, List, [], ◌∷◌, ◌++◌, replicate, get_or, drop, Option, Some, None}
use Rattle.std.specs.Ordering.{int_eq}
use Rattle.pel_model.specs.declared.Format.{Format}
use Rattle.pel_model.specs.Bits.{number}
use Rattle.pel_model.specs.Codes.{mvd_table}
use Rattle.pel_model.specs.Records.{Axis, Across, Down, Macroblock, Group, Picture, component}
use Rattle.pel_model.specs.Text.{address_of, predictor, coded_block_pattern}
use Rattle.pel_model.specs.Headers.{FreeBits, type_text}
use Rattle.pel_model.specs.Spelling.{GroupForm, LeftOut, Sent, Form, GroupsFit}
use Rattle.pel_model.specs.Elements as by_words
use Rattle.pel_model.specs.Elements.{spare_elements}
use Rattle.pel_model.specs.Grammar.{Element, Psc, Tr, Ptype, Pei, Pspare, Gbsc, Gn, Gquant, Gei, Gspare, Stuffing, Mvd}

-- ---- macroblocks

-- the pair of MVD's table that has this difference
abbrev pub pair_in : ℤ → List (List Bool × (ℤ × ℤ)) → ℤ × ℤ
pair_in d [] = (pos 0, pos 0)
pair_in d (row ∷ rows) = if int_eq row.1.0 d || int_eq row.1.1 d then row.1 else pair_in d rows

abbrev pub mvd_pair : Axis → Option Macroblock → Macroblock → ℤ × ℤ
mvd_pair axis last m = pair_in (component axis m -ℤ predictor axis last m) mvd_table

abbrev pub mvd_element : Axis → Option Macroblock → Macroblock → Element
mvd_element axis last m = Mvd axis (mvd_pair axis last m)

abbrev pub elements_of_vector : Option Macroblock → Macroblock → List Element
elements_of_vector last m = by_words.vector_elements m.kind (mvd_pair Across last m) (mvd_pair Down last m)

abbrev pub elements_of_pattern : Macroblock → List Element
elements_of_pattern m = by_words.cbp_elements m.kind (coded_block_pattern m.blocks)

-- a macroblock behind the one that was sent before it in its group
abbrev pub elements_of_macroblock : Option Macroblock → Macroblock → List Element
elements_of_macroblock last m = by_words.macroblock_elements (m.address - address_of last) (mvd_pair Across last m) (mvd_pair Down last m) m

-- macroblocks, each with so many stuffings behind it
abbrev pub elements_of_macroblocks : Option Macroblock → List ℕ → List Macroblock → List Element
elements_of_macroblocks last behind [] = []
elements_of_macroblocks last behind (m ∷ ms) =
    elements_of_macroblock last m ++ (replicate (get_or behind 0 0) Stuffing ++ elements_of_macroblocks (Some m) (drop 1 behind) ms)

-- ---- groups and pictures

abbrev pub elements_of_group : GroupForm → Group → List Element
elements_of_group LeftOut g = []
elements_of_group (Sent spares stuffings behind) g =
    Gbsc ∷ (Gn g.number ∷ (Gquant g.quant ∷ (spare_elements Gei Gspare spares ++ (replicate stuffings Stuffing ++ elements_of_macroblocks None behind g.macroblocks))))

abbrev pub elements_of_groups : List GroupForm → List Group → List Element
elements_of_groups [] gs = []
elements_of_groups (f ∷ fs) [] = []
elements_of_groups (f ∷ fs) (g ∷ gs) = elements_of_group f g ++ elements_of_groups fs gs

abbrev pub elements_of_header : Format → FreeBits → List ℕ → ℕ → List Element
elements_of_header format free spares tr =
    Psc ∷ Tr tr ∷ Ptype (number (type_text format free)) ∷ spare_elements Pei Pspare spares

abbrev pub elements_of_picture : Format → Form → Picture → List Element
elements_of_picture format form picture =
    elements_of_header format form.free form.spares picture.tr ++ elements_of_groups form.groups picture.groups

-- ---- what elements tell

-- these are the elements of the picture in some input form
abbrev pub Tells : Format → List Element → Picture → Type 0
Tells format es picture = (form : Form) × GroupsFit form.groups picture.groups × (es ≡ elements_of_picture format form picture)
