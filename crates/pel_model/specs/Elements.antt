-- The elements that a record is sent as.
use Rattle.std.specs.Prelude.{◌≡◌, ℕ, ◌%◌, Bool, true, false, cond, ℤ, List, [], ◌∷◌, ◌++◌, map, Option, Some, None}
use Rattle.pel_model.specs.declared.MbKind.{MbKind}
use Rattle.pel_model.specs.Codes.{has_vector, has_cbp}
use Rattle.pel_model.specs.Records.{Across, Down, Block, Macroblock}
use Rattle.pel_model.specs.Text.{coded_block_pattern}
use Rattle.pel_model.specs.Grammar.{Element, Gbsc, Stuffing, Mba, Mtype, Mquant, Mvd, Cbp, Dc, Tcoeff, Eob}

-- ---- headers (4.2.1, 4.2.2)

-- PEI and PSPARE, or GEI and GSPARE: a flag that is on before each spare octet, of which the last 8 bits are sent, and one
-- that is off
abbrev pub spare_elements : (Bool → Element) → (ℕ → Element) → List ℕ → List Element
spare_elements flag spare [] = flag false ∷ []
spare_elements flag spare (octet ∷ octets) = flag true ∷ spare (octet % 256) ∷ spare_elements flag spare octets

-- ---- blocks (4.2.4)

abbrev pub dc_elements : Option ℕ → List Element
dc_elements None = []
dc_elements (Some n) = Dc n ∷ []

-- a block's elements before its end
abbrev pub coefficient_elements : Block → List Element
coefficient_elements b = dc_elements b.dc ++ map Tcoeff b.coefficients

abbrev pub block_elements : Block → List Element
block_elements b = coefficient_elements b ++ Eob ∷ []

-- elements of a block, up to no end
abbrev pub IsBlockSoFar : List Element → Type 0
IsBlockSoFar es = (b : Block) × (es ≡ coefficient_elements b)

-- ---- macroblocks (4.2.3)

abbrev pub mquant_elements : Option ℕ → List Element
mquant_elements None = []
mquant_elements (Some q) = Mquant q ∷ []

-- MVD twice, each with the values of its word
abbrev pub vector_elements : MbKind → (across down : ℤ × ℤ) → List Element
vector_elements kind across down = cond (has_vector kind) (Mvd Across across ∷ Mvd Down down ∷ []) []

abbrev pub cbp_elements : MbKind → ℕ → List Element
cbp_elements kind pattern = cond (has_cbp kind) (Cbp pattern ∷ []) []

abbrev pub blocks_elements : List (Option Block) → List Element
blocks_elements [] = []
blocks_elements (None ∷ blocks) = blocks_elements blocks
blocks_elements (Some b ∷ blocks) = block_elements b ++ blocks_elements blocks

-- behind MBA, where these words tell the vector
abbrev pub elements_behind_mba : (across down : ℤ × ℤ) → Macroblock → List Element
elements_behind_mba across down m =
    Mtype m.kind
    ∷ (mquant_elements m.mquant ++ (vector_elements m.kind across down ++ (cbp_elements m.kind (coded_block_pattern m.blocks) ++ blocks_elements m.blocks)))

-- a macroblock whose address is the one before and this difference
abbrev pub macroblock_elements : ℕ → (across down : ℤ × ℤ) → Macroblock → List Element
macroblock_elements difference across down m = Mba difference ∷ elements_behind_mba across down m

-- ---- elements inside a header or a macroblock

-- no group, stuffing or macroblock begins with any of these
abbrev pub AreInside : List Element → Type 0
AreInside [] = Unit {0}
AreInside (Gbsc ∷ es) = ⊥
AreInside (Stuffing ∷ es) = ⊥
AreInside (Mba n ∷ es) = ⊥
AreInside (_ ∷ es) = AreInside es
