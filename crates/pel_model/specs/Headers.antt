-- The headers of pictures and groups (H.261, 4.2.1 and 4.2.2), with what a sender is free to put into them.
use Rattle.std.specs.Prelude.{ℕ, Bool, true, false, List, [], ◌∷◌, ◌++◌}
use Rattle.pel_model.specs.declared.Format.{Format}
use Rattle.pel_model.specs.declared.Format.TheVariants.{Qcif, Cif}
use Rattle.pel_model.specs.Bits.{field}
use Rattle.pel_model.specs.Codes.{picture_start_code, group_start_code}

-- the four bits of PTYPE that do not decide (4.2.1.3): split screen, document camera, freeze release, and the spare bit
pub record FreeBits : Type 0 where
  pub split : Bool
  pub document : Bool
  pub release : Bool
  pub spare : Bool

-- as a strict text has them: none of the three is on, and the spare bit is 1
abbrev pub strict_bits : FreeBits
strict_bits = record { split = false; document = false; release = false; spare = true }

-- PTYPE: split screen, document camera, freeze release, format, HI_RES off, spare (4.2.1.3)
abbrev pub type_text : Format → FreeBits → List Bool
type_text Qcif free = free.split ∷ free.document ∷ free.release ∷ false ∷ true ∷ free.spare ∷ []
type_text Cif free = free.split ∷ free.document ∷ free.release ∷ true ∷ true ∷ free.spare ∷ []

-- PEI and PSPARE, or GEI and GSPARE: a 1 before each spare octet, and a 0 (4.2.1.4 and 4.2.1.5, 4.2.2.4 and
-- 4.2.2.5)
abbrev pub spare_text : List ℕ → List Bool
spare_text [] = false ∷ []
spare_text (octet ∷ octets) = true ∷ (field octet 8 ++ spare_text octets)

-- PSC, TR, PTYPE, and the spare octets
unfoldable pub picture_header_text : Format → FreeBits → (spares : List ℕ) → (tr : ℕ) → List Bool
picture_header_text format free spares tr =
    picture_start_code ++ (field tr 5 ++ (type_text format free ++ spare_text spares))

-- GBSC, GN, GQUANT, and the spare octets
unfoldable pub group_header_text : (number quant : ℕ) → (spares : List ℕ) → List Bool
group_header_text number quant spares =
    group_start_code ++ (field number 4 ++ (field quant 5 ++ spare_text spares))

-- their lengths where there are no spare octets
abbrev pub picture_header_length : ℕ
picture_header_length = 32

abbrev pub group_header_length : ℕ
group_header_length = 26
