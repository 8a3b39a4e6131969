-- Inner contracts alone use this; nothing here has to be believed.
-- The elements of headers, with their spare bytes (H.261, 4.2.1 and 4.2.2), and slots in which a field is due.
use Rattle.std.specs.Prelude.{◌≡◌, ℕ, Bool, true, false, List, [], ◌∷◌, ◌++◌, flat_map}
use Rattle.pel_model.specs.declared.Format.{Format}
use Rattle.pel_model.specs.Grammar.{Element, Psc, Tr, Ptype, Pei, Pspare, Gn, Gquant, Gei, Gspare, Slot, AtPei, AtPspare, AtGei, AtGspare, at_slot, field_rows, faults}
use Rattle.pel_model.specs.Walk.{Reading, read}
use Rattle.h261_pic.specs.declared.input_headers.GroupHeader.{GroupHeader}

-- the two layers that have spare bytes
pub data Layer : Type 0 where
  OfPicture OfGroup : Layer

-- PEI and PSPARE (4.2.1.4), or GEI and GSPARE (4.2.2.4)
abbrev pub flag_of : Layer → Bool → Element
flag_of OfPicture more = Pei more
flag_of OfGroup more = Gei more

abbrev pub spare_of : Layer → ℕ → Element
spare_of OfPicture octet = Pspare octet
spare_of OfGroup octet = Gspare octet

abbrev pub flag_slot : Layer → Slot
flag_slot OfPicture = AtPei
flag_slot OfGroup = AtGei

abbrev pub spare_slot : Layer → Slot
spare_slot OfPicture = AtPspare
spare_slot OfGroup = AtGspare

-- a 1 before each spare byte, and a 0 behind the last
abbrev pub spares_so_far : Layer → List ℕ → List Element
spares_so_far layer octets = flat_map (λ octet. flag_of layer true ∷ spare_of layer octet ∷ []) octets

abbrev pub spares_of : Layer → List ℕ → List Element
spares_of layer octets = spares_so_far layer octets ++ flag_of layer false ∷ []

abbrev pub picture_header_elements : (tr ptype : ℕ) → (spares : List ℕ) → List Element
picture_header_elements tr ptype spares = Psc ∷ Tr tr ∷ Ptype ptype ∷ spares_of OfPicture spares

-- a group's header behind its start code
abbrev pub group_header_elements : (number quant : ℕ) → (spares : List ℕ) → List Element
group_header_elements number quant spares = Gn number ∷ Gquant quant ∷ spares_of OfGroup spares

-- a picture header with this TR
pub record IsPictureHeader (tr : ℕ) (es : List Element) (new : Reading) : Type 0 where
  pub ptype : ℕ
  pub spares : List ℕ
  pub elements : es ≡ picture_header_elements tr ptype spares

-- a group header, behind its start code
pub record IsGroupHeader (header : GroupHeader) (es : List Element) (new : Reading) : Type 0 where
  pub spares : List ℕ
  pub elements : es ≡ group_header_elements header.number header.quant spares

-- spare bytes, up to the flag behind the last
pub record AreSpares {X : Type 0} (layer : Layer) (x : X) (es : List Element) (new : Reading) : Type 0 where
  pub octets : List ℕ
  pub elements : es ≡ spares_of layer octets

-- the elements are a front of such a list, and not the whole
abbrev pub AreSparesSoFar : Layer → List Element → Type 0
AreSparesSoFar layer es = (octets : List ℕ) × (e : Element) × (more : List Element) × (es ++ e ∷ more ≡ spares_of layer octets)

abbrev pub IsPictureHeaderSoFar : List Element → Type 0
IsPictureHeaderSoFar es =
    (tr : ℕ) × (ptype : ℕ) × (spares : List ℕ) × (e : Element) × (more : List Element) × (es ++ e ∷ more ≡ picture_header_elements tr ptype spares)

abbrev pub IsGroupHeaderSoFar : List Element → Type 0
IsGroupHeaderSoFar es =
    (number : ℕ) × (quant : ℕ) × (spares : List ℕ) × (e : Element) × (more : List Element) × (es ++ e ∷ more ≡ group_header_elements number quant spares)

-- in the slot any bits of the width may stand, and none are at fault
abbrev pub FieldOf : Slot → ℕ → (ℕ → Element) → Type 0
FieldOf s width make =
    ((left : List Bool) → at_slot s left ≡ read (field_rows width make) left)
    × ((format : Format) (before : List Element) (n : ℕ) → faults format before (make n) ≡ [])
