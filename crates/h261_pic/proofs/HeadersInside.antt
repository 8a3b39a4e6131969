-- Headers as elements with none of which a group, stuffing or a macroblock begins, and what may come behind them.
use Rattle.std.proofs.Common.{◌≡◌, ℕ, true, List, [], ◌∷◌, ◌++◌, refl, sym, ap, subst}
use Rattle.pel_model.specs.Elements.{AreInside}
use Rattle.pel_model.specs.Walk.{after}
use Rattle.pel_model.specs.Grammar.{Element, Psc, Tr, Ptype, Pei, Pspare, Gbsc, Gn, Gquant, Gei, Gspare, Stuffing, Mba, Slot, AtGroup, AtMacroblock, slot, may_end, begun}
use Rattle.pel_model.proofs.InsideElements.{inside-left}
use Rattle.h261_pic.specs.HeaderElements.{Layer, OfPicture, OfGroup, spares_of, picture_header_elements, group_header_elements, IsPictureHeaderSoFar, IsGroupHeaderSoFar}

pub inside-spares : (layer : Layer) (octets : List ℕ) → AreInside (spares_of layer octets)
inside-spares OfPicture [] = tt
inside-spares OfPicture (octet ∷ octets) = inside-spares OfPicture octets
inside-spares OfGroup [] = tt
inside-spares OfGroup (octet ∷ octets) = inside-spares OfGroup octets

pub inside-picture-header : (es : List Element) (tr ptype : ℕ) (spares : List ℕ) → es ≡ picture_header_elements tr ptype spares → AreInside es
inside-picture-header es tr ptype spares is = subst AreInside (sym is) (inside-spares OfPicture spares)

pub inside-group-header : (es : List Element) (number quant : ℕ) (spares : List ℕ) → es ≡ group_header_elements number quant spares → AreInside es
inside-group-header es number quant spares is = subst AreInside (sym is) (inside-spares OfGroup spares)

pub inside-picture-so-far : (es : List Element) → IsPictureHeaderSoFar es → AreInside es
inside-picture-so-far es part = inside-left es (part.3 ∷ part.4) (inside-picture-header (es ++ part.3 ∷ part.4) part.0 part.1 part.2 part.5)

pub inside-group-so-far : (es : List Element) → IsGroupHeaderSoFar es → AreInside es
inside-group-so-far es part = inside-left es (part.3 ∷ part.4) (inside-group-header (es ++ part.3 ∷ part.4) part.0 part.1 part.2 part.5)

-- ---- behind a header

-- a group, or a macroblock
abbrev pub slot_behind : Layer → Slot
slot_behind OfPicture = AtGroup
slot_behind OfGroup = AtMacroblock

pub slot-spares : (layer : Layer) (before : List Element) (octets : List ℕ) → slot (after before (spares_of layer octets)) ≡ slot_behind layer
slot-spares OfPicture before [] = refl
slot-spares OfPicture before (octet ∷ octets) = slot-spares OfPicture (Pspare octet ∷ Pei true ∷ before) octets
slot-spares OfGroup before [] = refl
slot-spares OfGroup before (octet ∷ octets) = slot-spares OfGroup (Gspare octet ∷ Gei true ∷ before) octets

pub end-behind-picture-header : (before es : List Element) (tr ptype : ℕ) (spares : List ℕ) → es ≡ picture_header_elements tr ptype spares → may_end (slot (after before es)) ≡ true
end-behind-picture-header before es tr ptype spares is =
    subst (λ (es : List Element). may_end (slot (after before es)) ≡ true) (sym is) (ap may_end (slot-spares OfPicture (Ptype ptype ∷ Tr tr ∷ Psc ∷ before) spares))

pub end-behind-group-header : (before es : List Element) (number quant : ℕ) (spares : List ℕ) → es ≡ group_header_elements number quant spares → may_end (slot (after before es)) ≡ true
end-behind-group-header before es number quant spares is =
    subst (λ (es : List Element). may_end (slot (after before es)) ≡ true) (sym is) (ap may_end (slot-spares OfGroup (Gquant quant ∷ Gn number ∷ before) spares))

-- no group begins with these elements
pub begun-inside : (before es : List Element) → AreInside es → begun (after before es) ≡ begun before
begun-inside before [] h = refl
begun-inside before (Gbsc ∷ es) h = absurd h
begun-inside before (Stuffing ∷ es) h = absurd h
begun-inside before (Mba n ∷ es) h = absurd h
begun-inside before (e ∷ es) h = begun-inside (e ∷ before) es h
