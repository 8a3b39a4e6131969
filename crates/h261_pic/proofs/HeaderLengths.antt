-- How many bits a header has at least.
use Rattle.std.proofs.Common.{◌≡◌, ℕ, ◌+◌, ◌≤◌, Bool, true, false, List, [], ◌∷◌, length, refl, ap, arith, length-append}
use Rattle.pel_model.specs.declared.Format.{Format}
use Rattle.pel_model.specs.Walk.{Goes}
use Rattle.pel_model.specs.Grammar.{Element, Psc, Tr, Ptype, Pei, Gbsc, Gn, Gquant, Gei, Slot, AtGroup, AtMacroblock, slot, may_end, next}
use Rattle.picture_laws.proofs.Chains.{goes-walk, words, word_in, next-is}
use Rattle.picture_laws.proofs.Slots.{word_at, Takes}
use Rattle.picture_laws.proofs.Words.{length-field}
use Rattle.h261_pic.specs.HeaderElements.{Layer, OfPicture, OfGroup, flag_of, spare_of, flag_slot, spares_of, picture_header_elements, group_header_elements}

length-flag : (layer : Layer) (s : Slot) (more : Bool) → s ≡ flag_slot layer → length (word_at s (flag_of layer more)) ≡ 1
length-flag OfPicture s more due = ap (λ (s : Slot). length (word_at s (Pei more))) due
length-flag OfGroup s more due = ap (λ (s : Slot). length (word_at s (Gei more))) due

spares_long : (layer : Layer) (before : List Element) (octets : List ℕ) → slot before ≡ flag_slot layer → 1 ≤ length (words before (spares_of layer octets))
spares_long layer before [] due = omega (arith, length-flag layer (slot before) false due, length-append (word_in before (flag_of layer false)) [])
spares_long layer before (n ∷ ns) due =
    omega (arith, length-flag layer (slot before) true due, length-append (word_in before (flag_of layer true)) (words (flag_of layer true ∷ before) (spare_of layer n ∷ spares_of layer ns)))

pub picture_header_long : (format : Format) (r end : List Bool × ℕ) (tr ptype : ℕ) (spares : List ℕ) → Goes (next format) [] r (picture_header_elements tr ptype spares) end → r.1 + 32 ≤ end.1
picture_header_long format r end tr ptype spares goes =
    let w = goes-walk format [] r (picture_header_elements tr ptype spares) end goes in
    let tail = words (Ptype ptype ∷ Tr tr ∷ Psc ∷ []) (spares_of OfPicture spares) in
    omega (arith, w.place, spares_long OfPicture (Ptype ptype ∷ Tr tr ∷ Psc ∷ []) spares refl, length-append (word_in [] Psc) (words (Psc ∷ []) (Tr tr ∷ Ptype ptype ∷ spares_of OfPicture spares)), length-append (word_in (Psc ∷ []) (Tr tr)) (words (Tr tr ∷ Psc ∷ []) (Ptype ptype ∷ spares_of OfPicture spares)), length-append (word_in (Tr tr ∷ Psc ∷ []) (Ptype ptype)) tail, length-field tr 5, length-field ptype 6)

gbsc_long : (s : Slot) → Takes s Gbsc → may_end s ≡ true → 16 ≤ length (word_at s Gbsc)
gbsc_long AtGroup t h = omega arith
gbsc_long AtMacroblock t h = omega arith
gbsc_long _ t h = absurd cc

-- with its start code
pub group_header_long : (format : Format) (before : List Element) (from r : List Bool × ℕ) (number quant : ℕ) (spares : List ℕ) → may_end (slot before) ≡ true → Goes (next format) before from (Gbsc ∷ group_header_elements number quant spares) r → from.1 + 26 ≤ r.1
group_header_long format before from r number quant spares due goes =
    let w = goes-walk format before from (Gbsc ∷ group_header_elements number quant spares) r goes in
    let first = gbsc_long (slot before) (next-is format before from Gbsc goes.0 goes.1).0.takes due in
    let tail = words (Gquant quant ∷ Gn number ∷ Gbsc ∷ before) (spares_of OfGroup spares) in
    let last = spares_long OfGroup (Gquant quant ∷ Gn number ∷ Gbsc ∷ before) spares refl in
    omega (arith, w.place, first, last, length-append (word_in before Gbsc) (words (Gbsc ∷ before) (group_header_elements number quant spares)), length-append (word_in (Gbsc ∷ before) (Gn number)) (words (Gn number ∷ Gbsc ∷ before) (Gquant quant ∷ spares_of OfGroup spares)), length-append (word_in (Gn number ∷ Gbsc ∷ before) (Gquant quant)) tail, length-field number 4, length-field quant 5)
