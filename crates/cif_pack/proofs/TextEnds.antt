-- The last end of a picture's atoms is the end of its text.
use Rattle.std.proofs.Common.{◌≡◌, ℕ, ◌+◌, ◌<◌, List, [], ◌∷◌, ◌++◌, length, flat_map, Option, Some, None, sym, ◌∙◌, ap, arith, length-append}
use Rattle.cif_pack.specs.declared.atoms.AtomEnd.{AtomEnd}
use Rattle.cif_pack.specs.Atoms.{macroblock_ends, ends_behind, group_ends, atom_ends}
use Rattle.cif_pack.proofs.AtomsRise.{length-more, length-none}
use Rattle.h261_pic.proofs.Texts.{length-group_text, length-text}
use Rattle.pel_model.specs.declared.Format.TheVariants.{Cif}
use Rattle.pel_model.specs.Records.{Macroblock, Group, Picture, quantiser_after}
use Rattle.pel_model.specs.Text.{macroblock_text, macroblocks_text, group_text, text}
use Rattle.pel_model.specs.Valid.{IsValid}

abbrev pub last_end : ℕ → List AtomEnd → ℕ
last_end from [] = from
last_end from (e ∷ es) = last_end e.at es

end-of-macroblocks : (at number quant : ℕ) (last : Option Macroblock) (ms : List Macroblock) (es : List AtomEnd)
    → last_end at (macroblock_ends at number quant last ms ++ es) ≡ last_end (at + length (macroblocks_text last ms)) es
end-of-macroblocks at number quant last [] es = ap (λ n. last_end n es) (omega (arith, length-none last))
end-of-macroblocks at number quant last (m ∷ ms) es =
    let next = at + length (macroblock_text last m) in
    end-of-macroblocks next number (quantiser_after quant m.mquant) (Some m) ms es
    ∙ ap (λ n. last_end n es) (omega (arith, length-more last m ms))

end-of-group : (from at number quant : ℕ) (ms : List Macroblock) (es : List AtomEnd)
    → last_end from (ends_behind at number quant ms ++ es) ≡ last_end (at + length (macroblocks_text None ms)) es
end-of-group from at number quant [] es = ap (λ n. last_end n es) (omega (arith, length-none None))
end-of-group from at number quant (m ∷ ms) es = end-of-macroblocks at number quant None (m ∷ ms) es

end-of-groups : (at : ℕ) (gs : List Group) → last_end at (group_ends at gs) ≡ at + length (flat_map group_text gs)
end-of-groups at [] = omega arith
end-of-groups at (g ∷ gs) =
    let next = at + length (group_text g) in
    end-of-group at (at + 26) g.number g.quant g.macroblocks (group_ends next gs)
    ∙ ap (λ n. last_end n (group_ends next gs)) (omega (arith, length-group_text g))
    ∙ end-of-groups next gs
    ∙ omega (arith, length-append (group_text g) (flat_map group_text gs))

from-any : (from at : ℕ) (gs : List Group) → 0 < length gs → last_end from (group_ends at gs) ≡ last_end at (group_ends at gs)
from-any from at [] some = absurd (omega (arith, some))
from-any from at (g ∷ gs) some =
    end-of-group from (at + 26) g.number g.quant g.macroblocks (group_ends (at + length (group_text g)) gs)
    ∙ sym (end-of-group at (at + 26) g.number g.quant g.macroblocks (group_ends (at + length (group_text g)) gs))

pub text-end : (p : Picture) → IsValid Cif p → last_end 0 (atom_ends p) ≡ length (text Cif p)
text-end p valid =
    from-any 0 32 p.groups (omega (arith, valid.whole)) ∙ end-of-groups 32 p.groups ∙ sym (length-text Cif p)
