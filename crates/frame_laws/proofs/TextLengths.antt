-- How many bits the strict text of a picture has, by its groups.
use Rattle.std.proofs.Common.{◌≡◌, ℕ, ◌+◌, List, [], ◌∷◌, length, flat_map, None, refl, ◌∙◌, arith, length-append}
use Rattle.pel_model.specs.declared.Format.{Format}
use Rattle.pel_model.specs.declared.Format.TheVariants.{Qcif, Cif}
use Rattle.pel_model.specs.Bits.{field}
use Rattle.pel_model.specs.Headers.{picture_header_text, group_header_text}
use Rattle.pel_model.specs.Records.{Group, Picture}
use Rattle.pel_model.specs.Text.{text, picture_header, group_header, group_text, macroblocks_text}

length-picture_header : (format : Format) (tr : ℕ) → length (picture_header format tr) ≡ 32
unfolding picture_header_text field
length-picture_header Qcif tr = refl
length-picture_header Cif tr = refl

length-group_header : (number quant : ℕ) → length (group_header number quant) ≡ 26
unfolding group_header_text field
length-group_header number quant = refl

-- the headers and macroblocks of groups
abbrev pub bits_of_groups : List Group → ℕ
bits_of_groups [] = 0
bits_of_groups (g ∷ gs) = 26 + length (macroblocks_text None g.macroblocks) + bits_of_groups gs

length-groups : (gs : List Group) → length (flat_map group_text gs) ≡ bits_of_groups gs
length-groups [] = refl
length-groups (g ∷ gs) =
    omega (
      arith,
      length-append (group_text g) (flat_map group_text gs),
      length-append (group_header g.number g.quant) (macroblocks_text None g.macroblocks),
      length-group_header g.number g.quant,
      length-groups gs,
    )

pub length-text : (format : Format) (p : Picture) → length (text format p) ≡ 32 + bits_of_groups p.groups
length-text format p =
    length-append (picture_header format p.tr) (flat_map group_text p.groups)
    ∙ omega (arith, length-picture_header format p.tr, length-groups p.groups)
