-- The strict text is an input form.
use Rattle.std.proofs.Common.{◌≡◌, List, [], ◌∷◌, ◌++◌, length, map, Option, Some, None, refl, sym, ◌∙◌, ap, append-nil, arith}
use Rattle.std.specs.List.{flat_map}
use Rattle.pel_model.specs.declared.Format.{Format}
use Rattle.pel_model.specs.Records.{Macroblock, Group, Picture}
use Rattle.pel_model.specs.Text.{text, picture_header, group_header, group_text, macroblock_text, macroblocks_text}
use Rattle.pel_model.specs.Spelling.{GroupsFit, stuffed_text, sent_groups_text, sent_group_text, sent_text, IsSpelling, strict_group, strict_form}
use Rattle.pel_model.specs.Accepts.{left_out}
use Rattle.picture_laws.specs.Laws.{TextIsAccepted}

stuffed_strict : (last : Option Macroblock) (ms : List Macroblock) → stuffed_text last [] ms ≡ macroblocks_text last ms
unfolding stuffed_text macroblocks_text
stuffed_strict last [] = refl
stuffed_strict last (m ∷ ms) = ap (λ t. macroblock_text last m ++ t) (stuffed_strict (Some m) ms)

group_strict : (g : Group) → sent_group_text strict_group g ≡ group_text g
group_strict g = ap (λ t. group_header g.number g.quant ++ t) (stuffed_strict None g.macroblocks)

groups_strict : (gs : List Group) → sent_groups_text (map (λ (g : Group). strict_group) gs) gs ≡ flat_map group_text gs
groups_strict [] = refl
groups_strict (g ∷ gs) = ap (λ t. t ++ sent_groups_text (map (λ (g : Group). strict_group) gs) gs) (group_strict g) ∙ ap (λ t. group_text g ++ t) (groups_strict gs)

pub text_strict : (format : Format) (p : Picture) → sent_text format (strict_form p) p ≡ text format p
text_strict format p = ap (λ t. picture_header format p.tr ++ t) (groups_strict p.groups)

none_left_out : (gs : List Group) → left_out (map (λ (g : Group). strict_group) gs) ≡ 0
none_left_out [] = refl
none_left_out (g ∷ gs) = none_left_out gs

strict_fits : (gs : List Group) → GroupsFit (map (λ (g : Group). strict_group) gs) gs
strict_fits [] = tt
strict_fits (g ∷ gs) = (tt, strict_fits gs)

pub strict-spelling : (format : Format) (p : Picture) → IsSpelling format (strict_form p) (text format p) p
strict-spelling format p = record {
  fits = strict_fits p.groups;
  zeros = omega arith;
  text = sym (append-nil (sent_text format (strict_form p) p) ∙ text_strict format p);
}

pub text-accepted : TextIsAccepted
text-accepted format p valid short = (
  strict_form p,
  record {
    spelling = strict-spelling format p;
    valid = valid;
    short = omega (arith, none_left_out p.groups, ap length (text_strict format p));
  },
)
