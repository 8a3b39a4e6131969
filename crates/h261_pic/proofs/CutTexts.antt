-- Views and marks cut the text of a picture.
use Rattle.std.proofs.Common.{◌≡◌, ℕ, ◌+◌, ◌<◌, Bool, List, [], ◌∷◌, ◌++◌, length, map, flat_map, slice_index_or, All, Option, None, Some, refl, sym, ◌∙◌, ap, ap₂, subst, arith, append_assoc, length-append}
use Rattle.std.proofs.lemmas.List.Elements.{All-nil, All-cons}
use Rattle.pel_model.specs.declared.Format.{Format}
use Rattle.pel_model.specs.declared.Mark.{Mark}
use Rattle.pel_model.specs.Marks.{mark_of, macroblock_marks}
use Rattle.pel_model.specs.Records.{Macroblock, Group, Picture, quantiser_after}
use Rattle.pel_model.specs.Text.{text, group_text, macroblock_text, macroblocks_text}
use Rattle.h261_pic.specs.Coded.{views, coding, view_of, marks_in}
use Rattle.h261_pic.specs.Laws.{GroupsFollow, MarksFollow, CutsGroup, CutTexts}
use Rattle.picture_laws.specs.TextLaws.{marked_bits, macroblock_texts}
use Rattle.picture_laws.proofs.TextProofs.{marks-cut}
use Rattle.h261_pic.proofs.GroupMarks.{StandsIn, sent, sent-cons, length-group_marks}
use Rattle.h261_pic.proofs.Grows.{no_group, view-number, view-len, view-stands, marks-of-view}
use Rattle.h261_pic.proofs.Texts.{length-group_text, length-text}

-- ---- the groups

views-follow : (at before : ℕ) (gs : List Group) → GroupsFollow at before (views at before gs) (at + length (flat_map group_text gs)) (before + sent gs)
views-follow at before [] = (omega arith, omega arith)
views-follow at before (g ∷ gs) =
    let size = length-group_text g in
    let place : at + length (group_text g) ≡ at + 26 + length (macroblocks_text None g.macroblocks) = omega (arith, size) in
    let end : at + length (group_text g) + length (flat_map group_text gs) ≡ at + length (flat_map group_text (g ∷ gs)) =
    omega (arith, length-append (group_text g) (flat_map group_text gs)) in
    let count : before + length g.macroblocks + sent gs ≡ before + sent (g ∷ gs) = omega (arith, sent-cons g gs) in
    let later = views-follow (at + length (group_text g)) (before + length g.macroblocks) gs in (
      refl,
      refl,
      subst (λ (n : ℕ). GroupsFollow n (before + length g.macroblocks) (views (at + length (group_text g)) (before + length g.macroblocks) gs) (at + length (flat_map group_text (g ∷ gs))) (before + sent (g ∷ gs))) place
          (subst (λ (e : ℕ). GroupsFollow (at + length (group_text g)) (before + length g.macroblocks) (views (at + length (group_text g)) (before + length g.macroblocks) gs) e (before + sent (g ∷ gs))) end
          (subst (λ (k : ℕ). GroupsFollow (at + length (group_text g)) (before + length g.macroblocks) (views (at + length (group_text g)) (before + length g.macroblocks) gs) (at + length (group_text g) + length (flat_map group_text gs)) k) count later)),
    )

-- ---- the marks of a group

marks-follow : (at number quant : ℕ) (last : Option Macroblock) (ms : List Macroblock) → MarksFollow at (macroblock_marks at number quant last ms) (at + length (macroblocks_text last ms))
unfolding macroblocks_text
marks-follow at number quant last [] = omega arith
marks-follow at number quant last (m ∷ ms) =
    let here = length (macroblock_text last m) in
    let end : at + here + length (macroblocks_text (Some m) ms) ≡ at + length (macroblock_text last m ++ macroblocks_text (Some m) ms) =
    omega (arith, length-append (macroblock_text last m) (macroblocks_text (Some m) ms)) in (
      refl,
      subst (MarksFollow (at + here) (macroblock_marks (at + here) number (quantiser_after quant m.mquant) (Some m) ms)) end
          (marks-follow (at + here) number (quantiser_after quant m.mquant) (Some m) ms),
    )

marks-number : (at number quant : ℕ) (last : Option Macroblock) (ms : List Macroblock) → All (λ (m : Mark). m.group ≡ number) (macroblock_marks at number quant last ms)
marks-number at number quant last [] = All-nil (λ (m : Mark). m.group ≡ number)
marks-number at number quant last (m ∷ ms) =
    All-cons (λ (k : Mark). k.group ≡ number) (mark_of at number quant last m) (macroblock_marks (at + length (macroblock_text last m)) number (quantiser_after quant m.mquant) (Some m) ms) refl
    (marks-number (at + length (macroblock_text last m)) number (quantiser_after quant m.mquant) (Some m) ms)

-- what stands at them, one by one
standing-texts : (bits : List Bool) (from number quant : ℕ) (ms : List Macroblock) → StandsIn bits from (macroblocks_text None ms)
    → map (marked_bits bits) (macroblock_marks from number quant None ms) ≡ macroblock_texts None ms
standing-texts bits from number quant ms stands =
    ap₂ (λ (bs : List Bool) (n : ℕ). map (marked_bits bs) (macroblock_marks n number quant None ms))
    (stands.bits_are ∙ append_assoc stands.front (macroblocks_text None ms) stands.rest) (sym stands.from_is)
    ∙ (marks-cut stands.front stands.rest number quant None ms).bits

cuts-group : (format : Format) (p : Picture) (i : ℕ) → i < length p.groups → CutsGroup (coding format p) p i
cuts-group format p i below =
    let c = coding format p in
    let g : Group = slice_index_or p.groups i no_group in
    let from = (view_of c i).from in
    let marks_are = marks-of-view format p i below in
    record {
      numbers = subst (All (λ (m : Mark). m.group ≡ (view_of c i).number)) (sym marks_are)
          (subst (λ (n : ℕ). All (λ (m : Mark). m.group ≡ n) (macroblock_marks from g.number g.quant None g.macroblocks)) (sym (view-number 32 0 p.groups i below))
          (marks-number from g.number g.quant None g.macroblocks));
      follow = subst (λ (ms : List Mark). MarksFollow from ms (from + (view_of c i).len)) (sym marks_are)
          (subst (λ (n : ℕ). MarksFollow from (macroblock_marks from g.number g.quant None g.macroblocks) (from + n)) (view-len 32 0 p.groups i below)
          (marks-follow from g.number g.quant None g.macroblocks));
      texts = ap (map (marked_bits (text format p))) marks_are ∙ standing-texts (text format p) from g.number g.quant g.macroblocks (view-stands format p i below);
    }

pub cut-texts : CutTexts
cut-texts format p =
    let count : 0 + sent p.groups ≡ length (coding format p).marks = omega (arith, length-group_marks 32 p.groups) in
    record {
      groups =
          subst (λ (e : ℕ). GroupsFollow 32 0 (views 32 0 p.groups) e (length (coding format p).marks)) (sym (length-text format p))
          (subst (λ (k : ℕ). GroupsFollow 32 0 (views 32 0 p.groups) (32 + length (flat_map group_text p.groups)) k) count
          (views-follow 32 0 p.groups));
      marks = λ i below. cuts-group format p i below;
    }
