-- A coded picture is a refresh where it has 99 marks, all of them of Intra macroblocks.
use Rattle.std.proofs.Common.{◌≡◌, ℕ, ◌+◌, true, List, [], ◌∷◌, ◌++◌, length, All, Option, Some, None, sym, ◌∙◌, ap, subst}
use Rattle.std.proofs.lemmas.List.Elements.{All-nil, All-cons, All-head, All-tail, All-append}
use Rattle.h261_pic.specs.Coded.{Coding, coding}
use Rattle.h261_pic.proofs.GroupMarks.{length-group_marks}
use Rattle.pel_model.specs.declared.Format.{Format}
use Rattle.pel_model.specs.declared.Format.TheVariants.{Qcif}
use Rattle.pel_model.specs.declared.Mark.{Mark}
use Rattle.pel_model.specs.Codes.{is_intra}
use Rattle.pel_model.specs.Marks.{mark_of, macroblock_marks, group_marks, marks_of}
use Rattle.pel_model.specs.Records.{Macroblock, Group, Picture, quantiser_after}
use Rattle.pel_model.specs.Refresh.{IsRefresh}
use Rattle.pel_model.proofs.RefreshLaws.{IsIntra, IsIntraGroup, refresh-facts, facts-refresh}
use Rattle.pel_model.specs.Text.{macroblock_text, group_text}

All-front : {X : Type 0} (P : X → Type 0) (xs ys : List X) → All P (xs ++ ys) → All P xs
All-front P [] ys all = All-nil P
All-front P (x ∷ xs) ys all = All-cons P x xs (All-head P x (xs ++ ys) all) (All-front P xs ys (All-tail P x (xs ++ ys) all))

All-back : {X : Type 0} (P : X → Type 0) (xs ys : List X) → All P (xs ++ ys) → All P ys
All-back P [] ys all = all
All-back P (x ∷ xs) ys all = All-back P xs ys (All-tail P x (xs ++ ys) all)

abbrev pub IsIntraMark : Mark → Type 0
IsIntraMark m = m.intra ≡ true

intra_marks : (at number quant : ℕ) (last : Option Macroblock) (ms : List Macroblock) → All IsIntra ms → All IsIntraMark (macroblock_marks at number quant last ms)
intra_marks at number quant last [] all = All-nil IsIntraMark
intra_marks at number quant last (m ∷ ms) all =
    All-cons IsIntraMark (mark_of at number quant last m) (macroblock_marks (at + length (macroblock_text last m)) number (quantiser_after quant m.mquant) (Some m) ms)
    (All-head IsIntra m ms all)
    (intra_marks (at + length (macroblock_text last m)) number (quantiser_after quant m.mquant) (Some m) ms (All-tail IsIntra m ms all))

marks_intra : (at number quant : ℕ) (last : Option Macroblock) (ms : List Macroblock) → All IsIntraMark (macroblock_marks at number quant last ms) → All IsIntra ms
marks_intra at number quant last [] all = All-nil IsIntra
marks_intra at number quant last (m ∷ ms) all =
    let rest = macroblock_marks (at + length (macroblock_text last m)) number (quantiser_after quant m.mquant) (Some m) ms in
    All-cons IsIntra m ms (All-head IsIntraMark (mark_of at number quant last m) rest all)
    (marks_intra (at + length (macroblock_text last m)) number (quantiser_after quant m.mquant) (Some m) ms (All-tail IsIntraMark (mark_of at number quant last m) rest all))

intra_group_marks : (at : ℕ) (gs : List Group) → All IsIntraGroup gs → All IsIntraMark (group_marks at gs)
intra_group_marks at [] all = All-nil IsIntraMark
intra_group_marks at (g ∷ gs) all =
    All-append IsIntraMark (macroblock_marks (at + 26) g.number g.quant None g.macroblocks) (group_marks (at + length (group_text g)) gs)
    (intra_marks (at + 26) g.number g.quant None g.macroblocks (All-head IsIntraGroup g gs all))
    (intra_group_marks (at + length (group_text g)) gs (All-tail IsIntraGroup g gs all))

group_marks_intra : (at : ℕ) (gs : List Group) → All IsIntraMark (group_marks at gs) → All IsIntraGroup gs
group_marks_intra at [] all = All-nil IsIntraGroup
group_marks_intra at (g ∷ gs) all =
    let here = macroblock_marks (at + 26) g.number g.quant None g.macroblocks in
    let rest = group_marks (at + length (group_text g)) gs in
    All-cons IsIntraGroup g gs (marks_intra (at + 26) g.number g.quant None g.macroblocks (All-front IsIntraMark here rest all))
    (group_marks_intra (at + length (group_text g)) gs (All-back IsIntraMark here rest all))

-- what the marks of a refresh are
pub record HasRefreshMarks (c : Coding) : Type 0 where
  pub qcif : c.format ≡ Qcif
  pub count : length c.marks ≡ 99
  pub intra : All IsIntraMark c.marks

pub refresh_from_marks : (c : Coding) (picture : Picture) → c ≡ coding c.format picture → HasRefreshMarks c → IsRefresh c.format picture
refresh_from_marks c picture is has =
    let marks_are : c.marks ≡ marks_of picture = ap (λ (k : Coding). k.marks) is in
    subst (λ (f : Format). IsRefresh f picture) (sym has.qcif)
    (facts-refresh picture (sym (length-group_marks 32 picture.groups) ∙ sym (ap length marks_are) ∙ has.count)
    (group_marks_intra 32 picture.groups (subst (All IsIntraMark) marks_are has.intra)))

pub marks_from_refresh : (c : Coding) (picture : Picture) → c ≡ coding c.format picture → IsRefresh c.format picture → HasRefreshMarks c
marks_from_refresh c picture is refresh =
    let marks_are : c.marks ≡ marks_of picture = ap (λ (k : Coding). k.marks) is in
    let told = refresh-facts c.format picture refresh in
    record {
      qcif = told.qcif;
      count = ap length marks_are ∙ length-group_marks 32 picture.groups ∙ told.all_sent;
      intra = subst (All IsIntraMark) (sym marks_are) (intra_group_marks 32 picture.groups told.all_intra);
    }
