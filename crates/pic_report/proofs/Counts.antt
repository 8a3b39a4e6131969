-- The marks of a picture count its macroblocks.
use Rattle.std.proofs.Common.{◌≡◌, ℕ, ◌+◌, cond, List, [], ◌∷◌, length, Option, Some, None, refl, sym, ◌∙◌, ap, ap₂, sum_by, count_by}
use Rattle.std.proofs.lemmas.List.Sums.{sum_by-append, sum_by-cons}
use Rattle.h261_pic.specs.Coded.{Coding, coding}
use Rattle.h261_pic.proofs.GroupMarks.{length-group_marks}
use Rattle.pel_model.specs.declared.Format.{Format}
use Rattle.pel_model.specs.declared.Mark.{Mark}
use Rattle.pel_model.specs.Codes.{is_intra}
use Rattle.pel_model.specs.Marks.{macroblock_marks, group_marks, mark_of}
use Rattle.pel_model.specs.Records.{Macroblock, Group, Picture, quantiser_after}
use Rattle.pel_model.specs.Text.{macroblock_text, group_text, text}
use Rattle.pic_report.specs.Report.{numbers_line, picture_line}

count-cons : {X : Type 0} (p : X → _) (x : X) (xs : List X) → count_by p (x ∷ xs) ≡ cond (p x) 1 0 + count_by p xs
count-cons p x xs = sum_by-cons (λ y. cond (p y) 1 0) x xs

macroblock-intra : (at number quant : ℕ) (last : Option Macroblock) (ms : List Macroblock)
    → count_by (λ (m : Mark). m.intra) (macroblock_marks at number quant last ms) ≡ count_by (λ (m : Macroblock). is_intra m.kind) ms
macroblock-intra at number quant last [] = refl
macroblock-intra at number quant last (m ∷ ms) =
    let rest = macroblock_marks (at + length (macroblock_text last m)) number (quantiser_after quant m.mquant) (Some m) ms in
    count-cons (λ (k : Mark). k.intra) (mark_of at number quant last m) rest
    ∙ ap (λ n. cond (is_intra m.kind) 1 0 + n) (macroblock-intra (at + length (macroblock_text last m)) number (quantiser_after quant m.mquant) (Some m) ms)
    ∙ sym (count-cons (λ (k : Macroblock). is_intra k.kind) m ms)

group-intra : (at : ℕ) (gs : List Group)
    → count_by (λ (m : Mark). m.intra) (group_marks at gs)
    ≡ sum_by (λ (g : Group). count_by (λ (m : Macroblock). is_intra m.kind) g.macroblocks) gs
group-intra at [] = refl
group-intra at (g ∷ gs) =
    sum_by-append (λ (m : Mark). cond m.intra 1 0) (macroblock_marks (at + 26) g.number g.quant None g.macroblocks) (group_marks (at + length (group_text g)) gs)
    ∙ ap₂ (λ (n : ℕ) (k : ℕ). n + k) (macroblock-intra (at + 26) g.number g.quant None g.macroblocks) (group-intra (at + length (group_text g)) gs)
    ∙ sym (sum_by-cons (λ (h : Group). count_by (λ (m : Macroblock). is_intra m.kind) h.macroblocks) g gs)

-- what a coding counts is what its picture has
pub counted-line : (n tr bits macroblocks intra : ℕ) (coded : Coding) (format : Format) (p : Picture)
    → tr ≡ coded.tr → bits ≡ length coded.bits → macroblocks ≡ length coded.marks → intra ≡ count_by (λ (m : Mark). m.intra) coded.marks
    → coded ≡ coding format p → numbers_line n tr bits macroblocks intra ≡ picture_line format n p
counted-line n tr bits macroblocks intra coded format p tr_is bits_is macroblocks_is intra_is h =
    ap₂ (λ (t : ℕ) (b : ℕ). numbers_line n t b macroblocks intra) tr_is bits_is
    ∙ ap₂ (λ (m : ℕ) (k : ℕ). numbers_line n coded.tr (length coded.bits) m k) macroblocks_is intra_is
    ∙ ap (λ (c : Coding). numbers_line n c.tr (length c.bits) (length c.marks) (count_by (λ (m : Mark). m.intra) c.marks)) h
    ∙ ap₂ (λ (m : ℕ) (k : ℕ). numbers_line n p.tr (length (text format p)) m k) (length-group_marks 32 p.groups) (group-intra 32 p.groups)
