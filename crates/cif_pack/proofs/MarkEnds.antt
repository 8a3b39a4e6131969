-- Ends of atoms from marks and group views are those of the picture.
use Rattle.std.proofs.Common.{◌≡◌, ℕ, zero, suc, ◌+◌, ◌<◌, ◌≤◌, ◌==◌, Bool, true, false, List, [], ◌∷◌, ◌++◌, length, take, drop, get_or, Option, Some, None, refl, sym, ◌∙◌, ap, ap₂, subst, arith, append_assoc, length-append, length-take, append-nil, pos}
use Rattle.std.proofs.lemmas.Bool.Decides.{nat_tests}
use Rattle.std.proofs.lemmas.List.{take_at, drop_at}
use Rattle.std.proofs.lemmas.List.Elements.{All-head, All-tail}
use Rattle.std.specs.Prelude.{All}
use Rattle.std.proofs.Math.Logic.{∥∥₁_elim}
use Rattle.std.proofs.Props.{props}
use Rattle.picture_laws.proofs.LongestMacroblocks.{group_is_short}
use Rattle.pel_model.specs.declared.Format.TheVariants.{Cif}
use Rattle.pel_model.specs.Valid.{IsValid, IsValidGroup}
use Rattle.h261_pic.specs.Coded.{Coding, coding, views, IsWhole}
use Rattle.h261_pic.specs.declared.coded.GroupView.{GroupView}
use Rattle.pel_model.specs.declared.Format.{Format}
use Rattle.pel_model.specs.declared.Mark.{Mark}
use Rattle.pel_model.specs.Marks.{mark_of, macroblock_marks, group_marks}
use Rattle.pel_model.specs.Records.{Macroblock, Group, Picture, quantiser_after}
use Rattle.pel_model.specs.Text.{macroblock_text, group_text}
use Rattle.cif_pack.specs.declared.atoms.AtomEnd.{AtomEnd}
use Rattle.cif_pack.specs.Atoms.{macroblock_ends, ends_behind, group_ends, atom_ends}
use Rattle.cif_pack.specs.Marked.{ends_from, mark_ends, ends_in, view_ends, views_ends, ends_of_marks, count_of}

abbrev pub no_mark : Mark
no_mark = record { at = 0; len = 0; group = 0; address = 0; quant_after = 0; h_after = pos 0; v_after = pos 0; intra = false }

pub length-mark_ends : (ms : List Mark) → length (mark_ends ms) ≡ length ms
length-mark_ends [] = refl
length-mark_ends (m ∷ ms) = ap suc (length-mark_ends ms)

last_end_at : (ms : List Mark) (i : ℕ) (d : AtomEnd) (k : Mark) → i + 1 ≡ length ms → get_or (mark_ends ms) i d ≡ ends_from true (get_or ms i k)
last_end_at [] i d k is = absurd (omega (arith, is))
last_end_at (m ∷ []) zero d k is = refl
last_end_at (m ∷ n ∷ ms) zero d k is = absurd (omega (arith, is))
last_end_at (m ∷ ms) (suc i) d k is = last_end_at ms i d k (omega (arith, is))

inner_end_at : (ms : List Mark) (i : ℕ) (d : AtomEnd) (k : Mark) → i + 1 < length ms → get_or (mark_ends ms) i d ≡ ends_from false (get_or ms i k)
inner_end_at [] i d k less = absurd (omega (arith, less))
inner_end_at (m ∷ []) zero d k less = absurd (omega (arith, less))
inner_end_at (m ∷ n ∷ ms) zero d k less = refl
inner_end_at (m ∷ ms) (suc i) d k less = inner_end_at ms i d k (omega (arith, less))

-- the end at a mark, by whether it is the last one
pub end_at : (ms : List Mark) (i : ℕ) (d : AtomEnd) (k : Mark) (b : Bool) → (i + 1 == length ms) ≡ b → i < length ms → get_or (mark_ends ms) i d ≡ ends_from b (get_or ms i k)
end_at ms i d k true is less = last_end_at ms i d k (grind (arith, nat_tests))
end_at ms i d k false is less = inner_end_at ms i d k (grind (arith, nat_tests))

-- ---- of a group

marks_are : (at number quant : ℕ) (last : Option Macroblock) (ms : List Macroblock) → mark_ends (macroblock_marks at number quant last ms) ≡ macroblock_ends at number quant last ms
marks_are at number quant last [] = refl
marks_are at number quant last (m ∷ []) = refl
marks_are at number quant last (m ∷ n ∷ ms) =
    ap (λ (t : List AtomEnd). ends_from false (mark_of at number quant last m) ∷ t)
    (marks_are (at + length (macroblock_text last m)) number (quantiser_after quant m.mquant) (Some m) (n ∷ ms))

in_group : (at number quant : ℕ) (ms : List Macroblock) → ends_in at (macroblock_marks at number quant None ms) ≡ ends_behind at number quant ms
in_group at number quant [] = refl
in_group at number quant (m ∷ ms) = marks_are at number quant None (m ∷ ms)

pub length-marks : (at number quant : ℕ) (last : Option Macroblock) (ms : List Macroblock) → length (macroblock_marks at number quant last ms) ≡ length ms
length-marks at number quant last [] = refl
length-marks at number quant last (m ∷ ms) = ap suc (length-marks (at + length (macroblock_text last m)) number (quantiser_after quant m.mquant) (Some m) ms)

-- of groups, whose marks stand behind others
pub in_groups : (at : ℕ) (front : List Mark) (gs : List Group) → views_ends (front ++ group_marks at gs) (views at (length front) gs) ≡ group_ends at gs
in_groups at front [] = refl
in_groups at front (g ∷ gs) =
    let own = macroblock_marks (at + 26) g.number g.quant None g.macroblocks in
    let next = at + length (group_text g) in
    let rest = group_marks next gs in
    let long : length own ≡ length g.macroblocks = length-marks (at + 26) g.number g.quant None g.macroblocks in
    let here : take (length g.macroblocks) (drop (length front) (front ++ (own ++ rest))) ≡ own =
    ap (take (length g.macroblocks)) (drop_at front (own ++ rest) (length front) refl) ∙ take_at own rest (length g.macroblocks) long in
    let moved : views_ends (front ++ (own ++ rest)) (views next (length front + length g.macroblocks) gs) ≡ group_ends next gs =
    ap₂ (λ (t : List Mark) (n : ℕ). views_ends t (views next n gs)) (sym (append_assoc front own rest)) (omega (arith, long, length-append front own))
    ∙ in_groups next (front ++ own) gs in
    ap₂ (λ (a : List AtomEnd) (b : List AtomEnd). a ++ b) (ap (ends_in (at + 26)) here ∙ in_group (at + 26) g.number g.quant g.macroblocks) moved

pub ends_of_picture : (format : Format) (p : Picture) → views_ends (coding format p).marks (coding format p).groups ≡ atom_ends p
ends_of_picture format p = in_groups 32 [] p.groups

-- ---- group by group

pub views-ends-more : (marks : List Mark) (vs : List GroupView) (v : GroupView) → views_ends marks (vs ++ v ∷ []) ≡ views_ends marks vs ++ view_ends marks v
views-ends-more marks [] v = append-nil (view_ends marks v)
views-ends-more marks (w ∷ vs) v =
    ap (λ (t : List AtomEnd). view_ends marks w ++ t) (views-ends-more marks vs v) ∙ sym (append_assoc (view_ends marks w) (views_ends marks vs) (view_ends marks v))

-- the marks of a view are there, and there are at most 33 of them
abbrev pub IsFine : ℕ → GroupView → Type 0
IsFine count v = (v.first_mark + v.marks ≤ count) × (v.marks ≤ 33)

abbrev pub no_view : GroupView
no_view = record { number = 0; quant = 0; from = 0; len = 0; first_mark = 0; marks = 0 }

few-ends : (marks : List Mark) (n : ℕ) → n ≤ 33 → (at : ℕ) → length marks ≤ n → length (ends_in at marks) ≤ 33
few-ends [] n few at short = omega arith
few-ends (m ∷ ms) n few at short = omega (arith, few, short, length-mark_ends (m ∷ ms))

pub few-view-ends : (marks : List Mark) (v : GroupView) → v.marks ≤ 33 → length (view_ends marks v) ≤ 33
few-view-ends marks v few =
    few-ends (take v.marks (drop v.first_mark marks)) v.marks few v.from (omega (arith, length-take v.marks (drop v.first_mark marks)))

pub few-count : (v : GroupView) → v.marks ≤ 33 → count_of v ≤ 33
few-count v few = at-most v.marks few
  where
    at-most : (n : ℕ) → n ≤ 33 → ends_of_marks n ≤ 33
    at-most zero h = omega arith
    at-most (suc n) h = h

fine_views : (at before : ℕ) (gs : List Group) (i : ℕ) → All (IsValidGroup Cif) gs → i < length gs
    → IsFine (before + length (group_marks at gs)) (get_or (views at before gs) i no_view)
fine_views at before [] i valid less = absurd (omega (arith, less))
fine_views at before (g ∷ gs) zero valid less =
    let own = macroblock_marks (at + 26) g.number g.quant None g.macroblocks in (
      omega (arith, length-marks (at + 26) g.number g.quant None g.macroblocks, length-append own (group_marks (at + length (group_text g)) gs)),
      group_is_short Cif g (All-head (IsValidGroup Cif) g gs valid),
    )
fine_views at before (g ∷ gs) (suc i) valid less =
    let own = macroblock_marks (at + 26) g.number g.quant None g.macroblocks in
    let next = at + length (group_text g) in
    subst (λ n. IsFine n (get_or (views next (before + length g.macroblocks) gs) i no_view))
    (omega (arith, length-marks (at + 26) g.number g.quant None g.macroblocks, length-append own (group_marks next gs)))
    (fine_views next (before + length g.macroblocks) gs i (All-tail (IsValidGroup Cif) g gs valid) (omega (arith, less)))

fine_in : (coded : Coding) (p : Picture) (i : ℕ) → coded ≡ coding Cif p → IsValid Cif p → i < 12 → IsFine (length coded.marks) (get_or coded.groups i no_view)
fine_in coded p i is valid less =
    subst (λ (c : Coding). IsFine (length c.marks) (get_or c.groups i no_view)) (sym is)
    (subst (λ n. IsFine n (get_or (views 32 0 p.groups) i no_view)) no_more (fine_views 32 0 p.groups i valid.so_far.groups (omega (arith, less, valid.whole))))
  where
    no_more : 0 + length (group_marks 32 p.groups) ≡ length (group_marks 32 p.groups)
    no_more = omega arith

pub fine-of : (coded : Coding) (i : ℕ) → coded.format ≡ Cif → IsWhole coded → i < 12 → IsFine (length coded.marks) (get_or coded.groups i no_view)
fine-of coded i cif whole less =
    ∥∥₁_elim whole (hlevel props)
    (λ h. fine_in coded h.0 i (h.1 ∙ ap (λ (f : Format). coding f h.0) cif) (subst (λ (f : Format). IsValid f h.0) cif h.2) less)
