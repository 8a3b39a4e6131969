-- The strict text of a picture that grows by a group, and where the macroblock bits of its groups stand.
use Rattle.std.proofs.Common.{◌≡◌, ℕ, zero, suc, ◌+◌, ◌<◌, Bool, List, [], ◌∷◌, ◌++◌, length, take, drop, flat_map, slice_index_or, refl, sym, ◌∙◌, ap, ap₂, None, arith, append_assoc, length-append}
use Rattle.std.proofs.lemmas.List.{drop_at}
use Rattle.std.proofs.Math.Seq.{drop-append-add, take-append_seam}
use Rattle.std.proofs.lemmas.List.{flat_map_more}
use Rattle.h261_pic.specs.declared.coded.GroupView.{GroupView}
use Rattle.h261_pic.specs.Coded.{Coding, views, coding, grown, next_number, placed}
pub use Rattle.h261_pic.proofs.GroupMarks.{length-group_header}
use Rattle.h261_pic.proofs.GroupMarks.{sent, sent-cons, length-group_marks, group_marks-append}
use Rattle.h261_pic.proofs.PlacedMarks.{length-from_placed}
use Rattle.pel_model.specs.Headers.{picture_header_text}
use Rattle.pel_model.specs.declared.Mark.{Mark}
use Rattle.pel_model.specs.Marks.{macroblock_marks, marks_of}
use Rattle.pel_model.specs.declared.Format.{Format}
use Rattle.pel_model.specs.declared.Format.TheVariants.{Qcif, Cif}
use Rattle.pel_model.specs.Bits.{field}
use Rattle.pel_model.specs.Records.{Group, Picture, with_group}
use Rattle.pel_model.specs.Text.{text, picture_header, group_header, group_text, macroblocks_text}

pub length-picture_header : (format : Format) (tr : ℕ) → length (picture_header format tr) ≡ 32
unfolding picture_header_text field
length-picture_header Qcif tr = refl
length-picture_header Cif tr = refl

pub length-group_text : (g : Group) → length (group_text g) ≡ 26 + length (macroblocks_text None g.macroblocks)
length-group_text g =
    length-append (group_header g.number g.quant) (macroblocks_text None g.macroblocks)
    ∙ ap (λ n. n + length (macroblocks_text None g.macroblocks)) (length-group_header g.number g.quant)

-- no macroblocks are sent as no bits
pub nothing_sent : [] ≡ macroblocks_text None []
unfolding macroblocks_text
nothing_sent = refl

abbrev pub view_at : (at before : ℕ) → Group → GroupView
view_at at before g =
    record { number = g.number; quant = g.quant; from = at + 26; len = length (macroblocks_text None g.macroblocks); first_mark = before; marks = length g.macroblocks }

pub views-append : (at before : ℕ) (gs : List Group) (g : Group)
    → views at before (gs ++ g ∷ []) ≡ views at before gs ++ view_at (at + length (flat_map group_text gs)) (before + sent gs) g ∷ []
views-append at before [] g = ap₂ (λ (n : ℕ) (k : ℕ). view_at n k g ∷ []) (omega arith) (omega arith)
views-append at before (h ∷ gs) g =
    ap (λ vs. view_at at before h ∷ vs)
    (views-append (at + length (group_text h)) (before + length h.macroblocks) gs g
    ∙ ap₂ (λ (n : ℕ) (k : ℕ). views (at + length (group_text h)) (before + length h.macroblocks) gs ++ view_at n k g ∷ [])
    (omega (arith, length-append (group_text h) (flat_map group_text gs))) (omega (arith, sent-cons h gs)))

pub length-views : (at before : ℕ) (gs : List Group) → length (views at before gs) ≡ length gs
length-views at before [] = refl
length-views at before (g ∷ gs) = ap suc (length-views (at + length (group_text g)) (before + length g.macroblocks) gs)

-- a group behind the others
pub text-with_group : (format : Format) (p : Picture) (g : Group)
    → text format (with_group p g) ≡ text format p ++ group_header g.number g.quant ++ macroblocks_text None g.macroblocks
text-with_group format p g =
    sym (flat_map_more group_text (picture_header format p.tr) p.groups g)
    ∙ sym (append_assoc (text format p) (group_header g.number g.quant) (macroblocks_text None g.macroblocks))

pub length-text : (format : Format) (p : Picture) → length (text format p) ≡ 32 + length (flat_map group_text p.groups)
length-text format p =
    length-append (picture_header format p.tr) (flat_map group_text p.groups)
    ∙ ap (λ n. n + length (flat_map group_text p.groups)) (length-picture_header format p.tr)

pub same_coding : (format : Format) (tr : ℕ) (bits bits' : List Bool) (groups groups' : List GroupView) (marks marks' : List Mark)
    → bits ≡ bits' → groups ≡ groups' → marks ≡ marks'
    → (let c : Coding = record { format = format; tr = tr; bits = bits; groups = groups; marks = marks } in
    let c' : Coding = record { format = format; tr = tr; bits = bits'; groups = groups'; marks = marks' } in
    c ≡ c')
same_coding format tr bits bits' groups groups' marks marks' bits_are groups_are marks_are =
    ap₂ (λ (bs : List Bool) (vs : List GroupView). record { format = format; tr = tr; bits = bs; groups = vs; marks = marks }) bits_are groups_are
    ∙ ap (λ (ms : List Mark). record { format = format; tr = tr; bits = bits'; groups = groups'; marks = ms }) marks_are

pub same_view : (number number' quant from from' len len' first first' count count' : ℕ)
    → number ≡ number' → from ≡ from' → len ≡ len' → first ≡ first' → count ≡ count'
    → (let v : GroupView = record { number = number; quant = quant; from = from; len = len; first_mark = first; marks = count } in
    let v' : GroupView = record { number = number'; quant = quant; from = from'; len = len'; first_mark = first'; marks = count' } in
    v ≡ v')
same_view number number' quant from from' len len' first first' count count' number_is from_is len_is first_is count_is = cc

-- the coding of a picture that has one more group
pub coding-with_group : (format : Format) (p : Picture) (g : Group) (marks : List Mark) → g.number ≡ next_number (coding format p)
    → ((at : ℕ) → placed at g.number marks ≡ macroblock_marks at g.number g.quant None g.macroblocks)
    → grown (coding format p) g.quant (macroblocks_text None g.macroblocks) marks ≡ coding format (with_group p g)
coding-with_group format p g marks number_is same =
    let next = next_number (coding format p) in
    let here = macroblocks_text None g.macroblocks in
    let end = 32 + length (flat_map group_text p.groups) in
    same_coding format p.tr
    (text format p ++ group_header next g.quant ++ here) (text format (with_group p g))
    (views 32 0 p.groups ++ record { number = next; quant = g.quant; from = length (text format p) + 26; len = length here; first_mark = length (marks_of p); marks = length marks } ∷ [])
    (views 32 0 (p.groups ++ g ∷ []))
    (marks_of p ++ placed (length (text format p) + 26) next marks) (marks_of (with_group p g))
    (ap (λ (n : ℕ). text format p ++ group_header n g.quant ++ here) (sym number_is) ∙ sym (text-with_group format p g))
    (ap (λ (v : GroupView). views 32 0 p.groups ++ v ∷ [])
    (same_view next g.number g.quant (length (text format p) + 26) (end + 26) (length here) (length here) (length (marks_of p)) (0 + sent p.groups) (length marks) (length g.macroblocks)
    (sym number_is) (ap (λ (n : ℕ). n + 26) (length-text format p)) refl (length-group_marks 32 p.groups ∙ omega arith) (length-from_placed g.number g.quant marks g.macroblocks same))
    ∙ sym (views-append 32 0 p.groups g))
    (ap₂ (λ (n : ℕ) (k : ℕ). marks_of p ++ placed (k + 26) n marks) (sym number_is) (length-text format p)
    ∙ ap (λ (ms : List Mark). marks_of p ++ ms) (same (end + 26))
    ∙ sym (group_marks-append 32 p.groups g))

-- what stands at a view of a text is what its group sends
pub views-bits : (front : List Bool) (before : ℕ) (gs : List Group) (i : ℕ) (v : GroupView) (h : Group) → i < length gs
    → take (slice_index_or (views (length front) before gs) i v).len (drop (slice_index_or (views (length front) before gs) i v).from (front ++ flat_map group_text gs))
    ≡ macroblocks_text None (slice_index_or gs i h).macroblocks
views-bits front before [] i v h below = absurd (omega arith)
views-bits front before (g ∷ gs) zero v h below =
    ap (take (length (macroblocks_text None g.macroblocks))) (
    drop-append-add front (group_text g ++ flat_map group_text gs) 26
    ∙ ap (drop 26) (append_assoc (group_header g.number g.quant) (macroblocks_text None g.macroblocks) (flat_map group_text gs))
    ∙ drop_at (group_header g.number g.quant) (macroblocks_text None g.macroblocks ++ flat_map group_text gs) 26 (length-group_header g.number g.quant)
    )
    ∙ take-append_seam (macroblocks_text None g.macroblocks) (flat_map group_text gs)
views-bits front before (g ∷ gs) (suc i) v h below =
    ap₂ (λ (at : ℕ) (bits : List Bool). take (slice_index_or (views at (before + length g.macroblocks) gs) i v).len (drop (slice_index_or (views at (before + length g.macroblocks) gs) i v).from bits))
    (sym (length-append front (group_text g))) (sym (append_assoc front (group_text g) (flat_map group_text gs)))
    ∙ views-bits (front ++ group_text g) (before + length g.macroblocks) gs i v h (omega arith)
