-- The marks of the groups of a picture, and what stands at them in its text.
use Rattle.std.proofs.Common.{◌≡◌, ℕ, zero, suc, ◌+◌, ◌<◌, ◌≤◌, Bool, List, [], ◌∷◌, ◌++◌, length, take, drop, flat_map, sum_by, slice_index_or, None, refl, sym, ◌∙◌, ap, ap₂, subst, arith, append_assoc, append-nil, length-append}
use Rattle.std.proofs.lemmas.List.{take_at}
use Rattle.std.proofs.lemmas.List.Sums.{sum_by-cons}
use Rattle.std.proofs.Math.Seq.{drop-append_seam}
use Rattle.h261_pic.specs.Coded.{views}
use Rattle.h261_pic.proofs.PlacedMarks.{length-macroblock_marks, bits_at-macroblock_marks, macroblock_marks-inside, LieWithin}
use Rattle.pel_model.specs.Headers.{group_header_text}
use Rattle.pel_model.specs.Bits.{field}
use Rattle.pel_model.specs.declared.Mark.{Mark}
use Rattle.h261_pic.specs.declared.coded.GroupView.{GroupView}
use Rattle.pel_model.specs.Marks.{macroblock_marks, group_marks}
use Rattle.pel_model.specs.Records.{Macroblock, Group}
use Rattle.pel_model.specs.Text.{group_header, group_text, macroblocks_text}
use Rattle.h261_pic.specs.Adding.{bits_at}

pub length-group_header : (number quant : ℕ) → length (group_header number quant) ≡ 26
unfolding group_header_text field
length-group_header number quant = refl

-- how many macroblocks these groups send
abbrev pub sent : List Group → ℕ
sent gs = sum_by (λ (g : Group). length g.macroblocks) gs

pub sent-cons : (g : Group) (gs : List Group) → sent (g ∷ gs) ≡ length g.macroblocks + sent gs
sent-cons g gs = sum_by-cons (λ (h : Group). length h.macroblocks) g gs

pub length-group_marks : (at : ℕ) (gs : List Group) → length (group_marks at gs) ≡ sent gs
length-group_marks at [] = refl
length-group_marks at (g ∷ gs) =
    length-append (macroblock_marks (at + 26) g.number g.quant None g.macroblocks) (group_marks (at + length (group_text g)) gs)
    ∙ ap₂ (λ (n : ℕ) (k : ℕ). n + k) (length-macroblock_marks (at + 26) g.number g.quant None g.macroblocks)
    (length-group_marks (at + length (group_text g)) gs)
    ∙ sym (sent-cons g gs)

-- a group behind the others
pub group_marks-append : (at : ℕ) (gs : List Group) (g : Group)
    → group_marks at (gs ++ g ∷ [])
    ≡ group_marks at gs ++ macroblock_marks (at + length (flat_map group_text gs) + 26) g.number g.quant None g.macroblocks
group_marks-append at [] g =
    append-nil (macroblock_marks (at + 26) g.number g.quant None g.macroblocks)
    ∙ ap (λ (n : ℕ). macroblock_marks n g.number g.quant None g.macroblocks) (omega arith)
group_marks-append at (h ∷ gs) g =
    let here = macroblock_marks (at + 26) h.number h.quant None h.macroblocks in
    ap (λ (ms : List Mark). here ++ ms)
    (group_marks-append (at + length (group_text h)) gs g
    ∙ ap (λ (n : ℕ). group_marks (at + length (group_text h)) gs ++ macroblock_marks (n + 26) g.number g.quant None g.macroblocks)
    (omega (arith, length-append (group_text h) (flat_map group_text gs))))
    ∙ sym (append_assoc here (group_marks (at + length (group_text h)) gs)
    (macroblock_marks (at + length (flat_map group_text (h ∷ gs)) + 26) g.number g.quant None g.macroblocks))

-- the marks at a view are those of its group's macroblocks
pub views-marks : (front : List Mark) (at : ℕ) (gs : List Group) (i : ℕ) (v : GroupView) (h : Group) → i < length gs
    → take (slice_index_or (views at (length front) gs) i v).marks (drop (slice_index_or (views at (length front) gs) i v).first_mark (front ++ group_marks at gs))
    ≡ macroblock_marks (slice_index_or (views at (length front) gs) i v).from (slice_index_or gs i h).number (slice_index_or gs i h).quant None (slice_index_or gs i h).macroblocks
views-marks front at [] i v h below = absurd (omega arith)
views-marks front at (g ∷ gs) zero v h below =
    let here = macroblock_marks (at + 26) g.number g.quant None g.macroblocks in
    ap (take (length g.macroblocks)) (drop-append_seam front (here ++ group_marks (at + length (group_text g)) gs))
    ∙ take_at here (group_marks (at + length (group_text g)) gs) (length g.macroblocks) (length-macroblock_marks (at + 26) g.number g.quant None g.macroblocks)
views-marks front at (g ∷ gs) (suc i) v h below =
    let here = macroblock_marks (at + 26) g.number g.quant None g.macroblocks in
    let rest = group_marks (at + length (group_text g)) gs in
    let long : length front + length g.macroblocks ≡ length (front ++ here) =
    sym (length-append front here ∙ ap (λ n. length front + n) (length-macroblock_marks (at + 26) g.number g.quant None g.macroblocks)) in
    let P : ℕ → List Mark → Type 0 = λ n ms.
    take (slice_index_or (views (at + length (group_text g)) n gs) i v).marks (drop (slice_index_or (views (at + length (group_text g)) n gs) i v).first_mark ms)
    ≡ macroblock_marks (slice_index_or (views (at + length (group_text g)) n gs) i v).from (slice_index_or gs i h).number (slice_index_or gs i h).quant None (slice_index_or gs i h).macroblocks in
    subst (λ (n : ℕ). P n (front ++ (here ++ rest))) (sym long)
    (subst (P (length (front ++ here))) (append_assoc front here rest)
    (views-marks (front ++ here) (at + length (group_text g)) gs i v h (omega arith)))

-- and they lie within the marks of the picture
pub views-marks-inside : (at before : ℕ) (gs : List Group) (i : ℕ) (v : GroupView) → i < length gs
    → (slice_index_or (views at before gs) i v).first_mark + (slice_index_or (views at before gs) i v).marks ≤ before + sent gs
views-marks-inside at before [] i v below = absurd (omega arith)
views-marks-inside at before (g ∷ gs) zero v below = omega (arith, sent-cons g gs)
views-marks-inside at before (g ∷ gs) (suc i) v below =
    omega (arith, sent-cons g gs, views-marks-inside (at + length (group_text g)) (before + length g.macroblocks) gs i v (omega arith))

-- ---- a run of bits within others

-- `run` stands in `bits` from `from` on
pub record StandsIn (bits : List Bool) (from : ℕ) (run : List Bool) : Type 0 where
  pub front : List Bool
  pub rest : List Bool
  pub bits_are : bits ≡ front ++ run ++ rest
  pub from_is : length front ≡ from

-- what a group sends stands at its view
pub views-stand : (front : List Bool) (before : ℕ) (gs : List Group) (i : ℕ) (v : GroupView) (h : Group) → i < length gs
    → StandsIn (front ++ flat_map group_text gs) (slice_index_or (views (length front) before gs) i v).from (macroblocks_text None (slice_index_or gs i h).macroblocks)
views-stand front before [] i v h below = absurd (omega arith)
views-stand front before (g ∷ gs) zero v h below = record {
  front = front ++ group_header g.number g.quant;
  rest = flat_map group_text gs;
  bits_are =
      ap (λ (bs : List Bool). front ++ bs) (append_assoc (group_header g.number g.quant) (macroblocks_text None g.macroblocks) (flat_map group_text gs))
      ∙ sym (append_assoc front (group_header g.number g.quant) (macroblocks_text None g.macroblocks ++ flat_map group_text gs))
      ∙ sym (append_assoc (front ++ group_header g.number g.quant) (macroblocks_text None g.macroblocks) (flat_map group_text gs));
  from_is = length-append front (group_header g.number g.quant) ∙ ap (λ n. length front + n) (length-group_header g.number g.quant);
}
views-stand front before (g ∷ gs) (suc i) v h below =
    let run = macroblocks_text None (slice_index_or gs i h).macroblocks in
    let P : ℕ → List Bool → Type 0 = λ n bs. StandsIn bs (slice_index_or (views n (before + length g.macroblocks) gs) i v).from run in
    subst (λ (n : ℕ). P n (front ++ (group_text g ++ flat_map group_text gs))) (length-append front (group_text g))
    (subst (P (length (front ++ group_text g))) (append_assoc front (group_text g) (flat_map group_text gs))
    (views-stand (front ++ group_text g) (before + length g.macroblocks) gs i v h (omega arith)))

-- the bits at the marks of macroblocks that stand there
pub bits_at-standing : (bits : List Bool) (from number quant : ℕ) (ms : List Macroblock) → StandsIn bits from (macroblocks_text None ms)
    → bits_at bits (macroblock_marks from number quant None ms) ≡ macroblocks_text None ms
bits_at-standing bits from number quant ms stands =
    ap₂ (λ (bs : List Bool) (n : ℕ). bits_at bs (macroblock_marks n number quant None ms)) stands.bits_are (sym stands.from_is)
    ∙ bits_at-macroblock_marks stands.front stands.rest number quant None ms

pub marks-standing : (bits : List Bool) (from number quant : ℕ) (ms : List Macroblock) → StandsIn bits from (macroblocks_text None ms)
    → LieWithin (length bits) (macroblock_marks from number quant None ms)
marks-standing bits from number quant ms stands =
    let run = macroblocks_text None ms in
    let long : length bits ≡ length stands.front + length run + length stands.rest =
    ap length stands.bits_are ∙ length-append (stands.front ++ run) stands.rest ∙ ap (λ n. n + length stands.rest) (length-append stands.front run) in
    macroblock_marks-inside from number quant (length bits) None ms (omega (arith, stands.from_is))
