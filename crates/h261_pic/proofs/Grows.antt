-- A coded picture that has one more group holds a valid picture with one more group.
use Rattle.std.proofs.Common.{◌≡◌, ℕ, ◌+◌, ◌-◌, ◌*◌, ◌<◌, ◌≤◌, Bool, List, [], ◌∷◌, ◌++◌, length, refl, sym, ◌∙◌, ap, ap₂, subst, None, slice_index, take, drop, flat_map, zero, suc, ◌%◌, arith, slice_index_or}
use Rattle.std.proofs.Math.Logic.{∥∥₁_elim, ∥∥₁_map, ∥∥₁_prop}
use Rattle.std.proofs.Math.Bridge.{le_prop}
use Rattle.std.proofs.Props.{props}
use Rattle.h261_pic.specs.declared.coded.GroupView.{GroupView}
use Rattle.h261_pic.specs.Coded.{Coding, coding, placed, marks_in, grown, next_number, HasPicture, Belongs, view_of, macroblock_bits, IsFinished, views, group_in}
use Rattle.h261_pic.proofs.Texts.{same_coding, same_view, coding-with_group, length-views, length-picture_header, views-bits}
use Rattle.picture_laws.proofs.LongestMacroblocks.{few_addresses}
use Rattle.h261_pic.proofs.PlacedMarks.{LieWithin, length-from_placed, placed-macroblock_marks}
use Rattle.h261_pic.proofs.GroupMarks.{StandsIn, views-marks, views-marks-inside, views-stand, bits_at-standing, marks-standing, length-group_marks}
use Rattle.h261_pic.proofs.ValidPictures.{valid-with_group, group_that_belongs, number-at}
use Rattle.pel_model.specs.declared.Format.{Format}
use Rattle.pel_model.specs.declared.Format.TheVariants.{Qcif, Cif}
use Rattle.pel_model.specs.declared.Mark.{Mark}
use Rattle.pel_model.specs.Marks.{macroblock_marks}
use Rattle.pel_model.specs.Records.{Group, Picture, with_group}
use Rattle.pel_model.specs.Text.{text, group_header, macroblocks_text, group_text, picture_header}
use Rattle.pel_model.specs.Regions.{renumbered, empty_group}
use Rattle.pel_model.specs.Valid.{group_numbers, group_count, IsValidMacroblock, IsValidGroup, IsValidSoFar, limit}
use Rattle.std.proofs.lemmas.List.Elements.{All-nil}
use Rattle.h261_pic.specs.Adding.{bits_at, IsGroupText}

-- a quantiser of a valid group fits its field
pub quant-fits : (format : Format) (number quant : ℕ) (bits : List Bool) (marks : List Mark) → IsGroupText format number quant bits marks → quant < 32
quant-fits format number quant bits marks text = ∥∥₁_elim text le_prop (λ t. omega (arith, t.3.quant))

-- it has at most 33 macroblocks
pub marks-fit : (format : Format) (number quant : ℕ) (bits : List Bool) (marks : List Mark) → IsGroupText format number quant bits marks → length marks ≤ 33
marks-fit format number quant bits marks text =
    ∥∥₁_elim text le_prop (λ t. omega (arith, length-from_placed number quant marks t.0 t.2, few_addresses 0 t.0 (omega arith) t.3.addresses))

grown-coding : (format : Format) (p : Picture) (quant : ℕ) (bits : List Bool) (marks : List Mark) → IsValidSoFar format p
    → length (coding format p).groups < group_count format → IsGroupText format (next_number (coding format p)) quant bits marks
    → HasPicture (grown (coding format p) quant bits marks)
grown-coding format p quant bits marks valid next text =
    ∥∥₁_map text (λ t.
    let g : Group = record { number = next_number (coding format p); quant = quant; macroblocks = t.0 } in
    let count : length (views 32 0 p.groups) ≡ length p.groups = length-views 32 0 p.groups in (
      with_group p g,
      ap (λ (bs : List Bool). grown (coding format p) quant bs marks) t.1 ∙ coding-with_group format p g marks refl t.2,
      valid-with_group format p g valid t.3 (omega arith) (ap (slice_index (group_numbers format)) count),
    ))

pub has-grown : (c : Coding) (quant : ℕ) (bits : List Bool) (marks : List Mark) → HasPicture c → length c.groups < group_count c.format
    → IsGroupText c.format (next_number c) quant bits marks → HasPicture (grown c quant bits marks)
has-grown c quant bits marks has next text =
    ∥∥₁_elim has ∥∥₁_prop (λ h.
    let P : Coding → Type 0 = λ k. length k.groups < group_count k.format → IsGroupText k.format (next_number k) quant bits marks → HasPicture (grown k quant bits marks) in
    subst P (sym h.1) (grown-coding c.format h.0 quant bits marks h.2) next text)

-- what was written of one more group
pub written-grown : (format : Format) (tr : ℕ) (list list' bits : List Bool) (groups groups' : List GroupView) (all all' marks : List Mark) (number quant from len first count : ℕ)
    → list' ≡ list ++ group_header number quant ++ bits
    → groups' ≡ groups ++ record { number = number; quant = quant; from = from; len = len; first_mark = first; marks = count } ∷ []
    → all' ≡ all ++ placed from number marks
    → number ≡ slice_index (group_numbers format) (length groups) → from ≡ length list + 26 → len ≡ length bits → first ≡ length all → count ≡ length marks
    → (let c : Coding = record { format = format; tr = tr; bits = list'; groups = groups'; marks = all' } in
    let old : Coding = record { format = format; tr = tr; bits = list; groups = groups; marks = all } in
    c ≡ grown old quant bits marks)
written-grown format tr list list' bits groups groups' all all' marks number quant from len first count list_is groups_are all_are number_is from_is len_is first_is count_is =
    let next = slice_index (group_numbers format) (length groups) in
    same_coding format tr list' (list ++ group_header next quant ++ bits)
    groups' (groups ++ record { number = next; quant = quant; from = length list + 26; len = length bits; first_mark = length all; marks = length marks } ∷ [])
    all' (all ++ placed (length list + 26) next marks)
    (list_is ∙ ap (λ (n : ℕ). list ++ group_header n quant ++ bits) number_is)
    (groups_are ∙ ap (λ (v : GroupView). groups ++ v ∷ [])
    (same_view number next quant from (length list + 26) len (length bits) first (length all) count (length marks) number_is from_is len_is first_is count_is))
    (all_are ∙ ap₂ (λ (at : ℕ) (n : ℕ). all ++ placed at n marks) from_is number_is)

pub empty_group_text : (format : Format) (number : ℕ) → IsGroupText format number 1 [] []
unfolding macroblocks_text
empty_group_text format number =
    ∣ ([], refl, λ at. refl, record { quant = (omega arith, omega arith); addresses = tt; macroblocks = All-nil (IsValidMacroblock format number) }) ∣₁

-- ---- a group that is copied

abbrev pub no_view : GroupView
no_view = record { number = 0; quant = 0; from = 0; len = 0; first_mark = 0; marks = 0 }

abbrev pub no_group : Group
no_group = empty_group 0

pub view-number : (at before : ℕ) (gs : List Group) (i : ℕ) → i < length gs → (slice_index_or (views at before gs) i no_view).number ≡ (slice_index_or gs i no_group).number
view-number at before [] i below = absurd (omega arith)
view-number at before (g ∷ gs) zero below = refl
view-number at before (g ∷ gs) (suc i) below = view-number (at + length (group_text g)) (before + length g.macroblocks) gs i (omega arith)

pub view-quant : (at before : ℕ) (gs : List Group) (i : ℕ) → i < length gs → (slice_index_or (views at before gs) i no_view).quant ≡ (slice_index_or gs i no_group).quant
view-quant at before [] i below = absurd (omega arith)
view-quant at before (g ∷ gs) zero below = refl
view-quant at before (g ∷ gs) (suc i) below = view-quant (at + length (group_text g)) (before + length g.macroblocks) gs i (omega arith)

pub view-len : (at before : ℕ) (gs : List Group) (i : ℕ) → i < length gs
    → length (macroblocks_text None (slice_index_or gs i no_group).macroblocks) ≡ (slice_index_or (views at before gs) i no_view).len
view-len at before [] i below = absurd (omega arith)
view-len at before (g ∷ gs) zero below = refl
view-len at before (g ∷ gs) (suc i) below = view-len (at + length (group_text g)) (before + length g.macroblocks) gs i (omega arith)

-- what the view of a picture's group holds is what the group sends
pub bits-of-view : (format : Format) (p : Picture) (i : ℕ) → i < length p.groups
    → macroblock_bits (coding format p) i ≡ macroblocks_text None (slice_index_or p.groups i no_group).macroblocks
bits-of-view format p i below =
    ap (λ (at : ℕ). take (slice_index_or (views at 0 p.groups) i no_view).len (drop (slice_index_or (views at 0 p.groups) i no_view).from (picture_header format p.tr ++ flat_map group_text p.groups)))
    (sym (length-picture_header format p.tr))
    ∙ views-bits (picture_header format p.tr) 0 p.groups i no_view no_group below

-- the marks of the macroblocks of a picture's group, and what stands at them
pub marks-of-view : (format : Format) (p : Picture) (i : ℕ) → i < length p.groups
    → marks_in (coding format p) i
    ≡ macroblock_marks (view_of (coding format p) i).from (slice_index_or p.groups i no_group).number (slice_index_or p.groups i no_group).quant None (slice_index_or p.groups i no_group).macroblocks
marks-of-view format p i below = views-marks [] 32 p.groups i no_view no_group below

pub placed-of-view : (format : Format) (p : Picture) (i at number : ℕ) → i < length p.groups
    → placed at number (marks_in (coding format p) i)
    ≡ macroblock_marks at number (slice_index_or p.groups i no_group).quant None (slice_index_or p.groups i no_group).macroblocks
placed-of-view format p i at number below =
    let g : Group = slice_index_or p.groups i no_group in
    ap (placed at number) (marks-of-view format p i below)
    ∙ placed-macroblock_marks (view_of (coding format p) i).from at g.number number g.quant None g.macroblocks

pub view-stands : (format : Format) (p : Picture) (i : ℕ) → i < length p.groups
    → StandsIn (coding format p).bits (view_of (coding format p) i).from (macroblocks_text None (slice_index_or p.groups i no_group).macroblocks)
view-stands format p i below =
    subst (λ (n : ℕ). StandsIn (text format p) (slice_index_or (views n 0 p.groups) i no_view).from (macroblocks_text None (slice_index_or p.groups i no_group).macroblocks))
    (length-picture_header format p.tr)
    (views-stand (picture_header format p.tr) 0 p.groups i no_view no_group below)

-- what is asked and used of the marks of a group that is copied
pub record HoldsMarks (c : Coding) (i : ℕ) : Type 0 where
  pub bits : bits_at c.bits (marks_in c i) ≡ macroblock_bits c i
  pub inside : LieWithin (length c.bits) (marks_in c i)
  pub within : (view_of c i).first_mark + (view_of c i).marks ≤ length c.marks
  pub long : length (macroblock_bits c i) ≡ (view_of c i).len

marks-coding : (format : Format) (p : Picture) (i : ℕ) → i < length (views 32 0 p.groups) → HoldsMarks (coding format p) i
marks-coding format p i there =
    let below : i < length p.groups = omega (arith, length-views 32 0 p.groups) in
    let g : Group = slice_index_or p.groups i no_group in
    let stands = view-stands format p i below in
    let from = (view_of (coding format p) i).from in
    record {
      bits = ap (bits_at (text format p)) (marks-of-view format p i below) ∙ bits_at-standing (text format p) from g.number g.quant g.macroblocks stands
          ∙ sym (bits-of-view format p i below);
      inside = subst (LieWithin (length (text format p))) (sym (marks-of-view format p i below)) (marks-standing (text format p) from g.number g.quant g.macroblocks stands);
      within = omega (arith, views-marks-inside 32 0 p.groups i no_view below, length-group_marks 32 p.groups);
      long = ap length (bits-of-view format p i below) ∙ view-len 32 0 p.groups i below;
    }

odd_place : (i : ℕ) → i < 3 → slice_index (group_numbers Qcif) i % 2 ≡ 1
odd_place zero below = refl
odd_place (suc zero) below = refl
odd_place (suc (suc zero)) below = refl
odd_place (suc (suc (suc i))) below = absurd (omega arith)

odd-number : (format : Format) (p : Picture) (i : ℕ) → IsValidSoFar format p → i < length p.groups → length p.groups ≡ group_count format
    → format ≡ Qcif → (slice_index_or p.groups i no_group).number % 2 ≡ 1
odd-number format p i valid below whole qcif =
    ap (λ (n : ℕ). n % 2) (number-at format p i no_group valid below)
    ∙ ap (λ (f : Format). slice_index (group_numbers f) i % 2) qcif
    ∙ odd_place i (omega (arith, whole ∙ ap group_count qcif))

copied-coding : (format to : Format) (p : Picture) (i number : ℕ) → IsValidSoFar format p → IsFinished (coding format p) → i < length (views 32 0 p.groups)
    → Belongs format (view_of (coding format p) i).number to number
    → IsGroupText to number (view_of (coding format p) i).quant (macroblock_bits (coding format p) i) (marks_in (coding format p) i)
copied-coding format to p i number valid finished there belongs =
    let count : length (views 32 0 p.groups) ≡ length p.groups = length-views 32 0 p.groups in
    let below : i < length p.groups = omega arith in
    let g : Group = slice_index_or p.groups i no_group in
    let stands : Belongs format g.number to number = subst (λ n. Belongs format n to number) (view-number 32 0 p.groups i below) belongs in
    let group : IsValidGroup to (renumbered number g) =
    group_that_belongs format to g number (odd-number format p i valid below (sym count ∙ finished.1)) stands (valid.groups i no_group below) in
    subst (λ q. IsGroupText to number q (macroblock_bits (coding format p) i) (marks_in (coding format p) i)) (sym (view-quant 32 0 p.groups i below))
    ∣ (g.macroblocks, bits-of-view format p i below, λ at. placed-of-view format p i at number below, group) ∣₁

pub copied-text : (from : Coding) (to : Format) (i number : ℕ) → HasPicture from → IsFinished from → i < length from.groups
    → Belongs from.format (view_of from i).number to number → IsGroupText to number (view_of from i).quant (macroblock_bits from i) (marks_in from i)
copied-text from to i number has finished there belongs =
    ∥∥₁_elim has ∥∥₁_prop (λ h.
    let P : Coding → Type 0 = λ c. IsFinished c → i < length c.groups → Belongs c.format (view_of c i).number to number
    → IsGroupText to number (view_of c i).quant (macroblock_bits c i) (marks_in c i) in
    subst P (sym h.1) (copied-coding from.format to h.0 i number h.2) finished there belongs)

-- the marks of a group, and what stands at them
pub group-marks : (c : Coding) (i : ℕ) → HasPicture c → i < length c.groups → HoldsMarks c i
group-marks c i has there =
    ∥∥₁_elim has (hlevel props) (λ h.
    let P : Coding → Type 0 = λ k. i < length k.groups → HoldsMarks k i in
    subst P (sym h.1) (marks-coding c.format h.0 i) there)

-- ---- the picture with one group more

pub empty-added : (old new : Coding) (p : Picture) → old ≡ coding old.format p → new ≡ grown old 1 [] [] → new ≡ coding old.format (with_group p (empty_group (next_number old)))
unfolding macroblocks_text
empty-added old new p old_is new_is =
    new_is ∙ ap (λ (c : Coding). grown c 1 [] []) old_is
    ∙ coding-with_group old.format p (empty_group (next_number old)) [] (ap next_number old_is) (λ at. refl)

pub copied-added : (old from new : Coding) (p q : Picture) (i : ℕ) → i < length from.groups → old ≡ coding old.format p → from ≡ coding from.format q
    → new ≡ grown old (view_of from i).quant (macroblock_bits from i) (marks_in from i) → new ≡ coding old.format (with_group p (renumbered (next_number old) (group_in q i)))
copied-added old from new p q i there old_is from_is new_is =
    let count : length from.groups ≡ length q.groups = ap (λ (c : Coding). length c.groups) from_is ∙ length-views 32 0 q.groups in
    let below : i < length q.groups = omega (arith, there, count) in
    let marks = marks_in (coding from.format q) i in
    new_is
    ∙ ap₂ (λ (c : Coding) (d : Coding). grown c (view_of d i).quant (macroblock_bits d i) (marks_in d i)) old_is from_is
    ∙ ap₂ (λ (k : ℕ) (bs : List Bool). grown (coding old.format p) k bs marks) (view-quant 32 0 q.groups i below) (bits-of-view from.format q i below)
    ∙ coding-with_group old.format p (renumbered (next_number old) (group_in q i)) marks (ap next_number old_is)
    (λ at. placed-of-view from.format q i at (next_number old) below)

-- ---- a picture of no groups

pub started-picture : (format : Format) (tr : ℕ) → tr < 32 → HasPicture (coding format (record { tr = tr; groups = [] }))
started-picture format tr small = ∣ (record { tr = tr; groups = [] }, refl, record { tr = small; numbers = refl; groups = All-nil (IsValidGroup format) }) ∣₁

-- its headers have room
pub started-room : (format : Format) (tr : ℕ) → length (picture_header format tr) + 26 * (group_count format - 0) ≤ limit format
started-room Qcif tr = omega (arith, length-picture_header Qcif tr)
started-room Cif tr = omega (arith, length-picture_header Cif tr)
