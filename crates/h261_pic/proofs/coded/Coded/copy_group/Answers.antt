use Rattle.std.proofs.Common.{◌≡◌, ℕ, ◌+◌, ◌-◌, ◌<◌, ◌≤◌, Bool, List, length, take, drop, slice_index_or, sym, ◌∙◌, ap, ap₂, subst, arith}
use Rattle.h261_pic.specs.declared.coded.GroupView.{GroupView}
use Rattle.h261_pic.specs.Coded.{Coding, HasPicture, grown, view_of, macroblock_bits, marks_in, next_number}
use Rattle.h261_pic.proofs.Grows.{HoldsMarks, group-marks, copied-text, copied-added}
use Rattle.h261_pic.proofs.GrownFields.{few_groups, few_bits}
use Rattle.h261_pic.proofs.PlacedMarks.{LieWithin}
use Rattle.pel_model.specs.declared.Mark.{Mark}
use Rattle.h261_pic.proofs.coded.Coded.copy_group.Goals as goal
use Rattle.h261_pic.proofs.coded.Coded.copy_group.Goals.{After-from-2}
use Rattle.h261_pic.specs.Adding.{IsGroupText, bits_at}

abbrev no_view : GroupView
no_view = record { number = 0; quant = 0; from = 0; len = 0; first_mark = 0; marks = 0 }

-- the parts of the other picture
record Parts (c : After-from-2) : Type 0 where
  has : HasPicture c.args.from.now
  views : c.deref.result.now ≡ c.args.from.now.groups
  marks : c.deref-2.result.now ≡ c.args.from.now.marks
  first : c.from-first.result ≡ (view_of c.args.from.now c.args.i).first_mark
  count : c.from-2.result ≡ (view_of c.args.from.now c.args.i).marks
  few : length c.args.from.now.marks ≤ 396

parts : (c : After-from-2) → Parts c
parts c =
    let views_are : c.deref.result.now ≡ c.args.from.now.groups = c.deref.ensures.0 ∙ ap (λ (k : Coding). k.groups) c.from.view_is in
    let few : length c.from.inside.marks.items ≤ 396 = omega (arith, few_groups c.from.inside.format, c.from.invariant.marks, c.from.invariant.groups) in
    record {
      has = subst (λ (k : Coding). 0 < length k.bits → HasPicture k) c.from.view_is c.from.invariant.picture c.requires.copied.finished.0;
      views = views_are;
      marks = c.deref-2.ensures.0 ∙ ap (λ (k : Coding). k.marks) c.from.view_is;
      first = c.from-first.ensures ∙ ap (λ (vs : List GroupView). (slice_index_or vs c.args.i no_view).first_mark) views_are;
      count = c.from-2.ensures ∙ ap (λ (vs : List GroupView). (slice_index_or vs c.args.i no_view).marks) views_are;
      few = subst (λ (k : Coding). length k.marks ≤ 396) c.from.view_is few;
    }

part-is : (all all' : List Mark) (first first' count count' : ℕ) → all ≡ all' → first ≡ first' → count ≡ count'
    → take (first + count - first) (drop first all) ≡ take count' (drop first' all')
part-is all all' first first' count count' all_are first_is count_is =
    let len : first + count - first ≡ count' = omega arith in
    ap₂ (λ (n : ℕ) (ms : List Mark). take n ms) len (ap₂ (λ (n : ℕ) (ms : List Mark). drop n ms) first_is all_are)

slice-is : (c : After-from-2) → take (c.from-first.result + c.from-2.result - c.from-first.result) (drop c.from-first.result c.deref-2.result.now) ≡ marks_in c.args.from.now c.args.i
slice-is c =
    let p = parts c in
    let view = view_of c.args.from.now c.args.i in
    part-is c.deref-2.result.now c.args.from.now.marks c.from-first.result view.first_mark c.from-2.result view.marks p.marks p.first p.count

holds : (c : After-from-2) → HoldsMarks c.args.from.now c.args.i
holds c = group-marks c.args.from.now c.args.i (parts c).has c.requires.copied.there

pub overflow_add-marks : goal.overflow_add-marks
overflow_add-marks c = let p = parts c in omega (arith, p.first, p.count, p.few, (holds c).within)

pub offset_bounds-deref-first : goal.offset_bounds-deref-first
offset_bounds-deref-first c = let p = parts c in omega (arith, p.first, p.count, p.few, (holds c).within)

pub slice_bounds-marks-end : goal.slice_bounds-marks-end
slice_bounds-marks-end c = let p = parts c in omega (arith, p.first, p.count, ap length p.marks, (holds c).within)

pub add_group-requires-clause-inside : goal.add_group-requires-clause-inside
add_group-requires-clause-inside c =
    let b = (goal.at.add_group-requires-clause-inside c).After-from-2 in
    let bits_are : c.bits.result ≡ c.args.from.now.bits = c.bits.ensures ∙ ap (λ (k : Coding). k.bits) c.from.view_is in
    subst (LieWithin (length c.bits.result)) (sym (slice-is b))
    (subst (λ (bs : List Bool). LieWithin (length bs) (marks_in c.args.from.now c.args.i)) (sym bits_are) (holds b).inside)

-- the bits at the marks
found : (bits : List Bool) (c : Coding) (i : ℕ) (ms : List Mark) → bits ≡ c.bits → ms ≡ marks_in c i → HoldsMarks c i → bits_at bits ms ≡ macroblock_bits c i
found bits c i ms bits_are marks_are holds = ap₂ bits_at bits_are marks_are ∙ holds.bits

pub add_group-requires-clause-small : goal.add_group-requires-clause-small
add_group-requires-clause-small c =
    omega (arith, ap length c.bits.ensures, c.from.invariant.within, few_bits c.from.inside.format)

pub add_group-requires-clause-room : goal.add_group-requires-clause-room
add_group-requires-clause-room c =
    let b = (goal.at.add_group-requires-clause-room c).After-from-2 in
    let bits_are : c.bits.result ≡ c.args.from.now.bits = c.bits.ensures ∙ ap (λ (k : Coding). k.bits) c.from.view_is in
    let same = found c.bits.result c.args.from.now c.args.i _ bits_are (slice-is b) (holds b) in
    omega (arith, ap length same, (holds b).long, c.requires.copied.room)

same_group_text : (c : Coding) (number quant quant' : ℕ) (bits bits' : List Bool) (marks marks' : List Mark) → quant ≡ quant' → bits ≡ bits' → marks ≡ marks'
    → IsGroupText c.format number quant' bits' marks' → IsGroupText c.format number quant bits marks
same_group_text c number quant quant' bits bits' marks marks' quant_is bits_are marks_are text =
    subst (λ (q : ℕ). IsGroupText c.format number q bits marks) (sym quant_is)
    (subst (λ (bs : List Bool). IsGroupText c.format number quant' bs marks) (sym bits_are)
    (subst (IsGroupText c.format number quant' bits') (sym marks_are) text))

pub add_group-requires-clause-text : goal.add_group-requires-clause-text
add_group-requires-clause-text c =
    let b = (goal.at.add_group-requires-clause-text c).After-from-2 in
    let bits_are : c.bits.result ≡ c.args.from.now.bits = c.bits.ensures ∙ ap (λ (k : Coding). k.bits) c.from.view_is in
    let number = next_number c.args.self.now in
    let ms = take (c.from-first.result + c.from-2.result - c.from-first.result) (drop c.from-first.result c.deref-2.result.now) in
    same_group_text c.args.self.now number (slice_index_or c.deref.result.now c.args.i no_view).quant (view_of c.args.from.now c.args.i).quant
    (bits_at c.bits.result ms) (macroblock_bits c.args.from.now c.args.i) ms (marks_in c.args.from.now c.args.i)
    (ap (λ (vs : List GroupView). (slice_index_or vs c.args.i no_view).quant) (parts b).views)
    (found c.bits.result c.args.from.now c.args.i ms bits_are (slice-is b) (holds b)) (slice-is b)
    (copied-text c.args.from.now c.args.self.now.format c.args.i number (parts b).has c.requires.copied.finished c.requires.copied.there c.requires.copied.belongs)

same_grown : (c : Coding) (quant quant' : ℕ) (bits bits' : List Bool) (marks marks' : List Mark) → quant ≡ quant' → bits ≡ bits' → marks ≡ marks'
    → grown c quant bits marks ≡ grown c quant' bits' marks'
same_grown c quant quant' bits bits' marks marks' quant_is bits_are marks_are =
    ap (λ (q : ℕ). grown c q bits marks) quant_is ∙ ap₂ (grown c quant') bits_are marks_are

pub returns-clause-grown : goal.returns-clause-grown
returns-clause-grown c =
    let b = (goal.at.returns-clause-grown c).After-from-2 in
    let bits_are : c.bits.result ≡ c.args.from.now.bits = c.bits.ensures ∙ ap (λ (k : Coding). k.bits) c.from.view_is in
    c.add_group.ensures
    ∙ same_grown c.args.self.now _ _ _ _ _ _ (ap (λ (vs : List GroupView). (slice_index_or vs c.args.i no_view).quant) (parts b).views)
    (found c.bits.result c.args.from.now c.args.i _ bits_are (slice-is b) (holds b)) (slice-is b)

pub returns-clause-picture : goal.returns-clause-picture
returns-clause-picture c =
    λ p q old_is from_is. copied-added c.args.self.now c.args.from.now _ p q c.args.i c.requires.copied.there old_is from_is (returns-clause-grown c)
