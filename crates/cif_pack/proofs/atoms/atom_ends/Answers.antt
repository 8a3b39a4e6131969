use Rattle.std.proofs.Common.{◌≡◌, ℕ, ◌+◌, ◌<◌, ◌++◌, ◌∷◌, [], List, length, take, sym, ◌∙◌, ap, subst, arith, length-append, Some}
use Rattle.std.specs.List.{slice_get}
use Rattle.pel_model.specs.declared.Mark.{Mark}
use Rattle.pel_model.specs.Valid.{group_count}
use Rattle.std.proofs.lemmas.List.{take_more, take_all}
use Rattle.std.proofs.lemmas.Option.{get_or_from_slice_get}
use Rattle.cif_pack.specs.declared.atoms.AtomEnd.{AtomEnd}
use Rattle.h261_pic.specs.Coded.{Coding, IsWhole}
use Rattle.h261_pic.specs.declared.coded.GroupView.{GroupView}
use Rattle.pel_model.specs.declared.Format.TheVariants.{Cif}
use Rattle.cif_pack.specs.Marked.{view_ends, views_ends}
use Rattle.cif_pack.proofs.MarkEnds.{IsFine, fine-of, no_view, few-count, few-view-ends, views-ends-more, ends_of_picture}
use Rattle.cif_pack.proofs.atoms.atom_ends.Goals as goal

fine : (coded : Coding) (i : ℕ) (v : GroupView) → coded.format ≡ Cif → IsWhole coded → i < 12 → slice_get coded.groups i ≡ Some v → IsFine (length coded.marks) v
fine coded i v cif whole less is =
    subst (IsFine (length coded.marks)) (get_or_from_slice_get coded.groups i v no_view is) (fine-of coded i cif whole less)

pub add_group-requires-clause-inside : goal.add_group-requires-clause-inside
add_group-requires-clause-inside c =
    let h = fine c.args.picture.now c.loop-i.i c.group.result c.requires.0 (c.bits-bits.ensures.whole c.requires.1) c.loop-i-test.true c.group.ensures in
    omega (arith, h.0, ap length c.marks-marks.ensures)

pub add_group-requires-clause-room : goal.add_group-requires-clause-room
add_group-requires-clause-room c =
    let h = fine c.args.picture.now c.loop-i.i c.group.result c.requires.0 (c.bits-bits.ensures.whole c.requires.1) c.loop-i-test.true c.group.ensures in
    omega (arith, few-count c.group.result h.1, c.loop-i.invariant.1, c.loop-i-test.true)

pub loop-i-preserved : goal.loop-i-preserved
loop-i-preserved c =
    let coded = c.args.picture.now in
    let i = c.loop-i.i in
    let v = c.group.result in
    let h = fine coded i v c.requires.0 (c.bits-bits.ensures.whole c.requires.1) c.loop-i-test.true c.group.ensures in
    let added : c.add_group.new.ends.items ≡ c.loop-i.ends.items ++ view_ends coded.marks v =
    c.add_group.ensures ∙ ap (λ (t : List Mark). c.loop-i.ends.items ++ view_ends t v) c.marks-marks.ensures in
    let inside : i < length coded.groups = omega (arith, c.loop-i-test.true, c.requires.1.1, ap group_count c.requires.0) in
    let more : take (i + 1) coded.groups ≡ take i coded.groups ++ v ∷ [] =
    take_more coded.groups i no_view inside
    ∙ ap (λ (w : GroupView). take i coded.groups ++ w ∷ []) (get_or_from_slice_get coded.groups i v no_view c.group.ensures) in (
      added ∙ ap (λ (t : List AtomEnd). t ++ view_ends coded.marks v) c.loop-i.invariant.0
          ∙ sym (ap (views_ends coded.marks) more ∙ views-ends-more coded.marks (take i coded.groups) v),
      omega (arith, ap length added, length-append c.loop-i.ends.items (view_ends coded.marks v), few-view-ends coded.marks v h.1, c.loop-i.invariant.1),
    )

pub returns-clause-ends : goal.returns-clause-ends
returns-clause-ends c p is =
    let coded = c.args.picture.now in
    let count : length coded.groups ≡ 12 = omega (arith, c.requires.1.1, ap group_count c.requires.0) in
    c.loop-i.invariant.0
    ∙ ap (views_ends coded.marks) (take_all c.loop-i.i coded.groups (omega (arith, count, c.loop-i-test.false)))
    ∙ ap (λ (k : Coding). views_ends k.marks k.groups) is
    ∙ ends_of_picture Cif p

pub returns-clause-few : goal.returns-clause-few
returns-clause-few c = omega (arith, c.loop-i.invariant.1, c.loop-i.auto.i-end)
