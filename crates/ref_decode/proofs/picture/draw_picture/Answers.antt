use Rattle.std.proofs.Common.{ℕ, ◌<◌, Bool, List, sym, ◌∙◌, ap, arith, length, nat_lt, if◌then◌else◌}
use Rattle.std.specs.List.{flat_map}
use Rattle.std.proofs.lemmas.Result.{err_from_is_err_and}
use Rattle.pel_model.specs.Text.{group_text}
use Rattle.pel_model.specs.Valid.{group_count}
use Rattle.pel_model.specs.Walk.{skipped}
use Rattle.ref_decode.proofs.Picturing.{nothing_so_far, behind_picture_header, next_group, next_view, behind_header, group_further}
use Rattle.ref_decode.proofs.picture.draw_picture.Goals as goal

pub loop-i-init : goal.loop-i-init
loop-i-init c = record {
  long = c.requires.planes.next;
  so_far = λ p valid is.
      nothing_so_far c.args.format p c.take.new.self c.args.shown.now c.args.next.now
      (ap (λ (r : List Bool × ℕ). r.0) (c.take.ensures.after ∙ ap (λ (r : List Bool × ℕ). if nat_lt (length r.0) 32 then r else skipped 32 r) (c.new-r.ensures ∙ ap (λ (b : List Bool). (b, 0)) c.bits.ensures.bits)) ∙ behind_picture_header c.args.format p c.args.picture.now is);
}

pub returns-in_err-draw_group-clause-drawn : goal.returns-in_err-draw_group-clause-drawn
returns-in_err-draw_group-clause-drawn c =
    let q = err_from_is_err_and c.from_residual.result c.from_residual.ensures.1 in
    rw q.1 (λ p valid is.
    let s = c.loop-i.invariant.so_far p valid is in
    let few : c.loop-i.i < group_count c.args.format = omega (arith, c.group_count-i-end.ensures) in
    let g = next_group c.args.format p c.loop-i.i c.loop-i.r c.args.shown.now c.args.next.now c.loop-i.next valid s few in
    let view = next_view c.args.format p c.loop-i.i c.loop-i.r c.args.shown.now c.args.next.now c.loop-i.next valid s few c.group.result c.args.picture.now is c.group.ensures in
    c.in_err-draw_group.ensures.drawn g.g (flat_map group_text g.gs) g.valid (sym (c.group_number.ensures.number ∙ g.number_is)) view.quant_is view.marks_is
    (ap (λ (r : List Bool × ℕ). r.0) c.take-in-loop-i.ensures.after ∙ behind_header c.args.format p c.loop-i.i c.loop-i.r c.args.shown.now c.args.next.now c.loop-i.next valid s few))

pub loop-i-preserved : goal.loop-i-preserved
loop-i-preserved c = record {
  long = c.draw_group.ensures.long;
  so_far = λ p valid is.
      let s = c.loop-i.invariant.so_far p valid is in
      let few : c.loop-i.i < group_count c.args.format = omega (arith, c.group_count-i-end.ensures) in
      let g = next_group c.args.format p c.loop-i.i c.loop-i.r c.args.shown.now c.args.next.now c.loop-i.next valid s few in
      let view = next_view c.args.format p c.loop-i.i c.loop-i.r c.args.shown.now c.args.next.now c.loop-i.next valid s few c.group.result c.args.picture.now is c.group.ensures in
      let ok = c.in_ok-draw_group.ensures.drawn g.g (flat_map group_text g.gs) g.valid (sym (c.group_number.ensures.number ∙ g.number_is)) view.quant_is view.marks_is
      (ap (λ (r : List Bool × ℕ). r.0) c.take-in-loop-i.ensures.after ∙ behind_header c.args.format p c.loop-i.i c.loop-i.r c.args.shown.now c.args.next.now c.loop-i.next valid s few) in
      group_further c.args.format p c.loop-i.i c.loop-i.r c.args.shown.now c.args.next.now c.loop-i.next valid s few c.draw_group.new.r c.draw_group.new.next ok.0 ok.1;
}
