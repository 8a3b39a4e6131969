use Rattle.std.proofs.Common.{◌∷◌, List, sym, ◌∙◌, subst, refl, w8, rules, arith}
use Rattle.std.proofs.lemmas.Int.{to_z-of_z}
use Rattle.std.proofs.lemmas.Result.{err_from_is_err_and}
use Rattle.pel_model.specs.Records.{Across, Down}
use Rattle.pel_model.specs.Walk.{Goes}
use Rattle.pel_model.specs.Grammar.{Element, Mvd, next}
use Rattle.h261_mb.specs.State.{IsNear}
use Rattle.h261_mb.proofs.Steps.{goes_first}
use Rattle.h261_mb.proofs.Taken.{vector_due, is-vector, no-vector, components-taken}
use Rattle.h261_mb.proofs.Vectors.{corner_at}
use Rattle.h261_mb.proofs.vector.read_vector.Goals as goal

pub returns-then-not-has_vector : goal.returns-then-not-has_vector
returns-then-not-has_vector c = record {
  walk = λ before begun.
      let front = c.args.front.now in
      no-vector c.args.format before c.args.group front _ c.args.r.now (sym c.has_vector.ensures ∙ c.if-not-has_vector.true) (sym (to_z-of_z w8 front.h (search rules))) (sym (to_z-of_z w8 front.v (search rules))) begun;
  near = (subst IsNear (sym (to_z-of_z w8 c.args.front.now.h (search rules))) c.requires.1.across, subst IsNear (sym (to_z-of_z w8 c.args.front.now.v (search rules))) c.requires.1.down);
  onward = omega arith;
}

pub returns-in_err-h : goal.returns-in_err-h
returns-in_err-h c =
    let p = err_from_is_err_and c.from_residual.result c.from_residual.ensures.1 in
    rw (p.1, p.2) (record {
      near = tt;
      onward = tt;
      walk = λ before begun.
          let front = c.args.front.now in
          let moves = sym c.has_vector.ensures ∙ c.if-not-has_vector.false in
          let left = corner_at Across before c.args.group front.address c.left_edge.result begun.say.number_is begun.say.address_is c.left_edge.ensures.value in
          c.in_err-h.ensures.walk c.args.format before Across (record { due = vector_due c.args.format before front.kind moves begun.due; vector_is = begun.say.across_is ∙ sym (to_z-of_z w8 front.h (search rules)); side_is = sym c.width.ensures; corner_is = left });
    })

pub returns-in_err-v : goal.returns-in_err-v
returns-in_err-v c =
    let p = err_from_is_err_and c.from_residual-in_err-v.result c.from_residual-in_err-v.ensures.1 in
    rw (p.1, p.2) (record {
      near = tt;
      onward = tt;
      walk = λ before begun.
          let front = c.args.front.now in
          let next = next c.args.format in
          let moves = sym c.has_vector.ensures ∙ c.if-not-has_vector.false in
          let left = corner_at Across before c.args.group front.address c.left_edge.result begun.say.number_is begun.say.address_is c.left_edge.ensures.value in
          let top = corner_at Down before c.args.group front.address c.top_edge.result begun.say.number_is begun.say.address_is c.top_edge.ensures.value in
          let first = c.in_ok-h.ensures.walk c.args.format before Across (record { due = vector_due c.args.format before front.kind moves begun.due; vector_is = begun.say.across_is ∙ sym (to_z-of_z w8 front.h (search rules)); side_is = sym c.width.ensures; corner_is = left }) in
          let across = Mvd Across first.wanted.values in
          let took = subst (λ (es : List Element). Goes next before c.args.r.now es c.take_mvd.new.r) first.wanted.elements first.walk in
          let later = c.in_err-v.ensures.walk c.args.format (across ∷ before) Down (record { due = refl; vector_is = begun.say.down_is ∙ sym (to_z-of_z w8 front.v (search rules)); side_is = sym c.height.ensures; corner_is = top }) in
          record { elements = across ∷ later.elements; walk = goes_first next before c.args.r.now c.take_mvd.new.r c.take_mvd-2.new.r across took.0 later.elements took.1 took.2 later.walk; part = later.part; bad = later.bad; place = later.place };
    })

pub returns : goal.returns
returns c = record {
  walk = λ before begun.
      let front = c.args.front.now in
      let moves = sym c.has_vector.ensures ∙ c.if-not-has_vector.false in
      let left = corner_at Across before c.args.group front.address c.left_edge.result begun.say.number_is begun.say.address_is c.left_edge.ensures.value in
      let top = corner_at Down before c.args.group front.address c.top_edge.result begun.say.number_is begun.say.address_is c.top_edge.ensures.value in
      let h_is = to_z-of_z w8 front.h (search rules) in
      let v_is = to_z-of_z w8 front.v (search rules) in
      let first = c.in_ok-h.ensures.walk c.args.format before Across (record { due = vector_due c.args.format before front.kind moves begun.due; vector_is = begun.say.across_is ∙ sym h_is; side_is = sym c.width.ensures; corner_is = left }) in
      let later = c.in_ok-v.ensures.walk c.args.format (Mvd Across first.wanted.values ∷ before) Down (record { due = refl; vector_is = begun.say.down_is ∙ sym v_is; side_is = sym c.height.ensures; corner_is = top }) in
      let both = components-taken c.args.format before front _ _ c.in_ok-h.h c.in_ok-v.v _ c.args.r.now c.take_mvd.new.r c.take_mvd-2.new.r h_is v_is (sym (to_z-of_z w8 c.in_ok-h.h (search rules))) (sym (to_z-of_z w8 c.in_ok-v.v (search rules))) first later in
      record { elements = both.elements; walk = both.walk; wanted = is-vector c.args.format before c.args.group front _ both.elements c.take_mvd-2.new.r moves begun both.wanted };
  near = (subst IsNear (sym (to_z-of_z w8 c.in_ok-h.h (search rules))) c.in_ok-h.ensures.near, subst IsNear (sym (to_z-of_z w8 c.in_ok-v.v (search rules))) c.in_ok-v.ensures.near);
  onward = omega (arith, c.in_ok-h.ensures.onward, c.in_ok-v.ensures.onward);
}
