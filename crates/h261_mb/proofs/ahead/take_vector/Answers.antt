use Rattle.std.proofs.Common.{◌∷◌, refl, sym, ◌∙◌, w8, rules}
use Rattle.std.proofs.lemmas.Int.{to_z-of_z}
use Rattle.pel_model.specs.Records.{Across, Down}
use Rattle.pel_model.specs.Grammar.{Mvd}
use Rattle.h261_mb.proofs.Taken.{vector_due, is-vector, no-vector, components-taken}
use Rattle.h261_mb.proofs.Vectors.{corner_at}
use Rattle.h261_mb.proofs.ahead.take_vector.Goals as goal

pub returns-then-not-has_vector-clause-walk : goal.returns-then-not-has_vector-clause-walk
returns-then-not-has_vector-clause-walk c = λ before begun.
    let front = c.args.front.now in
    no-vector c.args.format before c.args.group front _ c.args.w.now (sym c.has_vector.ensures ∙ c.if-not-has_vector.true) (sym (to_z-of_z w8 front.h (search rules))) (sym (to_z-of_z w8 front.v (search rules))) begun

pub returns-clause-walk : goal.returns-clause-walk
returns-clause-walk c = λ before begun.
    let front = c.args.front.now in
    let moves = sym c.has_vector.ensures ∙ c.if-not-has_vector.false in
    let left = corner_at Across before c.args.group front.address c.left_edge.result begun.say.number_is begun.say.address_is c.left_edge.ensures.value in
    let top = corner_at Down before c.args.group front.address c.top_edge.result begun.say.number_is begun.say.address_is c.top_edge.ensures.value in
    let h_is = to_z-of_z w8 front.h (search rules) in
    let v_is = to_z-of_z w8 front.v (search rules) in
    let first = c.in_ok-h.ensures.walk c.args.format before Across (record { due = vector_due c.args.format before front.kind moves begun.due; vector_is = begun.say.across_is ∙ sym h_is; side_is = sym c.width.ensures; corner_is = left }) in
    let later = c.in_ok-v.ensures.walk c.args.format (Mvd Across first.wanted.values ∷ before) Down (record { due = refl; vector_is = begun.say.down_is ∙ sym v_is; side_is = sym c.height.ensures; corner_is = top }) in
    let both = components-taken c.args.format before front _ _ c.in_ok-h.h c.in_ok-v.v _ c.args.w.now c.take_mvd.new.w c.take_mvd-2.new.w h_is v_is (sym (to_z-of_z w8 c.in_ok-h.h (search rules))) (sym (to_z-of_z w8 c.in_ok-v.v (search rules))) first later in
    record { elements = both.elements; walk = both.walk; wanted = is-vector c.args.format before c.args.group front _ both.elements c.take_mvd-2.new.w moves begun both.wanted }
