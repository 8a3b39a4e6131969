use Rattle.std.proofs.Common.{◌∷◌, [], refl, sym, ◌∙◌, ap, w8, rules}
use Rattle.std.proofs.lemmas.Int.{to_z-of_z}
use Rattle.pel_model.specs.Valid.{stays_within}
use Rattle.pel_model.specs.Grammar.{Mvd}
use Rattle.h261_mb.proofs.Vectors.{is_chosen, mvd-good}
use Rattle.h261_mb.proofs.ahead.take_mvd.Goals as goal

pub returns-then-stays_within-clause-walk : goal.returns-then-stays_within-clause-walk
returns-then-stays_within-clause-walk c = λ format before axis is.
    let values = c.in_ok-values.values in
    let word = c.in_ok-values.ensures.word axis in
    let told = is_chosen c.args.last _ values c.in_ok-component.component (to_z-of_z w8 c.args.last c.ranges.last) c.in_ok-component.ensures.value in
    let component_is = told.1 ∙ sym (to_z-of_z w8 c.in_ok-component.component (search rules)) in
    let inside = ap (stays_within c.args.side c.args.first) component_is ∙ (sym c.stays_within.ensures ∙ c.if-stays_within.true) in
    let good = mvd-good format before c.args.w.now axis c.args.last c.args.first c.args.side values word.len is.due is.vector_is is.side_is is.corner_is word.good told.0 inside in
    record { elements = Mvd axis values ∷ []; walk = (word.len, good, word.behind); wanted = record { values = values; elements = refl; component_is = component_is } }
