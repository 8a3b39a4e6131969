use Rattle.std.proofs.Common.{◌≡◌, ℕ, ◌<◌, ◌≤◌, Bool, List, Ok, refl, sym, ◌∙◌, ap, subst, arith}
use Rattle.std.proofs.lemmas.Result.{err_from_is_err_and}
use Rattle.pel_model.specs.Grammar.{next}
use Rattle.h261_pic.specs.Comes.{Comes}
use Rattle.h261_pic.proofs.ComesWithin.{not_group, begun_with, last_place, bad-within, comes-within, comes-long}
use Rattle.h261_pic.proofs.limited.coming_within.Goals as goal
use Rattle.h261_pic.proofs.limited.coming_within.Goals.{in-Group, in-End}

pub returns-in_err-coming : goal.returns-in_err-coming
returns-in_err-coming c = λ before due begun inside.
    let p = err_from_is_err_and c.from_residual.result c.from_residual.ensures.1 in
    rw (p.1, p.2) (bad-within c.args.format before c.args.r.now _ c.take_coming.new.r (rw c.copy-ahead.ensures at c.in_err-coming.ensures c.args.format before due))

pub returns-then-place-last_end : goal.returns-then-place-last_end
returns-then-place-last_end c = λ before due begun inside.
    let here = c.in_ok-coming.coming in
    let n = c.args.begun in
    let new = c.take_coming.new.r in
    let came = subst (λ (r : List Bool × ℕ). Comes (next c.args.format before r) (Ok here) r new) c.copy-ahead.ensures (c.in_ok-coming.ensures c.args.format before due) in
    let counts : c.match-coming.begun ≡ begun_with here n =
    elim c.match-coming.branch [
      | in-Group w ↦ w.begun-is ∙ ap (λ x. begun_with x n) (sym w.in-Group.is)
      | in-End w ↦ not_group c.match-coming.begun n here w.begun-is w.in-End.is
    ] in
    let far : last_place c.args.format (begun_with here n) < c.take_coming.new.r.1 = omega (arith, ap (last_place c.args.format) counts) in
    let long = comes-long c.args.format before c.args.r.now n begun new here inside came far in
    rw c.too_long.ensures record { bad = long; place = c.place-then-place-last_end.ensures; kept = refl }

pub returns : goal.returns
returns c = λ before due begun inside.
    let here = c.in_ok-coming.coming in
    let n = c.args.begun in
    let new = c.take_coming.new.r in
    let came = subst (λ (r : List Bool × ℕ). Comes (next c.args.format before r) (Ok here) r new) c.copy-ahead.ensures (c.in_ok-coming.ensures c.args.format before due) in
    let counts : c.match-coming.begun ≡ begun_with here n =
    elim c.match-coming.branch [
      | in-Group w ↦ w.begun-is ∙ ap (λ x. begun_with x n) (sym w.in-Group.is)
      | in-End w ↦ not_group c.match-coming.begun n here w.begun-is w.in-End.is
    ] in
    let fits : c.take_coming.new.r.1 ≤ last_place c.args.format (begun_with here n) = omega (arith, ap (last_place c.args.format) counts) in
    comes-within c.args.format before c.args.r.now n begun new here came fits
