use Rattle.std.proofs.Common.{refl, sym, ◌∙◌, ap}
use Rattle.std.proofs.lemmas.Result.{err_from_is_err_and}
use Rattle.pel_model.specs.declared.Fault.{Fault}
use Rattle.pel_model.specs.Walk.{Bad}
use Rattle.pel_model.specs.Grammar.{first_why}
use Rattle.h261_pic.proofs.HeaderSteps.{field-is-cut, field-is-good}
use Rattle.h261_pic.proofs.input_headers.take_field.Goals as goal

pub returns-in_err-value-clause-taken : goal.returns-in_err-value-clause-taken
returns-in_err-value-clause-taken c = λ format before s make due field.
    let p = err_from_is_err_and c.from_residual.result c.from_residual.ensures.1 in
    let cut = c.in_err-value.ensures.cut in
    rw (p.1, p.2) record { bad = field-is-cut format before c.args.r.now s c.args.width make due field.0 cut.0 ∙ ap (λ (f : Fault). Bad f.why) (sym cut.1); place = ap (λ (f : Fault). f.place) cut.1; kept = refl }

pub returns-clause-taken : goal.returns-clause-taken
returns-clause-taken c = λ format before s make due field.
    let seen = c.in_ok-value.ensures.value in
    record { len = c.args.width; good = field-is-good format before c.args.r.now s c.args.width make due field.0 c.in_ok-value.value seen.0 seen.1 (ap first_why (field.1 format before c.in_ok-value.value)); behind = c.skip.ensures }
