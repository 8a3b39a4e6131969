use Rattle.std.proofs.Common.{Bool, cond, Some, None, refl, sym, ◌∙◌, ap}
use Rattle.std.proofs.lemmas.Bool.{eq-eqb, ne_eqb}
use Rattle.std.proofs.lemmas.Result.{err_from_is_err_and}
use Rattle.pel_model.specs.declared.Fault.{Fault}
use Rattle.pel_model.specs.declared.Why.TheVariants.{BadQuant}
use Rattle.pel_model.specs.Walk.{Bad}
use Rattle.pel_model.specs.Grammar.{Gquant, AtGquant}
use Rattle.h261_pic.proofs.HeaderSteps.{field-is-cut, field-is-good, field-is-bad, at-gquant}
use Rattle.h261_pic.proofs.input_headers.take_gquant.Goals as goal

pub returns-in_err-quant-clause-taken : goal.returns-in_err-quant-clause-taken
returns-in_err-quant-clause-taken c = λ format before due.
    let p = err_from_is_err_and c.from_residual.result c.from_residual.ensures.1 in
    let cut = c.in_err-quant.ensures.cut in
    rw (p.1, p.2) record { bad = field-is-cut format before c.args.r.now AtGquant 5 Gquant due at-gquant cut.0 ∙ ap (λ (f : Fault). Bad f.why) (sym cut.1); place = ap (λ (f : Fault). f.place) cut.1; kept = refl }

pub returns-then-quant-eq0-clause-taken : goal.returns-then-quant-eq0-clause-taken
returns-then-quant-eq0-clause-taken c = λ format before due.
    let seen = c.in_ok-quant.ensures.value in
    let quant = c.in_ok-quant.field-0 in
    record { bad = field-is-bad format before c.args.r.now AtGquant 5 Gquant due at-gquant quant BadQuant seen.0 seen.1 (ap (λ (b : Bool). cond b (Some BadQuant) None) (eq-eqb quant 0 c.if-quant-eq0.true)); place = c.place-place.ensures; kept = refl }

pub returns-clause-taken : goal.returns-clause-taken
returns-clause-taken c = λ format before due.
    let seen = c.in_ok-quant.ensures.value in
    let quant = c.in_ok-quant.field-0 in
    record { len = 5; good = field-is-good format before c.args.r.now AtGquant 5 Gquant due at-gquant quant seen.0 seen.1 (ap (λ (b : Bool). cond b (Some BadQuant) None) (ne_eqb quant 0 c.if-quant-eq0.false)); behind = c.skip.ensures }
