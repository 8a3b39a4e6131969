use Rattle.std.proofs.Common.{Bool, cond, not, ◌&&◌, ℕ, nat_lt, Some, None, refl, sym, ◌∙◌, ap}
use Rattle.std.proofs.lemmas.Bool.{ltb-true, and_parts}
use Rattle.std.proofs.lemmas.Result.{err_from_is_err_and}
use Rattle.pel_model.specs.declared.Fault.{Fault}
use Rattle.pel_model.specs.declared.Why.TheVariants.{BadGroup}
use Rattle.pel_model.specs.Walk.{Bad}
use Rattle.pel_model.specs.Grammar.{Gn, AtGn, is_group}
use Rattle.h261_pic.proofs.HeaderSteps.{field-is-cut, field-is-good, field-is-bad, at-gn}
use Rattle.h261_pic.proofs.input_headers.take_gn.Goals as goal

pub returns-in_err-number-clause-taken : goal.returns-in_err-number-clause-taken
returns-in_err-number-clause-taken c = λ before due last.
    let p = err_from_is_err_and c.from_residual.result c.from_residual.ensures.1 in
    let cut = c.in_err-number.ensures.cut in
    rw (p.1, p.2) record { bad = field-is-cut c.args.format before c.args.r.now AtGn 4 Gn due at-gn cut.0 ∙ ap (λ (f : Fault). Bad f.why) (sym cut.1); place = ap (λ (f : Fault). f.place) cut.1; kept = refl }

pub returns-then-not-may_come-clause-taken : goal.returns-then-not-may_come-clause-taken
returns-then-not-may_come-clause-taken c = λ before due last.
    let seen = c.in_ok-number.ensures.value in
    let number = c.in_ok-number.field-0 in
    record { bad = field-is-bad c.args.format before c.args.r.now AtGn 4 Gn due at-gn number BadGroup seen.0 seen.1 (ap (λ (n : ℕ). cond (not (is_group c.args.format number && nat_lt n number)) (Some BadGroup) None) last ∙ ap (λ (b : Bool). cond (not b) (Some BadGroup) None) (sym c.may_come.ensures ∙ c.if-not-may_come.true)); place = c.place-place.ensures; kept = refl }

pub returns-clause-taken : goal.returns-clause-taken
returns-clause-taken c = λ before due last.
    let seen = c.in_ok-number.ensures.value in
    let number = c.in_ok-number.field-0 in
    record { len = 4; good = field-is-good c.args.format before c.args.r.now AtGn 4 Gn due at-gn number seen.0 seen.1 (ap (λ (n : ℕ). cond (not (is_group c.args.format number && nat_lt n number)) (Some BadGroup) None) last ∙ ap (λ (b : Bool). cond (not b) (Some BadGroup) None) (sym c.may_come.ensures ∙ c.if-not-may_come.false)); behind = c.skip.ensures }

pub returns-clause-within : goal.returns-clause-within
returns-clause-within c =
    let number = c.in_ok-number.field-0 in
    let both = sym c.may_come.ensures ∙ c.if-not-may_come.false in
    ((and_parts (is_group c.args.format number) (nat_lt c.args.last number) both).0, ltb-true c.args.last number (and_parts (is_group c.args.format number) (nat_lt c.args.last number) both).1)
