use Rattle.std.proofs.Common.{Bool, cond, not, ◌∷◌, [], ◌==◌, ◌/◌, ◌%◌, Some, None, refl, sym, ◌∙◌, ap}
use Rattle.std.proofs.lemmas.Bool.{eq-eqb, ne_eqb}
use Rattle.std.proofs.lemmas.Result.{err_from_is_err_and}
use Rattle.pel_model.specs.declared.Fault.{Fault}
use Rattle.pel_model.specs.declared.Why.TheVariants.{WrongFormat, StillImage}
use Rattle.pel_model.specs.Walk.{Bad}
use Rattle.pel_model.specs.Grammar.{Ptype, AtPtype, first_why}
use Rattle.h261_pic.proofs.HeaderSteps.{field-is-cut, field-is-good, field-is-bad, at-ptype}
use Rattle.h261_pic.proofs.input_headers.take_ptype.Goals as goal

pub returns-in_err-ptype : goal.returns-in_err-ptype
returns-in_err-ptype c =
    let p = err_from_is_err_and c.from_residual.result c.from_residual.ensures.1 in
    let cut = c.in_err-ptype.ensures.cut in
    record {
      taken = λ before due.
          rw (p.1, p.2) record { bad = field-is-cut c.args.format before c.args.r.now AtPtype 6 Ptype due at-ptype cut.0 ∙ ap (λ (f : Fault). Bad f.why) (sym cut.1); place = ap (λ (f : Fault). f.place) cut.1; kept = refl };
    }

pub returns-then-not-names : goal.returns-then-not-names
returns-then-not-names c =
    record {
      taken = λ before due.
          let seen = c.in_ok-ptype.ensures.value in
          let ptype = c.in_ok-ptype.ptype in
          record { bad = field-is-bad c.args.format before c.args.r.now AtPtype 6 Ptype due at-ptype ptype WrongFormat seen.0 seen.1 (ap (λ (b : Bool). first_why ((not b, WrongFormat) ∷ (ptype / 2 % 2 == 0, StillImage) ∷ [])) (sym c.names.ensures ∙ c.if-not-names.true)); place = c.place-place.ensures; kept = refl };
    }

pub returns-then-ptype-eq0 : goal.returns-then-ptype-eq0
returns-then-ptype-eq0 c =
    record {
      taken = λ before due.
          let seen = c.in_ok-ptype.ensures.value in
          let ptype = c.in_ok-ptype.ptype in
          record { bad = field-is-bad c.args.format before c.args.r.now AtPtype 6 Ptype due at-ptype ptype StillImage seen.0 seen.1 (ap (λ (b : Bool). first_why ((not b, WrongFormat) ∷ (ptype / 2 % 2 == 0, StillImage) ∷ [])) (sym c.names.ensures ∙ c.if-not-names.false) ∙ ap (λ (b : Bool). cond b (Some StillImage) None) (eq-eqb (ptype / 2 % 2) 0 c.if-ptype-eq0.true)); place = c.place-place.ensures; kept = refl };
    }

pub returns : goal.returns
returns c =
    record {
      taken = λ before due.
          let seen = c.in_ok-ptype.ensures.value in
          let ptype = c.in_ok-ptype.ptype in
          record { len = 6; good = field-is-good c.args.format before c.args.r.now AtPtype 6 Ptype due at-ptype ptype seen.0 seen.1 (ap (λ (b : Bool). first_why ((not b, WrongFormat) ∷ (ptype / 2 % 2 == 0, StillImage) ∷ [])) (sym c.names.ensures ∙ c.if-not-names.false) ∙ ap (λ (b : Bool). cond b (Some StillImage) None) (ne_eqb (ptype / 2 % 2) 0 c.if-ptype-eq0.false)); behind = c.skip.ensures };
    }
