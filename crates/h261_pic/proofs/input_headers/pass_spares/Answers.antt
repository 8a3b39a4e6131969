use Rattle.std.proofs.Common.{ℕ, ◌==◌, Bool, true, ◌∷◌, refl, ◌∙◌, ap}
use Rattle.std.proofs.lemmas.Bool.{ne_eqb}
use Rattle.std.proofs.lemmas.Result.{err_from_is_err_and}
use Rattle.pel_model.specs.Walk.{Good, after}
use Rattle.pel_model.specs.Grammar.{next}
use Rattle.h261_pic.specs.HeaderElements.{flag_of, spare_of, flag_slot, spare_slot, spares_of}
use Rattle.h261_pic.proofs.HeaderSteps.{at-flag, at-spare}
use Rattle.h261_pic.proofs.Spares.{none_yet, had, cut_flag, cut_spare, one_passed, all_passed, slot-flag}
use Rattle.h261_pic.proofs.input_headers.pass_spares.Goals as goal

pub loop-r-init : goal.loop-r-init
loop-r-init c = λ format before layer due. none_yet (next format) before layer c.args.r.now due

pub returns-in_err-take_field : goal.returns-in_err-take_field
returns-in_err-take_field c =
    let p = err_from_is_err_and c.from_residual.result c.from_residual.ensures.1 in
    record {
      walk = λ format before layer due.
          let so_far = c.loop-r.invariant format before layer due in
          let took = c.in_err-take_field.ensures.taken format (after before (had (next format) before layer c.args.r.now c.loop-r.r so_far)) (flag_slot layer) (λ n. flag_of layer (n == 1)) so_far.due (at-flag layer) in
          rw (p.1, p.2) (cut_flag (next format) before layer c.args.r.now c.loop-r.r so_far c.take_field.new.r _ took.bad took.place took.kept);
    }

pub loop-r-preserved : goal.loop-r-preserved
loop-r-preserved c = λ format before layer due.
    let so_far = c.loop-r.invariant format before layer due in
    let before' = after before (had (next format) before layer c.args.r.now c.loop-r.r so_far) in
    let took = c.in_ok-take_field.ensures.taken format before' (flag_slot layer) (λ n. flag_of layer (n == 1)) so_far.due (at-flag layer) in
    let flag = took.good ∙ ap (λ (k : ℕ). Good (flag_of layer (k == 1)) took.len) c.if-branch-eq1.true in
    let spare = c.in_ok-take_field-2.ensures.taken format (flag_of layer true ∷ before') (spare_slot layer) (spare_of layer) (slot-flag layer before') (at-spare layer) in
    one_passed (next format) before layer c.args.r.now c.loop-r.r so_far c.take_field.new.r took.len flag took.behind c.take_field-in-loop-r.new.r c.in_ok-take_field-2.field-0 spare.len spare.good spare.behind

pub returns-in_err-take_field-2 : goal.returns-in_err-take_field-2
returns-in_err-take_field-2 c =
    let p = err_from_is_err_and c.from_residual-in_err-take_field-2.result c.from_residual-in_err-take_field-2.ensures.1 in
    record {
      walk = λ format before layer due.
          let so_far = c.loop-r.invariant format before layer due in
          let before' = after before (had (next format) before layer c.args.r.now c.loop-r.r so_far) in
          let took = c.in_ok-take_field.ensures.taken format before' (flag_slot layer) (λ n. flag_of layer (n == 1)) so_far.due (at-flag layer) in
          let flag = took.good ∙ ap (λ (k : ℕ). Good (flag_of layer (k == 1)) took.len) c.if-branch-eq1.true in
          let spare = c.in_err-take_field-2.ensures.taken format (flag_of layer true ∷ before') (spare_slot layer) (spare_of layer) (slot-flag layer before') (at-spare layer) in
          rw (p.1, p.2) (cut_spare (next format) before layer c.args.r.now c.loop-r.r so_far c.take_field.new.r took.len flag took.behind c.take_field-in-loop-r.new.r _ spare.bad spare.place spare.kept);
    }

pub returns : goal.returns
returns c =
    record {
      walk = λ format before layer due.
          let so_far = c.loop-r.invariant format before layer due in
          let before' = after before (had (next format) before layer c.args.r.now c.loop-r.r so_far) in
          let took = c.in_ok-take_field.ensures.taken format before' (flag_slot layer) (λ n. flag_of layer (n == 1)) so_far.due (at-flag layer) in
          let flag = took.good ∙ ap (λ (b : Bool). Good (flag_of layer b) took.len) (ne_eqb c.in_ok-take_field.field-0 1 c.if-branch-eq1.false) in
          record { elements = spares_of layer so_far.octets; walk = all_passed (next format) before layer c.args.r.now c.loop-r.r so_far c.take_field.new.r took.len flag took.behind; wanted = record { octets = so_far.octets; elements = refl } };
    }
