use Rattle.std.proofs.Common.{true, false, [], None, refl, arith}
use Rattle.std.proofs.lemmas.Result.{err_from_is_err_and}
use Rattle.pel_model.specs.Records.{Block}
use Rattle.pel_model.specs.Elements.{coefficient_elements}
use Rattle.pel_model.specs.Walk.{after}
use Rattle.pel_model.specs.Grammar.{next}
use Rattle.h261_block.proofs.BlockSteps.{due_at}
use Rattle.h261_block.proofs.SoFar.{none_yet, dc_only, failed, failed_taken, more_taken, whole_taken}
use Rattle.h261_block.proofs.scan_block.Goals as goal
use Rattle.h261_block.proofs.scan_block.Goals.{then-intra+in_ok-intradc, else-intra}

abbrev no_elements : Block
no_elements = record { dc = None; coefficients = [] }

pub returns-in_err-intradc : goal.returns-in_err-intradc
returns-in_err-intradc c =
    let p = err_from_is_err_and c.from_residual.result c.from_residual.ensures.1 in
    rw (p.1, p.2) (λ format before due.
    let took = c.in_err-intradc.ensures format before (due_at _ c.args.intra true due c.if-intra.true) in
    failed (next format) before c.args.r.now c.args.r.now c.intradc.new.r no_elements _ refl took.bad took.place took.kept)

pub loop-behind-init : goal.loop-behind-init
loop-behind-init c =
    elim c.if-intra.branch [
      | then-intra+in_ok-intradc w ↦
          record {
            within = omega (arith, w.filled-is);
            so_far = λ format before due.
                let took = w.in_ok-intradc.ensures format before (due_at _ c.args.intra true due w.if-intra.true) in
                rw (w.filled-is, w.r-is, w.if-intra.true) (dc_only (next format) before c.args.r.now w.intradc.new.r w.in_ok-intradc.field-0 took.len took.good took.behind);
          }
      | else-intra w ↦
          record {
            within = omega (arith, w.filled-is);
            so_far = λ format before due.
                rw (w.filled-is, w.r-is, w.if-intra.false) (none_yet (next format) before c.args.r.now (due_at _ c.args.intra false due w.if-intra.false));
          }
    ]

pub returns-in_err-behind : goal.returns-in_err-behind
returns-in_err-behind c =
    let p = err_from_is_err_and c.from_residual-in_err-behind.result c.from_residual-in_err-behind.ensures.1 in
    rw (p.1, p.2) (λ format before due.
    let so_far = c.loop-behind.invariant.so_far format before due in
    failed_taken (next format) before c.args.intra c.args.r.now c.loop-behind.r c.one_word.new.r c.loop-behind.filled so_far _ (c.in_err-behind.ensures.taken format (after before (coefficient_elements so_far.block)) so_far.due so_far.full))

pub loop-behind-preserved : goal.loop-behind-preserved
loop-behind-preserved c =
    record {
      within = (c.in_ok-behind.ensures.more c.in-Some.behind (cc)).1;
      so_far = λ format before due.
          let so_far = c.loop-behind.invariant.so_far format before due in
          more_taken (next format) before c.args.intra c.args.r.now c.loop-behind.r c.one_word.new.r c.loop-behind.filled so_far _ c.in-Some.behind c.in-Some.is (c.in_ok-behind.ensures.taken format (after before (coefficient_elements so_far.block)) so_far.due so_far.full);
    }

pub returns : goal.returns
returns c = λ format before due.
    let so_far = c.loop-behind.invariant.so_far format before due in
    whole_taken (next format) before c.args.intra c.args.r.now c.loop-behind.r c.one_word.new.r c.loop-behind.filled so_far _ c.in_default.is (c.in_ok-behind.ensures.taken format (after before (coefficient_elements so_far.block)) so_far.due so_far.full)
