use Rattle.std.proofs.Common.{ℕ, Bool, List, refl, ◌∙◌, ap, subst}
use Rattle.std.specs.Prelude.{slice_index}
use Rattle.std.proofs.lemmas.Result.{err_from_is_err_and}
use Rattle.pel_model.specs.declared.Format.TheVariants.{Qcif}
use Rattle.pel_model.specs.Grammar.{Element, next}
use Rattle.pel_model.specs.Residual.{transmission_order}
use Rattle.pel_model.specs.Walk.{Goes}
use Rattle.ref_decode.specs.Blocks.{coefficient_at, scan_places}
use Rattle.ref_decode.proofs.BlockReading.{block_before, block_due, block_goes, block_read, block_meets_no_fault}
use Rattle.ref_decode.proofs.Levels.{block_adds}
use Rattle.ref_decode.proofs.residual.read_residual.Goals as goal

pub returns-in_err-read_levels : goal.returns-in_err-read_levels
returns-in_err-read_levels c =
    let p = err_from_is_err_and c.from_residual.result c.from_residual.ensures.1 in
    rw p.1 (λ b rest valid bits.
    let before = block_before c.args.intra in
    let goes = block_goes Qcif c.args.intra b rest c.args.r.now valid bits in
    let bad = c.in_err-read_levels.ensures Qcif before (block_due c.args.intra) in
    absurd (block_meets_no_fault Qcif before b bad.part.0 bad.elements c.args.r.now _ c.read_levels.new.r _ bad.part.1 goes bad.walk bad.bad))

pub coefficients-coefs-requires : goal.coefficients-coefs-requires
unfolding scan_places transmission_order
coefficients-coefs-requires c = refl

pub returns : goal.returns
returns c = λ b rest valid bits.
    let before = block_before c.args.intra in
    let goes = block_goes Qcif c.args.intra b rest c.args.r.now valid bits in
    let took = c.in_ok-read_levels.ensures Qcif before (block_due c.args.intra) in
    let same = block_read Qcif before b took.wanted.0 c.args.r.now _ c.read_levels.new.r goes
    (subst (λ (es : List Element). Goes (next Qcif) before c.args.r.now es c.read_levels.new.r) took.wanted.1 took.walk) in (
      λ x y hx hy. c.fixed.ensures x y hx hy ∙ block_adds c.args.quant c.args.intra b c.coefficients-coefs.result x y valid
          (λ k h. c.coefficients-coefs.ensures.value k h ∙ ap (λ ls. coefficient_at c.args.quant c.args.intra ls (slice_index scan_places k)) (took.wanted.3 ∙ same.0)),
      ap (λ (r : List Bool × ℕ). r.0) same.1,
    )
