use Rattle.std.proofs.Common.{◌+◌, ◌*◌, ◌≤◌, arith, ◌∙◌, ap}
use Rattle.std.specs.Prelude.{unsigned_abs}
use Rattle.ref_decode.specs.Passes.{at_place, by_rows, by_columns, combination, rounded}
use Rattle.ref_decode.proofs.Rows.{product_small, rows_small, columns_small, row_small, line_small, residual_is, rows_of}
use Rattle.ref_decode.proofs.transform.in_two_passes.Goals as goal

pub combined-row-requires-clause-small : goal.combined-row-requires-clause-small
combined-row-requires-clause-small c = λ k x hk hx.
    rw c.requires.rows (omega (arith, product_small (at_place c.args.coefs.now (8 * c.loop-v.v + k)) (at_place by_rows (8 * k + x)) 2048 4017 (c.requires.coefs (8 * c.loop-v.v + k) (omega arith)) (rows_small (8 * k + x))))

pub put_row-requires-clause-small : goal.put_row-requires-clause-small
put_row-requires-clause-small c = λ x hx.
    let e = c.combined-row.ensures x hx ∙ ap (λ t. combination c.args.coefs.now (8 * c.loop-v.v) t 8 x) c.requires.rows in
    omega (arith, ap unsigned_abs e, row_small c.args.coefs.now c.loop-v.v x c.requires.coefs (omega arith))

pub combined-line-requires-clause-small : goal.combined-line-requires-clause-small
combined-line-requires-clause-small c = λ k x hk hx.
    let e = c.loop-v.invariant k x (omega arith) hx ∙ ap (λ t. combination c.args.coefs.now (8 * k) t 8 x) c.requires.rows in
    let row : unsigned_abs (at_place c.loop-v.rows (8 * k + x)) ≤ 65814528 = omega (arith, ap unsigned_abs e, row_small c.args.coefs.now k x c.requires.coefs (omega arith)) in
    rw c.requires.columns (omega (arith, product_small (at_place by_columns (8 * c.loop-y.y + k)) (at_place c.loop-v.rows (8 * k + x)) 4017 65814528 (columns_small (8 * c.loop-y.y + k)) row))

pub put_line-requires-clause-small : goal.put_line-requires-clause-small
put_line-requires-clause-small c = λ x hx.
    let are : rows_of c.args.coefs.now c.loop-v.rows c.used_rows-used.result = λ v x hv hx. c.loop-v.invariant v x (omega arith) hx ∙ ap (λ t. combination c.args.coefs.now (8 * v) t 8 x) c.requires.rows in
    let e = c.combined-line.ensures x hx ∙ ap (λ t. combination t (8 * c.loop-y.y) c.loop-v.rows c.used_rows-used.result x) c.requires.columns in
    omega (arith, ap unsigned_abs e, line_small c.args.coefs.now c.loop-v.rows c.used_rows-used.result c.loop-y.y x c.requires.coefs c.used_rows-used.ensures.within are (omega arith) hx)

pub returns : goal.returns
returns c = λ x y hx hy.
    let are : rows_of c.args.coefs.now c.loop-v.rows c.used_rows-used.result = λ v x hv hx. c.loop-v.invariant v x (omega arith) hx ∙ ap (λ t. combination c.args.coefs.now (8 * v) t 8 x) c.requires.rows in
    c.loop-y.invariant y x (omega arith) hx
    ∙ (ap (λ t. rounded (combination t (8 * y) c.loop-v.rows c.used_rows-used.result x)) c.requires.columns
    ∙ residual_is c.args.coefs.now c.loop-v.rows c.used_rows-used.result x y c.used_rows-used.ensures.within c.used_rows-used.ensures.zeros are hx hy)
