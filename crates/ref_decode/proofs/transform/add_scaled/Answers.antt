use Rattle.std.proofs.Common.{◌≡◌, ◌+◌, ◌+ℤ◌, ◌*ℤ◌, arith, rules, w32, w64, to_z, of_z, refl}
use Rattle.std.proofs.lemmas.Int.{to_z-of_z}
use Rattle.ref_decode.specs.Passes.{at_place}
use Rattle.ref_decode.proofs.Sums.{lane_added}
use Rattle.ref_decode.proofs.transform.add_scaled.Goals as goal

pub loop-x-preserved : goal.loop-x-preserved
loop-x-preserved c =
    let e : to_z w64 (of_z w64 c.plus.result) ≡ c.plus.result = to_z-of_z w64 c.plus.result (search rules) in
    let b : to_z w32 (of_z w32 c.args.by) ≡ c.args.by = to_z-of_z w32 c.args.by c.ranges.by in
    let v : c.plus.result ≡ at_place c.loop-x.sums c.loop-x.x +ℤ c.args.by *ℤ at_place c.args.table.now (c.args.from + c.loop-x.x) = grind (arith, to_z-of_z, c.plus.ensures, c.product.ensures.value) in
    rw (e, b)
    (lane_added c.loop-x.sums c.args.sums.now _ (λ x. c.args.by *ℤ at_place c.args.table.now (c.args.from + x)) c.loop-x.x c.plus.result c.loop-x.invariant.0 (omega arith) (rw b at c.loop-x.invariant.1) c.loop-x.invariant.2 v refl)
