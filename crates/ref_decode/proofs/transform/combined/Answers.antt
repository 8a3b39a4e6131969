use Rattle.std.proofs.Common.{◌≡◌, ◌+◌, ◌*◌, ◌^◌, ◌+ℤ◌, ◌*ℤ◌, arith, rules, w32, to_z, of_z, sym, ◌∙◌, ap, pos}
use Rattle.std.specs.Prelude.{unsigned_abs}
use Rattle.std.proofs.lemmas.Int.{to_z-of_z, ints}
use Rattle.std.proofs.Math.IntN.{zero-*ℤ}
use Rattle.ref_decode.specs.Passes.{at_place}
use Rattle.ref_decode.proofs.Sums.{eight_zeros, sum_none, sum_small, sum_more}
use Rattle.ref_decode.proofs.transform.combined.Goals as goal
use Rattle.ref_decode.proofs.transform.combined.Goals.{then-by-ne0, else-by-ne0}

pub loop-k-init : goal.loop-k-init
loop-k-init c = λ x h. eight_zeros x ∙ sym (sum_none (λ k. at_place c.args.factors.now (c.args.from + k) *ℤ at_place c.args.table.now (8 * k + x)))

pub add_scaled-requires-clause-small : goal.add_scaled-requires-clause-small
add_scaled-requires-clause-small c = λ x h.
    let s = sum_small c.loop-k.k (2 ^ 57) (λ k. at_place c.args.factors.now (c.args.from + k) *ℤ at_place c.args.table.now (8 * k + x)) (λ k l. c.requires.small k x (omega arith) h) in
    omega (arith, ap unsigned_abs (c.loop-k.invariant x h), s)

pub loop-k-preserved : goal.loop-k-preserved
loop-k-preserved c = λ x h.
    let more = sum_more c.loop-k.k (λ k. at_place c.args.factors.now (c.args.from + k) *ℤ at_place c.args.table.now (8 * k + x)) in
    let e : to_z w32 (of_z w32 (at_place c.args.factors.now (c.args.from + c.loop-k.k))) ≡ at_place c.args.factors.now (c.args.from + c.loop-k.k) = to_z-of_z w32 (at_place c.args.factors.now (c.args.from + c.loop-k.k)) (search rules) in
    elim c.if-by-ne0.branch [
      | then-by-ne0 w ↦
          let a = rw e at (w.add_scaled.ensures x h) in
          rw w.sums-is (a ∙ (ap (λ z. z +ℤ at_place c.args.factors.now (c.args.from + c.loop-k.k) *ℤ at_place c.args.table.now (8 * c.loop-k.k + x)) (c.loop-k.invariant x h) ∙ sym more))
      | else-by-ne0 w ↦
          let z : at_place c.args.factors.now (c.args.from + c.loop-k.k) ≡ pos 0 = omega (arith, ints, w.if-by-ne0.false) in
          let t : at_place c.args.factors.now (c.args.from + c.loop-k.k) *ℤ at_place c.args.table.now (8 * c.loop-k.k + x) ≡ pos 0 = ap (λ z. z *ℤ at_place c.args.table.now (8 * c.loop-k.k + x)) z ∙ zero-*ℤ (at_place c.args.table.now (8 * c.loop-k.k + x)) in
          rw w.sums-is (c.loop-k.invariant x h ∙ omega (arith, ints, more, t))
    ]
