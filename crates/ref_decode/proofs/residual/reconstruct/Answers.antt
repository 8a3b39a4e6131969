use Rattle.std.proofs.Common.{◌≡◌, ◌≤◌, ℤ, pos, negsuc, neg_ℤ, sym, subst, ◌∙◌, ap, arith, rules, w32, to_z, of_z}
use Rattle.std.specs.Prelude.{◌<ℤ◌, unsigned_abs}
use Rattle.std.proofs.lemmas.Int.{ints, to_z-of_z}
use Rattle.pel_model.specs.Transform.{clipped}
use Rattle.ref_decode.proofs.Levels.{scaled_above, scaled_below}
use Rattle.ref_decode.proofs.residual.reconstruct.Goals as goal

pub returns-then-level-gt0 : goal.returns-then-level-gt0
returns-then-level-gt0 c =
    let r = c.within_bounds-above.result in
    let e : to_z w32 (of_z w32 r) ≡ r = to_z-of_z w32 r (search rules) in
    let above : pos 0 <ℤ c.args.level = omega (arith, ints, c.if-level-gt0.true) in
    let v : r ≡ clipped (negsuc 2047) (pos 2047) c.magnitude-size.result = grind (arith, to_z-of_z, c.within_bounds-above.ensures.value) in
    record {
      value = e ∙ (v ∙ ap (clipped (negsuc 2047) (pos 2047)) (sym (scaled_above c.args.quant c.args.level c.magnitude-size.result above (grind (arith, to_z-of_z, c.magnitude-size.ensures.value)))));
      size = subst (λ (z : ℤ). unsigned_abs z ≤ 2048) (sym e) c.within_bounds-above.ensures.size;
    }

pub returns : goal.returns
returns c =
    let r = c.within_bounds-below.result in
    let e : to_z w32 (of_z w32 r) ≡ r = to_z-of_z w32 r (search rules) in
    let below : c.args.level <ℤ pos 0 = omega (arith, ints, c.if-level-gt0.false, c.if-level-eq0.false) in
    let v : r ≡ clipped (negsuc 2047) (pos 2047) (neg_ℤ c.magnitude-size.result) = grind (arith, to_z-of_z, c.within_bounds-below.ensures.value) in
    record {
      value = e ∙ (v ∙ ap (clipped (negsuc 2047) (pos 2047)) (sym (scaled_below c.args.quant c.args.level c.magnitude-size.result below (grind (arith, to_z-of_z, c.magnitude-size.ensures.value)))));
      size = subst (λ (z : ℤ). unsigned_abs z ≤ 2048) (sym e) c.within_bounds-below.ensures.size;
    }
