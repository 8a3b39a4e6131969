use Rattle.std.proofs.Common.{◌≡◌, ℕ, ◌+◌, ◌*◌, ◌^◌, ◌<◌, ◌≤◌, subst, sym, refl, arith}
use Rattle.std.proofs.Math.Nat.{pow-suc, pow-le-pow_right}
use Rattle.std.proofs.Math.Numerals.{add-one}
use Rattle.pel_bits.specs.Bits.{bits, number}
use Rattle.pel_bits.proofs.RunBits.{slow-step, bit_below}
use Rattle.pel_bits.proofs.OctetBits.{length-bits}
use Rattle.pel_bits.proofs.octets.slow_at.Goals as goal

pub loop-k-init : goal.loop-k-init
unfolding number
loop-k-init c = record { spelled = refl; below = omega arith }

pub overflow_add-from : goal.overflow_add-from
overflow_add-from c = omega (arith, c.requires.small)

next_below : (value bit k : ℕ) → value < 2 ^ k → bit < 2 → 2 * value + bit < 2 ^ (k + 1)
next_below value bit k p q =
    omega (arith, pow-suc 2 k, subst (λ (n : ℕ). 2 ^ n ≡ 2 ^ (k + 1)) (add-one k) refl)

pub overflow_add-value : goal.overflow_add-value
overflow_add-value c =
    let bit : c.bit_at.result < 2 = subst (λ (n : ℕ). n < 2) (sym c.bit_at.ensures) (bit_below (bits c.args.octets.now) (c.args.from + c.loop-k.k)) in
    let few : c.loop-k.k ≤ 56 = omega arith in
    let most : 2 ^ c.loop-k.k ≤ 2 ^ 56 = pow-le-pow_right (omega arith) few in
    omega (arith, c.loop-k.invariant.below)

pub loop-k-preserved : goal.loop-k-preserved
loop-k-preserved c =
    let octets = c.args.octets.now in
    let bit : c.bit_at.result < 2 = subst (λ (n : ℕ). n < 2) (sym c.bit_at.ensures) (bit_below (bits octets) (c.args.from + c.loop-k.k)) in
    record {
      spelled = slow-step (bits octets) c.args.from c.loop-k.k _ _ (omega (arith, length-bits octets)) c.loop-k.invariant.spelled c.bit_at.ensures;
      below = next_below c.loop-k.value c.bit_at.result c.loop-k.k c.loop-k.invariant.below bit;
    }
