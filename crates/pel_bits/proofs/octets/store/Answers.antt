use Rattle.std.proofs.Common.{◌≡◌, ℕ, ◌+◌, ◌*◌, ◌++◌, take, subst, arith}
use Rattle.std.proofs.lemmas.List.{take_all}
use Rattle.pel_bits.specs.Bits.{bits, field}
use Rattle.pel_bits.proofs.Fields.{length-field}
use Rattle.pel_bits.proofs.RunBits.{store-step}
use Rattle.pel_bits.proofs.octets.store.Goals as goal

pub loop-k-preserved : goal.loop-k-preserved
loop-k-preserved c =
    store-step c.loop-k.octets (take (8 * c.args.i) (bits c.args.octets.now)) c.args.i c.loop-k.k c.args.word (omega arith) (omega arith) c.loop-k.invariant

pub returns : goal.returns
returns c =
    let word = field c.args.word 64 in
    let all : take 64 word ≡ word = take_all 64 word (omega (arith, length-field c.args.word 64)) in
    let eight : c.loop-k.k ≡ 8 = omega arith in
    let stored = subst (λ (k : ℕ). take (8 * (c.args.i + k)) (bits c.loop-k.octets) ≡ take (8 * c.args.i) (bits c.args.octets.now) ++ take (8 * k) word) eight c.loop-k.invariant in
    subst (λ t. take (8 * (c.args.i + 8)) (bits c.loop-k.octets) ≡ take (8 * c.args.i) (bits c.args.octets.now) ++ t) all stored
