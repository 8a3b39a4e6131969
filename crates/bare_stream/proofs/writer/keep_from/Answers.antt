-- A number below a power of two, and the field that it spells.
use Rattle.std.proofs.Common.{ℕ, ◌-◌, Bool, List, ◌++◌, drop, take, ap, ap₂, ◌∙◌, arith}
use Rattle.pel_bits.specs.Bits.{number, field}
use Rattle.bare_stream.proofs.PackedLemmas.{kept-fits, kept-field}
use Rattle.bare_stream.proofs.writer.keep_from.Goals as goal

pub push-requires-clause-fits : goal.push-requires-clause-fits
push-requires-clause-fits c =
    let bs = c.args.pending.now.list in
    let width = c.len.result - c.args.from in
    kept-fits bs c.args.from width c.number-kept.result (omega (arith, c.len.ensures, c.requires.0)) (c.number-kept.ensures ∙ ap (λ t. number (take width (drop c.args.from t))) c.bits.ensures)

pub returns : goal.returns
returns c =
    let bs = c.args.pending.now.list in
    let width = c.len.result - c.args.from in
    let is = kept-field bs c.args.from width c.number-kept.result (omega (arith, c.len.ensures, c.requires.0)) (c.number-kept.ensures ∙ ap (λ t. number (take width (drop c.args.from t))) c.bits.ensures) in
    c.push.ensures.value ∙ ap₂ (λ (l : List Bool) (k : ℕ). record { list = l; capacity = k }) (ap (λ (l : List Bool). l ++ field c.number-kept.result width) (ap (λ b. b.list) c.clear.ensures) ∙ is) (ap (λ b. b.capacity) c.clear.ensures)
