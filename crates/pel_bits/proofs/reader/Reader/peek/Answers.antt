use Rattle.std.proofs.Common.{◌≤◌, ◌++◌, length, take, drop, ◌∙◌, arith, length-take}
use Rattle.pel_bits.specs.Reading.{zeros}
use Rattle.pel_bits.proofs.RunBits.{peeked-short, number-fits_in}
use Rattle.pel_bits.proofs.reader.Reader.peek.Goals as goal

pub overflow_cast-result-else-self-width : goal.overflow_cast-result-else-self-width
overflow_cast-result-else-self-width c =
    let r = c.self.inside in
    let run = take c.args.width (drop r.place r.bits ++ zeros c.args.width) in
    let short : length run ≤ 32 = omega (arith, length-take c.args.width (drop r.place r.bits ++ zeros c.args.width)) in
    let front = c.from-front.ensures ∙ c.number-else-self-width.ensures in
    let same = peeked-short r.bits r.place r.left c.args.width c.self.invariant.0 (omega arith) c.requires in
    rw front (omega (arith, same, number-fits_in run 32 short))

pub returns-else-self-width : goal.returns-else-self-width
returns-else-self-width c =
    let r = c.self.inside in
    let front = c.from-front.ensures ∙ c.number-else-self-width.ensures in
    rw (front, ← c.self.view_is) (peeked-short r.bits r.place r.left c.args.width c.self.invariant.0 (omega arith) c.requires)
