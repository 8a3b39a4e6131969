use Rattle.std.proofs.Common.{◌≤◌, length, take, drop, length-take, arith}
use Rattle.pel_bits.proofs.RunBits.{number-fits_in}
use Rattle.pel_bits.proofs.slice.Bits.number.Goals as goal

pub overflow_cast-result : goal.overflow_cast-result
overflow_cast-result c =
    let run = take c.args.width (drop c.args.from c.args.self.now) in
    let short : length run ≤ 32 = omega (arith, length-take c.args.width (drop c.args.from c.args.self.now)) in
    omega (arith, number-fits_in run 32 short, c.wide_number.ensures)
