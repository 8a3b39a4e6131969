use Rattle.std.proofs.Common.{◌+◌, ◌%◌, ◌≡◌, arith}
use Rattle.pel_bits.proofs.RunBits.{copy-step}
use Rattle.pel_bits.proofs.octets.copy_run.Goals as goal

pub loop-done-preserved : goal.loop-done-preserved
loop-done-preserved c =
    let even : (c.args.at + c.loop-done.done) % 8 ≡ 0 = c.loop-done.invariant.even (omega arith) in
    record {
      within = omega arith;
      even = λ more. omega (arith, even);
      copied = copy-step c.args.octets.now c.loop-done.octets c.copy_word.new.octets c.args.source.now c.args.at c.args.from c.loop-done.done 64 (omega arith) (omega arith) c.loop-done.invariant.copied c.copy_word.ensures;
    }

pub loop-done-2-preserved : goal.loop-done-2-preserved
loop-done-2-preserved c =
    let done = c.loop-done-2.done in
    let even : (c.args.at + done) % 8 ≡ 0 = c.loop-done-2.invariant.even (omega arith) in
    record {
      within = omega arith;
      even = λ more. omega (arith, even);
      copied = copy-step c.args.octets.now c.loop-done-2.octets c.copy_piece-in-loop-done-2.new.octets c.args.source.now c.args.at c.args.from done c.min-width.result (omega arith) (omega arith) c.loop-done-2.invariant.copied c.copy_piece-in-loop-done-2.ensures;
    }
