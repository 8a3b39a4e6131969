use Rattle.std.proofs.Common.{ℕ, Bool, List, ap, arith}
use Rattle.h261_mb.proofs.Whole.{header-whole, no-bad, no-stuffing}
use Rattle.h261_mb.proofs.header.read_header.Goals as goal

pub returns-in-Some : goal.returns-in-Some
returns-in-Some c =
    let begins = rw c.of-window.ensures at c.in-Some.ensures.begins in record {
      ready = c.in-Some.ensures.ready;
      onward = omega (arith, ap (λ (q : List Bool × ℕ). q.1) c.skip.ensures);
      no_word = λ why is. absurd (no-bad c.args.r.now.0 begins why is);
      stuffing = λ n is. absurd (no-stuffing c.args.r.now.0 begins n is);
      walk = λ before d n stands is.
          let taken = rw c.of-window.ensures at c.in-Some.ensures.walk in
          header-whole c.args.format before c.args.group c.in-Some.header c.args.r.now c.take_header.new.w c.skip.new.self c.taken.result c.taken.ensures.value c.skip.ensures (taken before stands);
    }
