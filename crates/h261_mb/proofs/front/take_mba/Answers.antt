use Rattle.std.proofs.Common.{◌<◌, ℕ, Bool, List, ap, refl, arith}
use Rattle.pel_model.specs.Walk.{read}
use Rattle.pel_model.specs.Grammar.{mba_rows, Mba}
use Rattle.h261_mb.proofs.Steps.{not_bad, not_stuffing}
use Rattle.h261_mb.proofs.Slots.{mba-good, mba-bad}
use Rattle.h261_mb.proofs.Words.{mba_above}
use Rattle.h261_mb.proofs.front.take_mba.Goals as goal

pub returns-then-difference-last : goal.returns-then-difference-last
returns-then-difference-last c =
    let word = rw (c.copy-ahead.ensures, c.in-Ok-Difference.field-0-is) at c.in-Ok-Difference.ensures in
    let d0 = c.in-Ok-Difference.difference in
    let here = read mba_rows c.args.r.now.0 in
    record {
      within = tt;
      onward = tt;
      no_word = λ why is. absurd (not_bad why (Mba d0) word.len here word.good is);
      stuffing = λ n is. absurd (not_stuffing d0 n word.len here word.good is);
      taken = λ format before d n due address_is is.
          record { bad = mba-bad format before c.args.r.now c.args.last c.in-Ok-Difference.difference word.len due address_is word.good (omega arith); place = c.place-place.ensures; kept = refl };
    }

pub returns-else-difference-last : goal.returns-else-difference-last
returns-else-difference-last c =
    let word = rw (c.copy-ahead.ensures, c.in-Ok-Difference.field-0-is) at c.in-Ok-Difference.ensures in
    let above : 0 < c.in-Ok-Difference.difference = mba_above c.args.r.now.0 c.in-Ok-Difference.difference word.len word.good in
    let d0 = c.in-Ok-Difference.difference in
    let here = read mba_rows c.args.r.now.0 in
    record {
      within = (omega (arith, above), omega arith);
      onward = omega (arith, ap (λ (q : List Bool × ℕ). q.1) word.behind);
      no_word = λ why is. absurd (not_bad why (Mba d0) word.len here word.good is);
      stuffing = λ n is. absurd (not_stuffing d0 n word.len here word.good is);
      taken = λ format before d n due address_is is.
          record { len = word.len; good = mba-good format before c.args.r.now c.args.last d0 word.len due address_is word.good (omega arith); behind = word.behind };
    }
