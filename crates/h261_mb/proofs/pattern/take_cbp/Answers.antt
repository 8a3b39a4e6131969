use Rattle.std.proofs.Common.{ℕ, Bool, List, ap, arith}
use Rattle.pel_model.specs.Codes.{cbp_table}
use Rattle.pel_model.specs.Walk.{read}
use Rattle.pel_model.specs.Grammar.{Cbp, AtCbp, table_rows}
use Rattle.h261_mb.proofs.Slots.{no_word, at-cbp}
use Rattle.h261_mb.proofs.Words.{cbp_within}
use Rattle.h261_mb.proofs.Taken.{cbp-taken}
use Rattle.h261_mb.proofs.pattern.take_cbp.Goals as goal

pub returns-in-Ok-clause-read : goal.returns-in-Ok-clause-read
returns-in-Ok-clause-read c = record {
  onward = omega (arith, ap (λ (q : List Bool × ℕ). q.1) c.in-Ok.ensures.behind);
  taken = λ format before due.
      cbp-taken format before c.in-Ok.pattern c.args.r.now c.cbp.new.r due c.in-Ok.ensures;
}

pub returns-in-Ok-clause-six : goal.returns-in-Ok-clause-six
returns-in-Ok-clause-six c =
    let word = c.in-Ok.ensures in
    cbp_within c.args.r.now.0 c.in-Ok.pattern word.len word.good

pub returns-in-Err-clause-read : goal.returns-in-Err-clause-read
returns-in-Err-clause-read c = record {
  onward = tt;
  taken = λ format before due.
      let word = c.in-Err.ensures in
      record { bad = no_word format before c.args.r.now AtCbp (read (table_rows cbp_table Cbp) c.args.r.now.0) due (at-cbp c.args.r.now.0) c.in-Err.why word.bad; place = c.place-place.ensures; kept = word.kept };
}
