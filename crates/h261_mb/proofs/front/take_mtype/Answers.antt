use Rattle.std.proofs.Common.{ℕ, Bool, List, ap, arith}
use Rattle.pel_model.specs.Codes.{mtype_table}
use Rattle.pel_model.specs.Walk.{read}
use Rattle.pel_model.specs.Grammar.{Mtype, AtMtype, table_rows}
use Rattle.h261_mb.proofs.Slots.{no_word, at-mtype}
use Rattle.h261_mb.proofs.Taken.{mtype-taken}
use Rattle.h261_mb.proofs.front.take_mtype.Goals as goal

pub returns-in-Ok : goal.returns-in-Ok
returns-in-Ok c = record {
  onward = omega (arith, ap (λ (q : List Bool × ℕ). q.1) c.in-Ok.ensures.behind);
  taken = λ format before due.
      mtype-taken format before c.in-Ok.kind c.args.r.now c.mtype.new.r due c.in-Ok.ensures;
}

pub returns-in-Err : goal.returns-in-Err
returns-in-Err c = record {
  onward = tt;
  taken = λ format before due.
      let word = c.in-Err.ensures in
      record { bad = no_word format before c.args.r.now AtMtype (read (table_rows mtype_table Mtype) c.args.r.now.0) due (at-mtype c.args.r.now.0) c.in-Err.why word.bad; place = c.place-place.ensures; kept = word.kept };
}
