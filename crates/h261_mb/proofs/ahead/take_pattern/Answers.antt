use Rattle.std.proofs.Common.{◌≡◌, ℕ, true, false, List, Option, Some, None, IfSome, sym, ◌∙◌}
use Rattle.pel_model.specs.declared.Format.{Format}
use Rattle.pel_model.specs.declared.MbKind.{MbKind}
use Rattle.pel_model.specs.Codes.{is_intra, has_cbp, cbp_table}
use Rattle.pel_model.specs.Walk.{Reading, read, IsTaken, AreTaken}
use Rattle.pel_model.specs.Grammar.{Element, Cbp, table_rows, next}
use Rattle.h261_mb.specs.Parts.{IsPattern, PatternIsDue}
use Rattle.h261_mb.proofs.Words.{cbp_within}
use Rattle.h261_mb.proofs.Taken.{cbp_due, cbp-taken, some_cbp-taken}
use Rattle.h261_mb.proofs.ahead.take_pattern.Goals as goal

by_answer : (k : MbKind) (old new : Reading) (result : Option ℕ) → is_intra k ≡ false → has_cbp k ≡ true → IfSome result (λ n. IsTaken (read (table_rows cbp_table Cbp) old.0) (Cbp n) old new) → IfSome result (λ n. (format : Format) (before : List Element) → PatternIsDue k before → AreTaken (next format) before (IsPattern k before n) old new)
by_answer k old new None other coded took = took
by_answer k old new (Some n) other coded took = λ format before is.
    some_cbp-taken format before k n old new other coded is.kind_is (cbp_within old.0 n took.len took.good) (cbp-taken format before n old new (cbp_due format before k coded is.due) took)

pub returns-then-has_cbp : goal.returns-then-has_cbp
returns-then-has_cbp c =
    by_answer c.args.kind c.args.w.now c.cbp.new.self c.cbp.result (sym c.is_intra.ensures ∙ c.if-is_intra.false) (sym c.has_cbp.ensures ∙ c.if-has_cbp.true) c.cbp.ensures
