use Rattle.std.proofs.Common.{◌≡◌, ◌≢◌, ℕ, Bool, true, cond, List, ◌∷◌, Option, Some, None, IfSome, sym, ◌∙◌, ap}
use Rattle.pel_model.specs.declared.Format.{Format}
use Rattle.pel_model.specs.declared.MbKind.{MbKind}
use Rattle.pel_model.specs.Codes.{has_mquant}
use Rattle.pel_model.specs.Walk.{Reading, read, IsTaken, AreTaken}
use Rattle.pel_model.specs.Grammar.{Element, Mtype, Mquant, slot, AtMquant, vector_slot, field_rows, next}
use Rattle.h261_mb.specs.Parts.{IsMquant}
use Rattle.h261_mb.proofs.Taken.{mquant-taken, some_mquant-taken}
use Rattle.h261_mb.proofs.ahead.take_mquant.Goals as goal

by_answer : (k : MbKind) (last : ℕ) (old new : Reading) (result : Option ℕ) → has_mquant k ≡ true → IfSome result (λ q. IsTaken (read (field_rows 5 Mquant) old.0) (Mquant q) old new) → IfSome result (λ q. q ≢ 0) → IfSome result (λ q. (format : Format) (before : List Element) → AreTaken (next format) (Mtype k ∷ before) (IsMquant k last before q) old new)
by_answer k last old new None coded took some = took
by_answer k last old new (Some q) coded took some = λ format before.
    let due : slot (Mtype k ∷ before) ≡ AtMquant = ap (λ (b : Bool). cond b AtMquant (vector_slot k)) coded in
    some_mquant-taken format before k last q old new (mquant-taken format (Mtype k ∷ before) q old new due some took)

pub returns-then-has_mquant : goal.returns-then-has_mquant
returns-then-has_mquant c =
    by_answer c.args.kind c.args.last c.args.w.now c.mquant.new.self c.mquant.result (sym c.has_mquant.ensures ∙ c.if-has_mquant.true) c.mquant.ensures.taken c.mquant.ensures.some
