use Rattle.std.proofs.Common.{◌≡◌, ℕ, Bool, true, cond, List, [], ◌∷◌, Result, Ok, Err, refl, ap, sym, ◌∙◌}
use Rattle.pel_model.specs.declared.Fault.{Fault}
use Rattle.pel_model.specs.declared.Format.{Format}
use Rattle.pel_model.specs.declared.MbKind.{MbKind}
use Rattle.pel_model.specs.Codes.{has_mquant}
use Rattle.pel_model.specs.Walk.{Takes, Walked}
use Rattle.pel_model.specs.Grammar.{Element, Mtype, Mquant, slot, AtMquant, vector_slot, may_end, next}
use Rattle.h261_mb.specs.Inside.{StaysInside}
use Rattle.h261_mb.specs.Parts.{IsMquant}
use Rattle.h261_mb.proofs.Steps.{fails_here}
use Rattle.h261_mb.proofs.Taken.{some_mquant-taken}
use Rattle.h261_mb.proofs.front.read_mquant.Goals as goal

taken : (format : Format) (before : List Element) (kind : MbKind) (last : ℕ) (old new : List Bool × ℕ) (result : Result ℕ Fault) → Takes Mquant (next format (Mtype kind ∷ before) old) result old new → slot (Mtype kind ∷ before) ≡ AtMquant → Walked (next format) (Mtype kind ∷ before) (IsMquant kind last before) (StaysInside (Mtype kind ∷ before)) result old new
taken format before kind last old new (Ok q) took due = some_mquant-taken format before kind last q old new took
taken format before kind last old new (Err f) took due =
    fails_here (next format) (Mtype kind ∷ before) (StaysInside (Mtype kind ∷ before)) old old new [] f refl (tt, ap may_end due) took.bad took.place took.kept

pub returns-then-has_mquant-clause-walk : goal.returns-then-has_mquant-clause-walk
returns-then-has_mquant-clause-walk c = λ format before.
    let coded : has_mquant c.args.kind ≡ true = sym c.has_mquant.ensures ∙ c.if-has_mquant.true in
    let due = ap (λ (b : Bool). cond b AtMquant (vector_slot c.args.kind)) coded in
    taken format before c.args.kind c.args.last c.args.r.now c.take_mquant.new.r c.take_mquant.result (c.take_mquant.ensures.taken format (Mtype c.args.kind ∷ before) due) due
