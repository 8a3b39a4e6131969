use Rattle.std.proofs.Common.{sym, ◌∙◌, refl}
use Rattle.h261_pic.proofs.Comings.{at-the-first-end}
use Rattle.h261_pic.proofs.coming.take_group_or_end.Goals as goal

pub returns-then-is_end-clause-comes : goal.returns-then-is_end-clause-comes
returns-then-is_end-clause-comes c = λ format before due.
    record { stop = at-the-first-end format before c.args.r.now due (sym c.is_end.ensures ∙ c.if-is_end.true); kept = refl }
