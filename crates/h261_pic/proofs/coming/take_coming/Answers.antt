use Rattle.std.proofs.Common.{sym, ◌∙◌, refl}
use Rattle.h261_pic.proofs.Comings.{at-the-end, stuffing-comes}
use Rattle.h261_pic.proofs.coming.take_coming.Goals as goal

pub returns-then-is_end : goal.returns-then-is_end
returns-then-is_end c = λ format before due.
    record { stop = at-the-end format before c.args.r.now due (sym c.is_end.ensures ∙ c.if-is_end.true); kept = refl }

pub returns-in-Ok-Stuffing : goal.returns-in-Ok-Stuffing
returns-in-Ok-Stuffing c = λ format before due.
    let word = rw (c.copy-ahead.ensures, c.in-Ok-Stuffing.field-0-is) at c.in-Ok-Stuffing.ensures in
    record { len = word.len; good = stuffing-comes format before c.args.r.now due (sym c.is_end.ensures ∙ c.if-is_end.false) word.len word.good; behind = word.behind }
