use Rattle.std.proofs.Common.{rules, ◌∷◌, sym, ap, ◌∙◌, Some}
use Rattle.atomic_table.specs.Table.{rest}
use Rattle.hall_lock.proofs.steps.take_out.Goals as goal

pub exchange-requires : goal.exchange-requires
exchange-requires g c = let held = c.requires in (search rules, (Some held.0, held.1.holds ∙ ap (λ cs. (0, Some held.0) ∷ cs) (sym (ap rest held.1.holds))))
