use Rattle.std.proofs.Common.{sym, ◌∙◌, ap}
use Rattle.pel_model.specs.Grammar.{in_range}
use Rattle.h261_mb.proofs.Vectors.{near, second_value, sum_is, chosen, none_chosen}
use Rattle.h261_mb.proofs.vector.component.Goals as goal

pub returns-then-in_range-2-clause-value : goal.returns-then-in_range-2-clause-value
returns-then-in_range-2-clause-value c =
    let first = sum_is c.args.last c.args.values.0 c.requires.near c.requires.first.0 c.requires.first.1 in
    let second = sum_is c.args.last c.args.values.1 c.requires.near c.requires.second.0 c.requires.second.1 in
    let not_first = ap in_range (sym first) ∙ (sym c.in_range.ensures ∙ c.if-in_range.false) in
    chosen _ _ (second ∙ sym (second_value c.args.last c.args.values not_first)) (sym c.in_range-else-in_range.ensures ∙ c.if-in_range-2.true)

pub returns-then-in_range-2-clause-near : goal.returns-then-in_range-2-clause-near
returns-then-in_range-2-clause-near c =
    near _ (sym c.in_range-else-in_range.ensures ∙ c.if-in_range-2.true)

pub returns-else-in_range-2-clause-value : goal.returns-else-in_range-2-clause-value
returns-else-in_range-2-clause-value c =
    let first = sum_is c.args.last c.args.values.0 c.requires.near c.requires.first.0 c.requires.first.1 in
    let second = sum_is c.args.last c.args.values.1 c.requires.near c.requires.second.0 c.requires.second.1 in
    let not_first = ap in_range (sym first) ∙ (sym c.in_range.ensures ∙ c.if-in_range.false) in
    none_chosen _ _ (second ∙ sym (second_value c.args.last c.args.values not_first)) (sym c.in_range-else-in_range.ensures ∙ c.if-in_range-2.false)
