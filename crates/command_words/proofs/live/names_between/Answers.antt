use Rattle.std.proofs.Common.{List, Some, ◌≡◌, ◌∙◌, map, sym, ap, rules, arith, ◌++◌}
use Rattle.command_words.specs.Names.{between_commas, names_in}
use Rattle.command_words.specs.Options.{Text}
use Rattle.command_words.proofs.Parts.{next_part, last_part, with_more, refused_part, more_read, all_names}
use Rattle.command_words.proofs.Jobs.{passed_on}
use Rattle.command_words.proofs.live.names_between.Goals as goal

pub loop-name-preserved : goal.loop-name-preserved
loop-name-preserved c =
    let text = c.args.text.now in
    let front = map (λ n. n.now) c.loop-name.names.items in
    let cut = c.in-Some.ensures.byte (omega arith) (λ w o f. f) in
    let here = next_part text c.loop-name.rest.now c.in-Some.name.now c.in-Some.more.now front c.loop-name.invariant.0 cut.0 cut.1 cut.2 in
    let added = c.in_ok-push_name.ensures in (
      with_more text c.in-Some.more.now c.in-Some.name.now front here ∙ ap (λ ns. ns ++ between_commas c.in-Some.more.now) (sym added.2),
      more_read c.loop-name.names.items _ c.in-Some.name.now c.loop-name.invariant.1 added.0 added.1 added.2,
      search rules,
    )

pub returns-in_err-push_name : goal.returns-in_err-push_name
returns-in_err-push_name c =
    let text = c.args.text.now in
    let cut = c.in-Some.ensures.byte (omega arith) (λ w o f. f) in
    let here = next_part text c.loop-name.rest.now c.in-Some.name.now c.in-Some.more.now (map (λ n. n.now) c.loop-name.names.items)
    c.loop-name.invariant.0 cut.0 cut.1 cut.2 in
    passed_on (λ (read : List Text). names_in (Some text) ≡ Some read) c.from_residual.result _ c.from_residual.ensures.1
    (refused_part text c.in-Some.name.now c.loop-name.names.items _ _ here c.in_err-push_name.ensures)

pub returns-in_err-push_name-2 : goal.returns-in_err-push_name-2
returns-in_err-push_name-2 c =
    let text = c.args.text.now in
    let none = c.in_default.ensures.byte (omega arith) (λ w o f. f) in
    let here = last_part text c.loop-name.rest.now (map (λ n. n.now) c.loop-name.names.items) c.loop-name.invariant.0 none in
    passed_on (λ (read : List Text). names_in (Some text) ≡ Some read) c.from_residual-in_err-push_name-2.result _ c.from_residual-in_err-push_name-2.ensures.1
    (refused_part text c.loop-name.rest.now c.loop-name.names.items _ _ here c.in_err-push_name-2.ensures)

pub returns : goal.returns
returns c =
    let text = c.args.text.now in
    let none = c.in_default.ensures.byte (omega arith) (λ w o f. f) in
    let here = last_part text c.loop-name.rest.now (map (λ n. n.now) c.loop-name.names.items) c.loop-name.invariant.0 none in
    let added = c.in_ok-push_name-2.ensures in
    let is = c.new.ensures in
    all_names text c.new.result (here ∙ sym (is ∙ added.2))
    (more_read c.loop-name.names.items c.new.result c.loop-name.rest.now c.loop-name.invariant.1 added.0 added.1 (is ∙ added.2))
