use Rattle.std.proofs.Common.{sym, w8, rules}
use Rattle.std.proofs.lemmas.Int.{to_z-of_z}
use Rattle.pel_model.specs.Walk.{after}
use Rattle.h261_mb.proofs.Taken.{header-taken}
use Rattle.h261_mb.proofs.ahead.take_header.Goals as goal

pub returns-clause-walk : goal.returns-clause-walk
returns-clause-walk c = λ before stands.
    let first = c.in_ok-front.ensures.walk c.args.format before c.args.group stands in
    let began = after before first.elements in
    let vector = c.in_ok-h.ensures.walk began first.wanted.begun in
    let moved = vector.wanted.moved in
    let cbp = c.in_ok-pattern.ensures c.args.format (after began vector.elements) (record { due = moved.due; kind_is = moved.kind_is; to_come = moved.blocks_are }) in
    header-taken c.args.format before c.args.group c.args.state.now.address c.in_ok-front.front c.in_ok-h.h c.in_ok-h.v _ _ c.in_ok-pattern.pattern c.args.w.now c.take_front.new.w c.take_vector.new.w c.take_pattern.new.w (sym (to_z-of_z w8 c.in_ok-h.h (search rules))) (sym (to_z-of_z w8 c.in_ok-h.v (search rules))) first vector cbp
