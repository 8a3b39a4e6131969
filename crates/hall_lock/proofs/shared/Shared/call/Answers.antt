use Rattle.std.proofs.Common.{rules, ap, ◌∙◌, arith}
use Rattle.hall_lock.proofs.Asked.{turn_taken, order_taken}
use Rattle.hall_lock.proofs.Waiting.{has_box}
use Rattle.hall_lock.proofs.shared.Shared.call.Goals as goal

pub make_turn-requires-clause-turn : goal.make_turn-requires-clause-turn
make_turn-requires-clause-turn g c = record {
  at = search rules;
  turning = search rules;
  fits_word = search rules;
  has_box = has_box g.M.Machine.shape g.M.Machine.fits g.M.Machine.steps _ _ _ c.wait_turn.ensures.told;
}

pub invariant_of-seat-2 : goal.invariant_of-seat-2
invariant_of-seat-2 g c = record {
  rest = c.make_turn.ensures.passed.rest;
  order = order_taken g.M.Machine.shape g.M.Machine.fits g.M.Machine.steps g.met.M.Machine.keeps_shape c.seat.inside.seat.me c.draw_ticket.new.seat.me c.wait_turn.new.seat.me c.make_turn.new.seat.me
      c.in-Some.ticket _ c.seat.invariant.order c.in-Some.ensures.drawn.0 c.wait_turn.ensures.told c.make_turn.ensures.passed.told.1;
}

pub returns-clause-seat : goal.returns-clause-seat
returns-clause-seat g c = record {
  is_of = search rules;
  order = order_taken g.M.Machine.shape g.M.Machine.fits g.M.Machine.steps g.met.M.Machine.keeps_shape c.seat.inside.seat.me c.draw_ticket.new.seat.me c.wait_turn.new.seat.me c.make_turn.new.seat.me
      c.in-Some.ticket _ c.seat.invariant.order c.in-Some.ensures.drawn.0 c.wait_turn.ensures.told c.make_turn.ensures.passed.told.1;
  own = c.make_turn.ensures.passed.rest.own;
}

pub returns-clause-turn : goal.returns-clause-turn
returns-clause-turn g c =
    turn_taken g.M.Machine.shape g.M.Machine.fits g.M.Machine.steps g.met.M.Machine.keeps_shape c.seat.inside.seat.table_id c.make_turn.new.seat.table_id c.args.self.now c.args.seat.now
    c.seat.inside.seat.me c.draw_ticket.new.seat.me c.wait_turn.new.seat.me c.make_turn.new.seat.me c.in-Some.ticket c.args.call c.make_turn.result
    c.seat.view_is (c.make_turn.ensures.passed.told.0.0 ∙ (c.wait_turn.ensures.same.0 ∙ c.draw_ticket.ensures.same.0)) c.requires.seat c.seat.invariant.order c.in-Some.ensures.drawn.2
    (omega (arith, c.in-Some.ensures.drawn.1, ap (λ l. l.turns) c.self.view_is)) c.in-Some.ensures.drawn.0 c.wait_turn.ensures.told c.make_turn.ensures.passed.told.1 c.make_turn.ensures.led
