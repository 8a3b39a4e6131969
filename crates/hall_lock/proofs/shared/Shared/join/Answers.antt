use Rattle.std.proofs.Common.{rules}
use Rattle.hall_lock.proofs.Joined.{taken_in, order_joined}
use Rattle.hall_lock.proofs.shared.Shared.join.Goals as goal

pub invariant_of-seat : goal.invariant_of-seat
invariant_of-seat g c = record {
  rest = c.glue.ensures.rest;
  order = order_joined c.seat.inside.seat.me c.other.inside.seat.me c.glue.new.seat.me c.glue.ensures.told.1 c.seat.invariant.order;
}

pub returns-clause-seat : goal.returns-clause-seat
returns-clause-seat g c = record {
  is_of = search rules;
  order = order_joined c.seat.inside.seat.me c.other.inside.seat.me c.glue.new.seat.me c.glue.ensures.told.1 c.seat.invariant.order;
  own = c.glue.ensures.rest.own;
}

pub returns-clause-takes : goal.returns-clause-takes
returns-clause-takes g c =
    taken_in c.seat.inside.seat.table_id c.glue.new.seat.table_id c.other.inside.seat.table_id c.args.seat.now c.args.other
    c.seat.inside.seat.me c.other.inside.seat.me c.glue.new.seat.me c.seat.view_is c.other.view_is c.glue.ensures.told.0.0 c.glue.ensures.told.1 c.glue.ensures.line
