-- The command was made, or given back.
use Rattle.std.proofs.Common.{refl, arith}
use Rattle.std.proofs.lemmas.Result.{err_from_is_err_and}
use Rattle.hall_core.specs.Hall.{lanes_of}
use Rattle.bridge_live.proofs.Ordering.{order-told, order-made, order-back, one-refusal, one-more-at-most}
use Rattle.bridge_live.proofs.chair.Chair.order.Goals as goal

pub returns-in_err-reply : goal.returns-in_err-reply
returns-in_err-reply g c =
    let p = err_from_is_err_and c.from_residual.result c.from_residual.ensures.1 in
    let e = c.in_err-reply.ensures in
    rw (p.1, p.2) (record {
      counts = record { at_lock = e.at_lock; few = omega arith; refused = c.requires.refused };
      orders = λ first steps heard h.
          let m = e.makes first steps h.has_made in
          (order-back (lanes_of c.args.lock.now.opening) c.args.command first steps heard c.args.self.now _ h m.0 refl, m.1);
    })

pub returns : goal.returns
returns g c =
    let e = c.in_ok-reply.ensures in
    let t = order-told c.args.command c.in_ok-reply.reply e.answer in
    let one = one-refusal _ _ c.from.result t.answer c.from.ensures c.is_refusal.ensures t.refused in
    record {
      counts = record { at_lock = e.at_lock; few = omega arith; refused = omega (arith, c.requires.refused, one, one-more-at-most t.answer) };
      orders = λ first steps heard h.
          let m = e.makes first steps h.has_made in (
            t.answer,
            order-made (lanes_of c.args.lock.now.opening) c.args.command t.answer first steps heard c.args.self.now _ h (m.1 _ t.told) refl (omega (arith, one)) refl,
            e.live,
          );
    }
