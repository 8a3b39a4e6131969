-- By what the line says.
use Rattle.std.proofs.Common.{refl, sym, ◌∙◌, arith}
use Rattle.hall_core.specs.Hall.{lanes_of}
use Rattle.bridge_live.proofs.Ordering.{hears-long, hears-blank, hears-command, hears-faulty}
use Rattle.bridge_live.proofs.chair.Chair.hear.Goals as goal

pub returns-then-line-ge-KEPT : goal.returns-then-line-ge-KEPT
returns-then-line-ge-KEPT g c = record {
  counts = record { at_lock = c.requires.at_lock; few = omega arith; refused = c.requires.refused };
  hears = λ whole is.
      hears-long (lanes_of c.args.lock.now.opening) c.args.line.now whole c.args.self.now _ is (omega (arith, c.if-line-ge-KEPT.true)) refl refl refl refl c.requires.live;
}

pub returns-then-not-has_words : goal.returns-then-not-has_words
returns-then-not-has_words g c = record {
  counts = record { at_lock = c.requires.at_lock; few = omega arith; refused = c.requires.refused };
  hears = λ whole is.
      hears-blank (lanes_of c.args.lock.now.opening) c.args.line.now whole c.args.self.now is (omega (arith, c.if-line-ge-KEPT.false))
      (sym c.if-not-has_words.true ∙ c.has_words.ensures) c.requires.live;
}

pub returns-in-Ok : goal.returns-in-Ok
returns-in-Ok g c = record {
  counts = c.order.ensures.counts;
  hears = λ whole is.
      hears-command (lanes_of c.args.lock.now.opening) c.args.line.now whole c.in-Ok.command c.args.self.now c.order.new.self c.order.result is
      (omega (arith, c.if-line-ge-KEPT.false)) c.in-Ok.ensures.command c.order.ensures.orders;
}

pub returns-in-Err : goal.returns-in-Err
returns-in-Err g c = record {
  counts = record { at_lock = c.requires.at_lock; few = omega arith; refused = c.requires.refused };
  hears = λ whole is.
      hears-faulty (lanes_of c.args.lock.now.opening) c.args.line.now whole c.in-Err._fault.place c.in-Err._fault.why c.args.self.now _ is
      (omega (arith, c.if-line-ge-KEPT.false)) (sym c.if-not-has_words.false ∙ c.has_words.ensures) c.in-Err.ensures.fault refl refl refl refl c.requires.live;
}
