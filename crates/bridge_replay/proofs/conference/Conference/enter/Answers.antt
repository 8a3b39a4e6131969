use Rattle.std.proofs.Common.{◌∷◌, refl, sym, ap, subst}
use Rattle.bridge_replay.specs.UnderWay.{Entered}
use Rattle.conf_file.specs.declared.answers.Entry.{Entry}
use Rattle.conf_file.specs.Entries.{Chair}
use Rattle.conf_file.specs.Reading.{content_of}
use Rattle.pel_model.specs.declared.chair.Reply.{Reply}
use Rattle.pel_model.specs.History.{Order}
use Rattle.bridge_replay.proofs.Units.{step-enters}
use Rattle.bridge_replay.proofs.conference.Conference.enter.Goals as goal

pub returns-in-Order : goal.returns-in-Order
returns-in-Order g c = λ p first u free.
    let made = c.order.ensures in
    let follows = made.1.follows p.lanes p.history u.follows in
    let now = g.K.Sink.tells c.args.sink.now in
    subst (λ (e : Entry). Entered p (content_of e) c.order.new.self first now) (sym c.in-Order.is)
    (step-enters p (Chair c.in-Order.command) (Order c.in-Order.command made.0) c.args.self.now c.order.new.self first now u follows
    made.1.beside made.1.hand (ap (λ (r : Reply). Order c.in-Order.command r ∷ p.history) follows.legal.2) (λ n. refl) refl free.going)
