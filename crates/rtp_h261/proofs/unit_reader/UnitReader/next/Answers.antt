-- What the framer answers is fed.
use Rattle.std.proofs.Common.{rules, Ok, Err, refl, ap, subst}
use Rattle.rtp_h261.specs.Depack.{Held, Feeds}
use Rattle.rtp_h261.specs.UnitReader.{UnitReading}
use Rattle.rtp_h261.proofs.unit_reader.UnitReader.next.Goals as goal

pub returns-in-Ok : goal.returns-in-Ok
returns-in-Ok g c = record {
  answer = Ok c.in-Ok.packet.now;
  framed = search rules;
  fed =
      subst (λ (d : Held). Feeds c.in-Ok.packet.now c.feed.result d c.feed.new.self c.args.into.now c.feed.new.into)
      (ap (λ (r : UnitReading). r.depack) c.self.view_is) c.feed.ensures;
}

pub returns-in-Err : goal.returns-in-Err
returns-in-Err g c = record {
  answer = Err c.in-Err.end;
  framed = search rules;
  fed = (refl, ap (λ (r : UnitReading). r.depack) c.self.view_is, refl);
}
