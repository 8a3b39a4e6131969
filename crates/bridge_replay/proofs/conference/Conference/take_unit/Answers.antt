use Rattle.std.proofs.Common.{Option, subst}
use Rattle.pel_model.specs.declared.Format.TheVariants.{Qcif}
use Rattle.rtp_h261.specs.declared.depack.Unit.{Unit as Ended}
use Rattle.rtp_h261.specs.Depack.{HasUnit}
use Rattle.bridge_replay.proofs.Units.{none-goes}
use Rattle.bridge_replay.proofs.conference.Conference.take_unit.Goals as goal

pub returns-in-None : goal.returns-in-None
returns-in-None c = λ bits former has lanes history follows free.
    none-goes c.args.lane bits former c.args.spare.item.value lanes history c.args.self.now
    (subst (λ (u : Option Ended). HasUnit Qcif bits u former c.args.spare.item.value) c.in-None.is has) follows free

pub returns-in-Some : goal.returns-in-Some
returns-in-Some c = λ bits former has lanes history follows free.
    c.end_unit.ensures bits former (subst (λ (u : Option Ended). HasUnit Qcif bits u former c.args.spare.item.value) c.in-Some.is has) lanes history follows free
