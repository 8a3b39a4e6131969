-- What the unit gives.
use Rattle.std.proofs.Common.{Option, subst}
use Rattle.rtp_h261.specs.declared.depack.Unit.{Unit as Ending}
use Rattle.bridge_live.specs.Posting.{AreUnitSteps}
use Rattle.bridge_live.proofs.Giving.{posts-nothing}
use Rattle.bridge_live.proofs.lane.Lane.take_unit.Goals as goal

pub end_unit-requires-clause-gives : goal.end_unit-requires-clause-gives
end_unit-requires-clause-gives g c =
    let gives = c.requires.gives in
    (gives.0, subst (λ (u : Option Ending). AreUnitSteps c.args.self.now.number u c.args.item.item.value gives.0) c.in-Some.is gives.1)

pub returns-in-Some : goal.returns-in-Some
returns-in-Some g c = λ more is.
    c.end_unit.ensures more (subst (λ (u : Option Ending). AreUnitSteps c.args.self.now.number u c.args.item.item.value more) c.in-Some.is is)

pub returns-in-None : goal.returns-in-None
returns-in-None g c = λ more is.
    let none = subst (λ (u : Option Ending). AreUnitSteps c.args.self.now.number u c.args.item.item.value more) c.in-None.is is in
    rw none (posts-nothing c.args.lock.now c.args.self.now c.args.item c.requires.ready)
