-- The loss comes before the unit.
use Rattle.std.proofs.lemmas.Result.{err_from_is_err_and}
use Rattle.bridge_live.specs.declared.qcif.QcifBox.{QcifBox}
use Rattle.bridge_live.specs.Posting.{lost_steps}
use Rattle.bridge_live.proofs.Giving.{fewer, posts-short, posts-then, may-still}
use Rattle.bridge_live.proofs.lane.Lane.give.Goals as goal

pub lose-requires : goal.lose-requires
lose-requires g c = fewer c.args.lock.now c.args.self.now c.requires.ready

pub take_unit-requires-clause-ready : goal.take_unit-requires-clause-ready
take_unit-requires-clause-ready g c = may-still c.args.lock.now c.args.self.now.number c.args.fed.lost c.args.self.now c.lose.new.self (tt {0}) c.requires.ready c.in_ok-lose.ensures

pub take_unit-requires-clause-gives : goal.take_unit-requires-clause-gives
take_unit-requires-clause-gives g c =
    let is = c.requires.gives.1 in (is.unit, rw c.lose.ensures.number is.is_unit)

pub returns-in_err-lose : goal.returns-in_err-lose
returns-in_err-lose g c = λ more is.
    let p = err_from_is_err_and c.from_residual.result c.from_residual.ensures.1 in
    rw (p.1, p.2, is.order) (posts-short {V = QcifBox} c.args.lock.now (lost_steps c.args.self.now.number c.args.fed.lost) is.unit c.args.self.now _ c.in_err-lose.field-0.0
    c.in_err-lose.ensures)

pub returns : goal.returns
returns g c = λ more is.
    rw is.order (posts-then c.args.lock.now (lost_steps c.args.self.now.number c.args.fed.lost) is.unit c.args.self.now c.lose.new.self c.take_unit.new.self _ c.take_unit.result
    c.in_ok-lose.ensures (c.take_unit.ensures is.unit (rw c.lose.ensures.number is.is_unit)))
