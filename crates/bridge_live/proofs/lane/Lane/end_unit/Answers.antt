-- By what the unit is.
use Rattle.std.proofs.lemmas.Result.{err_from_is_err_and}
use Rattle.std.proofs.Common.{Some, List, sym, subst}
use Rattle.pel_model.specs.History.{Step}
use Rattle.rtp_h261.specs.declared.depack.Unit.{Unit as Ending}
use Rattle.bridge_live.specs.declared.qcif.QcifBox.{QcifBox}
use Rattle.bridge_live.specs.Posting.{AreUnitSteps, Posts}
use Rattle.bridge_live.proofs.Giving.{posts-ok, posts-err}
use Rattle.bridge_live.proofs.lane.Lane.end_unit.Goals as goal

pub post-requires-clause-holds : goal.post-requires-clause-holds
post-requires-clause-holds g c =
    let gives = c.requires.gives in
    let one = subst (λ (u : Ending). AreUnitSteps c.args.self.now.number (Some u) c.args.item.item.value gives.0) c.in-Picture.is gives.1 in
    (one.0, one.1, one.2)

pub returns-in_err-gap-in-Gap : goal.returns-in_err-gap-in-Gap
returns-in_err-gap-in-Gap g c = λ more is.
    let p = err_from_is_err_and c.from_residual.result c.from_residual.ensures.1 in
    let only = subst (λ (u : Ending). AreUnitSteps c.args.self.now.number (Some u) c.args.item.item.value more) c.in-Gap.is is in
    rw (p.1, p.2, only) (posts-err {V = QcifBox} _ _ _ _ _ c.in_err-gap-in-Gap.ensures)

pub returns-in-Picture : goal.returns-in-Picture
returns-in-Picture g c = λ more is.
    let one = subst (λ (u : Ending). AreUnitSteps c.args.self.now.number (Some u) c.args.item.item.value more) c.in-Picture.is is in
    subst (λ (xs : List Step). Posts c.args.lock.now xs c.args.self.now c.post.new.self c.post.result) (sym one.3) (c.post.ensures one.0 one.1)

pub returns-in_ok-gap-in-Gap : goal.returns-in_ok-gap-in-Gap
returns-in_ok-gap-in-Gap g c = λ more is.
    let only = subst (λ (u : Ending). AreUnitSteps c.args.self.now.number (Some u) c.args.item.item.value more) c.in-Gap.is is in
    rw only (posts-ok _ _ _ _ _ _ c.in_ok-gap-in-Gap.ensures)
