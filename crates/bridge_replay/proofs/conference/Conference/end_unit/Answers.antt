use Rattle.std.proofs.Common.{◌≤◌, length, Some, subst}
use Rattle.h261_pic.specs.Coded.{Coding}
use Rattle.pel_model.specs.Valid.{limit}
use Rattle.pel_model.specs.declared.Format.TheVariants.{Qcif}
use Rattle.rtp_h261.specs.declared.depack.Unit.{Unit as Ended}
use Rattle.rtp_h261.specs.Depack.{HasUnit}
use Rattle.bridge_replay.proofs.Units.{picture-goes, gap-goes}
use Rattle.bridge_replay.proofs.conference.Conference.end_unit.Goals as goal

pub returns-in-Picture : goal.returns-in-Picture
returns-in-Picture c = λ bits former has lanes history follows free.
    picture-goes c.args.lane bits former c.args.spare.item.value lanes history c.args.self.now c.receive.new.self
    (subst (λ (u : Ended). HasUnit Qcif bits (Some u) former c.args.spare.item.value) c.in-Picture.is has)
    (subst (λ (b : Coding). length b.bits ≤ limit b.format) c.deref.ensures c.tells_length.ensures.within) c.receive.ensures follows free

pub returns-in-Gap : goal.returns-in-Gap
returns-in-Gap c = λ bits former has lanes history follows free.
    gap-goes c.args.lane bits c.in-Gap._fault former c.args.spare.item.value lanes history c.args.self.now c.lose.new.self
    (subst (λ (u : Ended). HasUnit Qcif bits (Some u) former c.args.spare.item.value) c.in-Gap.is has) c.lose.ensures follows free
