-- By how the source ended.
use Rattle.std.proofs.Common.{Ok, refl, subst, sym}
use Rattle.rtp_wire.specs.declared.frames.FrameEnd.{FrameEnd}
use Rattle.rtp_wire.specs.declared.frames.FrameEnd.TheVariants.{Cut, Fault, Limit}
use Rattle.bridge_live.specs.declared.ends.LaneStop.TheVariants.{Whole}
use Rattle.bridge_live.specs.Posting.{ClosesLane}
use Rattle.bridge_live.proofs.Giving.{closes-none, closes-gap}
use Rattle.bridge_live.proofs.lane.Lane.close.Goals as goal

pub returns-in-End : goal.returns-in-End
returns-in-End g c = subst (λ (e : FrameEnd). ClosesLane c.args.lock.now e c.args.self.now c.args.self.now Whole) (sym c.in-End.is) (closes-none c.args.lock.now c.args.self.now c.requires)

pub returns-in-Cut : goal.returns-in-Cut
returns-in-Cut g c = rw c.in-Cut.is (closes-gap (Cut c.in-Cut.place) c.args.lock.now c.args.self.now c.gap.new.self c.gap.result c.stop_after.result refl c.gap.ensures c.stop_after.ensures)

pub returns-in-Fault : goal.returns-in-Fault
returns-in-Fault g c = rw c.in-Fault.is (closes-gap Fault c.args.lock.now c.args.self.now c.gap-in-Fault.new.self c.gap-in-Fault.result c.stop_after-in-Fault.result refl c.gap-in-Fault.ensures c.stop_after-in-Fault.ensures)

pub returns-in-Limit : goal.returns-in-Limit
returns-in-Limit g c = rw c.in-Limit.is (closes-gap Limit c.args.lock.now c.args.self.now c.gap-in-Limit.new.self c.gap-in-Limit.result c.stop_after-in-Limit.result refl c.gap-in-Limit.ensures c.stop_after-in-Limit.ensures)
