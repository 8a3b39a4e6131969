use Rattle.std.proofs.Common.{sym, ◌∙◌}
use Rattle.lane_ring.proofs.Draining.{draining_more, rest_taken, rest_none}
use Rattle.lane_ring.proofs.Rising.{arrivals-tick}
use Rattle.lane_ring.proofs.lane.Lane.take.Goals as goal

pub loop-held-preserved : goal.loop-held-preserved
loop-held-preserved g c = (
  c.loop-held.invariant.0,
  draining_more c.args.last c.args.self.now c.loop-held.self-inside c.in-Some.held _ _ c.loop-held.invariant.1
      (sym c.pop_front.ensures.value ∙ c.in-Some.is) c.pop_front.ensures.items c.keep-in-Some.ensures
      (sym c.may_follow.ensures ∙ c.if-may_follow.false),
)

pub returns-then-may_follow-clause-arrivals : goal.returns-then-may_follow-clause-arrivals
returns-then-may_follow-clause-arrivals g c low es h =
    let draining = c.loop-held.invariant.1 in
    arrivals-tick c.args.self.now _ low es c.args.last
    (rest_taken c.args.last c.args.self.now c.loop-held.self-inside c.in-Some.held c.pop_front.new.self draining
    (sym c.pop_front.ensures.value ∙ c.in-Some.is) c.pop_front.ensures.items (sym c.may_follow.ensures ∙ c.if-may_follow.true))
    (sym draining.same_count) h

pub returns-clause-arrivals : goal.returns-clause-arrivals
returns-clause-arrivals g c low es h =
    let draining = c.loop-held.invariant.1 in
    arrivals-tick c.args.self.now _ low es c.args.last
    (rest_none c.args.last c.args.self.now c.loop-held.self-inside c.pop_front.new.self draining
    (sym c.pop_front.ensures.value ∙ c.in_default.is) c.pop_front.ensures.items)
    (sym draining.same_count) h
