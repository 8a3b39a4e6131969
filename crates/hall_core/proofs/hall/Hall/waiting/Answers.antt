use Rattle.std.proofs.Common.{◌≡◌, ℕ, ◌+◌, ◌<◌, ◌^◌, sym, ap, subst, ◌∙◌, arith}
use Rattle.hall_core.proofs.Waiting.{waiting_below, with-bit, without-bit, small-bit}
use Rattle.hall_core.proofs.hall.Hall.waiting.Goals.{then-is_waited_for, else-is_waited_for}
use Rattle.hall_core.proofs.hall.Hall.waiting.Goals as goal

pub loop-lane-preserved : goal.loop-lane-preserved
loop-lane-preserved c =
    let hall = c.args.self.now in
    let n = c.loop-lane.lane in
    elim c.if-is_waited_for.branch [
      | then-is_waited_for w ↦
          subst (λ (k : ℕ). (k ≡ waiting_below hall (n + 1)) × (k < 2 ^ (n + 1)))
          (sym (w.waiting-is ∙ ap (λ (k : ℕ). c.loop-lane.waiting + k) (small-bit n (omega (arith, c.loop-lane-test.true, c.len-lane-end.ensures, c.self.invariant.lanes, c.self.invariant.most, c.self.inside.lanes.ok.0)))))
          (with-bit hall n c.loop-lane.waiting c.loop-lane.invariant.0 c.loop-lane.invariant.1 (sym c.is_waited_for.ensures ∙ w.if-is_waited_for.true))
      | else-is_waited_for w ↦
          subst (λ (k : ℕ). (k ≡ waiting_below hall (n + 1)) × (k < 2 ^ (n + 1))) (sym w.waiting-is)
          (without-bit hall n c.loop-lane.waiting c.loop-lane.invariant.0 c.loop-lane.invariant.1 (sym c.is_waited_for.ensures ∙ w.if-is_waited_for.false))
    ]
