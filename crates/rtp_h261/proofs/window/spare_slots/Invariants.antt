use Rattle.std.proofs.Common.{◌≤◌, ◌-◌, vec_len, vec_capacity}
use Rattle.rtp_h261.proofs.window.spare_slots.Given as goal

abbrev pub invariant-loop-alloc : goal.invariant-loop-alloc
invariant-loop-alloc l = (vec_len l.spare ≤ 33) × (33 ≤ vec_capacity l.spare)

abbrev pub decreases-loop-alloc : goal.decreases-loop-alloc
decreases-loop-alloc l = 33 - vec_len l.spare
