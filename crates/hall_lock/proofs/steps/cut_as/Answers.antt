use Rattle.std.proofs.Common.{rules, ◌<◌, ◌≤◌, sym, subst, ℕ}
use Rattle.hall_lock.proofs.Sharing.{cuts}
use Rattle.hall_lock.proofs.steps.cut_as.Goals as goal

pub split_seat-requires : goal.split_seat-requires
split_seat-requires g c = let rest = c.requires.rest.rest in (
  search rules,
  search rules,
  cuts g.M.Machine.shape g.M.Machine.fits g.M.Machine.steps _ _ _ _ _ rest.live rest.no_ticket rest.waits
      (subst (λ (n : ℕ). 1 ≤ n) (sym c.requires.picked) c.requires.part.0) (subst (λ (n : ℕ). n < c.args.seat.now.me.0.share) (sym c.requires.picked) c.requires.part.1),
)
