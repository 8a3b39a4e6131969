use Rattle.std.proofs.Common.{◌∙◌, ap}
use Rattle.hall_lock.proofs.Ends.{closes, not_empty, closed_so}
use Rattle.hall_lock.proofs.shared.Shared.close.Goals as goal

pub unreachable-requires : goal.unreachable-requires
unreachable-requires g c =
    let rest = c.seat.invariant.rest in
    let whole = ap (λ s. s.share) c.seat.view_is ∙ c.requires.whole in
    let end = closes g.M.Machine.shape g.M.Machine.fits g.M.Machine.steps _ _ _ _ _ _ rest.live rest.no_ticket rest.waits whole c.close_with-closed.ensures.values.2 in
    not_empty _ _ _ c.take.ensures.value end.slot c.in_default.is

pub returns-clause-closes : goal.returns-clause-closes
returns-clause-closes g c =
    let rest = c.seat.invariant.rest in
    let whole = ap (λ s. s.share) c.seat.view_is ∙ c.requires.whole in
    let end = closes g.M.Machine.shape g.M.Machine.fits g.M.Machine.steps _ _ _ _ _ _ rest.live rest.no_ticket rest.waits whole c.close_with-closed.ensures.values.2 in
    closed_so g.M.Machine.shape g.M.Machine.fits g.M.Machine.steps _ c.args.self c.args.seat _ _ c.seat.inside.seat.me.0 c.word-turns.result c.take.result c.in-Some.machine
    c.seat.view_is c.requires.seat end c.word-turns.ensures c.take.ensures.value c.in-Some.is
