use Rattle.std.proofs.Common.{ℕ, None, replicate, ap, rules, ◌∙◌}
use Rattle.bridge_replay.proofs.Reserving.{nothing-told}
use Rattle.bridge_replay.proofs.account.Account.reserve.Goals as goal

pub returns : goal.returns
returns c =
    nothing-told c.args.lanes _ c.in_ok-reserve.ensures.lanes c.in_ok-reserve.ensures.limit c.in_ok-reserve.ensures.stands c.in_ok-depacks.ensures
    (c.in_ok-arrivals.ensures.items_if_clones_equal (λ y is. search rules) ∙ ap (λ (n : ℕ). replicate n 0) c.from-2.ensures)
    (c.in_ok-lasts.ensures.items_if_clones_equal (λ y is. search rules) ∙ ap (λ (n : ℕ). replicate n None) c.from.ensures)
    c.in_ok-reserve-2.ensures.one c.in_ok-reserve-2.ensures.two c.in_ok-reserve-2.ensures.three c.in_ok-reserve-2.ensures.four
