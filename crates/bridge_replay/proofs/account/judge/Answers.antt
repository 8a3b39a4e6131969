use Rattle.std.proofs.Common.{ℕ, Some, ◌≡◌, length, slice_get, slice_set, refl, sym, ap, subst, ◌∙◌, arith}
use Rattle.std.proofs.lemmas.Option.{slice_get_read}
use Rattle.bridge_replay.specs.Recounting.{Judges}
use Rattle.bridge_replay.proofs.Accounts.{none-where, judged-last, judged-idle}
use Rattle.bridge_replay.proofs.account.judge.Goals as goal

pub returns-then-is_none : goal.returns-then-is_none
returns-then-is_none c lanes entries lasts below =
    let items = c.args.lasts.now.items in
    let lane = c.args.lane in
    let there : slice_get items lane ≡ Some c.index.result.now =
    ap (slice_get items) (sym c.from.ensures)
    ∙ slice_get_read items (length items) c.from.result c.index.result.now refl (omega (arith, below, lasts.count, c.from.ensures)) c.index.ensures in
    subst (λ (k : ℕ). Judges lane c.args.packet.now items (slice_set items k c.number_of-number.result) c.idle_behind-idle.result lanes entries) (sym c.from-then-is_none.ensures)
    (judged-last lanes entries items lane c.args.packet.now c.index.result.now c.number_of-number.result c.idle_behind-idle.result lasts below there
    c.number_of-number.ensures c.idle_behind-idle.ensures (none-where c.idle_behind-idle.result c.is_none.result c.is_none.ensures ∙ c.if-is_none.true))

pub returns-else-is_none : goal.returns-else-is_none
returns-else-is_none c lanes entries lasts below =
    let items = c.args.lasts.now.items in
    let lane = c.args.lane in
    let there : slice_get items lane ≡ Some c.index.result.now =
    ap (slice_get items) (sym c.from.ensures)
    ∙ slice_get_read items (length items) c.from.result c.index.result.now refl (omega (arith, below, lasts.count, c.from.ensures)) c.index.ensures in
    judged-idle lanes entries items lane c.args.packet.now c.index.result.now c.number_of-number.result c.idle_behind-idle.result lasts below there
    c.number_of-number.ensures c.idle_behind-idle.ensures (none-where c.idle_behind-idle.result c.is_none.result c.is_none.ensures ∙ c.if-is_none.false)
