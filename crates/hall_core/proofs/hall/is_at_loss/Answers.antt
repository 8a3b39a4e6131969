use Rattle.std.proofs.Common.{◌≡◌, ℕ, ◌+◌, ◌<◌, ◌==◌, ◌&&◌, not, nat_lt, Bool, true, sym, ap, ◌∙◌, arith}
use Rattle.std.proofs.lemmas.Bool.Decides.{nat_tests}
use Rattle.std.specs.List.{list_any}
use Rattle.h261_pic.specs.Coded.{Coding}
use Rattle.pel_model.specs.declared.held.Held.{Held}
use Rattle.hall_core.specs.Boxes.{value_of, ring_of}
use Rattle.hall_core.specs.Taking.{is_ring_at_loss}
use Rattle.hall_core.proofs.Waiting.{held-serial}
use Rattle.hall_core.proofs.hall.is_at_loss.Goals as goal

under-count : (last count n : ℕ) → last < n → n ≡ count → nat_lt last count ≡ true
under-count last count n below is = grind (arith, nat_tests)

pub returns-then-last-count : goal.returns-then-last-count
returns-then-last-count c =
    let lane = c.args.lane.now in
    let given = under-count c.in-Some.last lane.count c.count.result c.if-last-count.true c.count.ensures in
    ap not (c.holds.ensures ∙ sym (held-serial value_of (c.in-Some.last + 1) lane.held))
    ∙ sym (ap (λ last. is_ring_at_loss last (ring_of lane)) c.in-Some.is
    ∙ ap (λ (b : Bool). b && not (list_any (λ (h : Held Coding). h.serial == c.in-Some.last + 1) (ring_of lane).held)) given)
