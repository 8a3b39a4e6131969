use Rattle.std.proofs.Common.{◌<◌, length, refl, ap, ◌∙◌, arith}
use Rattle.stage_plan.specs.PerPlace.{in_place}
use Rattle.hall_core.proofs.Reserving.{empty-rings, none-taken}
use Rattle.hall_core.proofs.hall.Hall.reserve.Goals as goal

pub returns-clause-stands : goal.returns-clause-stands
returns-clause-stands c = record {
  rings = λ k below.
      let within : k < length c.loop-alloc.rings.items =
      omega (arith, below, c.new.ensures.lanes, c.loop-alloc-test.false, c.from.ensures, c.len.ensures, c.loop-alloc.rings.ok.0) in
      empty-rings c.loop-alloc.rings.items c.loop-alloc.invariant.1 k within;
  plan = c.new.ensures.stands;
  last = λ q. ap (λ f. in_place f q) c.all.ensures ∙ none-taken q;
  total = refl;
  steps = refl;
  ended = refl;
}
