-- A hall behind a command of the chair.
use Rattle.std.proofs.Common.{◌≡◌, ℕ, ◌+◌, ◌<◌, cond, Option, None, Some, List, ◌∷◌, map, slice_get, sym, ap, subst, ◌∙◌, arith}
use Rattle.pel_model.specs.declared.Quad.{Quad}
use Rattle.pel_model.specs.declared.chair.Command.{Command}
use Rattle.pel_model.specs.declared.chair.Reply.{Reply}
use Rattle.pel_model.specs.History.{Order, History, commands}
use Rattle.pel_model.specs.Plan.{changed as is_changed}
use Rattle.pel_model.specs.Takes.{last_taken}
use Rattle.stage_plan.specs.Places.{PlanView, IsPlanOf}
use Rattle.stage_plan.specs.PerPlace.{in_place}
use Rattle.stage_plan.specs.declared.per_place.PerPlace.{PerPlace}
use Rattle.hall_core.specs.declared.hall.Hall.TheInside.{Inside}
use Rattle.hall_core.specs.Boxes.{ring_of}
use Rattle.hall_core.specs.Fields.{hall_view, IsHall}
use Rattle.hall_core.specs.Stands.{ring_behind, StandsFor}

abbrev pub ordered : Inside → PlanView → PerPlace (Option ℕ) → Inside
ordered a plan last = record {
  lanes = a.lanes;
  plan = plan;
  last = last;
  total = a.total;
  steps = a.steps + 1;
  limit = a.limit;
  ended = a.ended;
}

pub hall-ordered : (a : Inside) (command : Command) (plan : PlanView) (last : PerPlace (Option ℕ)) → IsHall a → a.steps < a.limit →
    plan.lanes ≡ a.plan.lanes → ((cs : List Command) → IsPlanOf a.plan cs → IsPlanOf plan (command ∷ cs)) → IsHall (ordered a plan last)
hall-ordered a command plan last is room lanes follows = record {
  lanes = is.lanes ∙ sym lanes;
  most = omega (arith, is.most, lanes);
  ordered = (command ∷ is.ordered.0, follows is.ordered.0 is.ordered.1);
  boxes = is.boxes;
  counts = λ k d l. omega (arith, is.counts k d l);
  within = omega (arith, room);
  limit = is.limit;
  total = omega (arith, is.total);
}

pub order-stands : (a : Inside) (H : History) (command : Command) (reply : Reply) (plan : PlanView) (last : PerPlace (Option ℕ)) →
    plan.lanes ≡ a.plan.lanes → IsPlanOf plan (command ∷ commands H) →
    ((q : Quad) → in_place last q ≡ cond (is_changed plan.lanes (command ∷ commands H) q) None (in_place a.last q)) →
    StandsFor (hall_view a) H → StandsFor (hall_view (ordered a plan last)) (Order command reply ∷ H)
order-stands a H command reply plan last lanes follows lasts stands = record {
  rings = subst (λ (n : ℕ). (c : ℕ) → c < n → slice_get (map ring_of a.lanes.items) c ≡ Some (ring_behind n H c)) (sym lanes) stands.rings;
  plan = follows;
  last = λ q. lasts q ∙ ap (λ l. cond (is_changed plan.lanes (command ∷ commands H) q) None l)
      (stands.last q ∙ ap (λ n. last_taken n H q) (sym lanes));
  total = stands.total;
  steps = omega (arith, stands.steps);
  ended = stands.ended;
}
