use Rattle.std.proofs.Common.{◌≡◌, ℕ, ◌&&◌, Bool, true, false, Option, Some, None, eqb, get_or, sym, ap, ap₂, ◌∙◌, arith}
use Rattle.std.proofs.lemmas.Bool.Decides.{nat_tests}
use Rattle.std.specs.Option.{option_eq}
use Rattle.pel_model.specs.Plan.{is_lane}
use Rattle.stage_plan.specs.PerPlace.{in_place}
use Rattle.stage_plan.specs.Places.{lane_in}
use Rattle.hall_core.specs.Boxes.{ring_of}
use Rattle.hall_core.specs.Fields.{hall_view}
use Rattle.hall_core.specs.Taking.{ring_in, is_ring_at_loss, is_waited_at}
use Rattle.hall_core.proofs.Taking.{seated, ring-inside}
use Rattle.hall_core.proofs.hall.Hall.is_waited_for_in.Goals as goal

seat-is : (lane : Option ℕ) (c : ℕ) → option_eq eqb lane (Some c) ≡ true → lane ≡ Some c
seat-is None c e = absurd (no e)
  where
    no : false ≡ true → Prim.⊥
    no f = cc
seat-is (Some d) c e = let same : d ≡ c = grind (arith, nat_tests) in ap Some same

itself : (c : ℕ) → is_lane c (Some c) ≡ true
itself c = grind (arith, nat_tests)

pub index-requires : goal.index-requires
index-requires c =
    let a = c.self.inside in
    let seat : lane_in a.plan c.args.place ≡ Some c.args.lane = sym c.at.ensures.lane ∙ seat-is c.at.result c.args.lane (sym c.eq.ensures ∙ c.if-eq.true) in
    omega (arith, seated a c.args.place c.args.lane c.self.invariant seat, c.from.ensures, c.self.invariant.lanes, a.lanes.ok.0)

pub returns-then-eq : goal.returns-then-eq
returns-then-eq c =
    let a = c.self.inside in
    let seat : lane_in a.plan c.args.place ≡ Some c.args.lane = sym c.at.ensures.lane ∙ seat-is c.at.result c.args.lane (sym c.eq.ensures ∙ c.if-eq.true) in
    let ring : ring_in (hall_view a) c.args.lane ≡ ring_of c.index.result.now =
    ring-inside a c.args.lane c.index.result.now c.self.invariant (seated a c.args.place c.args.lane c.self.invariant seat)
    (c.index.ensures ∙ ap (λ (i : ℕ). get_or a.lanes.items i c.index.result.now) c.from.ensures) in
    let here : is_lane c.args.lane (lane_in a.plan c.args.place) ≡ true = ap (is_lane c.args.lane) seat ∙ itself c.args.lane in
    c.is_at_loss.ensures ∙ ap₂ is_ring_at_loss c.of.ensures (sym ring)
    ∙ sym (ap (λ (b : Bool). b && is_ring_at_loss (in_place a.last c.args.place) (ring_in (hall_view a) c.args.lane)) here)
    ∙ ap (λ hall. is_waited_at hall c.args.lane c.args.place) c.self.view_is
