use Rattle.std.proofs.Common.{rules, ◌≡◌, Bool, false, cond, None, List, ◌∷◌, get_or, sym, ap, subst, ◌∙◌}
use Rattle.pel_model.specs.declared.Quad.TheVariants.{One, Two, Three, Four}
use Rattle.stage_plan.specs.PerPlace.{in_place}
use Rattle.pel_model.specs.History.{commands}
use Rattle.pel_model.specs.Plan.{changed}
use Rattle.hall_core.specs.Hall.{HallView}
use Rattle.hall_core.specs.Stands.{StandsFor}
use Rattle.hall_core.proofs.Orders.{hall-ordered, order-stands}
use Rattle.hall_core.proofs.Stepping.{room-inside}
use Rattle.hall_core.proofs.hall.Hall.command.Goals as goal

pub invariant_of-self : goal.invariant_of-self
invariant_of-self c =
    hall-ordered c.self.inside c.args.command c.apply-reply.new.self _ c.self.invariant
    (room-inside c.self.inside c.args.self.now c.self.view_is (sym c.is_over.ensures ∙ c.if-is_over.false))
    c.apply-reply.ensures.lanes c.apply-reply.ensures.stands

pub returns : goal.returns
returns c = record {
  ended = search rules;
  kept = search rules;
  same = search rules;
  stands = λ H stands.
      let stood = subst (λ (v : HallView). StandsFor v H) (sym c.self.view_is) stands in
      let follows = c.apply-reply.ensures.stands (commands H) stood.plan in
      let tells = c.changed-changed.ensures.stands (c.args.command ∷ commands H) follows in
      let last = c.self.inside.last in
      order-stands c.self.inside H c.args.command c.apply-reply.result c.apply-reply.new.self _ c.apply-reply.ensures.lanes follows
      (λ q. elim q as (λ q. in_place (record { one = c.kept_unless.result; two = c.kept_unless-2.result; three = c.kept_unless-3.result; four = c.kept_unless-4.result }) q
      ≡ cond (changed c.apply-reply.new.self.lanes (c.args.command ∷ commands H) q) None (in_place last q)) [
        | One ↦ c.kept_unless.ensures ∙ ap (λ (bs : List Bool). cond (get_or bs 0 false) None last.one) tells
        | Two ↦ c.kept_unless-2.ensures ∙ ap (λ (bs : List Bool). cond (get_or bs 1 false) None last.two) tells
        | Three ↦ c.kept_unless-3.ensures ∙ ap (λ (bs : List Bool). cond (get_or bs 2 false) None last.three) tells
        | Four ↦ c.kept_unless-4.ensures ∙ ap (λ (bs : List Bool). cond (get_or bs 3 false) None last.four) tells
      ])
      stood;
  legal = search rules;
}
