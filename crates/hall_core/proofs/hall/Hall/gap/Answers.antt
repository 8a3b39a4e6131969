use Rattle.std.proofs.Common.{rules, ℕ, ◌<◌, ◌≤◌, ◌∷◌, length, sym, ap, subst, ◌∙◌, arith}
use Rattle.pel_model.specs.History.{Gap}
use Rattle.hall_core.specs.Boxes.{IsQcifLane}
use Rattle.hall_core.specs.Fields.{hall_view}
use Rattle.hall_core.specs.Hall.{HallView}
use Rattle.hall_core.specs.Stands.{StandsFor}
use Rattle.hall_core.proofs.Boxes.{same-qcif}
use Rattle.hall_core.proofs.Stepping.{CountsTo, room-inside, lane-inside, lane-is, changed, hall-changed, gap-stands}
use Rattle.hall_core.proofs.hall.Hall.gap.Goals as goal

pub invariant_of-self : goal.invariant_of-self
invariant_of-self c =
    let a = c.self.inside in
    let old = c.index_mut.result.now in
    let below = lane-inside a c.args.self.now c.from.result c.args.lane c.self.view_is c.requires c.from.ensures in
    let within : c.from.result < length a.lanes.items = omega (arith, below, c.self.invariant.lanes) in
    let boxes = lane-is IsQcifLane a c.from.result old within c.index_mut.ensures.value c.self.invariant.boxes in
    let count : old.count ≤ a.steps = lane-is (CountsTo a.steps) a c.from.result old within c.index_mut.ensures.value c.self.invariant.counts in
    hall-changed a c.from.result c.gap.new.self c.self.invariant
    (room-inside a c.args.self.now c.self.view_is (sym c.is_over.ensures ∙ c.if-is_over.false))
    (same-qcif old c.gap.new.self boxes (ap (λ l. l.held) c.gap.ensures.counts) (ap (λ l. l.spares) c.gap.ensures.counts)) (omega (arith, count, ap (λ l. l.count) c.gap.ensures.counts))

pub returns : goal.returns
returns c = record {
  ended = search rules;
  kept = search rules;
  same = search rules;
  stands = λ H stands.
      let a = c.self.inside in
      let below = lane-inside a c.args.self.now c.from.result c.args.lane c.self.view_is c.requires c.from.ensures in
      subst (λ (k : ℕ). StandsFor (hall_view (changed a c.from.result c.gap.new.self)) (Gap k ∷ H)) c.from.ensures
      (gap-stands a H c.from.result c.index_mut.result.now c.gap.new.self c.self.invariant below c.index_mut.ensures.value
      (ap (λ l. l.held) c.gap.ensures.counts) (ap (λ l. l.count) c.gap.ensures.counts) (subst (λ (v : HallView). StandsFor v H) (sym c.self.view_is) stands));
  legal = search rules;
}
