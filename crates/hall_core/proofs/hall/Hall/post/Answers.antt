use Rattle.std.proofs.Common.{ℕ, ◌<◌, ◌≤◌, ◌∷◌, length, sym, subst, ◌∙◌, arith}
use Rattle.pel_model.specs.History.{Post}
use Rattle.hall_core.specs.Boxes.{IsQcifLane}
use Rattle.hall_core.specs.Fields.{hall_view}
use Rattle.hall_core.specs.Hall.{HallView}
use Rattle.hall_core.specs.Stands.{StandsFor}
use Rattle.hall_core.proofs.Boxes.{post-qcif, given-qcif}
use Rattle.hall_core.proofs.Stepping.{CountsTo, room-inside, lane-inside, lane-is, changed, hall-changed, refresh-is, post-stands}
use Rattle.hall_core.proofs.hall.Hall.post.Goals as goal

pub invariant_of-self : goal.invariant_of-self
invariant_of-self c =
    let a = c.self.inside in
    let old = c.index_mut.result.now in
    let below = lane-inside a c.args.self.now c.from.result c.args.lane c.self.view_is c.requires.lane c.from.ensures in
    let within : c.from.result < length a.lanes.items = omega (arith, below, c.self.invariant.lanes) in
    let boxes = lane-is IsQcifLane a c.from.result old within c.index_mut.ensures.value c.self.invariant.boxes in
    let count : old.count ≤ a.steps = lane-is (CountsTo a.steps) a c.from.result old within c.index_mut.ensures.value c.self.invariant.counts in
    hall-changed a c.from.result c.post.new.self c.self.invariant
    (room-inside a c.args.self.now c.self.view_is (sym c.is_over.ensures ∙ c.if-is_over.false))
    (post-qcif old c.post.new.self _ boxes c.requires.format c.post.ensures.held c.post.ensures.spares) (omega (arith, count, c.post.ensures.count))

pub returns-clause-stands : goal.returns-clause-stands
returns-clause-stands c p coded postable H stands =
    let a = c.self.inside in
    let below = lane-inside a c.args.self.now c.from.result c.args.lane c.self.view_is c.requires.lane c.from.ensures in
    subst (λ (k : ℕ). StandsFor (hall_view (changed a c.from.result c.post.new.self)) (Post k p ∷ H)) c.from.ensures
    (post-stands a H c.from.result p c.index_mut.result.now c.post.new.self c.is_refresh-refresh.result c.args.item c.self.invariant below c.index_mut.ensures.value
    c.post.ensures.held c.post.ensures.count
    (refresh-is c.deref.result.now c.is_refresh-refresh.result p c.is_refresh-refresh.ensures.refresh (c.deref.ensures ∙ coded)) coded
    (subst (λ (v : HallView). StandsFor v H) (sym c.self.view_is) stands))

pub returns-clause-format : goal.returns-clause-format
returns-clause-format c =
    let a = c.self.inside in
    let old = c.index_mut.result.now in
    let below = lane-inside a c.args.self.now c.from.result c.args.lane c.self.view_is c.requires.lane c.from.ensures in
    let within : c.from.result < length a.lanes.items = omega (arith, below, c.self.invariant.lanes) in
    given-qcif old c.post.result (lane-is IsQcifLane a c.from.result old within c.index_mut.ensures.value c.self.invariant.boxes) c.post.ensures.given
