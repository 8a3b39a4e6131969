use Rattle.std.proofs.Common.{◌≡◌, ℕ, ◌<◌, ◌≤◌, Some, None, length, sym, ap, ◌∙◌, arith}
use Rattle.stage_plan.specs.Places.{lane_in}
use Rattle.hall_core.specs.Boxes.{IsQcifLane}
use Rattle.hall_core.specs.Taking.{behind_take, told_in, next_in, left_in}
use Rattle.hall_core.proofs.Boxes.{take-qcif, slot-qcif}
use Rattle.hall_core.proofs.Stepping.{CountsTo, lane-is}
use Rattle.hall_core.proofs.Taking.{seated, hall-taken, with-same, told-is, left-is, behind-is}
use Rattle.hall_core.proofs.hall.Hall.take.Goals as goal

pub index_mut-requires : goal.index_mut-requires
index_mut-requires c =
    let a = c.self.inside in
    let seat : lane_in a.plan c.args.place ≡ Some c.from.result = sym c.at.ensures.lane ∙ c.in_ok-lane.was ∙ ap Some (sym c.from.ensures) in
    omega (arith, seated a c.args.place c.from.result c.self.invariant seat, c.self.invariant.lanes, a.lanes.ok.0)

pub invariant_of-self : goal.invariant_of-self
invariant_of-self c =
    let a = c.self.inside in
    let old = c.index_mut.result.now in
    let seat : lane_in a.plan c.args.place ≡ Some c.from.result = sym c.at.ensures.lane ∙ c.in_ok-lane.was ∙ ap Some (sym c.from.ensures) in
    let within : c.from.result < length a.lanes.items = omega (arith, seated a c.args.place c.from.result c.self.invariant seat, c.self.invariant.lanes) in
    let count : old.count ≤ a.steps = lane-is (CountsTo a.steps) a c.from.result old within c.index_mut.ensures.value c.self.invariant.counts in
    hall-taken a c.from.result c.take.new.self a.last c.self.invariant
    (take-qcif old c.take.new.self c.of-last.result c.args.slot.now (lane-is IsQcifLane a c.from.result old within c.index_mut.ensures.value c.self.invariant.boxes) c.requires
    c.take.ensures.held c.take.ensures.spares) (omega (arith, count, c.take.ensures.count))

pub invariant_of-self-2 : goal.invariant_of-self-2
invariant_of-self-2 c =
    let a = c.self.inside in
    let old = c.index_mut.result.now in
    let seat : lane_in a.plan c.args.place ≡ Some c.from.result = sym c.at.ensures.lane ∙ c.in_ok-lane.was ∙ ap Some (sym c.from.ensures) in
    let within : c.from.result < length a.lanes.items = omega (arith, seated a c.args.place c.from.result c.self.invariant seat, c.self.invariant.lanes) in
    let count : old.count ≤ a.steps = lane-is (CountsTo a.steps) a c.from.result old within c.index_mut.ensures.value c.self.invariant.counts in
    hall-taken a c.from.result c.take.new.self c.set.new.self c.self.invariant
    (take-qcif old c.take.new.self c.of-last.result c.args.slot.now (lane-is IsQcifLane a c.from.result old within c.index_mut.ensures.value c.self.invariant.boxes) c.requires
    c.take.ensures.held c.take.ensures.spares) (omega (arith, count, c.take.ensures.count))

-- none is taken

pub returns-in_err-serial-clause-hall : goal.returns-in_err-serial-clause-hall
returns-in_err-serial-clause-hall c =
    let a = c.self.inside in
    behind-is a c.args.place c.from.result c.of-last.result c.index_mut.result.now c.take.new.self
    (record {
      hall = c.self.invariant;
      seat = sym c.at.ensures.lane ∙ c.in_ok-lane.was ∙ ap Some (sym c.from.ensures);
      behind = c.of-last.ensures;
      here = c.index_mut.ensures.value;
      held = c.take.ensures.held;
      count = c.take.ensures.count;
    }) None a.last (sym c.in_err-serial.was ∙ c.take.ensures.serial) (with-same a.last c.args.place)
    ∙ ap (λ hall. behind_take hall c.args.place) c.self.view_is

pub returns-in_err-serial-clause-told : goal.returns-in_err-serial-clause-told
returns-in_err-serial-clause-told c =
    c.from_residual-in_err-serial.ensures
    ∙ sym (told-is c.self.inside c.args.place c.from.result c.of-last.result c.index_mut.result.now c.take.new.self
    (record {
      hall = c.self.invariant;
      seat = sym c.at.ensures.lane ∙ c.in_ok-lane.was ∙ ap Some (sym c.from.ensures);
      behind = c.of-last.ensures;
      here = c.index_mut.ensures.value;
      held = c.take.ensures.held;
      count = c.take.ensures.count;
    }) None (sym c.in_err-serial.was ∙ c.take.ensures.serial))
    ∙ ap (λ hall. told_in hall c.args.place) c.self.view_is

pub returns-in_err-serial-clause-slot : goal.returns-in_err-serial-clause-slot
returns-in_err-serial-clause-slot c =
    left-is c.self.inside c.args.place c.from.result c.of-last.result c.index_mut.result.now c.take.new.self
    (record {
      hall = c.self.invariant;
      seat = sym c.at.ensures.lane ∙ c.in_ok-lane.was ∙ ap Some (sym c.from.ensures);
      behind = c.of-last.ensures;
      here = c.index_mut.ensures.value;
      held = c.take.ensures.held;
      count = c.take.ensures.count;
    }) c.args.slot.now c.take.new.slot c.take.ensures.slot
    ∙ ap (λ hall. left_in (next_in hall c.args.place) c.args.slot.now.value) c.self.view_is

-- one is taken

pub returns-clause-hall : goal.returns-clause-hall
returns-clause-hall c =
    let a = c.self.inside in
    behind-is a c.args.place c.from.result c.of-last.result c.index_mut.result.now c.take.new.self
    (record {
      hall = c.self.invariant;
      seat = sym c.at.ensures.lane ∙ c.in_ok-lane.was ∙ ap Some (sym c.from.ensures);
      behind = c.of-last.ensures;
      here = c.index_mut.ensures.value;
      held = c.take.ensures.held;
      count = c.take.ensures.count;
    }) (Some c.in_ok-serial.serial) c.set.new.self (sym c.in_ok-serial.was ∙ c.take.ensures.serial) c.set.ensures
    ∙ ap (λ hall. behind_take hall c.args.place) c.self.view_is

pub returns-clause-told : goal.returns-clause-told
returns-clause-told c =
    ap (λ (lane : ℕ). Some (record { lane = lane; serial = c.in_ok-serial.serial })) (sym c.from.ensures)
    ∙ sym (told-is c.self.inside c.args.place c.from.result c.of-last.result c.index_mut.result.now c.take.new.self
    (record {
      hall = c.self.invariant;
      seat = sym c.at.ensures.lane ∙ c.in_ok-lane.was ∙ ap Some (sym c.from.ensures);
      behind = c.of-last.ensures;
      here = c.index_mut.ensures.value;
      held = c.take.ensures.held;
      count = c.take.ensures.count;
    }) (Some c.in_ok-serial.serial) (sym c.in_ok-serial.was ∙ c.take.ensures.serial))
    ∙ ap (λ hall. told_in hall c.args.place) c.self.view_is

pub returns-clause-slot : goal.returns-clause-slot
returns-clause-slot c =
    left-is c.self.inside c.args.place c.from.result c.of-last.result c.index_mut.result.now c.take.new.self
    (record {
      hall = c.self.invariant;
      seat = sym c.at.ensures.lane ∙ c.in_ok-lane.was ∙ ap Some (sym c.from.ensures);
      behind = c.of-last.ensures;
      here = c.index_mut.ensures.value;
      held = c.take.ensures.held;
      count = c.take.ensures.count;
    }) c.args.slot.now c.take.new.slot c.take.ensures.slot
    ∙ ap (λ hall. left_in (next_in hall c.args.place) c.args.slot.now.value) c.self.view_is

pub returns-clause-format : goal.returns-clause-format
returns-clause-format c =
    let a = c.self.inside in
    let old = c.index_mut.result.now in
    let seat : lane_in a.plan c.args.place ≡ Some c.from.result = sym c.at.ensures.lane ∙ c.in_ok-lane.was ∙ ap Some (sym c.from.ensures) in
    let within : c.from.result < length a.lanes.items = omega (arith, seated a c.args.place c.from.result c.self.invariant seat, c.self.invariant.lanes) in
    slot-qcif old c.of-last.result c.args.slot.now c.take.new.slot
    (lane-is IsQcifLane a c.from.result old within c.index_mut.ensures.value c.self.invariant.boxes) c.requires c.take.ensures.slot
