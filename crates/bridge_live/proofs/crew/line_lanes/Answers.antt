-- A lane more has its worker.
use Rattle.std.proofs.Common.{◌≡◌, ◌∷◌, ◌++◌, arith, subst, length}
use Rattle.std.proofs.lemmas.Grind.{common_steps}
use Rattle.std.proofs.lemmas.List.Elements.{All-rest}
use Rattle.bridge_live.specs.Lining.{IsKit, LaneUp, LinesUp}
use Rattle.bridge_live.proofs.Crews.{lines-push, lines-few, lines-below}
use Rattle.bridge_live.proofs.crew.line_lanes.Goals as goal

pub next_seat-requires : goal.next_seat-requires
next_seat-requires g c =
    let lines = c.loop-kit.invariant.lines in
    (length c.loop-kit.workers.items, omega (arith, lines-few _ _ _ _ _ lines, c.requires.few), lines.seat_is)

pub loop-kit-preserved : goal.loop-kit-preserved
loop-kit-preserved g c =
    let i = c.loop-kit.invariant in
    let source = c.in-Some-pop_front.source in
    let lock = c.args.lock.now in
    let worker = c.lane_worker-worker.result in
    let n = length c.loop-kit.workers.items in
    let lines = subst (λ xs. LinesUp lock c.args.lanes.items xs c.loop-kit.workers.items c.loop-kit.seat) c.in-Some-pop_front.ensures.items i.lines in
    let taken : c.loop-kit.kit-iterator.rest.items ≡ c.in-Some.kit ∷ c.next.new.self.rest.items = grind (arith, common_steps) in
    let number : c.len-number.result ≡ n = grind (arith, common_steps) in
    record {
      kits = All-rest IsKit c.in-Some.kit c.next.new.self.rest.items c.loop-kit.kit-iterator.rest.items taken i.kits;
      number = grind (arith, common_steps);
      lines = lines-push lock c.args.lanes.items c.pop_front.new.self.items c.loop-kit.workers.items c.push_reserved.new.self.items
          c.loop-kit.seat c.next_seat.new.seat source worker lines
          (subst (λ k. LaneUp lock k source worker) number
          (c.lane_worker-worker.ensures lock c.next_seat.ensures.new (omega (arith, number, lines-below _ _ _ _ _ _ lines, c.requires.lanes_are))))
          (c.next_seat.ensures.left n i.lines.seat_is)
          c.push_reserved.ensures.items;
      room = grind (arith, common_steps);
    }
