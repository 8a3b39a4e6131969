-- The lanes, the chair and the mixer have their workers.
use Rattle.std.proofs.Common.{◌≡◌, ◌∙◌, ◌+◌, ◌∷◌, ◌++◌, [], arith, sym, subst, length, ap, ℕ}
use Rattle.std.proofs.lemmas.List.{append_assoc}
use Rattle.bridge_live.specs.declared.worker.Worker.TheVariants.{Chair, Mixer}
use Rattle.bridge_live.specs.Lining.{Opens, seat_behind}
use Rattle.bridge_live.proofs.crew.line_up.Goals as goal

pub next_seat-requires : goal.next_seat-requires
next_seat-requires g c =
    (length c.args.lanes.items, omega (arith, c.requires.reserved.few), c.line_lanes.ensures.lines.seat_is)

pub next_seat-requires-2 : goal.next_seat-requires-2
next_seat-requires-2 g c =
    let n = length c.args.lanes.items in
    (n + 1, omega (arith, c.requires.reserved.few), c.next_seat.ensures.left n c.line_lanes.ensures.lines.seat_is)

pub returns-clause-lined_up : goal.returns-clause-lined_up
returns-clause-lined_up g c =
    let n = length c.args.lanes.items in
    let lock = c.args.reserved.lock in
    let r = c.requires.reserved in
    let lines = c.line_lanes.ensures.lines in
    let chair = c.chair_worker-chair.result in
    let mixer = c.mix_worker-mixer.result in
    let left = c.next_seat-2.ensures.left (n + 1) (c.next_seat.ensures.left n lines.seat_is) in
    record {
      opens = r.opens;
      seat = subst (λ k. c.next_seat-2.new.seat ≡ seat_behind lock k) (omega arith) left;
      up = c.line_lanes.new.workers.items;
      chair_worker = chair;
      mixer = mixer;
      in_line = c.push_reserved-2.ensures.items ∙ ap (λ ws. ws ++ Mixer mixer ∷ []) c.push_reserved.ensures.items
          ∙ append_assoc c.line_lanes.new.workers.items (Chair chair ∷ []) (Mixer mixer ∷ []);
      lanes_up = lines.up;
      chair_up = c.chair_worker-chair.ensures lock c.next_seat.ensures.new;
      mix_up = c.mix_worker-mixer.ensures lock (record {
        seat_is = c.next_seat-2.ensures.new;
        opens = subst (λ (k : ℕ). Opens k lock) (sym r.opens.lanes_are) r.opens;
        usable = r.usable;
        seq = c.requires.seq;
        qcif = r.hand;
      });
      ends = r.lists.ends;
      ends_room = r.lists.ends_room;
    }
