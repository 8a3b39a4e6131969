use Rattle.std.proofs.Common.{◌≡◌, ◌+◌, ◌-◌, ◌*◌, ◌≤◌, sym, ◌∙◌, ap, subst, ℕ, slice_index, arith, length, length-append}
use Rattle.h261_pic.specs.Coded.{Coding, grown, next_number}
use Rattle.h261_pic.specs.Sound.{written}
use Rattle.h261_pic.proofs.Grows.{quant-fits, marks-fit}
use Rattle.h261_pic.proofs.GrownFields.{few_groups, MayGrow, may-grow, header-room, IsGrown, sound-grown}
use Rattle.pel_bits.specs.Buffer.{Buffer}
use Rattle.pel_model.specs.Valid.{group_numbers, group_count}
use Rattle.h261_pic.proofs.coded.Coded.add_group.Goals as goal
use Rattle.h261_pic.specs.Adding.{bits_at}

pub push_group_header-requires-clause-quant_fits : goal.push_group_header-requires-clause-quant_fits
push_group_header-requires-clause-quant_fits c = quant-fits _ _ c.args.quant (bits_at c.args.source.now c.args.marks.now) c.args.marks.now c.requires.text

pub append_macroblocks-requires-clause-room : goal.append_macroblocks-requires-clause-room
append_macroblocks-requires-clause-room c =
    let bits = bits_at c.args.source.now c.args.marks.now in
    let may : MayGrow (written c.self.inside) c.args.quant bits c.args.marks.now =
    may-grow (written c.self.inside) c.args.self.now c.args.quant bits c.args.marks.now c.self.view_is
    c.requires.begun c.requires.next c.requires.room c.requires.text c.self.invariant.marks c.self.invariant.room in
    (header-room c.self.inside.format c.self.inside.text c.push_group_header.new.text c.group_number-number.result c.args.quant c.self.inside.groups.items bits
    c.push_group_header.ensures c.self.invariant.capacity may.next may.room).0

pub append_macroblocks-requires-clause-places : goal.append_macroblocks-requires-clause-places
append_macroblocks-requires-clause-places c =
    let bits = bits_at c.args.source.now c.args.marks.now in
    let few = marks-fit c.args.self.now.format (next_number c.args.self.now) c.args.quant bits c.args.marks.now c.requires.text in
    let next : length c.self.inside.groups.items + 1 ≤ group_count c.self.inside.format =
    subst (λ (k : Coding). length k.groups + 1 ≤ group_count k.format) (sym c.self.view_is) (omega (arith, c.requires.next)) in
    omega (arith, few_groups c.self.inside.format, c.self.invariant.marks)

pub overflow_cast-marks : goal.overflow_cast-marks
overflow_cast-marks c =
    let bits = bits_at c.args.source.now c.args.marks.now in
    omega (arith, marks-fit c.args.self.now.format (next_number c.args.self.now) c.args.quant bits c.args.marks.now c.requires.text)

-- the fields have grown by the group
grows : (c : goal.After-push) → IsGrown c.self.inside.format c.self.inside.tr c.append_macroblocks.new.text c.push.new.self.items c.append_macroblocks.new.marks.items
    × (let k : Coding = record { format = c.self.inside.format; tr = c.self.inside.tr; bits = c.append_macroblocks.new.text.list; groups = c.push.new.self.items; marks = c.append_macroblocks.new.marks.items } in
    k ≡ grown (written c.self.inside) c.args.quant (bits_at c.args.source.now c.args.marks.now) c.args.marks.now)
grows c =
    let bits = bits_at c.args.source.now c.args.marks.now in
    let may : MayGrow (written c.self.inside) c.args.quant bits c.args.marks.now =
    may-grow (written c.self.inside) c.args.self.now c.args.quant bits c.args.marks.now c.self.view_is
    c.requires.begun c.requires.next c.requires.room c.requires.text c.self.invariant.marks c.self.invariant.room in
    let len_is : c.len-2.result - c.len-from.result ≡ length bits =
    omega (arith, c.len-2.ensures, c.len-from.ensures, ap (λ (b : Buffer). length b.list) c.append_macroblocks.ensures.text, length-append c.push_group_header.new.text.list bits) in
    sound-grown c.self.inside.format c.self.inside.tr c.self.inside.text c.push_group_header.new.text c.append_macroblocks.new.text
    c.self.inside.groups.items c.push.new.self.items c.self.inside.marks.items c.append_macroblocks.new.marks.items c.args.marks.now
    c.group_number-number.result c.args.quant c.len-from.result (c.len-2.result - c.len-from.result) c.len-first_mark.result (length c.args.marks.now) bits
    (may, c.self.invariant.picture may.begun)
    c.push_group_header.ensures c.append_macroblocks.ensures.text c.append_macroblocks.ensures.marks c.push.ensures.items
    (c.group_number-number.ensures ∙ ap (λ (n : ℕ). slice_index (group_numbers c.self.inside.format) n) c.len.ensures.value)
    c.len-from.ensures len_is c.len-first_mark.ensures.value (omega arith) c.self.invariant.capacity

pub invariant_of-self : goal.invariant_of-self
invariant_of-self c =
    let g = (grows c).0 in
    record {
      capacity = g.capacity;
      within = g.within;
      groups = g.count;
      room = λ _. g.room;
      marks = g.marks;
      picture = λ _. g.picture;
      empty = λ none. absurd (omega (arith, g.begun, ap length none));
    }

pub returns : goal.returns
returns c = (grows c).1 ∙ ap (λ (k : Coding). grown k c.args.quant (bits_at c.args.source.now c.args.marks.now) c.args.marks.now) c.self.view_is
