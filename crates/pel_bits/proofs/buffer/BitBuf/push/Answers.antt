use Rattle.std.proofs.Common.{◌≡◌, ℕ, ◌+◌, length, ap, sym, refl, ◌∙◌, arith, length-append}
use Rattle.std.specs.Vec.{with_items}
use Rattle.std.proofs.lemmas.List.{with_items_is}
use Rattle.pel_bits.specs.Bits.{field}
use Rattle.pel_bits.specs.Buffer.{Buffer}
use Rattle.pel_bits.proofs.Fields.{length-field}
use Rattle.pel_bits.proofs.OctetBits.{length-front}
use Rattle.pel_bits.proofs.RunBits.{now-filled, now-holds, holding}
use Rattle.pel_bits.proofs.buffer.BitBuf.push.Goals as goal

pub overflow_add-self : goal.overflow_add-self
overflow_add-self c =
    let b = c.self.inside in
    let front = length-front b.octets.items b.len (omega arith) in
    let len : length c.args.self.now.list ≡ b.len = rw (← c.self.view_is) front in
    let room : c.args.self.now.capacity ≡ b.capacity = rw (← c.self.view_is) refl in
    omega (arith, c.requires.room)

pub invariant_of-self : goal.invariant_of-self
invariant_of-self c =
    let b = c.self.inside in
    let front = length-front b.octets.items b.len (omega arith) in
    let len : length c.args.self.now.list ≡ b.len = rw (← c.self.view_is) front in
    let room : c.args.self.now.capacity ≡ b.capacity = rw (← c.self.view_is) refl in
    let written : (with_items b.octets c.put.new.octets).items ≡ c.put.new.octets =
    with_items_is b.octets c.put.new.octets (c.put.auto.octets ∙ (ap length c.deref_mut.ensures.value ∙ sym b.octets.ok.0)) in
    let stored = rw (c.deref_mut.ensures.value, c.from.ensures) at c.put.ensures in
    rw written (omega (arith, c.requires.room), omega arith, omega (arith, ap length written), now-filled c.put.new.octets _ _ b.len c.args.width front (length-field c.args.value c.args.width) stored)

pub returns-clause-value : goal.returns-clause-value
returns-clause-value c =
    let b = c.self.inside in
    let front = length-front b.octets.items b.len (omega arith) in
    let written : (with_items b.octets c.put.new.octets).items ≡ c.put.new.octets =
    with_items_is b.octets c.put.new.octets (c.put.auto.octets ∙ (ap length c.deref_mut.ensures.value ∙ sym b.octets.ok.0)) in
    let stored = rw (c.deref_mut.ensures.value, c.from.ensures) at c.put.ensures in
    rw (← c.self.view_is, written) (ap (λ t. holding t b.capacity) (now-holds c.put.new.octets _ _ b.len c.args.width front (length-field c.args.value c.args.width) stored))

pub returns-clause-long : goal.returns-clause-long
returns-clause-long c =
    ap (λ (b : Buffer). length b.list) (returns-clause-value c)
    ∙ (length-append c.args.self.now.list (field c.args.value c.args.width)
    ∙ ap (λ (n : ℕ). length c.args.self.now.list + n) (length-field c.args.value c.args.width))
