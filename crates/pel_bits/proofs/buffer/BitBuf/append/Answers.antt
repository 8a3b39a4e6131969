use Rattle.std.proofs.Common.{◌≡◌, length, ap, sym, refl, ◌∙◌, arith, length-append}
use Rattle.std.specs.Vec.{with_items}
use Rattle.std.proofs.lemmas.List.{with_items_is}
use Rattle.pel_bits.specs.Buffer.{Buffer}
use Rattle.pel_bits.proofs.OctetBits.{length-front}
use Rattle.pel_bits.proofs.RunBits.{now-filled, now-holds, holding}
use Rattle.pel_bits.proofs.buffer.BitBuf.append.Goals as goal

pub copy_to-requires-clause-room : goal.copy_to-requires-clause-room
copy_to-requires-clause-room c =
    let b = c.self.inside in
    let front = length-front b.octets.items b.len (omega arith) in
    let len : length c.args.self.now.list ≡ b.len = rw (← c.self.view_is) front in
    let room : c.args.self.now.capacity ≡ b.capacity = rw (← c.self.view_is) refl in
    omega (arith, c.requires, ap length c.deref_mut.ensures.value)

pub copy_to-requires-clause-small : goal.copy_to-requires-clause-small
copy_to-requires-clause-small c =
    let b = c.self.inside in
    let front = length-front b.octets.items b.len (omega arith) in
    let len : length c.args.self.now.list ≡ b.len = rw (← c.self.view_is) front in
    let room : c.args.self.now.capacity ≡ b.capacity = rw (← c.self.view_is) refl in
    omega (arith, c.requires)

pub overflow_add-self : goal.overflow_add-self
overflow_add-self c =
    let b = c.self.inside in
    let front = length-front b.octets.items b.len (omega arith) in
    let len : length c.args.self.now.list ≡ b.len = rw (← c.self.view_is) front in
    let room : c.args.self.now.capacity ≡ b.capacity = rw (← c.self.view_is) refl in
    omega (arith, c.requires)

pub invariant_of-self : goal.invariant_of-self
invariant_of-self c =
    let b = c.self.inside in
    let front = length-front b.octets.items b.len (omega arith) in
    let len : length c.args.self.now.list ≡ b.len = rw (← c.self.view_is) front in
    let room : c.args.self.now.capacity ≡ b.capacity = rw (← c.self.view_is) refl in
    let written : (with_items b.octets c.copy_to.new.octets).items ≡ c.copy_to.new.octets =
    with_items_is b.octets c.copy_to.new.octets (c.copy_to.auto.octets ∙ (ap length c.deref_mut.ensures.value ∙ sym b.octets.ok.0)) in
    let stored = rw c.deref_mut.ensures.value at c.copy_to.ensures in
    rw (written, c.len-len.ensures) (omega (arith, c.requires), omega arith, omega (arith, ap length written), now-filled c.copy_to.new.octets _ c.args.bits b.len (length c.args.bits) front refl stored)

pub returns-clause-value : goal.returns-clause-value
returns-clause-value c =
    let b = c.self.inside in
    let front = length-front b.octets.items b.len (omega arith) in
    let written : (with_items b.octets c.copy_to.new.octets).items ≡ c.copy_to.new.octets =
    with_items_is b.octets c.copy_to.new.octets (c.copy_to.auto.octets ∙ (ap length c.deref_mut.ensures.value ∙ sym b.octets.ok.0)) in
    let stored = rw c.deref_mut.ensures.value at c.copy_to.ensures in
    rw (← c.self.view_is, written, c.len-len.ensures) (ap (λ t. holding t b.capacity) (now-holds c.copy_to.new.octets _ c.args.bits b.len (length c.args.bits) front refl stored))

pub returns-clause-long : goal.returns-clause-long
returns-clause-long c =
    ap (λ (b : Buffer). length b.list) (returns-clause-value c) ∙ length-append c.args.self.now.list c.args.bits
