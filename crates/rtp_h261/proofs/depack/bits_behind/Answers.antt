-- As many bits are there as the header says, as far as there is room.
use Rattle.std.proofs.Common.{◌≡◌, ◌∙◌, ◌-◌, ◌*◌, ◌+◌, ℕ, sym, ap, ap₂, List, take, drop, length, min, arith, length-drop, length-take}
use Rattle.std.proofs.Math.Seq.{take-length}
use Rattle.pel_bits.specs.Bits.{bits}
use Rattle.rtp_h261.proofs.PayloadLemmas.{not_usable, usable, carried_is}
use Rattle.rtp_h261.proofs.depack.bits_behind.Goals as goal

pub returns-then-there-away : goal.returns-then-there-away
returns-then-there-away c =
    let h = c.in_ok-header.header in
    let octets = c.args.payload.now in
    let e = c.in_ok-header.ensures.exact in
    let size : length (take (length octets - 4) (drop 4 octets)) ≡ length octets - 4 = omega (arith, length-take (length octets - 4) (drop 4 octets), length-drop 4 octets) in
    not_usable h octets e.1 e.2 (omega (arith, c.min.ensures, size, c.from.ensures, c.from-2.ensures, c.if-there-away.true))

pub returns : goal.returns
returns c =
    let h = c.in_ok-header.header in
    let octets = c.args.payload.now in
    let e = c.in_ok-header.ensures.exact in
    let size : length (take (length octets - 4) (drop 4 octets)) ≡ length octets - 4 = omega (arith, length-take (length octets - 4) (drop 4 octets), length-drop 4 octets) in
    let rest : take (length octets - 4) (drop 4 octets) ≡ drop 4 octets =
    ap (λ (k : ℕ). take k (drop 4 octets)) (sym (length-drop 4 octets)) ∙ take-length (drop 4 octets) in
    let count : c.min-2.result ≡ min (min (length octets - 4) 65536 * 8 - (h.sbit + h.ebit)) c.args.room =
    omega (arith, c.min-2.ensures, c.min.ensures, size, c.from.ensures, c.from-2.ensures) in (
      usable h octets e.0 e.1 e.2 (omega (arith, c.min.ensures, size, c.from.ensures, c.from-2.ensures, c.if-there-away.false)),
      c.new.ensures.value
          ∙ ap (λ (xs : List ℕ). take c.min-2.result (drop c.from-3.result (bits xs))) rest
          ∙ ap₂ (λ (m n : ℕ). take m (drop n (bits (drop 4 octets)))) count c.from-3.ensures
          ∙ carried_is h octets c.args.room c.requires e.1 e.2,
    )
