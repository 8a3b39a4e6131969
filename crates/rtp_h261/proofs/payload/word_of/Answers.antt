-- The number spells the fields one after another.
use Rattle.std.proofs.Common.{◌≡◌, ℕ, Bool, true, false, refl, if◌then◌else◌, ap, ◌∙◌, arith, rules, w8}
use Rattle.std.proofs.lemmas.Int.{to_z-of_z}
use Rattle.pel_bits.specs.Bits.{field}
use mir.Val.{bool_byte}
use Rattle.rtp_h261.specs.Payload.{five_bits_of}
use Rattle.rtp_h261.proofs.HeaderLemmas.{header_word}
use Rattle.rtp_h261.proofs.payload.word_of.Goals as goal

byte_of : (b : Bool) → bool_byte b ≡ (if b then 1 else 0)
byte_of true = refl
byte_of false = refl

pub returns : goal.returns
returns c =
    let h = c.args.h.now in
    let across = c.from-8.ensures ∙ c.to_five_bits.ensures.value ∙ ap five_bits_of (to_z-of_z w8 h.hmvd (search rules)) in
    let down = c.from-9.ensures ∙ c.to_five_bits-2.ensures.value ∙ ap five_bits_of (to_z-of_z w8 h.vmvd (search rules)) in
    ap (λ (n : ℕ). field n 32) (omega (arith, c.from.ensures, c.from-2.ensures, c.from-3.ensures, c.from-4.ensures, c.from-5.ensures, c.from-6.ensures, c.from-7.ensures, byte_of h.i, byte_of h.v, across, down))
    ∙ header_word h c.requires.widths
