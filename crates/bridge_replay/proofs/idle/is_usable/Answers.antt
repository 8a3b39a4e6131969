-- The header is there, and the octets behind it have as many bits as it takes away.
use Rattle.std.proofs.Common.{◌≡◌, ℕ, zero, suc, ◌+◌, ◌-◌, ◌*◌, ◌<◌, ◌≤◌, ◌^◌, nat_le, Bool, ◌&&◌, List, length, take, drop, min, ap, ◌∙◌, arith, length-take}
use Rattle.std.proofs.lemmas.Bool.Decides.{nat_tests}
use Rattle.std.proofs.lemmas.List.{drop-take, take-take}
use Rattle.pel_bits.specs.Bits.{bits, number}
use Rattle.pel_bits.proofs.Fields.{number_below}
use Rattle.rtp_h261.specs.Packets.{sbit, ebit}
use Rattle.bridge_replay.proofs.idle.is_usable.Goals as goal

-- three bits spell less than 8
three : (bs : List Bool) → number (take 3 bs) < 8
three bs = up (take 3 bs) (length-take 3 bs)
  where
    small : (n : ℕ) → n ≤ 3 → 2 ^ n ≤ 8
    small zero h = omega arith
    small (suc zero) h = omega arith
    small (suc (suc zero)) h = omega arith
    small (suc (suc (suc zero))) h = omega arith
    small (suc (suc (suc (suc n)))) h = absurd (omega (arith, h))

    up : (xs : List Bool) → length xs ≡ min 3 (length bs) → number xs < 8
    up xs long = omega (arith, number_below xs, small (length xs) (omega (arith, long)))

sbit-is : (payload : List ℕ) → number (take 3 (drop 0 (take 32 (drop 0 (bits payload))))) ≡ sbit payload
sbit-is payload = ap number (take-take 3 32 (bits payload) (omega arith))

ebit-is : (payload : List ℕ) → number (take 3 (drop 3 (take 32 (drop 0 (bits payload))))) ≡ ebit payload
ebit-is payload = ap number (ap (take 3) (drop-take 3 29 (bits payload)) ∙ take-take 3 29 (drop 3 (bits payload)) (omega arith))

pub overflow_add-away : goal.overflow_add-away
overflow_add-away c =
    omega (
      arith,
      c.number.ensures,
      c.number-2.ensures,
      ap (λ (xs : List Bool). number (take 3 xs)) c.new-header.ensures.value,
      ap (λ (xs : List Bool). number (take 3 (drop 3 xs))) c.new-header.ensures.value,
      three (take 32 (bits c.args.payload.now)),
      three (drop 3 (take 32 (bits c.args.payload.now))),
    )

there-so : (n a b s e t : ℕ) → 4 ≤ n → s < 8 → e < 8 → a ≡ s → b ≡ e → t ≡ min (n - 4) 65536 → nat_le (a + b) (t * 8) ≡ (nat_le 4 n && nat_le (s + e) (8 * (n - 4)))
there-so n a b s e t long small few a_is b_is is = grind (arith, nat_tests)

pub returns : goal.returns
returns c =
    let payload = c.args.payload.now in
    there-so (length payload) c.number.result c.number-2.result (sbit payload) (ebit payload) c.min.result (omega (arith, c.if-payload-lt4.false))
    (three (bits payload)) (three (drop 3 (bits payload)))
    (c.number.ensures ∙ ap (λ (xs : List Bool). number (take 3 xs)) c.new-header.ensures.value ∙ sbit-is payload)
    (c.number-2.ensures ∙ ap (λ (xs : List Bool). number (take 3 (drop 3 xs))) c.new-header.ensures.value ∙ ebit-is payload)
    c.min.ensures
