-- The headers and the octets, one behind the other.
use Rattle.std.proofs.Common.{ℕ, ◌+◌, ◌-◌, ◌*◌, ◌%◌, ◌^◌, ◌<◌, true, [], ◌∷◌, length, slice_index, refl, ◌∙◌, ap, ap₂, arith, append-nil}
use Rattle.byteorder.specs.Endian.{big_bytes}
use Rattle.conf_file.specs.Entries.{P}
use Rattle.pel_bits.specs.Buffer.{whole}
use Rattle.rtp_wire.specs.Rtp.{octets_of, plain}
use Rattle.conf_make.proofs.Octets.{entry-is, octets-long, joined-five, long-four}
use Rattle.conf_make.proofs.output.packet_entry.Goals as goal

pub overflow_cast-size : goal.overflow_cast-size
overflow_cast-size c = omega (arith, octets-long c.args.bits.now.list c.octets-octets.result.now c.octets-octets.ensures, c.requires.short)

pub extend-requires-5 : goal.extend-requires-5
extend-requires-5 c =
    let long = long-four _ _ _ _ _ _ _ _ _ c.new-entry.ensures c.extend.ensures c.extend-2.ensures c.extend-3.ensures c.extend-4.ensures in
    omega (
      arith,
      long,
      octets-long c.args.bits.now.list c.octets-octets.result.now c.octets-octets.ensures,
      c.requires.short,
      ap length c.write_u16.ensures,
      ap length c.write_header.ensures,
      ap length c.payload_header.ensures,
    )

pub returns : goal.returns
returns c =
    let octets = c.octets-octets.result.now in
    let small : (i : ℕ) → slice_index octets i < 256 = λ i. omega (arith, c.octets-octets.items_fit i) in
    let fixed_is = c.write_header.ensures
    ∙ ap₂ (λ (s : ℕ) (k : ℕ). octets_of (plain (record { marker = true; kind = 31; seq = (c.args.tick - 1) % 2 ^ 16; stamp = s; ssrc = k; payload = [] })))
    c.stamp_at.ensures c.from.ensures in
    let head_is = c.payload_header.ensures ∙ ap (λ (n : ℕ). (4 * (whole n - n) + 1) ∷ 0 ∷ 0 ∷ 0 ∷ []) c.len.ensures in
    joined-five _ _ _ _ _ _ (P ∷ c.args.lane ∷ []) c.write_u16.new.buf c.write_header.new.out c.payload_header.result octets
    c.new-entry.ensures c.extend.ensures c.extend-2.ensures c.extend-3.ensures c.extend-4.ensures c.extend-5.ensures
    ∙ entry-is c.args.tick c.args.lane (16 + length octets) c.args.bits.now.list c.write_u16.new.buf c.write_header.new.out c.payload_header.result octets small c.octets-octets.ensures
    fixed_is head_is refl (c.write_u16.ensures ∙ append-nil (big_bytes 2 (16 + length octets)))
