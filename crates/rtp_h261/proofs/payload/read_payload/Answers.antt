-- The fields are those of the header's bits.
use Rattle.std.proofs.Common.{◌≡◌, ℕ, take, Some, sym, ap, ◌∙◌, rules, arith, w8, to_z, of_z}
use Rattle.std.proofs.lemmas.Int.{to_z-of_z}
use Rattle.std.proofs.lemmas.List.{take-take}
use Rattle.pel_bits.specs.Bits.{bits, field}
use Rattle.rtp_h261.specs.declared.payload.PayloadHeader.{PayloadHeader}
use Rattle.rtp_h261.specs.Payload.{AreWidths, payload_header_bits}
use Rattle.rtp_h261.proofs.HeaderLemmas.{header_law}
use Rattle.rtp_h261.proofs.PayloadLemmas.{header_is}
use Rattle.rtp_h261.proofs.payload.read_payload.Goals as goal

pub returns : goal.returns
returns c =
    let across : to_z w8 (of_z w8 c.from_five_bits.result) ≡ c.from_five_bits.result = to_z-of_z w8 c.from_five_bits.result (search rules) in
    let down : to_z w8 (of_z w8 c.from_five_bits-2.result) ≡ c.from_five_bits-2.result = to_z-of_z w8 c.from_five_bits-2.result (search rules) in
    let h : PayloadHeader = record {
      sbit = c.field_at.result;
      ebit = c.field_at-2.result;
      i = c.flag_at.result;
      v = c.flag_at-2.result;
      gobn = c.field_at-3.result;
      mbap = c.field_at-4.result;
      quant = c.field_at-5.result;
      hmvd = c.from_five_bits.result;
      vmvd = c.from_five_bits-2.result;
    } in
    let widths : AreWidths h = record {
      sbit = c.field_at.ensures.small;
      ebit = c.field_at-2.ensures.small;
      gobn = c.field_at-3.ensures.small;
      mbap = c.field_at-4.ensures.small;
      quant = c.field_at-5.ensures.small;
      hmvd = c.from_five_bits.ensures.fits;
      vmvd = c.from_five_bits-2.ensures.fits;
    } in
    let spelled : payload_header_bits h ≡ take 32 (bits c.args.b.now) =
    header_is h c.new-bits.result c.field_at.ensures.value c.field_at-2.ensures.value c.flag_at.ensures c.flag_at-2.ensures c.field_at-3.ensures.value c.field_at-4.ensures.value c.field_at-5.ensures.value
    (ap (λ (n : ℕ). field n 5) c.from_five_bits.ensures.value ∙ c.field_at-6.ensures.value)
    (ap (λ (n : ℕ). field n 5) c.from_five_bits-2.ensures.value ∙ c.field_at-7.ensures.value)
    ∙ ap (take 32) c.new-bits.ensures.value
    ∙ take-take 32 32 (bits c.args.b.now) (omega arith) in
    rw (across, down) (record {
      exact = (omega (arith, c.if-b-lt4.false), widths, spelled);
      only = λ k fits there same. ap Some (header_law h k widths fits (spelled ∙ sym same));
    })
