-- Octets that meet no condition of refusal read as their fields.
use Rattle.std.proofs.Common.{arith}
use Rattle.std.proofs.lemmas.Bool.Decides.{nat_tests}
use Rattle.rtp_wire.proofs.ReadingLemmas.{read_whole}
use Rattle.rtp_wire.proofs.header.read_packet.Goals as goal

pub returns : goal.returns
returns c =
    let octets = c.args.bytes.now in
    record {
      exact =
          read_whole octets _ _ _ (grind (arith, nat_tests)) (grind (arith, nat_tests)) (grind (arith, nat_tests)) c.in-Some.ensures.0 c.in-Some.ensures.1
          (rw (← c.is_padded.ensures) c.in-Some-without_padding.ensures.0) (rw (← c.is_padded.ensures) c.in-Some-without_padding.ensures.1) c.with_payload.ensures;
    }
