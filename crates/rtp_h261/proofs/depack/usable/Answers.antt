-- What is read of the octets says what they bring.
use Rattle.std.proofs.Common.{sym, subst, ap, Result}
use Rattle.rtp_wire.specs.Rtp.{Fields}
use Rattle.rtp_wire.specs.declared.header.PacketFault.{PacketFault}
use Rattle.rtp_h261.specs.Packets.{piece_of, piece_of_read}
use Rattle.rtp_h261.specs.Turns.{CarriesIf}
use Rattle.rtp_h261.proofs.depack.usable.Goals as goal

pub returns-in-Ok : goal.returns-in-Ok
unfolding piece_of
returns-in-Ok c =
    subst (λ (r : Result Fields PacketFault). CarriesIf c.args.room c.carried_by.result (piece_of_read r)) (sym c.in-Ok.ensures.exact) c.carried_by.ensures

pub returns-in-Err : goal.returns-in-Err
unfolding piece_of
returns-in-Err c = ap piece_of_read c.in-Err.ensures.exact
