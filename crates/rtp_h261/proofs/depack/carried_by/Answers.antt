-- The bits behind the header are those of a usable packet.
use Rattle.std.proofs.Common.{Bool, if◌then◌else◌, None, Some, length, refl, ap, arith, length-take}
use Rattle.rtp_wire.specs.Rtp.{seen}
use Rattle.rtp_h261.specs.Packets.{piece_of_fields, carried}
use Rattle.rtp_h261.specs.Units.{Piece}
use Rattle.rtp_h261.proofs.depack.carried_by.Goals as goal

pub returns : goal.returns
returns c =
    let p : Piece = piece_of_fields (seen c.args.read) in
    let e = c.in_ok-bits.ensures in (
      p,
      ap (λ (b : Bool). if b then Some p else None) e.0,
      record { number = refl; stamp = refl; marker = refl; bits = e.1 },
      omega (arith, ap length e.1, length-take c.args.room (carried c.args.read.payload.now)),
    )
