-- What is read of the octets says what they bring.
use Rattle.std.proofs.Common.{Bool, ℕ, Result, Option, option_map, None, Some, if◌then◌else◌, sym, ap, ◌∙◌}
use Rattle.rtp_wire.specs.Rtp.{Fields, seen}
use Rattle.rtp_wire.specs.declared.header.PacketFault.{PacketFault}
use Rattle.rtp_h261.specs.Packets.{piece_of, piece_of_read, piece_of_fields}
use Rattle.rtp_h261.specs.Units.{Piece}
use Rattle.bridge_replay.proofs.idle.number_of.Goals as goal

number-read : Result Fields PacketFault → Option ℕ
number-read r = option_map (λ (p : Piece). p.number) (piece_of_read r)

pub returns-in_default : goal.returns-in_default
unfolding piece_of number-read
returns-in_default c = sym (ap number-read c.in_default.ensures.exact)

pub returns-then-is_usable : goal.returns-then-is_usable
unfolding piece_of number-read
returns-then-is_usable c =
    sym (ap number-read c.in-Ok.ensures.exact
    ∙ ap (λ (b : Bool). option_map (λ (p : Piece). p.number) (if b then Some (piece_of_fields (seen c.in-Ok.read)) else None)) (sym c.is_usable.ensures ∙ c.if-is_usable.true))

pub returns-else-is_usable : goal.returns-else-is_usable
unfolding piece_of number-read
returns-else-is_usable c =
    sym (ap number-read c.in-Ok.ensures.exact
    ∙ ap (λ (b : Bool). option_map (λ (p : Piece). p.number) (if b then Some (piece_of_fields (seen c.in-Ok.read)) else None)) (sym c.is_usable.ensures ∙ c.if-is_usable.false))
