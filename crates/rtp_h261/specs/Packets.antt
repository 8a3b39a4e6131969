-- What the octets of a packet bring (RFC 3550, 5.1, and RFC 4587, 4.1).
use Rattle.std.specs.Prelude.{ℕ, ◌+◌, ◌-◌, ◌*◌, nat_le, Bool, ◌&&◌, if◌then◌else◌}
use Rattle.std.specs.Prelude.{List, length, take, drop, Option, None, Some, Result, Ok, Err}
use Rattle.pel_bits.specs.Bits.{bits, number}
use Rattle.rtp_wire.specs.declared.header.PacketFault.{PacketFault}
use Rattle.rtp_wire.specs.Rtp.{Fields, packet_of}
use Rattle.rtp_h261.specs.Units.{Piece}

-- SBIT: how many bits of the first octet behind the payload header do not belong to the packet
abbrev pub sbit : List ℕ → ℕ
sbit payload = number (take 3 (bits payload))

-- EBIT: how many of the last one
abbrev pub ebit : List ℕ → ℕ
ebit payload = number (take 3 (drop 3 (bits payload)))

-- the bits behind the payload header, without those that do not belong to the packet
abbrev pub carried : List ℕ → List Bool
carried payload =
    take (8 * (length payload - 4) - (sbit payload + ebit payload)) (drop (sbit payload) (bits (drop 4 payload)))

-- the payload header is there, and there are as many bits as it takes away
abbrev pub is_usable : List ℕ → Bool
is_usable payload = nat_le 4 (length payload) && nat_le (sbit payload + ebit payload) (8 * (length payload - 4))

abbrev pub piece_of_fields : Fields → Piece
piece_of_fields f = record { number = f.seq; stamp = f.stamp; marker = f.marker; bits = carried f.payload }

abbrev pub piece_of_read : Result Fields PacketFault → Option Piece
piece_of_read (Err _) = None
piece_of_read (Ok f) = if is_usable f.payload then Some (piece_of_fields f) else None

-- What octets bring, where they are a usable packet. Others are as if they had not come.
unfoldable pub piece_of : List ℕ → Option Piece
piece_of octets = piece_of_read (packet_of octets)
