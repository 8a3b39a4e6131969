-- The packets of a made conference: a picture in each (RFC 3550, 5.1; RFC 4587, 4.1).
use Rattle.std.specs.Prelude.{ℕ, ◌+◌, ◌-◌, ◌*◌, ◌%◌, ◌^◌, Bool, true, List, [], ◌∷◌, length}
use Rattle.pel_bits.specs.Bits.{number}
use Rattle.pel_bits.specs.Buffer.{whole, filled_up}
use Rattle.rtp_wire.specs.Rtp.{octets_of, plain}

-- bits as octets, eight to each
unfoldable pub packed_octets : List Bool → List ℕ
packed_octets (a ∷ b ∷ c ∷ d ∷ e ∷ f ∷ g ∷ h ∷ bits) =
    number (a ∷ b ∷ c ∷ d ∷ e ∷ f ∷ g ∷ h ∷ []) ∷ packed_octets bits
packed_octets _ = []

-- SBIT 0, EBIT, I 0, V 1, and zeros, as the payload header of a packet that begins with a picture header; then the bits,
-- filled up with as many zeros as EBIT says
abbrev pub made_payload : List Bool → List ℕ
made_payload bits = (4 * (whole (length bits) - length bits) + 1) ∷ 0 ∷ 0 ∷ 0 ∷ packed_octets (filled_up bits)

-- A lane's packet at a tick, counted from 1. The marker bit is set, the payload type is 31, the clock of 90 kHz goes on by 9,009,
-- three pictures of 29.97 Hz, and SSRC is the lane.
unfoldable pub made_packet : (tick lane : ℕ) → List Bool → List ℕ
made_packet tick lane bits =
    octets_of (plain (record {
      marker = true;
      kind = 31;
      seq = (tick - 1) % 2 ^ 16;
      stamp = 9009 * tick % 2 ^ 32;
      ssrc = lane;
      payload = made_payload bits;
    }))
