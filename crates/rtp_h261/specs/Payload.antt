-- The payload header of H.261 over RTP (RFC 4587, 4.1): four octets in front of the bits.
use Rattle.std.specs.Prelude.{◌≡◌, ◌≢◌, ℕ, ◌-◌, ◌%◌, ◌^◌, ◌<◌, Bool, ℤ, pos, negsuc}
use Rattle.std.specs.Prelude.{List, ◌∷◌, ◌++◌}
use Rattle.pel_bits.specs.Bits.{field}
use Rattle.rtp_h261.specs.declared.payload.PayloadHeader.{PayloadHeader}

-- a component of a vector in 5 bits of two's complement, which hold it from -16 to 15
abbrev pub five_bits_of : ℤ → ℕ
five_bits_of (pos n) = n % 32
five_bits_of (negsuc n) = 31 - n % 32

abbrev pub FitsFiveBits : ℤ → Type 0
FitsFiveBits (pos n) = n < 16
FitsFiveBits (negsuc n) = n < 16

-- each field fits its width
pub record AreWidths (h : PayloadHeader) : Type 0 where
  pub sbit : h.sbit < 2 ^ 3
  pub ebit : h.ebit < 2 ^ 3
  pub gobn : h.gobn < 2 ^ 4
  pub mbap : h.mbap < 2 ^ 5
  pub quant : h.quant < 2 ^ 5
  pub hmvd : FitsFiveBits h.hmvd
  pub vmvd : FitsFiveBits h.vmvd

-- no vector is -16, which has no meaning in a packet
pub record CanBeSent (h : PayloadHeader) : Type 0 where
  pub widths : AreWidths h
  pub across : h.hmvd ≢ negsuc 15
  pub down : h.vmvd ≢ negsuc 15

-- SBIT 3 bits, EBIT 3, I 1, V 1, GOBN 4, MBAP 5, QUANT 5, HMVD 5, VMVD 5
abbrev pub payload_header_bits : PayloadHeader → List Bool
payload_header_bits h =
    field h.sbit 3 ++ (field h.ebit 3 ++ (h.i ∷ h.v ∷ (field h.gobn 4 ++ (field h.mbap 5 ++ (field h.quant 5
    ++ (field (five_bits_of h.hmvd) 5 ++ field (five_bits_of h.vmvd) 5))))))

-- one header has these bits
abbrev pub LawOfHeaders : Type 0
LawOfHeaders = (h k : PayloadHeader) → AreWidths h → AreWidths k → payload_header_bits h ≡ payload_header_bits k → h ≡ k
