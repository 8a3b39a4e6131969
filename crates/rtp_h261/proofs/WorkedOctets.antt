-- Worked octets of packets and what they bring; payload headers by field; and lists of packets that tell the rules of a
-- beginning and of lateness apart: values that were computed apart from these definitions.
use Rattle.std.specs.Prelude.{◌≡◌, ℕ, Bool, true, false, ℤ, pos, negsuc, [], ◌∷◌, map, None, refl}
use Rattle.pel_bits.specs.Bits.{number, field}
use Rattle.rtp_wire.specs.Rtp.{packet_of, refusal, fields_of}
use Rattle.rtp_h261.specs.declared.payload.PayloadHeader.{PayloadHeader}
use Rattle.rtp_h261.specs.Packets.{piece_of}
use Rattle.rtp_h261.specs.Payload.{payload_header_bits}
use Rattle.rtp_h261.specs.Units.{gives_nothing, all_given}
use Rattle.rtp_h261.specs.WorkedPackets.{piece, opened, opens, unit, loss_and_unit}

-- in this order: three octets of payload; a payload header alone; EBIT 1 of no octet; SBIT 1 of no octet; one octet; SBIT 2
-- and EBIT 3; SBIT 3 and EBIT 5, all of one octet; SBIT 5 and EBIT 4, more than one octet; SBIT 7 of two octets; EBIT 7 of two
-- octets; SBIT 7 and EBIT 7 of two octets; padding, not looked at; another kind and source; no packet
pub pieces : map piece_of
    ((128 ∷ 31 ∷ 0 ∷ 1 ∷ 0 ∷ 0 ∷ 0 ∷ 2 ∷ 0 ∷ 0 ∷ 0 ∷ 3 ∷ 0 ∷ 0 ∷ 0 ∷ [])
    ∷ (128 ∷ 31 ∷ 1 ∷ 2 ∷ 0 ∷ 0 ∷ 0 ∷ 0 ∷ 0 ∷ 0 ∷ 0 ∷ 3 ∷ 1 ∷ 0 ∷ 0 ∷ 0 ∷ [])
    ∷ (128 ∷ 31 ∷ 0 ∷ 1 ∷ 0 ∷ 0 ∷ 0 ∷ 2 ∷ 0 ∷ 0 ∷ 0 ∷ 3 ∷ 5 ∷ 0 ∷ 0 ∷ 0 ∷ [])
    ∷ (128 ∷ 31 ∷ 0 ∷ 1 ∷ 0 ∷ 0 ∷ 0 ∷ 2 ∷ 0 ∷ 0 ∷ 0 ∷ 3 ∷ 33 ∷ 0 ∷ 0 ∷ 0 ∷ [])
    ∷ (128 ∷ 159 ∷ 255 ∷ 255 ∷ 255 ∷ 255 ∷ 255 ∷ 255 ∷ 0 ∷ 0 ∷ 0 ∷ 3 ∷ 1 ∷ 0 ∷ 0 ∷ 0 ∷ 197 ∷ [])
    ∷ (128 ∷ 159 ∷ 255 ∷ 255 ∷ 1 ∷ 2 ∷ 3 ∷ 4 ∷ 0 ∷ 0 ∷ 0 ∷ 3 ∷ 77 ∷ 0 ∷ 0 ∷ 0 ∷ 173 ∷ [])
    ∷ (128 ∷ 31 ∷ 0 ∷ 0 ∷ 0 ∷ 0 ∷ 0 ∷ 1 ∷ 0 ∷ 0 ∷ 0 ∷ 9 ∷ 117 ∷ 0 ∷ 0 ∷ 0 ∷ 255 ∷ [])
    ∷ (128 ∷ 31 ∷ 0 ∷ 0 ∷ 0 ∷ 0 ∷ 0 ∷ 1 ∷ 0 ∷ 0 ∷ 0 ∷ 9 ∷ 177 ∷ 0 ∷ 0 ∷ 0 ∷ 255 ∷ [])
    ∷ (128 ∷ 31 ∷ 0 ∷ 5 ∷ 0 ∷ 0 ∷ 0 ∷ 6 ∷ 0 ∷ 0 ∷ 0 ∷ 7 ∷ 225 ∷ 0 ∷ 0 ∷ 0 ∷ 254 ∷ 163 ∷ [])
    ∷ (128 ∷ 159 ∷ 0 ∷ 5 ∷ 0 ∷ 0 ∷ 0 ∷ 6 ∷ 0 ∷ 0 ∷ 0 ∷ 7 ∷ 29 ∷ 0 ∷ 0 ∷ 0 ∷ 129 ∷ 128 ∷ [])
    ∷ (128 ∷ 31 ∷ 0 ∷ 5 ∷ 0 ∷ 0 ∷ 0 ∷ 6 ∷ 0 ∷ 0 ∷ 0 ∷ 7 ∷ 253 ∷ 0 ∷ 0 ∷ 0 ∷ 255 ∷ 127 ∷ [])
    ∷ (160 ∷ 159 ∷ 0 ∷ 9 ∷ 0 ∷ 0 ∷ 0 ∷ 8 ∷ 0 ∷ 0 ∷ 0 ∷ 7 ∷ 37 ∷ 0 ∷ 0 ∷ 0 ∷ 126 ∷ 0 ∷ 2 ∷ [])
    ∷ (128 ∷ 224 ∷ 0 ∷ 9 ∷ 0 ∷ 0 ∷ 0 ∷ 8 ∷ 238 ∷ 107 ∷ 40 ∷ 0 ∷ 129 ∷ 0 ∷ 0 ∷ 0 ∷ 10 ∷ [])
    ∷ (64 ∷ 159 ∷ 0 ∷ 9 ∷ 0 ∷ 0 ∷ 0 ∷ 8 ∷ 0 ∷ 0 ∷ 0 ∷ 7 ∷ 1 ∷ 0 ∷ 0 ∷ 0 ∷ 1 ∷ 2 ∷ [])
    ∷ [])
    ≡ None
    ∷ piece 258 0 false []
    ∷ None
    ∷ None
    ∷ piece 65535 4294967295 true (true ∷ true ∷ false ∷ false ∷ false ∷ true ∷ false ∷ true ∷ [])
    ∷ piece 65535 16909060 true (true ∷ false ∷ true ∷ [])
    ∷ piece 0 1 false []
    ∷ None
    ∷ piece 5 6 false (false ∷ true ∷ false ∷ true ∷ false ∷ false ∷ false ∷ true ∷ true ∷ [])
    ∷ piece 5 6 true (true ∷ false ∷ false ∷ false ∷ false ∷ false ∷ false ∷ true ∷ true ∷ [])
    ∷ piece 5 6 false (true ∷ false ∷ [])
    ∷ piece 9 8 true (true ∷ true ∷ true ∷ true ∷ true ∷ true ∷ [])
    ∷ piece 9 8 true (true ∷ false ∷ true ∷ false ∷ [])
    ∷ None
    ∷ []
unfolding piece_of packet_of refusal fields_of number field
pieces = refl

abbrev header : (sbit ebit : ℕ) (i v : Bool) (gobn mbap quant : ℕ) (hmvd vmvd : ℤ) → PayloadHeader
header sbit ebit i v gobn mbap quant hmvd vmvd = record { sbit = sbit; ebit = ebit; i = i; v = v; gobn = gobn; mbap = mbap; quant = quant; hmvd = hmvd; vmvd = vmvd }

pub headers : map payload_header_bits
    (header 5 2 true false 11 22 13 (negsuc 2) (pos 7)
    ∷ header 0 0 false true 0 0 0 (pos 0) (pos 0)
    ∷ header 7 7 false false 15 31 31 (pos 15) (negsuc 14)
    ∷ header 1 4 true true 12 1 16 (negsuc 0) (pos 1)
    ∷ [])
    ≡ (true ∷ false ∷ true ∷ false ∷ true ∷ false ∷ true ∷ false ∷ true ∷ false ∷ true ∷ true ∷ true ∷ false ∷ true ∷ true ∷ false
    ∷ false ∷ true ∷ true ∷ false ∷ true ∷ true ∷ true ∷ true ∷ false ∷ true ∷ false ∷ false ∷ true ∷ true ∷ true ∷ [])
    ∷ (false ∷ false ∷ false ∷ false ∷ false ∷ false ∷ false ∷ true ∷ false ∷ false ∷ false ∷ false ∷ false ∷ false ∷ false ∷ false
    ∷ false ∷ false ∷ false ∷ false ∷ false ∷ false ∷ false ∷ false ∷ false ∷ false ∷ false ∷ false ∷ false ∷ false ∷ false ∷ false ∷ [])
    ∷ (true ∷ true ∷ true ∷ true ∷ true ∷ true ∷ false ∷ false ∷ true ∷ true ∷ true ∷ true ∷ true ∷ true ∷ true ∷ true ∷ true ∷ true
    ∷ true ∷ true ∷ true ∷ true ∷ false ∷ true ∷ true ∷ true ∷ true ∷ true ∷ false ∷ false ∷ false ∷ true ∷ [])
    ∷ (false ∷ false ∷ true ∷ true ∷ false ∷ false ∷ true ∷ true ∷ true ∷ true ∷ false ∷ false ∷ false ∷ false ∷ false ∷ false ∷ true
    ∷ true ∷ false ∷ false ∷ false ∷ false ∷ true ∷ true ∷ true ∷ true ∷ true ∷ false ∷ false ∷ false ∷ false ∷ true ∷ [])
    ∷ []
unfolding field
headers = refl

-- twenty-one bits that are no start code begin nothing
pub no_start_codes :
    all_given (piece 0 10 true (false ∷ false ∷ false ∷ false ∷ false ∷ false ∷ false ∷ false ∷ false ∷ false ∷ false ∷ false ∷ false
    ∷ false ∷ false ∷ true ∷ false ∷ false ∷ false ∷ true ∷ true ∷ []) ∷ piece 1 20 true (false ∷ false ∷ false ∷ false ∷ false
    ∷ false ∷ false ∷ false ∷ false ∷ false ∷ false ∷ false ∷ false ∷ false ∷ false ∷ true ∷ true ∷ false ∷ false ∷ false ∷ false
    ∷ []) ∷ piece 2 30 true (false ∷ false ∷ false ∷ false ∷ false ∷ false ∷ false ∷ false ∷ false ∷ false ∷ false ∷ false ∷ false
    ∷ false ∷ true ∷ true ∷ false ∷ false ∷ false ∷ false ∷ true ∷ []) ∷ [])
    ≡ gives_nothing ∷ gives_nothing ∷ gives_nothing ∷ []
unfolding all_given number
no_start_codes = refl

-- the last five bits of a start code, and its last nineteen, begin nothing
pub parts_of_a_start_code :
    all_given (piece 0 10 true (true ∷ false ∷ false ∷ false ∷ false ∷ []) ∷ piece 1 20 true (false ∷ false ∷ false ∷ false ∷ false
    ∷ false ∷ false ∷ false ∷ false ∷ false ∷ false ∷ false ∷ false ∷ false ∷ true ∷ false ∷ false ∷ false ∷ false ∷ [])
    ∷ piece 2 30 true (false ∷ false ∷ false ∷ false ∷ false ∷ false ∷ false ∷ false ∷ false ∷ false ∷ false ∷ false ∷ false ∷ false
    ∷ false ∷ false ∷ true ∷ false ∷ false ∷ false ∷ false ∷ []) ∷ [])
    ≡ gives_nothing ∷ gives_nothing ∷ gives_nothing ∷ []
unfolding all_given number
parts_of_a_start_code = refl

-- late is what is half the circle past the last that counts, and not past the first
pub late_by_the_last :
    all_given (opens 0 10 true ∷ opens 20000 20 true ∷ opens 40000 30 true ∷ opens 60000 40 true ∷ opens 0 50 true ∷ [])
    ≡ unit opened ∷ loss_and_unit opened ∷ loss_and_unit opened ∷ loss_and_unit opened ∷ loss_and_unit opened ∷ []
unfolding all_given number
late_by_the_last = refl

-- behind number 40,000 the number 7,233 is late and 7,232 is not; behind that 40,002 is late
pub round_the_circle :
    all_given (opens 40000 10 true ∷ opens 7233 20 true ∷ opens 7232 30 true ∷ opens 40002 30 true ∷ [])
    ≡ unit opened ∷ gives_nothing ∷ loss_and_unit opened ∷ gives_nothing ∷ []
unfolding all_given number
round_the_circle = refl
