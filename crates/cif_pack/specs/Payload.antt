-- The payload of a packet of H.261 (RFC 4587, 4.1): a header of 32 bits, and the octets in which the packet's bits stand.
use Rattle.std.specs.Prelude.{ℕ, ◌-◌, ◌%◌, ℤ, pos, negsuc, Bool, false, true, List, [], ◌∷◌, ◌++◌, take, drop}
use Rattle.cif_pack.specs.declared.atoms.Context.{Context}
use Rattle.pel_bits.specs.Bits.{field, number}
use Rattle.pel_bits.specs.Reading.{zeros}

-- Of the macroblock before its first one a packet's header tells: GOBN, the number of the group; MBAP, the address of that
-- macroblock less 1; QUANT, the quantiser in effect; HMVD and VMVD, the two components of its vector. It tells nothing
-- where the packet begins with the header of a picture or of a group.
abbrev pub no_context : Context
no_context = record { gobn = 0; mbap = 0; quant = 0; across = pos 0; down = pos 0 }

-- the last 5 bits of a component in two's complement, which hold it from -16 to 15
abbrev pub low_five_bits : ℤ → ℕ
low_five_bits (pos n) = n % 32
low_five_bits (negsuc n) = 31 - n % 32

-- SBIT 3 bits, EBIT 3, I 1, V 1, GOBN 4, MBAP 5, QUANT 5, HMVD 5, VMVD 5
abbrev pub payload_header : (sbit ebit : ℕ) → (intra vectors : Bool) → Context → List Bool
payload_header sbit ebit intra vectors c =
    field sbit 3 ++ (field ebit 3 ++ (intra ∷ vectors ∷ (field c.gobn 4 ++ (field c.mbap 5 ++ (field c.quant 5
    ++ (field (low_five_bits c.across) 5 ++ field (low_five_bits c.down) 5))))))

-- bits as octets, eight to each
unfoldable pub bits_packed : List Bool → List ℕ
bits_packed (a ∷ b ∷ c ∷ d ∷ e ∷ f ∷ g ∷ h ∷ bits) =
    number (a ∷ b ∷ c ∷ d ∷ e ∷ f ∷ g ∷ h ∷ []) ∷ bits_packed bits
bits_packed _ = []

-- the bits of the octet in which a place stands that lie before it, and behind it
abbrev pub sbit_of : (from : ℕ) → ℕ
sbit_of from = from % 8

abbrev pub ebit_of : (to : ℕ) → ℕ
ebit_of to = (8 - to % 8) % 8

-- The payload that brings a text's bits from one place to another: I is 0 and V is 1, and the bits stand in the octets as
-- they do in the text, with zeros where other bits of the text stand.
abbrev pub payload_between : List Bool → (from to : ℕ) → Context → List ℕ
payload_between text from to c =
    bits_packed (payload_header (sbit_of from) (ebit_of to) false true c)
    ++ bits_packed (zeros (sbit_of from) ++ (take (to - from) (drop from text) ++ zeros (ebit_of to)))
