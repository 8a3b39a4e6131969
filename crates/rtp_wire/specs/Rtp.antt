-- RTP packets: the fixed header and the CSRC list (RFC 3550, 5.1), the header extension (5.3.1), the payload and the
-- padding (5.1). Numbers stand in network order, and bits with the most significant one first.
use Rattle.std.specs.Prelude.{◌≡◌, ◌↔◌, ℕ, ◌+◌, ◌-◌, ◌*◌, ◌/◌, ◌%◌, ◌^◌, ◌<◌, ◌==◌, nat_lt, Bool, true, false, not, ◌&&◌, ◌||◌, if◌then◌else◌, List, [], ◌∷◌, ◌++◌, length, take, drop, slice_index, Option, None, Some, IfSome, Result, Ok, Err}
use Rattle.byteorder.specs.Endian.{big_bytes, big_number}
use Rattle.rtp_wire.specs.declared.header.Packet.{Packet}
use Rattle.rtp_wire.specs.declared.header.PacketFault.{PacketFault}
use Rattle.rtp_wire.specs.declared.header.PacketFault.TheVariants.{Short, Version, BadCsrc, BadExtension, BadPadding}

-- what is read of a packet
pub record Fields : Type 0 where
  pub marker : Bool
  pub kind : ℕ
  pub seq : ℕ
  pub stamp : ℕ
  pub ssrc : ℕ
  pub payload : List ℕ

-- each field fits its width: payload type 7 bits, sequence number 16, timestamp 32, SSRC 32
pub record AreFields (f : Fields) : Type 0 where
  pub kind : f.kind < 2 ^ 7
  pub seq : f.seq < 2 ^ 16
  pub stamp : f.stamp < 2 ^ 32
  pub ssrc : f.ssrc < 2 ^ 32

-- the header extension: 16 bits that the profile defines, and the octets of its words
pub record Extension : Type 0 where
  pub profile : ℕ
  pub words : List ℕ

-- a packet part by part: its fields, the octets of the CSRC list, the extension if there is one, and the padding, which
-- is empty where there is none
pub record Parts : Type 0 where
  pub fields : Fields
  pub sources : List ℕ
  pub extension : Option Extension
  pub padding : List ℕ

-- the octets of whole words of 32 bits, fewer than so many
abbrev pub AreWholeWords : List ℕ → ℕ → Type 0
AreWholeWords octets limit = (count : ℕ) × (count < limit) × (length octets ≡ 4 * count)

-- the last octet of the padding is the number of its octets
abbrev pub IsPadding : List ℕ → Type 0
IsPadding [] = Unit {0}
IsPadding (x ∷ xs) = slice_index (x ∷ xs) (length xs) ≡ length (x ∷ xs)

-- a packet that can be sent: CC has 4 bits, and the length of the extension 16
pub record IsPacket (p : Parts) : Type 0 where
  pub fields : AreFields p.fields
  pub sources : AreWholeWords p.sources 16
  pub extension : IfSome p.extension (λ e. (e.profile < 2 ^ 16) × AreWholeWords e.words (2 ^ 16))
  pub padding : IsPadding p.padding

abbrev pub flag : Bool → ℕ → ℕ
flag b worth = if b then worth else 0

abbrev pub is_there : {A : Type 0} → Option A → Bool
is_there None = false
is_there (Some _) = true

abbrev pub is_not_empty : List ℕ → Bool
is_not_empty [] = false
is_not_empty (_ ∷ _) = true

-- V 2 bits, P 1, X 1, CC 4
abbrev pub first_octet : Parts → ℕ
first_octet p = 2 * 64 + flag (is_not_empty p.padding) 32 + flag (is_there p.extension) 16 + length p.sources
    / 4

-- M 1 bit, PT 7
abbrev pub second_octet : Fields → ℕ
second_octet f = flag f.marker 128 + f.kind

abbrev pub extension_octets : Option Extension → List ℕ
extension_octets None = []
extension_octets (Some e) = big_bytes 2 e.profile ++ (big_bytes 2 (length e.words / 4) ++ e.words)

-- the octets of a packet, in the order in which they are sent
abbrev pub octets_of : Parts → List ℕ
octets_of p =
    first_octet p ∷ second_octet p.fields ∷
    (big_bytes 2 p.fields.seq ++ (big_bytes 4 p.fields.stamp ++ (big_bytes 4 p.fields.ssrc
    ++ (p.sources ++ (extension_octets p.extension ++ (p.fields.payload ++ p.padding))))))

-- a packet with no CSRC list, no extension and no padding
abbrev pub plain : Fields → Parts
plain f = record { fields = f; sources = []; extension = None; padding = [] }

-- the fixed header of a packet of H.261, payload type 31 (RFC 3551, 6), with nothing behind it
abbrev pub header_octets : Bool → (seq stamp ssrc : ℕ) → List ℕ
header_octets marker seq stamp ssrc =
    octets_of (plain (record { marker = marker; kind = 31; seq = seq; stamp = stamp; ssrc = ssrc; payload = [] }))

-- Reading. The bits of the first octet
abbrev pub version : List ℕ → ℕ
version octets = slice_index octets 0 / 64

abbrev pub has_padding : List ℕ → Bool
has_padding octets = slice_index octets 0 / 32 % 2 == 1

abbrev pub has_extension : List ℕ → Bool
has_extension octets = slice_index octets 0 / 16 % 2 == 1

-- the octets up to the end of the CSRC list
abbrev pub sources_end : List ℕ → ℕ
sources_end octets = 12 + 4 * (slice_index octets 0 % 16)

-- the octets up to the end of the extension of which the length stands there
abbrev pub extension_end : List ℕ → ℕ
extension_end octets = sources_end octets + 4 + 4 * big_number 2 (drop (sources_end octets + 2) octets)

-- the octets up to the payload
abbrev pub headers_end : List ℕ → ℕ
headers_end octets = if has_extension octets then extension_end octets else sources_end octets

-- the extension or its length does not stand there whole
abbrev pub extension_is_cut : List ℕ → Bool
extension_is_cut octets = has_extension octets &&
    (nat_lt (length octets) (sources_end octets + 4) || nat_lt (length octets) (extension_end octets))

-- what stands behind the headers
abbrev pub body : List ℕ → List ℕ
body octets = drop (headers_end octets) octets

-- the last octet, 0 where there is none: the number of octets of padding, if P is 1
abbrev pub last_octet : List ℕ → ℕ
last_octet octets = slice_index octets (length octets - 1)

-- the padding has no octets, or more than stand behind the headers
abbrev pub is_bad_padding : Bool → List ℕ → Bool
is_bad_padding is_padded behind =
    is_padded && ((last_octet behind == 0) || nat_lt (length behind) (last_octet behind))

-- what stands behind the headers without the padding
abbrev pub unpadded : Bool → List ℕ → List ℕ
unpadded is_padded behind = if is_padded then take (length behind - last_octet behind) behind else behind

-- why octets are no packet: the first condition that holds
unfoldable pub refusal : List ℕ → Option PacketFault
refusal octets =
    if nat_lt (length octets) 12 then Some Short
    else if not (version octets == 2) then Some Version
    else if nat_lt (length octets) (sources_end octets) then Some BadCsrc
    else if extension_is_cut octets then Some BadExtension
    else if is_bad_padding (has_padding octets) (body octets) then Some BadPadding
    else None

unfoldable pub fields_of : List ℕ → Fields
fields_of octets =
    record {
      marker = slice_index octets 1 / 128 == 1;
      kind = slice_index octets 1 % 128;
      seq = big_number 2 (drop 2 octets);
      stamp = big_number 4 (drop 4 octets);
      ssrc = big_number 4 (drop 8 octets);
      payload = unpadded (has_padding octets) (body octets);
    }

abbrev pub read_unless : Option PacketFault → Fields → Result Fields PacketFault
read_unless None fields = Ok fields
read_unless (Some fault) fields = Err fault

-- what octets read as
unfoldable pub packet_of : List ℕ → Result Fields PacketFault
packet_of octets = read_unless (refusal octets) (fields_of octets)

-- what contracts see of a packet that was read
abbrev pub seen : Packet → Fields
seen p = record {
  marker = p.marker;
  kind = p.kind;
  seq = p.seq;
  stamp = p.stamp;
  ssrc = p.ssrc;
  payload =
      p.payload.now;
}

abbrev pub AreOctets : List ℕ → Type 0
AreOctets octets = (i : ℕ) → slice_index octets i < 256

-- octets are those of a packet with these fields
abbrev pub IsPacketOf : List ℕ → Fields → Type 0
IsPacketOf octets fields = (p : Parts) × IsPacket p × (p.fields ≡ fields) × (octets ≡ octets_of p)

-- octets are read as these fields exactly where they are those of a packet with them
abbrev pub LawOfPackets : Type 0
LawOfPackets = (octets : List ℕ) (fields : Fields) → AreOctets octets
    → (packet_of octets ≡ Ok fields) ↔ IsPacketOf octets fields

-- a plain header with a payload behind it is read as its fields and that payload
abbrev pub LawOfPlainPackets : Type 0
LawOfPlainPackets =
    (fields : Fields) → AreFields fields
    → packet_of (octets_of (plain (record fields { payload = [] })) ++ fields.payload) ≡ Ok fields
