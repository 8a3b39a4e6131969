-- What is written reads back: the packets of pictures (RFC 4587, 4) give these pictures again.
use Rattle.std.specs.Prelude.{◌≡◌, ℕ, ◌+◌, ◌-◌, ◌^◌, ◌<◌, ◌≤◌, Bool, false, List, [], ◌∷◌, ◌++◌, length, map, replicate, slice_index_or, Option, Some, None, All}
use Rattle.cif_pack.specs.declared.packer.Settings.{Settings}
use Rattle.cif_pack.specs.Packets.{packets, sent_packets, out}
use Rattle.h261_pic.specs.Coded.{Coding, coding}
use Rattle.pel_model.specs.declared.Format.TheVariants.{Cif}
use Rattle.pel_model.specs.Records.{Picture as Record}
use Rattle.pel_model.specs.Text.{text}
use Rattle.pel_model.specs.Valid.{IsValid, limit}
use Rattle.rtp_h261.specs.declared.depack.Unit.{Unit as Ended}
use Rattle.rtp_h261.specs.declared.depack.Unit.TheVariants.{Picture}
use Rattle.rtp_h261.specs.Depack.{given_behind, IsUnit}
use Rattle.rtp_h261.specs.Packets.{piece_of}
use Rattle.rtp_h261.specs.Units.{Given, gives_nothing, all_given}
use Rattle.rtp_wire.specs.Frames.{IsStream}

-- packets have 1,000 to 9,000 octets at most, and the source's name 32 bits
pub record AreSettings (s : Settings) : Type 0 where
  pub least : 1000 ≤ s.mtu
  pub most : s.mtu ≤ 9000
  pub ssrc : s.ssrc < 2 ^ 32

-- ---- what is sent

-- a picture, with the sum of the steps when it is sent: it is valid, and no longer than the format allows
pub record CanBePacked (next : ℕ × Record) : Type 0 where
  pub valid : IsValid Cif next.1
  pub short : length (text Cif next.1) ≤ limit Cif

-- the octets of the pictures are these packets, each in its frame, and nothing behind them
abbrev pub PacketsAreSent : Type 0
PacketsAreSent =
    (s : Settings) (before : ℕ) (pictures : List (ℕ × Record)) → AreSettings s → All CanBePacked pictures
    → IsStream (out s before pictures) (sent_packets s before pictures) []

-- ---- what each packet gives

-- by so many packets that bring these bits: a whole unit at the last one, nothing at the others, and no loss
abbrev pub unit_at_the_last : (count : ℕ) → List Bool → List Given
unit_at_the_last count bits = replicate (count - 1) gives_nothing ++ record { lost = false; unit = Some bits } ∷ []

-- by the packets of pictures: for each picture, its text at the last of its packets
abbrev pub texts_given : Settings → (before : ℕ) → List (ℕ × Record) → List Given
texts_given s before [] = []
texts_given s before (next ∷ pictures) =
    unit_at_the_last (length (packets s next.0 before next.1)) (text Cif next.1)
    ++ texts_given s (before + length (packets s next.0 before next.1)) pictures

-- That is what a depacketiser gives that is fed the packets in order, whatever the settings, and wherever in the circle of
-- sequence numbers the packets begin.
abbrev pub PacketsGiveTexts : Type 0
PacketsGiveTexts =
    (s : Settings) (before : ℕ) (pictures : List (ℕ × Record)) → AreSettings s → All CanBePacked pictures
    → all_given (map piece_of (sent_packets s before pictures)) ≡ texts_given s before pictures

-- each packet gives it as soon as it is fed, whatever follows
abbrev pub EachPacketGives : Type 0
EachPacketGives =
    (s : Settings) (before : ℕ) (pictures : List (ℕ × Record)) (front behind : List (List ℕ)) (packet : List ℕ)
    → AreSettings s → All CanBePacked pictures → sent_packets s before pictures ≡ front ++ packet ∷ behind
    → given_behind front packet ≡ slice_index_or (texts_given s before pictures) (length front) gives_nothing

-- ---- what octets give

abbrev pub with_unit : Option (List Bool) → List (List Bool) → List (List Bool)
with_unit None units = units
with_unit (Some bits) units = bits ∷ units

-- the bits of the units among these, in order
abbrev pub units : List Given → List (List Bool)
units [] = []
units (g ∷ gs) = with_unit g.unit (units gs)

-- The octets of pictures, cut into packets: no octet is left over, the packets give one unit for each picture, in order,
-- whose bits are the picture's text, and no loss.
pub record GiveThePictures (pictures : List (ℕ × Record)) (packets : List (List ℕ)) (rest : List ℕ) : Type 0 where
  pub whole : rest ≡ []
  pub texts : units (all_given (map piece_of packets)) ≡ map (λ (next : ℕ × Record). text Cif next.1) pictures
  pub lost : All (λ (g : Given). g.lost ≡ false) (all_given (map piece_of packets))

abbrev pub OctetsGivePictures : Type 0
OctetsGivePictures =
    (s : Settings) (before : ℕ) (pictures : List (ℕ × Record)) (packets : List (List ℕ)) (rest : List ℕ)
    → AreSettings s → All CanBePacked pictures → IsStream (out s before pictures) packets rest
    → GiveThePictures pictures packets rest

-- a unit whose bits are a picture's text is that picture
abbrev pub TextIsItsPicture : Type 0
TextIsItsPicture =
    (next : ℕ × Record) (unit : Ended) (coded : Coding) → CanBePacked next → IsUnit Cif (text Cif next.1) unit coded
    → (unit ≡ Picture) × (coded ≡ coding Cif next.1)
