-- Laws of the packets of pictures.
use Rattle.std.specs.Prelude.{◌≡◌, ℕ, ◌+◌, ◌-◌, ◌*◌, ◌^◌, ◌<◌, ◌≤◌, Bool, false, true, List, [], ◌∷◌, ◌++◌, length, take, drop, map, replicate, All, Result}
use Rattle.cif_pack.specs.declared.atoms.AtomEnd.{AtomEnd}
use Rattle.cif_pack.specs.declared.atoms.Context.{Context}
use Rattle.cif_pack.specs.declared.packer.Sent.{Sent}
use Rattle.cif_pack.specs.declared.packer.Settings.{Settings}
use Rattle.cif_pack.specs.Atoms.{atom_ends}
use Rattle.cif_pack.specs.Cuts.{AreCuts, cuts}
use Rattle.cif_pack.specs.Packets.{packets, sent_packets, out}
use Rattle.cif_pack.specs.Payload.{payload_header, payload_between, sbit_of, ebit_of}
use Rattle.cif_pack.specs.State.{PackerState, settings_after, SendsPicture, HasSent, HasSentNext}
use Rattle.h261_pic.specs.Coded.{Coding, coding}
use Rattle.io_edge.specs.declared.edges.Failed.{Failed}
use Rattle.io_edge.specs.Outside.{Output}
use Rattle.pel_bits.specs.Bits.{bits}
use Rattle.pel_bits.specs.Reading.{zeros}
use Rattle.pel_model.specs.declared.Format.TheVariants.{Cif}
use Rattle.pel_model.specs.History.{History, total_of}
use Rattle.pel_model.specs.Legal.{Legal}
use Rattle.pel_model.specs.Records.{Picture}
use Rattle.pel_model.specs.Text.{text}
use Rattle.pel_model.specs.Valid.{IsValid}
use Rattle.rtp_wire.specs.Rtp.{fields_of}

-- ---- the cuts of a picture

-- each is the furthest end of an atom that fits, and the last one is the end of the text
abbrev pub CutsAreFurthest : Type 0
CutsAreFurthest =
    (mtu : ℕ) (p : Picture) → 1000 ≤ mtu → IsValid Cif p
    → AreCuts mtu (atom_ends p) (length (text Cif p)) 0 (cuts mtu 0 (atom_ends p))

-- nothing else are such cuts
abbrev pub CutsAreOne : Type 0
CutsAreOne =
    (mtu : ℕ) (p : Picture) (ends : List AtomEnd) → 1000 ≤ mtu → IsValid Cif p
    → AreCuts mtu (atom_ends p) (length (text Cif p)) 0 ends → ends ≡ cuts mtu 0 (atom_ends p)

-- ---- its packets

-- none has more octets than a packet may have
abbrev pub PacketsFit : Type 0
PacketsFit =
    (s : Settings) (total before : ℕ) (p : Picture) → 1000 ≤ s.mtu → IsValid Cif p
    → All (λ (packet : List ℕ). length packet ≤ s.mtu) (packets s total before p)

-- there is one at least, and the marker bit, as it is read, is 1 in the last one and 0 in all others
abbrev pub MarkerOnTheLast : Type 0
MarkerOnTheLast =
    (s : Settings) (total before : ℕ) (p : Picture) → 1000 ≤ s.mtu → IsValid Cif p
    → map (λ (packet : List ℕ). (fields_of packet).marker) (packets s total before p)
    ≡ replicate (length (packets s total before p) - 1) false ++ true ∷ []

-- The bits of a payload's octets: the header, and the bits of the text, with SBIT zeros before them and EBIT zeros behind.
abbrev pub ExcludedBitsAreZeros : Type 0
ExcludedBitsAreZeros =
    (text : List Bool) (from to : ℕ) (c : Context) → from < to → to ≤ length text
    → bits (payload_between text from to c)
    ≡ payload_header (sbit_of from) (ebit_of to) false true c
    ++ (zeros (sbit_of from) ++ (take (to - from) (drop from text) ++ zeros (ebit_of to)))

-- ---- the packets of one picture after the other

-- those of pictures that follow others go on after the packets of the others
abbrev pub PacketsGoOn : Type 0
PacketsGoOn =
    (s : Settings) (before : ℕ) (front others : List (ℕ × Picture))
    → sent_packets s before (front ++ others)
    ≡ sent_packets s before front ++ sent_packets s (before + length (sent_packets s before front)) others

-- what is sent after so many packets is what is sent first with the number of the next packet
abbrev pub NumbersGoOn : Type 0
NumbersGoOn =
    (s : Settings) (before : ℕ) (pictures : List (ℕ × Picture)) → out (settings_after s before) 0 pictures ≡ out s before pictures

-- a packer that was made has sent nothing
abbrev pub NothingSent : Type 0
NothingSent =
    (s : Settings) (first : Output) → s.seq < 2 ^ 16
    → HasSent s [] (record { settings = s; spent = false }) (record { packets = 0; octets = 0 }) first first

-- One that has sent pictures, and sends one more, has sent that one too; where the sink fails in the middle, a front was written of
-- the octets of all pictures up to that one: those of all before it, and not all of its own.
abbrev pub OneMoreIsSent : Type 0
OneMoreIsSent =
    (s : Settings) (pictures : List (ℕ × Picture)) (packer after : PackerState) (former : Sent) (first now then : Output)
    (total : ℕ) (coded : Coding) (p : Picture) (result : Result Sent Failed)
    → HasSent s pictures packer former first now
    → coded ≡ coding Cif p → SendsPicture coded total packer after now then result
    → HasSentNext s pictures (total, p) after former first then result

-- ---- the totals of a conference

-- each tick is a step of the conference, and none goes further than 31 picture times
abbrev pub TotalsAreSmall : Type 0
TotalsAreSmall = (lanes : ℕ) (H : History) → Legal lanes H → total_of H ≤ 31 * length H
