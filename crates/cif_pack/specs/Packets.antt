-- The packets of pictures.
use Rattle.std.specs.Prelude.{ℕ, suc, ◌+◌, ◌*◌, ◌%◌, ◌^◌, ◌==◌, Bool, List, [], ◌∷◌, ◌++◌, length, flat_map}
use Rattle.cif_pack.specs.declared.atoms.AtomEnd.{AtomEnd}
use Rattle.cif_pack.specs.declared.atoms.Context.{Context}
use Rattle.cif_pack.specs.Atoms.{atom_ends}
use Rattle.cif_pack.specs.Cuts.{cuts}
use Rattle.cif_pack.specs.Payload.{no_context, payload_between}
use Rattle.cif_pack.specs.declared.packer.Settings.{Settings}
use Rattle.pel_model.specs.declared.Format.TheVariants.{Cif}
use Rattle.pel_model.specs.Records.{Picture}
use Rattle.pel_model.specs.Text.{text}
use Rattle.rtp_wire.specs.Frames.{frame}
use Rattle.rtp_wire.specs.Rtp.{octets_of, plain}

-- a step is 1,001 / 30,000 seconds, 3,003 ticks of the clock (RFC 4587, 4.1); timestamps have 32 bits
abbrev pub stamp_at : Settings → (total : ℕ) → ℕ
stamp_at s total = (s.stamp + 3003 * total) % 2 ^ 32

-- the sequence number of a packet, by the packets before it; it has 16 bits
abbrev pub sequence_after : Settings → (before : ℕ) → ℕ
sequence_after s before = (s.seq + before) % 2 ^ 16

-- The packet with this timestamp behind so many that brings the text's bits from one place to another. The marker bit is that of the last
-- packet of a picture, and the payload type is 31.
abbrev pub packet_between : Settings → (stamp before : ℕ) → (text : List Bool) → (from to : ℕ) → Context → List ℕ
packet_between s stamp before text from to context =
    octets_of (plain (record {
      marker = to == length text;
      kind = 31;
      seq = sequence_after s before;
      stamp = stamp;
      ssrc = s.ssrc;
      payload = payload_between text from to context;
    }))

-- the packets that end at these ends, the first of which begins at `from`
abbrev pub packets_to : Settings → (stamp before : ℕ) → (text : List Bool) → (from : ℕ) → Context → List AtomEnd → List (List ℕ)
packets_to s stamp before text from context [] = []
packets_to s stamp before text from context (end ∷ ends) =
    packet_between s stamp before text from end.at context ∷ packets_to s stamp (suc before) text end.at end.context ends

-- the packets of a picture that is sent behind so many packets, when the sum of the steps is `total`
abbrev pub packets : Settings → (total before : ℕ) → Picture → List (List ℕ)
packets s total before picture =
    packets_to s (stamp_at s total) before (text Cif picture) 0 no_context (cuts s.mtu 0 (atom_ends picture))

-- packets as they stand on a stream of octets, each in its frame
abbrev pub framed : List (List ℕ) → List ℕ
framed packets = flat_map frame packets

-- the packets of pictures that are sent one after the other behind so many packets, each at its total
abbrev pub sent_packets : Settings → (before : ℕ) → List (ℕ × Picture) → List (List ℕ)
sent_packets s before [] = []
sent_packets s before (next ∷ pictures) =
    packets s next.0 before next.1 ++ sent_packets s (before + length (packets s next.0 before next.1)) pictures

-- their octets
abbrev pub out : Settings → (before : ℕ) → List (ℕ × Picture) → List ℕ
out s before pictures = framed (sent_packets s before pictures)
