-- Worked packets and frames: octets, and what is read of them or why nothing is, with values that were computed apart from
-- these definitions.
use Rattle.std.specs.Prelude.{◌≡◌, ℕ, Bool, true, false, List, [], ◌∷◌, map, replicate, Ok, Err, refl}
use Rattle.rtp_wire.specs.declared.frames.FrameEnd.TheVariants.{End, Cut, Limit}
use Rattle.rtp_wire.specs.declared.header.PacketFault.TheVariants.{Short, Version, BadCsrc, BadExtension, BadPadding}
use Rattle.rtp_wire.specs.Frames.{frame, next_frame, stream_of}
use Rattle.rtp_wire.specs.Rtp.{Fields, refusal, fields_of, packet_of}

abbrev fields : Bool → (kind seq stamp ssrc : ℕ) → List ℕ → Fields
fields marker kind seq stamp ssrc payload = record { marker = marker; kind = kind; seq = seq; stamp = stamp; ssrc = ssrc; payload = payload }

-- octets, in this order: eleven octets; a header alone; a payload; version 1; version 3; two sources; a source that is cut; an extension
-- of one word; an extension of no word; an extension without its length; an extension that is cut; an extension of 256 words that is cut;
-- a source and an extension; padding of two octets; padding alone; padding of no octets; padding of more than there is; padding where
-- nothing is; padding behind an extension, of more than there is
pub packets : map packet_of
    ((128 ∷ 31 ∷ 0 ∷ 0 ∷ 0 ∷ 0 ∷ 0 ∷ 0 ∷ 0 ∷ 0 ∷ 0 ∷ [])
    ∷ (128 ∷ 255 ∷ 1 ∷ 2 ∷ 3 ∷ 4 ∷ 5 ∷ 6 ∷ 7 ∷ 8 ∷ 9 ∷ 10 ∷ [])
    ∷ (128 ∷ 31 ∷ 255 ∷ 255 ∷ 255 ∷ 255 ∷ 255 ∷ 255 ∷ 0 ∷ 0 ∷ 0 ∷ 1 ∷ 9 ∷ 8 ∷ 7 ∷ [])
    ∷ (64 ∷ 31 ∷ 0 ∷ 0 ∷ 0 ∷ 0 ∷ 0 ∷ 0 ∷ 0 ∷ 0 ∷ 0 ∷ 0 ∷ [])
    ∷ (192 ∷ 31 ∷ 0 ∷ 0 ∷ 0 ∷ 0 ∷ 0 ∷ 0 ∷ 0 ∷ 0 ∷ 0 ∷ 0 ∷ [])
    ∷ (130 ∷ 31 ∷ 0 ∷ 0 ∷ 0 ∷ 0 ∷ 0 ∷ 0 ∷ 0 ∷ 0 ∷ 0 ∷ 0 ∷ 1 ∷ 2 ∷ 3 ∷ 4 ∷ 5 ∷ 6 ∷ 7 ∷ 8 ∷ 5 ∷ [])
    ∷ (130 ∷ 31 ∷ 0 ∷ 0 ∷ 0 ∷ 0 ∷ 0 ∷ 0 ∷ 0 ∷ 0 ∷ 0 ∷ 0 ∷ 0 ∷ 0 ∷ 0 ∷ 0 ∷ 0 ∷ 0 ∷ 0 ∷ [])
    ∷ (144 ∷ 31 ∷ 0 ∷ 0 ∷ 0 ∷ 0 ∷ 0 ∷ 0 ∷ 0 ∷ 0 ∷ 0 ∷ 0 ∷ 1 ∷ 2 ∷ 0 ∷ 1 ∷ 3 ∷ 4 ∷ 5 ∷ 6 ∷ 7 ∷ 8 ∷ [])
    ∷ (144 ∷ 31 ∷ 0 ∷ 0 ∷ 0 ∷ 0 ∷ 0 ∷ 0 ∷ 0 ∷ 0 ∷ 0 ∷ 0 ∷ 1 ∷ 2 ∷ 0 ∷ 0 ∷ [])
    ∷ (144 ∷ 31 ∷ 0 ∷ 0 ∷ 0 ∷ 0 ∷ 0 ∷ 0 ∷ 0 ∷ 0 ∷ 0 ∷ 0 ∷ 1 ∷ 2 ∷ 0 ∷ [])
    ∷ (144 ∷ 31 ∷ 0 ∷ 0 ∷ 0 ∷ 0 ∷ 0 ∷ 0 ∷ 0 ∷ 0 ∷ 0 ∷ 0 ∷ 1 ∷ 2 ∷ 0 ∷ 1 ∷ 3 ∷ 4 ∷ 5 ∷ [])
    ∷ (144 ∷ 31 ∷ 0 ∷ 0 ∷ 0 ∷ 0 ∷ 0 ∷ 0 ∷ 0 ∷ 0 ∷ 0 ∷ 0 ∷ 1 ∷ 2 ∷ 1 ∷ 0 ∷ 3 ∷ 4 ∷ 5 ∷ 6 ∷ [])
    ∷ (145 ∷ 31 ∷ 0 ∷ 0 ∷ 0 ∷ 0 ∷ 0 ∷ 0 ∷ 0 ∷ 0 ∷ 0 ∷ 0 ∷ 0 ∷ 0 ∷ 0 ∷ 0 ∷ 1 ∷ 2 ∷ 0 ∷ 1 ∷ 3 ∷ 4 ∷ 5 ∷ 6 ∷ 7 ∷ [])
    ∷ (160 ∷ 31 ∷ 0 ∷ 0 ∷ 0 ∷ 0 ∷ 0 ∷ 0 ∷ 0 ∷ 0 ∷ 0 ∷ 0 ∷ 7 ∷ 8 ∷ 0 ∷ 2 ∷ [])
    ∷ (160 ∷ 31 ∷ 0 ∷ 0 ∷ 0 ∷ 0 ∷ 0 ∷ 0 ∷ 0 ∷ 0 ∷ 0 ∷ 0 ∷ 9 ∷ 9 ∷ 3 ∷ [])
    ∷ (160 ∷ 31 ∷ 0 ∷ 0 ∷ 0 ∷ 0 ∷ 0 ∷ 0 ∷ 0 ∷ 0 ∷ 0 ∷ 0 ∷ 7 ∷ 0 ∷ [])
    ∷ (160 ∷ 31 ∷ 0 ∷ 0 ∷ 0 ∷ 0 ∷ 0 ∷ 0 ∷ 0 ∷ 0 ∷ 0 ∷ 0 ∷ 7 ∷ 3 ∷ [])
    ∷ (160 ∷ 31 ∷ 0 ∷ 0 ∷ 0 ∷ 0 ∷ 0 ∷ 0 ∷ 0 ∷ 0 ∷ 0 ∷ 0 ∷ [])
    ∷ (176 ∷ 31 ∷ 0 ∷ 0 ∷ 0 ∷ 0 ∷ 0 ∷ 0 ∷ 0 ∷ 0 ∷ 0 ∷ 0 ∷ 0 ∷ 0 ∷ 0 ∷ 1 ∷ 0 ∷ 0 ∷ 0 ∷ 9 ∷ 5 ∷ 5 ∷ [])
    ∷ [])
    ≡ Err Short
    ∷ Ok (fields true 127 258 50595078 117967114 ([]))
    ∷ Ok (fields false 31 65535 4294967295 1 (9 ∷ 8 ∷ 7 ∷ []))
    ∷ Err Version
    ∷ Err Version
    ∷ Ok (fields false 31 0 0 0 (5 ∷ []))
    ∷ Err BadCsrc
    ∷ Ok (fields false 31 0 0 0 (7 ∷ 8 ∷ []))
    ∷ Ok (fields false 31 0 0 0 ([]))
    ∷ Err BadExtension
    ∷ Err BadExtension
    ∷ Err BadExtension
    ∷ Ok (fields false 31 0 0 0 (7 ∷ []))
    ∷ Ok (fields false 31 0 0 0 (7 ∷ 8 ∷ []))
    ∷ Ok (fields false 31 0 0 0 ([]))
    ∷ Err BadPadding
    ∷ Err BadPadding
    ∷ Err BadPadding
    ∷ Err BadPadding
    ∷ []
unfolding packet_of refusal fields_of
packets = refl

-- where a frame is, of octets of which none or some were taken, within a budget
pub frames_taken :
    map (λ (octets : List ℕ). next_frame octets 7 100) (
    []
    ∷ (0 ∷ [])
    ∷ (0 ∷ 0 ∷ [])
    ∷ (0 ∷ 2 ∷ 9 ∷ [])
    ∷ (0 ∷ 2 ∷ 9 ∷ 8 ∷ [])
    ∷ (0 ∷ 2 ∷ 9 ∷ 8 ∷ 7 ∷ [])
    ∷ (1 ∷ 0 ∷ 9 ∷ [])
    ∷ (0 ∷ 3 ∷ replicate 91 5)
    ∷ [])
    ≡ Err End ∷ Err (Cut 8) ∷ Ok [] ∷ Err (Cut 10) ∷ Ok (9 ∷ 8 ∷ []) ∷ Ok (9 ∷ 8 ∷ []) ∷ Err (Cut 10) ∷ Ok (5 ∷ 5 ∷ 5 ∷ []) ∷ []
unfolding next_frame
frames_taken = refl

-- at the budget's end: a frame that just fits, one that does not, and an end that is not seen
pub frames_at_the_limit :
    map (λ budget. next_frame (0 ∷ 2 ∷ 9 ∷ 8 ∷ []) 7 budget) (12 ∷ 11 ∷ 10 ∷ 7 ∷ []) ≡ Ok (9 ∷ 8 ∷ []) ∷ Ok (9 ∷ 8 ∷ []) ∷ Err Limit ∷ Err Limit ∷ []
unfolding next_frame
frames_at_the_limit = refl

pub ends_at_the_limit :
    map (λ budget. next_frame (0 ∷ 2 ∷ 9 ∷ []) 7 budget) (12 ∷ 11 ∷ 10 ∷ []) ≡ Err (Cut 10) ∷ Err (Cut 10) ∷ Err Limit ∷ []
unfolding next_frame
ends_at_the_limit = refl

pub nothing_at_the_limit : map (λ budget. next_frame [] 7 budget) (8 ∷ 7 ∷ []) ≡ Err End ∷ Err Limit ∷ []
unfolding next_frame
nothing_at_the_limit = refl

-- packets one behind the other, and less than one
pub streams :
    (frame (replicate 258 7) ≡ 1 ∷ 2 ∷ replicate 258 7)
    × (stream_of ((5 ∷ []) ∷ [] ∷ (6 ∷ 7 ∷ []) ∷ []) (0 ∷ 9 ∷ 1 ∷ []) ≡ 0 ∷ 1 ∷ 5 ∷ 0 ∷ 0 ∷ 0 ∷ 2 ∷ 6 ∷ 7 ∷ 0 ∷ 9 ∷ 1 ∷ [])
streams = (refl, refl)
