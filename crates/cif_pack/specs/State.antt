-- A packer, as its callers see it, and what sending a picture does.
use Rattle.std.specs.Prelude.{◌≡◌, ℕ, ◌+◌, ◌^◌, ◌<◌, ◌≤◌, Bool, false, true, List, [], ◌∷◌, ◌++◌, length, take, Option, Result, Ok, Err, IfOk}
use Rattle.std.specs.Io.KnownBytes.{Appends}
use Rattle.cif_pack.specs.declared.packer.Sent.{Sent}
use Rattle.cif_pack.specs.declared.packer.Settings.{Settings}
use Rattle.cif_pack.specs.Packets.{sequence_after, framed, packets, sent_packets, out}
use Rattle.h261_pic.specs.Coded.{Coding, coding}
use Rattle.io_edge.specs.declared.edges.Failed.{Failed}
use Rattle.io_edge.specs.Causes.{HasCause, Rose}
use Rattle.io_edge.specs.Outside.{Output}
use Rattle.pel_model.specs.declared.Format.TheVariants.{Cif}
use Rattle.pel_model.specs.Records.{Picture}

-- the settings with the number of the next packet, and whether a sink failed, so that it cannot be used again
pub record PackerState : Type 0 where
  pub settings : Settings
  pub spent : Bool

-- What a sink was given for these packets: all of them, each in its frame, and their number and octets are told; or, where
-- the sink failed, a front of them and not all.
abbrev pub Puts : {E : Type 0} → (old new : Option (List ℕ)) → Result Sent E → List (List ℕ) → Type 0
Puts old new (Ok sent) packets =
    Appends old new (framed packets) × (sent.packets ≡ length packets) × (sent.octets ≡ length (framed packets))
Puts old new (Err _) packets = (n : ℕ) × (n < length (framed packets)) × Appends old new (take n (framed packets))

-- a picture has at most 396 atoms, and no more packets than atoms; its bits, at most 262,144, fill 32,768 octets, and each packet has
-- one more at most, which it shares with the packet before it, and 18 of its headers and of its frame's length
abbrev pub AreFew : Sent → Type 0
AreFew sent = (sent.packets ≤ 396) × (sent.octets < 2 ^ 16)

-- the settings after so many packets: the number of the first one is that of the next
abbrev pub settings_after : Settings → ℕ → Settings
settings_after s count = record s { seq = sequence_after s count }

-- what becomes of a packer that sends these packets: it goes on after them, or is spent
abbrev pub PackerGoesOn : {E : Type 0} → (old new : PackerState) → Result Sent E → List (List ℕ) → Type 0
PackerGoesOn old new (Ok _) packets = new ≡ record old { settings = settings_after old.settings (length packets) }
PackerGoesOn old new (Err _) packets = new.spent ≡ true

-- what a packer does to the sink and to itself that sends a coded picture at this total: whichever picture's coding it is, that
-- picture's packets are put, and the packer goes on after them; they are few, and only a sink that failed is a reason not to send all
pub record SendsPicture (coded : Coding) (total : ℕ) (old new : PackerState) (before after : Output) (result : Result Sent Failed) : Type 0 where
  pub puts : (p : Picture) → coded ≡ coding Cif p → Puts before.written after.written result (packets old.settings total 0 p)
  pub goes_on : (p : Picture) → coded ≡ coding Cif p → PackerGoesOn old new result (packets old.settings total 0 p)
  pub few : IfOk result AreFew
  pub cause : HasCause before.faults after.faults result

-- ---- picture by picture

-- A packer that had these settings at first has sent these pictures, each at its total, and can go on: a sink that had told
-- `first` then tells `now`, to which all their packets were added, each in its frame; so many packets and octets were told, and
-- no write failed.
pub record HasSent (s : Settings) (pictures : List (ℕ × Picture)) (packer : PackerState) (sent : Sent) (first now : Output) : Type 0 where
  pub state : packer ≡ record { settings = settings_after s (length (sent_packets s 0 pictures)); spent = false }
  pub packets_told : sent.packets ≡ length (sent_packets s 0 pictures)
  pub octets_told : sent.octets ≡ length (out s 0 pictures)
  pub written : Appends first.written now.written (out s 0 pictures)
  pub faults : now.faults ≡ first.faults

-- After pictures that were sent, the sink was given a front of the packets of the next one, and not all, and failed.
pub record HasFront (s : Settings) (pictures : List (ℕ × Picture)) (next : ℕ × Picture) (first now : Output) : Type 0 where
  pub count : ℕ
  pub former : length (out s 0 pictures) ≤ count
  pub part : count < length (out s 0 (pictures ++ next ∷ []))
  pub written : Appends first.written now.written (take count (out s 0 (pictures ++ next ∷ [])))
  pub failed : Rose first.faults now.faults

-- so many packets and octets, and these beside
abbrev pub both_sent : (former more : Sent) → Sent
both_sent former more = record { packets = former.packets + more.packets; octets = former.octets + more.octets }

-- after pictures that were sent, of so many packets and octets, the next one was sent too; or the sink failed at it
abbrev pub HasSentNext : Settings → List (ℕ × Picture) → (next : ℕ × Picture) → (packer : PackerState) → (former : Sent)
    → (first now : Output) → Result Sent Failed → Type 0
HasSentNext s pictures next packer former first now (Ok sent) =
    HasSent s (pictures ++ next ∷ []) packer (both_sent former sent) first now
HasSentNext s pictures next packer former first now (Err _) = HasFront s pictures next first now
