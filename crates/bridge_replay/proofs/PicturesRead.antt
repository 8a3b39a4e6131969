-- The packets of a picture are one run, with its text.
use Rattle.std.proofs.Common.{◌≡◌, ℕ, suc, ◌+◌, ◌-◌, ◌^◌, ◌<◌, ◌≤◌, ◌==◌, nat_le, ◌&&◌, Bool, true, false, List, [], ◌∷◌, ◌++◌, length, map, take, drop, Option, Some, refl, sym, ◌∙◌, ap, ap₂, subst, arith, length-take-le}
use Rattle.std.specs.List.{AllByRecursion}
use Rattle.std.proofs.lemmas.List.{length-drop, take_all, take-take, take-append-drop, drop-drop}
use Rattle.std.proofs.lemmas.Bool.{eq-eqb}
use Rattle.std.proofs.lemmas.Bool.Decides.{nat_tests}
use Rattle.cif_pack.specs.declared.atoms.AtomEnd.{AtomEnd}
use Rattle.cif_pack.specs.declared.atoms.Context.{Context}
use Rattle.cif_pack.specs.declared.packer.Settings.{Settings}
use Rattle.cif_pack.specs.Atoms.{atom_ends}
use Rattle.cif_pack.specs.Cuts.{cuts}
use Rattle.cif_pack.specs.Packets.{packets_to, packets, stamp_at}
use Rattle.cif_pack.specs.Payload.{no_context}
use Rattle.h261_pic.proofs.Texts.{length-text}
use Rattle.pel_bits.specs.Bits.{number}
use Rattle.pel_model.specs.declared.Format.TheVariants.{Cif}
use Rattle.pel_model.specs.Codes.{picture_start_code}
use Rattle.pel_model.specs.Headers.{picture_header_text}
use Rattle.pel_model.specs.Records.{Picture}
use Rattle.pel_model.specs.Text.{text}
use Rattle.pel_model.specs.Valid.{IsValid}
use Rattle.rtp_h261.specs.Packets.{piece_of}
use Rattle.rtp_h261.specs.Units.{Piece, bits_of}
use Rattle.rtp_wire.specs.Frames.{HasFrame}
use Rattle.rtp_wire.specs.Rtp.{LawOfPlainPackets}
use Rattle.bridge_replay.specs.ReadingBack.{AreSettings}
use Rattle.bridge_replay.proofs.PacketCuts.{Walks, AreCutsOf, cuts-of-picture}
use Rattle.bridge_replay.proofs.PacketPieces.{piece, packet-is-read, length-packet}
use Rattle.bridge_replay.proofs.PacketRuns.{Numbered, ToMarker, IsRun}

-- what the packets bring that end at these ends
abbrev pub pieces_to : Settings → (stamp before : ℕ) → (text : List Bool) → (from : ℕ) → List AtomEnd → List Piece
pieces_to s stamp before text from [] = []
pieces_to s stamp before text from (e ∷ es) = piece s stamp before text from e.at ∷ pieces_to s stamp (suc before) text e.at es

pieces-are-read : LawOfPlainPackets → (s : Settings) (stamp before : ℕ) (text : List Bool) (from : ℕ) (c : Context) (es : List AtomEnd) → s.ssrc < 2 ^ 32 → stamp < 2 ^ 32
    → Walks s.mtu (length text) from es → map piece_of (packets_to s stamp before text from c es) ≡ map Some (pieces_to s stamp before text from es)
pieces-are-read law s stamp before text from c [] name small w = refl
pieces-are-read law s stamp before text from c (e ∷ es) name small w =
    ap₂ (λ (p : Option Piece) (ps : List (Option Piece)). p ∷ ps) (packet-is-read law s stamp before text from e.at c name small w.0 w.1)
    (pieces-are-read law s stamp (suc before) text e.at e.context es name small w.3)

pieces-numbered : (s : Settings) (stamp before : ℕ) (text : List Bool) (from : ℕ) (es : List AtomEnd) → Numbered (s.seq + before) (pieces_to s stamp before text from es)
pieces-numbered s stamp before text from [] = tt
pieces-numbered s stamp before text from (e ∷ es) =
    let same : s.seq + suc before ≡ suc (s.seq + before) = omega arith in
    (refl, subst (λ (n : ℕ). Numbered n (pieces_to s stamp (suc before) text e.at es)) same (pieces-numbered s stamp (suc before) text e.at es))

packets-are-short : (s : Settings) (stamp before : ℕ) (text : List Bool) (from : ℕ) (c : Context) (es : List AtomEnd) → s.mtu ≤ 9000
    → Walks s.mtu (length text) from es → AllByRecursion HasFrame (packets_to s stamp before text from c es)
packets-are-short s stamp before text from c [] most w = tt
packets-are-short s stamp before text from c (e ∷ es) most w =
    (omega (arith, most, w.2, length-packet s stamp before text from e.at c w.0 w.1), packets-are-short s stamp (suc before) text e.at e.context es most w.3)

unequal : (m n : ℕ) → m < n → (m == n) ≡ false
unequal m n h = grind (arith, nat_tests)

pieces-marked : (s : Settings) (stamp before : ℕ) (text : List Bool) (from : ℕ) (e : AtomEnd) (es : List AtomEnd) → Walks s.mtu (length text) e.at es
    → ToMarker stamp (piece s stamp before text from e.at) (pieces_to s stamp (suc before) text e.at es)
pieces-marked s stamp before text from e [] w = eq-eqb _ _ w
pieces-marked s stamp before text from e (f ∷ es) w =
    (unequal e.at (length text) (omega (arith, w.0, w.1)), refl, pieces-marked s stamp (suc before) text e.at f es w.3)

two-parts : (text : List Bool) (from to : ℕ) → from ≤ to → take (to - from) (drop from text) ++ drop to text ≡ drop from text
two-parts text from to up =
    let same : to ≡ from + (to - from) = omega (arith, up) in
    ap (λ (t : List Bool). take (to - from) (drop from text) ++ t) (ap (λ (k : ℕ). drop k text) same ∙ sym (drop-drop (to - from) from text))
    ∙ take-append-drop (to - from) (drop from text)

pieces-whole : (s : Settings) (stamp before : ℕ) (text : List Bool) (from : ℕ) (e : AtomEnd) (es : List AtomEnd) → from < e.at → Walks s.mtu (length text) e.at es
    → bits_of (piece s stamp before text from e.at) (pieces_to s stamp (suc before) text e.at es) ≡ drop from text
pieces-whole s stamp before text from e [] some w = take_all (e.at - from) (drop from text) (omega (arith, w, length-drop from text))
pieces-whole s stamp before text from e (f ∷ es) some w =
    ap (λ (t : List Bool). take (e.at - from) (drop from text) ++ t) (pieces-whole s stamp (suc before) text e.at f es w.0 w.3)
    ∙ two-parts text from e.at (omega (arith, some))

-- ---- the first packet begins with the start code

start : (p : Picture) → take 20 (text Cif p) ≡ picture_start_code
unfolding picture_header_text
start p = refl

start-spells : number picture_start_code ≡ 16
unfolding number
start-spells = refl

starts : (p : Picture) (to : ℕ) → 20 ≤ to → to ≤ length (text Cif p) → (nat_le 20 (length (take to (text Cif p))) && (number (take 20 (take to (text Cif p))) == 16)) ≡ true
starts p to far within =
    let long : nat_le 20 (length (take to (text Cif p))) ≡ true = le 20 (length (take to (text Cif p))) (omega (arith, far, length-take-le to (text Cif p) within)) in
    let spelt : number (take 20 (take to (text Cif p))) ≡ 16 = ap number (take-take 20 to (text Cif p) far ∙ start p) ∙ start-spells in
    ap₂ (λ (a b : Bool). a && b) long (eq-eqb _ _ spelt)
  where
    le : (m n : ℕ) → m ≤ n → nat_le m n ≡ true
    le m n h = grind (arith, nat_tests)

-- ---- a picture

pub record IsRead (s : Settings) (total before : ℕ) (picture : Picture) : Type 0 where
  pub first : Piece
  pub others : List Piece
  pub reads : map piece_of (packets s total before picture) ≡ map Some (first ∷ others)
  pub run : IsRun (s.seq + before) (text Cif picture) first others
  pub frames : AllByRecursion HasFrame (packets s total before picture)

read-of-cuts : LawOfPlainPackets → (s : Settings) (total before : ℕ) (p : Picture) (cs : List AtomEnd) → s.ssrc < 2 ^ 32 → s.mtu ≤ 9000 → cs ≡ cuts s.mtu 0 (atom_ends p) → AreCutsOf s.mtu (length (text Cif p)) cs
    → IsRead s total before p
read-of-cuts law s total before p [] name most is a = absurd (omega (arith, a.walk, length-text Cif p))
read-of-cuts law s total before p (e ∷ es) name most is a =
    let stamp = stamp_at s total in
    let bits = text Cif p in
    record {
      first = piece s stamp before bits 0 e.at;
      others = pieces_to s stamp (suc before) bits e.at es;
      reads = ap (λ (cs : List AtomEnd). map piece_of (packets_to s stamp before bits 0 no_context cs)) (sym is)
          ∙ pieces-are-read law s stamp before bits 0 no_context (e ∷ es) name (omega arith) a.walk;
      run = record {
        numbers = pieces-numbered s stamp before bits 0 (e ∷ es);
        starts = starts p (e.at - 0) (omega (arith, a.far.0)) (omega (arith, a.walk.1));
        marked = pieces-marked s stamp before bits 0 e es a.walk.3;
        whole = pieces-whole s stamp before bits 0 e es a.walk.0 a.walk.3;
      };
      frames = subst (λ (cs : List AtomEnd). AllByRecursion HasFrame (packets_to s stamp before bits 0 no_context cs)) is
          (packets-are-short s stamp before bits 0 no_context (e ∷ es) most a.walk);
    }

pub picture-is-read : LawOfPlainPackets → (s : Settings) (total before : ℕ) (p : Picture) → AreSettings s → IsValid Cif p → IsRead s total before p
picture-is-read law s total before p set valid =
    read-of-cuts law s total before p (cuts s.mtu 0 (atom_ends p)) set.ssrc set.most refl (cuts-of-picture s.mtu p set.least valid)
