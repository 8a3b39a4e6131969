-- All pictures, and each packet of theirs.
use Rattle.std.proofs.Common.{◌≡◌, ℕ, zero, suc, ◌+◌, ◌-◌, ◌<◌, Bool, false, List, [], ◌∷◌, ◌++◌, length, map, flat_map, replicate, slice_index_or, Option, Some, None, refl, sym, ◌∙◌, ap, ap₂, subst, arith, length-append, append_assoc, append-nil}
use Rattle.std.specs.Prelude.{All}
use Rattle.std.proofs.lemmas.List.{length-map, map-append, length-replicate}
use Rattle.std.specs.List.{AllByRecursion}
use Rattle.std.proofs.lemmas.List.Elements.{All-head, All-tail, All-cons, All-nil}
use Rattle.cif_pack.specs.declared.packer.Settings.{Settings}
use Rattle.cif_pack.specs.Packets.{sent_packets, packets, out}
use Rattle.h261_pic.specs.Coded.{coding}
use Rattle.pel_model.specs.declared.Format.TheVariants.{Cif}
use Rattle.pel_model.specs.Records.{Picture as Record}
use Rattle.pel_model.specs.Text.{text}
use Rattle.picture_laws.proofs.Answers.{never-both}
use Rattle.picture_laws.proofs.FormProofs.{strict-own}
use Rattle.picture_laws.proofs.Strict.{text-accepted}
use Rattle.rtp_h261.specs.declared.depack.Unit.TheVariants.{Picture, Gap}
use Rattle.rtp_h261.specs.Packets.{piece_of}
use Rattle.rtp_h261.specs.Units.{Piece, Part, Run, Given, gives_nothing, cut_parts, parts_give, all_given, fed}
use Rattle.rtp_h261.proofs.GivenLemmas.{all_given_length}
use Rattle.rtp_h261.proofs.StepLemmas.{front_law}
use Rattle.rtp_wire.specs.Frames.{frame, HasFrame, LawOfOneStream}
use Rattle.rtp_wire.specs.Rtp.{LawOfPlainPackets}
use Rattle.bridge_replay.specs.ReadingBack.{AreSettings, CanBePacked, PacketsAreSent, unit_at_the_last, texts_given, PacketsGiveTexts, EachPacketGives, units, OctetsGivePictures, TextIsItsPicture}
use Rattle.bridge_replay.proofs.PicturesRead.{IsRead, picture-is-read}
use Rattle.bridge_replay.proofs.PacketRuns.{Numbered, numbered-append, Before, behind-run, run-is-given, given-is}

-- ---- what pictures give

record AreRead (s : Settings) (before : ℕ) (pictures : List (ℕ × Record)) : Type 0 where
  pub pieces : List Piece
  pub reads : map piece_of (sent_packets s before pictures) ≡ map Some pieces
  pub numbers : Numbered (s.seq + before) pieces
  pub given : (z : Option Part) → Before (s.seq + before) z → parts_give z (cut_parts 0 pieces) ≡ texts_given s before pictures
  pub count : length (texts_given s before pictures) ≡ length pieces
  pub frames : AllByRecursion HasFrame (sent_packets s before pictures)

all-append : (P : List ℕ → Type 0) (xs ys : List (List ℕ)) → AllByRecursion P xs → AllByRecursion P ys → AllByRecursion P (xs ++ ys)
all-append P [] ys h k = k
all-append P (x ∷ xs) ys h k = (h.0, all-append P xs ys h.1 k)

length-unit : (n : ℕ) (bits : List Bool) → length (unit_at_the_last (suc n) bits) ≡ suc n
length-unit n bits = omega (arith, length-append (replicate (suc n - 1) gives_nothing) (record { lost = false; unit = Some bits } ∷ []), length-replicate (suc n - 1) gives_nothing)

one-more : (s : Settings) (before : ℕ) (next : ℕ × Record) (pictures : List (ℕ × Record)) → IsRead s next.0 before next.1
    → AreRead s (before + length (packets s next.0 before next.1)) pictures → AreRead s before (next ∷ pictures)
one-more s before next pictures r rest =
    let these = packets s next.0 before next.1 in
    let run = r.first ∷ r.others in
    let bits = text Cif next.1 in
    let after = texts_given s (before + length these) pictures in
    let size : length these ≡ length run = sym (length-map these piece_of) ∙ ap length r.reads ∙ length-map run Some in
    let from : s.seq + (before + length these) ≡ s.seq + before + length run = omega (arith, size) in
    let is_count : length (unit_at_the_last (length these) bits) ≡ length run =
    ap (λ n. length (unit_at_the_last n bits)) size ∙ length-unit (length r.others) bits in
    record {
      pieces = run ++ rest.pieces;
      reads = map-append piece_of these (sent_packets s (before + length these) pictures)
          ∙ ap₂ (λ (xs ys : List (Option Piece)). xs ++ ys) r.reads rest.reads
          ∙ sym (map-append Some run rest.pieces);
      numbers = numbered-append (s.seq + before) run rest.pieces r.run.numbers (subst (λ n. Numbered n rest.pieces) from rest.numbers);
      given = λ z b. run-is-given (s.seq + before) bits z r.first r.others rest.pieces b r.run
          ∙ ap₂ (λ (n : ℕ) (gs : List Given). unit_at_the_last n bits ++ gs) (sym size)
          (rest.given (Some (Run r.first r.others)) (subst (λ n. Before n (Some (Run r.first r.others))) (sym from) (behind-run (s.seq + before) bits r.first r.others r.run)));
      count = length-append (unit_at_the_last (length these) bits) after ∙ ap₂ (λ (m n : ℕ). m + n) is_count rest.count ∙ sym (length-append run rest.pieces);
      frames = all-append HasFrame these (sent_packets s (before + length these) pictures) r.frames rest.frames;
    }

are-read : LawOfPlainPackets → (s : Settings) (before : ℕ) (pictures : List (ℕ × Record)) → AreSettings s → All CanBePacked pictures → AreRead s before pictures
are-read law s before [] set fine = record { pieces = []; reads = refl; numbers = tt; given = λ z b. refl; count = refl; frames = tt }
are-read law s before (next ∷ pictures) set fine =
    one-more s before next pictures
    (picture-is-read law s next.0 before next.1 set (All-head CanBePacked next pictures fine).valid)
    (are-read law s (before + length (packets s next.0 before next.1)) pictures set (All-tail CanBePacked next pictures fine))

pub packets-give-texts : LawOfPlainPackets → PacketsGiveTexts
packets-give-texts law s before pictures set fine =
    let r = are-read law s before pictures set fine in
    ap all_given r.reads ∙ given-is (s.seq + before) r.pieces (texts_given s before pictures) r.numbers (r.given None tt) r.count

-- ---- one by one

index-front : (gs hs : List Given) (i : ℕ) → i < length gs → slice_index_or (gs ++ hs) i gives_nothing ≡ slice_index_or gs i gives_nothing
index-front [] hs i h = absurd (omega (arith, h))
index-front (g ∷ gs) hs zero h = refl
index-front (g ∷ gs) hs (suc i) h = index-front gs hs i (omega (arith, h))

fronts : (xs ys : List (Option Piece)) → (hs : List Given) × (all_given (xs ++ ys) ≡ all_given xs ++ hs)
fronts xs [] = ([], ap all_given (append-nil xs) ∙ sym (append-nil (all_given xs)))
fronts xs (y ∷ ys) =
    let more = fronts (xs ++ y ∷ []) ys in
    let g = fed (xs ++ y ∷ []) (length xs) in (
      g ∷ more.0,
      ap all_given (sym (append_assoc xs (y ∷ []) ys)) ∙ more.1 ∙ ap (λ (gs : List Given). gs ++ more.0) (front_law xs y) ∙ append_assoc (all_given xs) (g ∷ []) more.0,
    )

fed-in : (xs : List (Option Piece)) (p : Option Piece) (ys : List (Option Piece)) → fed (xs ++ p ∷ []) (length xs) ≡ slice_index_or (all_given (xs ++ p ∷ ys)) (length xs) gives_nothing
fed-in xs p ys =
    let more = fronts (xs ++ p ∷ []) ys in
    let inside : length xs < length (all_given (xs ++ p ∷ [])) = omega (arith, all_given_length (xs ++ p ∷ []), length-append xs (p ∷ [])) in
    sym (ap (λ (gs : List Given). slice_index_or gs (length xs) gives_nothing) (ap all_given (sym (append_assoc xs (p ∷ []) ys)) ∙ more.1)
    ∙ index-front (all_given (xs ++ p ∷ [])) more.0 (length xs) inside)

pub each-packet-gives : LawOfPlainPackets → EachPacketGives
each-packet-gives law s before pictures front behind packet set fine is =
    let xs = map piece_of front in
    let size : length front ≡ length xs = sym (length-map front piece_of) in
    let all : all_given (xs ++ piece_of packet ∷ map piece_of behind) ≡ texts_given s before pictures =
    ap all_given (sym (map-append piece_of front (packet ∷ behind))) ∙ ap (λ (ps : List (List ℕ)). all_given (map piece_of ps)) (sym is)
    ∙ packets-give-texts law s before pictures set fine in
    ap₂ (λ (ps : List (Option Piece)) (i : ℕ). fed ps i) (map-append piece_of front (packet ∷ [])) size
    ∙ fed-in xs (piece_of packet) (map piece_of behind)
    ∙ ap₂ (λ (gs : List Given) (i : ℕ). slice_index_or gs i gives_nothing) all (sym size)

-- ---- the octets

pub packets-are-sent : LawOfPlainPackets → PacketsAreSent
packets-are-sent law s before pictures set fine = record {
  cut = sym (append-nil (flat_map frame (sent_packets s before pictures)));
  frames = (are-read law s before pictures set fine).frames;
  part = tt;
}

units-last : (n : ℕ) (bits : List Bool) (gs : List Given) → units ((replicate n gives_nothing ++ record { lost = false; unit = Some bits } ∷ []) ++ gs) ≡ bits ∷ units gs
units-last zero bits gs = refl
units-last (suc n) bits gs = units-last n bits gs

units-are-texts : (s : Settings) (before : ℕ) (pictures : List (ℕ × Record)) → units (texts_given s before pictures) ≡ map (λ (next : ℕ × Record). text Cif next.1) pictures
units-are-texts s before [] = refl
units-are-texts s before (next ∷ pictures) =
    let count = length (packets s next.0 before next.1) in
    units-last (count - 1) (text Cif next.1) (texts_given s (before + count) pictures)
    ∙ ap (λ (us : List (List Bool)). text Cif next.1 ∷ us) (units-are-texts s (before + count) pictures)

abbrev IsKept : Given → Type 0
IsKept g = g.lost ≡ false

kept-last : (n : ℕ) (bits : List Bool) (gs : List Given) → All IsKept gs → All IsKept ((replicate n gives_nothing ++ record { lost = false; unit = Some bits } ∷ []) ++ gs)
kept-last zero bits gs h = All-cons IsKept (record { lost = false; unit = Some bits }) gs refl h
kept-last (suc n) bits gs h = All-cons IsKept gives_nothing _ refl (kept-last n bits gs h)

none-lost : (s : Settings) (before : ℕ) (pictures : List (ℕ × Record)) → All IsKept (texts_given s before pictures)
none-lost s before [] = All-nil IsKept
none-lost s before (next ∷ pictures) =
    let count = length (packets s next.0 before next.1) in
    kept-last (count - 1) (text Cif next.1) (texts_given s (before + count) pictures) (none-lost s (before + count) pictures)

pub octets-give-pictures : LawOfPlainPackets → LawOfOneStream → OctetsGivePictures
octets-give-pictures law one s before pictures ps rest set fine stream =
    let same = one (out s before pictures) ps (sent_packets s before pictures) rest [] stream (packets-are-sent law s before pictures set fine) in
    let given : all_given (map piece_of ps) ≡ texts_given s before pictures =
    ap (λ (qs : List (List ℕ)). all_given (map piece_of qs)) same.0 ∙ packets-give-texts law s before pictures set fine in
    record {
      whole = same.1;
      texts = ap units given ∙ units-are-texts s before pictures;
      lost = subst (All IsKept) (sym given) (none-lost s before pictures);
    }

-- ---- a unit with a picture's text

pub text-is-its-picture : TextIsItsPicture
text-is-its-picture next Picture coded fine is =
    (refl, is.2 ∙ ap (coding Cif) (sym (strict-own Cif next.1 is.0 fine.valid is.1)))
text-is-its-picture next (Gap fault) coded fine is =
    absurd (never-both Cif (text Cif next.1) next.1 fault.place fault.why (text-accepted Cif next.1 fine.valid fine.short) is.0)
