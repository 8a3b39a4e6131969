-- The packets of one picture after the other.
use Rattle.std.proofs.Common.{◌≡◌, ℕ, suc, ◌+◌, ◌^◌, ◌<◌, ◌≤◌, ◌==◌, Bool, false, List, [], ◌∷◌, ◌++◌, length, take, IfOk, Option, Result, Ok, Err, refl, sym, ◌∙◌, ap, ap₂, subst, arith, append_assoc, append-nil, length-append}
use Rattle.std.proofs.lemmas.Grind.{flat_map-append}
use Rattle.std.proofs.Math.Seq.{take-append-add}
use Rattle.std.proofs.KnownBytes.{Appends-trans}
use Rattle.std.specs.Io.KnownBytes.{Appends}
use Rattle.cif_pack.specs.declared.atoms.AtomEnd.{AtomEnd}
use Rattle.cif_pack.specs.declared.atoms.Context.{Context}
use Rattle.cif_pack.specs.declared.packer.Sent.{Sent}
use Rattle.cif_pack.specs.declared.packer.Settings.{Settings}
use Rattle.cif_pack.specs.Atoms.{atom_ends}
use Rattle.cif_pack.specs.Cuts.{cuts}
use Rattle.cif_pack.specs.Packets.{packet_between, packets_to, packets, stamp_at, sequence_after, framed, sent_packets, out}
use Rattle.cif_pack.specs.Payload.{no_context, payload_between}
use Rattle.cif_pack.specs.State.{PackerState, settings_after, SendsPicture, HasSent, HasSentNext}
use Rattle.cif_pack.specs.Laws.{NothingSent, OneMoreIsSent}
use Rattle.h261_pic.specs.Coded.{Coding, coding}
use Rattle.cif_pack.proofs.Sends.{nothing-appended}
use Rattle.io_edge.specs.declared.edges.Failed.{Failed}
use Rattle.io_edge.specs.Causes.{Rose}
use Rattle.io_edge.specs.Outside.{Output}
use Rattle.pel_model.specs.declared.Format.TheVariants.{Cif}
use Rattle.pel_model.specs.Records.{Picture}
use Rattle.pel_model.specs.Text.{text}
use Rattle.rtp_wire.specs.Frames.{frame}
use Rattle.rtp_wire.specs.Rtp.{octets_of, plain}

-- ---- numbers

number-behind : (s : Settings) (n m : ℕ) → sequence_after (settings_after s n) m ≡ sequence_after s (n + m)
number-behind s n m = omega arith

packet-behind : (s : Settings) (stamp n m : ℕ) (text : List Bool) (from to : ℕ) (c : Context) → packet_between (settings_after s n) stamp m text from to c ≡ packet_between s stamp (n + m) text from to c
packet-behind s stamp n m text from to c =
    ap (λ (k : ℕ). octets_of (plain (record { marker = to == length text; kind = 31; seq = k; stamp = stamp; ssrc = s.ssrc; payload = payload_between text from to c })))
    (number-behind s n m)

packets_to-behind : (s : Settings) (stamp n m : ℕ) (text : List Bool) (from : ℕ) (c : Context) (cs : List AtomEnd) → packets_to (settings_after s n) stamp m text from c cs ≡ packets_to s stamp (n + m) text from c cs
packets_to-behind s stamp n m text from c [] = refl
packets_to-behind s stamp n m text from c (e ∷ cs) =
    ap₂ (λ (p : List ℕ) (ps : List (List ℕ)). p ∷ ps) (packet-behind s stamp n m text from e.at c)
    (packets_to-behind s stamp n (suc m) text e.at e.context cs ∙ ap (λ (k : ℕ). packets_to s stamp k text e.at e.context cs) (omega arith))

pub packets-behind : (s : Settings) (total n m : ℕ) (p : Picture) → packets (settings_after s n) total m p ≡ packets s total (n + m) p
packets-behind s total n m p = packets_to-behind s (stamp_at s total) n m (text Cif p) 0 no_context (cuts s.mtu 0 (atom_ends p))

sent-behind : (s : Settings) (n m : ℕ) (pictures : List (ℕ × Picture)) → sent_packets (settings_after s n) m pictures ≡ sent_packets s (n + m) pictures
sent-behind s n m [] = refl
sent-behind s n m (next ∷ pictures) =
    let here = packets-behind s next.0 n m next.1 in
    ap₂ (λ (ps : List (List ℕ)) (rest : List (List ℕ)). ps ++ rest) here
    (sent-behind s n (m + length (packets (settings_after s n) next.0 m next.1)) pictures
    ∙ ap (λ (k : ℕ). sent_packets s k pictures) (omega (arith, ap length here)))

pub numbers-go-on : (s : Settings) (before : ℕ) (pictures : List (ℕ × Picture)) → out (settings_after s before) 0 pictures ≡ out s before pictures
numbers-go-on s before pictures = ap framed (sent-behind s before 0 pictures ∙ ap (λ (k : ℕ). sent_packets s k pictures) (omega arith))

-- ---- lists

pub packets-go-on : (s : Settings) (before : ℕ) (front others : List (ℕ × Picture))
    → sent_packets s before (front ++ others) ≡ sent_packets s before front ++ sent_packets s (before + length (sent_packets s before front)) others
packets-go-on s before [] others = ap (λ (k : ℕ). sent_packets s k others) (omega arith)
packets-go-on s before (next ∷ front) others =
    let here = packets s next.0 before next.1 in
    let rest = sent_packets s (before + length here) front in
    ap (λ (t : List (List ℕ)). here ++ t)
    (packets-go-on s (before + length here) front others
    ∙ ap (λ (k : ℕ). rest ++ sent_packets s k others) (omega (arith, length-append here rest)))
    ∙ sym (append_assoc here rest (sent_packets s (before + length (here ++ rest)) others))

pub one-more : (s : Settings) (pictures : List (ℕ × Picture)) (total : ℕ) (p : Picture)
    → sent_packets s 0 (pictures ++ (total, p) ∷ []) ≡ sent_packets s 0 pictures ++ packets s total (length (sent_packets s 0 pictures)) p
one-more s pictures total p =
    let front = sent_packets s 0 pictures in
    packets-go-on s 0 pictures ((total, p) ∷ [])
    ∙ ap (λ (t : List (List ℕ)). front ++ t)
    (append-nil (packets s total (0 + length front) p) ∙ ap (λ (k : ℕ). packets s total k p) (omega arith))

-- ---- a packer

pub nothing-sent : NothingSent
nothing-sent s first small = record {
  state = ap (λ (k : ℕ). record { settings = record s { seq = k }; spent = false }) (omega (arith, small));
  packets_told = refl;
  octets_told = refl;
  written = nothing-appended first.written;
  faults = refl;
}

-- what is put next is what the pictures' definition says
pub put-is : (s : Settings) (pictures : List (ℕ × Picture)) (packer : PackerState) (former : Sent) (total : ℕ) (p : Picture) (first now : Output)
    → HasSent s pictures packer former first now → packets packer.settings total 0 p ≡ packets s total (length (sent_packets s 0 pictures)) p
put-is s pictures packer former total p first now h =
    ap (λ (q : PackerState). packets q.settings total 0 p) h.state
    ∙ packets-behind s total (length (sent_packets s 0 pictures)) 0 p ∙ ap (λ (k : ℕ). packets s total k p) (omega arith)

pub out-more : (s : Settings) (pictures : List (ℕ × Picture)) (total : ℕ) (p : Picture)
    → out s 0 (pictures ++ (total, p) ∷ []) ≡ out s 0 pictures ++ framed (packets s total (length (sent_packets s 0 pictures)) p)
out-more s pictures total p =
    ap framed (one-more s pictures total p)
    ∙ flat_map-append frame (sent_packets s 0 pictures) (packets s total (length (sent_packets s 0 pictures)) p)

behind-behind : (s : Settings) (n m : ℕ) → settings_after (settings_after s n) m ≡ settings_after s (n + m)
behind-behind s n m = ap (λ (k : ℕ). record s { seq = k }) (number-behind s n m)

pub one-more-is-sent : OneMoreIsSent
one-more-is-sent s pictures packer after former first now then total coded p (Ok sent) h is sends =
    let front = sent_packets s 0 pictures in
    let next = packets s total (length front) p in
    let puts = sends.puts p is in
    let is_next = put-is s pictures packer former total p first now h in
    let more = one-more s pictures total p in
    let all = out-more s pictures total p in
    let long : length (sent_packets s 0 (pictures ++ (total, p) ∷ [])) ≡ length front + length next = ap length more ∙ length-append front next in
    record {
      state = sends.goes_on p is ∙ ap₂ (λ (q : PackerState) (k : ℕ). record q { settings = settings_after q.settings k }) h.state (ap length is_next)
          ∙ ap (λ (t : Settings). record { settings = t; spent = false }) (behind-behind s (length front) (length next) ∙ ap (settings_after s) (sym long));
      packets_told = omega (arith, h.packets_told, puts.1, ap length is_next, long);
      octets_told = omega (arith, h.octets_told, puts.2, ap (λ (t : List (List ℕ)). length (framed t)) is_next, ap length all, length-append (framed front) (framed next));
      written = subst (Appends first.written then.written) (sym all)
          (Appends-trans first.written now.written then.written (framed front) (framed next) h.written
          (subst (λ (t : List (List ℕ)). Appends now.written then.written (framed t)) is_next puts.0));
      faults = sends.cause.kept ∙ h.faults;
    }
one-more-is-sent s pictures packer after former first now then total coded p (Err failed) h is sends =
    let front = framed (sent_packets s 0 pictures) in
    let next = framed (packets s total (length (sent_packets s 0 pictures)) p) in
    let puts = sends.puts p is in
    let is_next = ap framed (put-is s pictures packer former total p first now h) in
    let all = out-more s pictures total p in
    let part : take (length front + puts.0) (out s 0 (pictures ++ (total, p) ∷ [])) ≡ front ++ take puts.0 next =
    ap (take (length front + puts.0)) all ∙ take-append-add front next puts.0 in
    record {
      count = length front + puts.0;
      former = omega arith;
      part = omega (arith, puts.1, ap length is_next, ap length all, length-append front next);
      written = subst (Appends first.written then.written) (sym part)
          (Appends-trans first.written now.written then.written front (take puts.0 next) h.written
          (subst (λ (t : List ℕ). Appends now.written then.written (take puts.0 t)) is_next puts.2));
      failed = subst (λ (n : ℕ). Rose n then.faults) h.faults sends.cause.failed;
    }

-- a packer that sent a picture may send one more
pub may-go-on : (r : Result Sent Failed) (coded : Coding) (total : ℕ) (old new : PackerState) (before after : Output) (p : Picture)
    → coded ≡ coding Cif p → old.spent ≡ false → SendsPicture coded total old new before after r → IfOk r (λ _. new.spent ≡ false)
may-go-on (Ok sent) coded total old new before after p is usable sends = ap (λ (q : PackerState). q.spent) (sends.goes_on p is) ∙ usable
may-go-on (Err failed) coded total old new before after p is usable sends = tt
