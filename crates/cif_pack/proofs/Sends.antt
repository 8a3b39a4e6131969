-- Packets that were put one by one.
use Rattle.std.proofs.Common.{◌≡◌, ℕ, suc, ◌+◌, ◌-◌, ◌*◌, ◌<◌, ◌≤◌, ◌==◌, Bool, true, false, List, [], ◌∷◌, ◌++◌, length, take, drop, get_or, Option, Some, None, Result, Ok, Err, refl, sym, ◌∙◌, ap, subst, arith, append_assoc, append-nil, length-append}
use Rattle.std.proofs.lemmas.List.{drop_more, take-append-le, take_all, length-drop}
use Rattle.std.proofs.Math.Seq.{take-append-add}
use Rattle.std.proofs.KnownBytes.{Appends-trans}
use Rattle.std.specs.Prelude.{All, IsErr}
use Rattle.std.specs.Io.KnownBytes.{Appends}
use Rattle.rtp_wire.specs.Frames.{frame}
use Rattle.cif_pack.specs.declared.atoms.AtomEnd.{AtomEnd}
use Rattle.cif_pack.specs.declared.packer.Sent.{Sent}
use Rattle.cif_pack.specs.declared.packer.Settings.{Settings}
use Rattle.cif_pack.specs.Cuts.{is_cut, with_cut, from_behind, cuts, octets_between}
use Rattle.cif_pack.specs.Packets.{packet_between, packets_to, sequence_after, framed}
use Rattle.cif_pack.specs.Payload.{no_context, payload_between}
use Rattle.cif_pack.specs.declared.atoms.Context.{Context}
use Rattle.rtp_wire.specs.Rtp.{octets_of, plain}
use Rattle.cif_pack.specs.Sending.{Rises}
use Rattle.cif_pack.specs.State.{Puts, settings_after}
use Rattle.cif_pack.proofs.CutLemmas.{Ahead, ahead, rises-on, rises-near}

abbrev pub no_end : AtomEnd
no_end = record { at = 0; context = no_context }

-- the packets that are still to be put
abbrev pub rest_of : Settings → (stamp : ℕ) → List Bool → (before : ℕ) → (start : AtomEnd) → List AtomEnd → List (List ℕ)
rest_of s stamp text before start ends = packets_to s stamp before text start.at start.context (cuts s.mtu start.at ends)

-- where the loop stands: these packets were put, and the others are those of the ends that are left
pub record Stands (s : Settings) (stamp len : ℕ) (text : List Bool) (ends : List AtomEnd) (i : ℕ) (start : AtomEnd) (sent : Sent) (old new : Option (List ℕ)) : Type 0 where
  pub done : List (List ℕ)
  pub all : rest_of s stamp text 0 no_end ends ≡ done ++ rest_of s stamp text sent.packets start (drop i ends)
  pub bytes : Appends old new (framed done)
  pub packets : sent.packets ≡ length done
  pub octets : sent.octets ≡ length (framed done)
  pub rise : Rises s.mtu len start.at (drop i ends)
  pub few : sent.packets ≤ i
  pub inside : start.at ≤ len
  pub short : 8 * sent.octets ≤ start.at + 158 * sent.packets

pub framed-more : (done : List (List ℕ)) (p : List ℕ) → framed (done ++ p ∷ []) ≡ framed done ++ frame p
framed-more [] p = append-nil (frame p)
framed-more (d ∷ done) p = ap (λ t. frame d ++ t) (framed-more done p) ∙ sym (append_assoc (frame d) (framed done) (frame p))

pub framed-append : (xs ys : List (List ℕ)) → framed (xs ++ ys) ≡ framed xs ++ framed ys
framed-append [] ys = refl
framed-append (x ∷ xs) ys = ap (λ t. frame x ++ t) (framed-append xs ys) ∙ sym (append_assoc (frame x) (framed xs) (framed ys))

-- the next end, where one is left
pub next-end : (ends : List AtomEnd) (i : ℕ) → i < length ends → drop i ends ≡ get_or ends i no_end ∷ drop (i + 1) ends
next-end ends i less = drop_more ends i no_end less

-- what is known of the next end
pub next-ahead : (mtu last from : ℕ) (ends : List AtomEnd) (i : ℕ) → i < length ends → Rises mtu last from (drop i ends) → Ahead mtu last from (get_or ends i no_end) (drop (i + 1) ends)
next-ahead mtu last from ends i less rise =
    ahead mtu last from (get_or ends i no_end) (drop (i + 1) ends) (subst (Rises mtu last from) (next-end ends i less) rise)

-- an end that is no cut
rest-skips : (s : Settings) (stamp : ℕ) (text : List Bool) (before : ℕ) (start e : AtomEnd) (es : List AtomEnd) → is_cut s.mtu start.at es ≡ false
    → rest_of s stamp text before start (e ∷ es) ≡ rest_of s stamp text before start es
rest-skips s stamp text before start e es goes =
    ap (λ (b : Bool). packets_to s stamp before text start.at start.context (with_cut b e (cuts s.mtu (from_behind b start.at e) es))) goes

-- an end that is one
rest-cuts : (s : Settings) (stamp : ℕ) (text : List Bool) (before : ℕ) (start e : AtomEnd) (es : List AtomEnd) → is_cut s.mtu start.at es ≡ true
    → rest_of s stamp text before start (e ∷ es) ≡ packet_between s stamp before text start.at e.at start.context ∷ rest_of s stamp text (suc before) e es
rest-cuts s stamp text before start e es ends_here =
    ap (λ (b : Bool). packets_to s stamp before text start.at start.context (with_cut b e (cuts s.mtu (from_behind b start.at e) es))) ends_here

pub stands-first : (s : Settings) (stamp len : ℕ) (text : List Bool) (ends : List AtomEnd) (old : Option (List ℕ)) → Appends old old [] → Rises s.mtu len 0 ends
    → Stands s stamp len text ends 0 no_end (record { packets = 0; octets = 0 }) old old
stands-first s stamp len text ends old none rise = record {
  done = [];
  all = refl;
  bytes = none;
  packets = refl;
  octets = refl;
  rise = rise;
  few = omega arith;
  inside = omega arith;
  short = omega arith;
}

pub stands-on : (s : Settings) (stamp len : ℕ) (text : List Bool) (ends : List AtomEnd) (i : ℕ) (start : AtomEnd) (sent : Sent) (old new : Option (List ℕ))
    → i < length ends → is_cut s.mtu start.at (drop (i + 1) ends) ≡ false
    → Stands s stamp len text ends i start sent old new → Stands s stamp len text ends (i + 1) start sent old new
stands-on s stamp len text ends i start sent old new less goes w =
    let e = get_or ends i no_end in
    let es = drop (i + 1) ends in
    record {
      done = w.done;
      all = w.all ∙ ap (λ (t : List (List ℕ)). w.done ++ t) (ap (rest_of s stamp text sent.packets start) (next-end ends i less) ∙ rest-skips s stamp text sent.packets start e es goes);
      bytes = w.bytes;
      packets = w.packets;
      octets = w.octets;
      rise = rises-on s.mtu len start.at e es (subst (Rises s.mtu len start.at) (next-end ends i less) w.rise) goes;
      few = omega (arith, w.few);
      inside = w.inside;
      short = w.short;
    }

-- A packet has its bits' octets, the first and the last of which it may share, and 18 more.
octets-add : (from to octets packets count : ℕ) → from < to → count ≡ octets_between from to + 18 → 8 * octets ≤ from + 158 * packets
    → 8 * (octets + count) ≤ to + 158 * (packets + 1)
octets-add from to octets packets count some count_is short = omega (arith, some, count_is, short)

pub stands-cut : (s : Settings) (stamp len : ℕ) (text : List Bool) (ends : List AtomEnd) (i : ℕ) (start : AtomEnd) (sent : Sent) (old new now : Option (List ℕ)) (piece : List ℕ) (count : ℕ)
    → i < length ends → is_cut s.mtu start.at (drop (i + 1) ends) ≡ true
    → piece ≡ frame (packet_between s stamp sent.packets text start.at (get_or ends i no_end).at start.context) → count ≡ length piece
    → length piece ≡ octets_between start.at (get_or ends i no_end).at + 18 → Appends new now piece
    → Stands s stamp len text ends i start sent old new
    → Stands s stamp len text ends (i + 1) (get_or ends i no_end) (record { packets = sent.packets + 1; octets = sent.octets + count }) old now
stands-cut s stamp len text ends i start sent old new now piece count less ends_here piece_is count_is long put w =
    let e = get_or ends i no_end in
    let es = drop (i + 1) ends in
    let p = packet_between s stamp sent.packets text start.at e.at start.context in
    let more : framed (w.done ++ p ∷ []) ≡ framed w.done ++ piece = framed-more w.done p ∙ ap (λ (t : List ℕ). framed w.done ++ t) (sym piece_is) in
    let next : rest_of s stamp text sent.packets start (drop i ends) ≡ p ∷ rest_of s stamp text (sent.packets + 1) e es =
    ap (rest_of s stamp text sent.packets start) (next-end ends i less) ∙ rest-cuts s stamp text sent.packets start e es ends_here
    ∙ ap (λ (n : ℕ). p ∷ rest_of s stamp text n e es) (omega arith) in
    let ahead_is = next-ahead s.mtu len start.at ends i less w.rise in
    record {
      done = w.done ++ p ∷ [];
      all = w.all ∙ ap (λ (t : List (List ℕ)). w.done ++ t) next ∙ sym (append_assoc w.done (p ∷ []) (rest_of s stamp text (sent.packets + 1) e es));
      bytes = subst (Appends old now) (sym more) (Appends-trans old new now (framed w.done) piece w.bytes put);
      packets = omega (arith, w.packets, length-append w.done (p ∷ []));
      octets = omega (arith, count_is, w.octets, ap length more, length-append (framed w.done) piece);
      rise = ahead_is.rest;
      few = omega (arith, w.few);
      inside = ahead_is.within;
      short = octets-add start.at e.at sent.octets sent.packets count ahead_is.behind (count_is ∙ long) w.short;
    }

-- at the end of the ends all was put
pub stands-last : (E : Type 0) (s : Settings) (stamp len : ℕ) (text : List Bool) (ends : List AtomEnd) (start : AtomEnd) (sent : Sent) (old new : Option (List ℕ))
    → (rest : List AtomEnd) → rest ≡ [] → (i : ℕ) → drop i ends ≡ rest
    → Stands s stamp len text ends i start sent old new → Puts {E = E} old new (Ok sent) (rest_of s stamp text 0 no_end ends)
stands-last E s stamp len text ends start sent old new rest none i left w =
    let all : rest_of s stamp text 0 no_end ends ≡ w.done = w.all ∙ ap (λ (t : List AtomEnd). w.done ++ rest_of s stamp text sent.packets start t) (left ∙ none) ∙ append-nil w.done in
    (subst (λ (t : List (List ℕ)). Appends old new (framed t)) (sym all) w.bytes, w.packets ∙ ap length (sym all), w.octets ∙ ap (λ (t : List (List ℕ)). length (framed t)) (sym all))

-- where the sink failed, a front was put
pub stands-failed : (s : Settings) (stamp len : ℕ) (text : List Bool) (ends : List AtomEnd) (i : ℕ) (start : AtomEnd) (sent : Sent) (old new now : Option (List ℕ)) (piece : List ℕ) (n : ℕ)
    → i < length ends → is_cut s.mtu start.at (drop (i + 1) ends) ≡ true
    → piece ≡ frame (packet_between s stamp sent.packets text start.at (get_or ends i no_end).at start.context) → n < length piece → Appends new now (take n piece)
    → Stands s stamp len text ends i start sent old new → let all = framed (rest_of s stamp text 0 no_end ends) in (n : ℕ) × (n < length all) × Appends old now (take n all)
stands-failed s stamp len text ends i start sent old new now piece n less ends_here piece_is part put w =
    let e = get_or ends i no_end in
    let es = drop (i + 1) ends in
    let p = packet_between s stamp sent.packets text start.at e.at start.context in
    let left = rest_of s stamp text (suc sent.packets) e es in
    let next : rest_of s stamp text sent.packets start (drop i ends) ≡ p ∷ left =
    ap (rest_of s stamp text sent.packets start) (next-end ends i less) ∙ rest-cuts s stamp text sent.packets start e es ends_here in
    let all : framed (rest_of s stamp text 0 no_end ends) ≡ framed w.done ++ (piece ++ framed left) =
    ap framed (w.all ∙ ap (λ (t : List (List ℕ)). w.done ++ t) next) ∙ framed-append w.done (p ∷ left)
    ∙ ap (λ (t : List ℕ). framed w.done ++ (t ++ framed left)) (sym piece_is) in
    let front : take (length (framed w.done) + n) (framed (rest_of s stamp text 0 no_end ends)) ≡ framed w.done ++ take n piece =
    ap (take (length (framed w.done) + n)) all ∙ take-append-add (framed w.done) (piece ++ framed left) n
    ∙ ap (λ (t : List ℕ). framed w.done ++ t) (take-append-le n piece (framed left) (omega (arith, part))) in (
      length (framed w.done) + n,
      omega (arith, part, ap length all, length-append (framed w.done) (piece ++ framed left), length-append piece (framed left)),
      subst (Appends old now) (sym front) (Appends-trans old new now (framed w.done) (take n piece) w.bytes put),
    )

-- a packet of the settings with the number of the packet behind so many
pub packet-behind : (s : Settings) (stamp n : ℕ) (text : List Bool) (from to : ℕ) (c : Context) → packet_between (settings_after s n) stamp 0 text from to c ≡ packet_between s stamp n text from to c
packet-behind s stamp n text from to c =
    ap (λ (k : ℕ). octets_of (plain (record { marker = to == length text; kind = 31; seq = k; stamp = stamp; ssrc = s.ssrc; payload = payload_between text from to c }))) same
  where
    same : sequence_after (settings_after s n) 0 ≡ sequence_after s n
    same = omega arith

pub nothing-appended : (old : Option (List ℕ)) → Appends old old []
nothing-appended None = tt
nothing-appended (Some xs) = sym (append-nil xs)

-- the ends behind the next one
pub left-is : (ends : List AtomEnd) (i : ℕ) → take (length ends - (i + 1)) (drop (i + 1) ends) ≡ drop (i + 1) ends
left-is ends i = take_all (length ends - (i + 1)) (drop (i + 1) ends) (omega (arith, length-drop (i + 1) ends))

pub near-left : (mtu last from : ℕ) (ends : List AtomEnd) (i far : ℕ) → last < far → i < length ends → Rises mtu last from (drop i ends) → All (λ (e : AtomEnd). e.at < far) (drop (i + 1) ends)
near-left mtu last from ends i far near less rise =
    rises-near mtu last (get_or ends i no_end).at (drop (i + 1) ends) far near (next-ahead mtu last from ends i less rise).rest

-- the same of equal states
pub stands-same : (s : Settings) (stamp len : ℕ) (text : List Bool) (ends : List AtomEnd) (i : ℕ) (start start2 : AtomEnd) (sent sent2 : Sent) (old new new2 : Option (List ℕ))
    → start2 ≡ start → sent2 ≡ sent → new2 ≡ new → Stands s stamp len text ends i start sent old new → Stands s stamp len text ends i start2 sent2 old new2
stands-same s stamp len text ends i start start2 sent sent2 old new new2 start_is sent_is new_is w =
    subst (λ (e : AtomEnd). Stands s stamp len text ends i e sent2 old new2) (sym start_is)
    (subst (λ (t : Sent). Stands s stamp len text ends i start t old new2) (sym sent_is)
    (subst (Stands s stamp len text ends i start sent old) (sym new_is) w))

pub puts-of-error : {E : Type 0} (old now : Option (List ℕ)) (packets : List (List ℕ)) (result : Result Sent E) → IsErr result
    → (n : ℕ) × (n < length (framed packets)) × Appends old now (take n (framed packets)) → Puts old now result packets
puts-of-error old now packets (Ok _) is puts = absurd (cc)
puts-of-error old now packets (Err _) is puts = puts
