-- What a packet makes of a conference.
use Rattle.std.proofs.Common.{◌≡◌, ◌≢◌, ℕ, zero, suc, ◌+◌, ◌<◌, ◌≤◌, ◌==◌, if◌then◌else◌, Bool, true, false, List, [], ◌∷◌, ◌++◌, Option, None, Some, length, slice_get, slice_set, inl, inr, refl, sym, ap, subst, ◌∙◌, arith, length-set}
use Rattle.std.proofs.lemmas.Bool.Decides.{nat_tests}
use Rattle.std.specs.Io.KnownBytes.{Appends}
use Rattle.bridge_replay.specs.declared.conference.Conference.{Conference}
use Rattle.bridge_replay.specs.FileHistory.{packets_in, after_loss, AfterUnit, AfterEntry}
use Rattle.bridge_replay.specs.UnderWay.{CountsSteps, FollowsHistory, IsOpen, UnitGoes, Leads, AreFed, IsFedQcif, IsSameBeside, Progress, UnderWay, StaysOpen, Entered}
use Rattle.cif_pack.specs.declared.packer.Settings.{Settings}
use Rattle.cif_pack.specs.Packets.{sent_packets, out}
use Rattle.cif_pack.specs.PicturesWritten.{pictures_written}
use Rattle.cif_pack.specs.State.{settings_after, HasSent}
use Rattle.cif_pack.specs.Tallies.{sent_of}
use Rattle.conf_file.specs.Entries.{Content, Packet}
use Rattle.h261_pic.specs.Coded.{Coding, coding}
use Rattle.hall_core.specs.Hall.{HallView, lanes_of}
use Rattle.hall_core.specs.Stands.{StandsFor, IsQcifHand}
use Rattle.io_edge.specs.Outside.{Output}
use Rattle.pel_model.specs.declared.Fault.{Fault}
use Rattle.pel_model.specs.declared.Format.{Format}
use Rattle.pel_model.specs.declared.Format.TheVariants.{Qcif, Cif}
use Rattle.pel_model.specs.Accepts.{Accepts}
use Rattle.pel_model.specs.History.{History, Step, Post, Gap, has_ended}
use Rattle.pel_model.specs.Legal.{IsPostable}
use Rattle.pel_model.specs.Records.{Picture}
use Rattle.pel_model.specs.Valid.{limit}
use Rattle.rtp_h261.specs.declared.depack.Unit.TheVariants as unit
use Rattle.rtp_h261.specs.Depack.{Held, HasUnit, given_behind, WasFed}

-- a picture that was accepted and is within the limit may be posted
pub may-post : (bits : List Bool) (p : Picture) (item : Coding) → Accepts Qcif bits p → item ≡ coding Qcif p → length item.bits ≤ limit item.format → IsPostable p
may-post bits p item accepted is short = record {
  valid = accepted.1.valid;
  short = subst (λ (c : Coding). length c.bits ≤ limit c.format) is short;
}

-- no unit ended
pub none-goes : (lane : ℕ) (bits : Option (List Bool)) (former item : Coding) (lanes : ℕ) (history : History) (c : Conference)
    → HasUnit Qcif bits None former item → FollowsHistory lanes history c → IsOpen 1 history → UnitGoes lane bits lanes history c c
none-goes lane None former item lanes history c has follows free = record {
  after = history;
  is = refl;
  follows = follows;
  going = free.going;
  few = omega arith;
  more = omega arith;
  silent = refl;
  beside = record { depacks = refl; composed = refl; packer = refl; packets = refl; octets = refl };
  hand = refl;
}
none-goes lane (Some bits) former item lanes history c has follows free = absurd has

-- the unit is a picture
pub picture-goes : (lane : ℕ) (bits : Option (List Bool)) (former item : Coding) (lanes : ℕ) (history : History) (old new : Conference)
    → HasUnit Qcif bits (Some unit.Picture) former item → length item.bits ≤ limit item.format
    → ((p : Picture) → item ≡ coding Qcif p → IsPostable p → Leads (λ (H : History). Post lane p ∷ H) old new)
    → FollowsHistory lanes history old → IsOpen 1 history → UnitGoes lane bits lanes history old new
picture-goes lane None former item lanes history old new has short made follows free = absurd has
picture-goes lane (Some bits) former item lanes history old new has short made follows free =
    let leads = made has.0 has.2 (may-post bits has.0 item has.1 has.2 short) in
    record {
      after = Post lane has.0 ∷ history;
      is = inl (has.0, has.1, refl);
      follows = leads.follows lanes history follows;
      going = free.going;
      few = omega arith;
      more = omega arith;
      silent = refl;
      beside = leads.beside;
      hand = leads.hand;
    }

-- the unit is a gap
pub gap-goes : (lane : ℕ) (bits : Option (List Bool)) (fault : Fault) (former item : Coding) (lanes : ℕ) (history : History) (old new : Conference)
    → HasUnit Qcif bits (Some (unit.Gap fault)) former item → Leads (after_loss lane true) old new
    → FollowsHistory lanes history old → IsOpen 1 history → UnitGoes lane bits lanes history old new
gap-goes lane None fault former item lanes history old new has made follows free = absurd has
gap-goes lane (Some bits) fault former item lanes history old new has made follows free = record {
  after = Gap lane ∷ history;
  is = inr (fault.place, fault.why, has.0, refl);
  follows = made.follows lanes history follows;
  going = free.going;
  few = omega arith;
  more = omega arith;
  silent = refl;
  beside = made.beside;
  hand = made.hand;
}

-- ---- a loss

loss-length : (lane : ℕ) (lost : Bool) (history : History) → (length (after_loss lane lost history) ≤ length history + 1) × (length history ≤ length (after_loss lane lost history))
loss-length lane true history = (omega arith, omega arith)
loss-length lane false history = (omega arith, omega arith)

loss-silent : (lanes lane : ℕ) (lost : Bool) (history : History) → pictures_written lanes (after_loss lane lost history) ≡ pictures_written lanes history
loss-silent lanes lane true history = refl
loss-silent lanes lane false history = refl

loss-going : (lane : ℕ) (lost : Bool) (history : History) → has_ended (after_loss lane lost history) ≡ has_ended history
loss-going lane true history = refl
loss-going lane false history = refl

pub loss-open : (lane : ℕ) (lost : Bool) (history : History) → IsOpen 2 history → IsOpen 1 (after_loss lane lost history)
loss-open lane lost history free = record {
  going = loss-going lane lost history ∙ free.going;
  room = omega (arith, free.room, (loss-length lane lost history).0);
}

-- what follows a history in the hall and the tally does not look at the rest
pub still-follows : (lanes : ℕ) (history : History) (c d : Conference) → d.hall ≡ c.hall → d.tally ≡ c.tally → FollowsHistory lanes history c → FollowsHistory lanes history d
still-follows lanes history c d hall tally follows = record {
  stands = subst (λ (h : HallView). StandsFor h history) (sym hall) follows.stands;
  lanes_are = ap lanes_of hall ∙ follows.lanes_are;
  limit = ap (λ (h : HallView). h.limit) hall ∙ follows.limit;
  legal = follows.legal;
  counts = subst (CountsSteps history) (sym tally) follows.counts;
}

-- ---- depacketisers

pub get-set_same : {X : Type 0} (xs : List X) (i : ℕ) (x : X) → i < length xs → slice_get (slice_set xs i x) i ≡ Some x
get-set_same [] i x below = absurd (omega (arith, below))
get-set_same (y ∷ ys) zero x below = refl
get-set_same (y ∷ ys) (suc i) x below = get-set_same ys i x (omega (arith, below))

pub get-set_other : {X : Type 0} (xs : List X) (i j : ℕ) (x : X) → i ≢ j → slice_get (slice_set xs i x) j ≡ slice_get xs j
get-set_other [] i j x apart = refl
get-set_other (y ∷ ys) zero zero x apart = absurd (apart refl)
get-set_other (y ∷ ys) zero (suc j) x apart = refl
get-set_other (y ∷ ys) (suc i) zero x apart = refl
get-set_other (y ∷ ys) (suc i) (suc j) x apart = get-set_other ys i j x (λ e. apart (ap suc e))

fed-get : (packets : List (List ℕ)) (o : Option Held) → IsFedQcif packets o → (d : Held) × (o ≡ Some d) × (d.format ≡ Qcif) × WasFed packets d
fed-get packets None fed = absurd fed
fed-get packets (Some d) fed = (d, refl, fed.0, fed.1)

-- that of a lane
pub fed-there : (lanes : ℕ) (entries : List Content) (depacks : List Held) (lane : ℕ) (d : Held) → AreFed lanes entries depacks → lane < lanes
    → slice_get depacks lane ≡ Some d → (d.format ≡ Qcif) × WasFed (packets_in entries lane) d
fed-there lanes entries depacks lane d fed below is =
    let h = subst (IsFedQcif (packets_in entries lane)) is (fed.each lane below) in
    (h.0, h.1)

same-lane : (entries : List Content) (lane : ℕ) (packet : List ℕ) (c : ℕ) (b : Bool) → (lane == c) ≡ b
    → packets_in (Packet lane packet ∷ entries) c ≡ (if b then packets_in entries c ++ packet ∷ [] else packets_in entries c)
same-lane entries lane packet c b e = ap (λ (t : Bool). if t then packets_in entries c ++ packet ∷ [] else packets_in entries c) e

-- behind a packet of a lane
pub fed-further : (lanes : ℕ) (entries : List Content) (depacks : List Held) (lane : ℕ) (packet : List ℕ) (d : Held) → AreFed lanes entries depacks → lane < lanes
    → d.format ≡ Qcif → WasFed (packets_in entries lane ++ packet ∷ []) d → AreFed lanes (Packet lane packet ∷ entries) (slice_set depacks lane d)
fed-further lanes entries depacks lane packet d fed below format is = record {
  count = length-set depacks lane d ∙ fed.count;
  each = λ c within. at c within (lane == c) refl;
}
  where
    at : (c : ℕ) → c < lanes → (b : Bool) → (lane == c) ≡ b → IsFedQcif (packets_in (Packet lane packet ∷ entries) c) (slice_get (slice_set depacks lane d) c)
    at c within true e =
        let same : lane ≡ c = grind (arith, nat_tests) in
        subst (λ (k : ℕ). IsFedQcif (packets_in (Packet lane packet ∷ entries) k) (slice_get (slice_set depacks lane d) k)) same
        (subst (λ (o : Option Held). IsFedQcif (packets_in (Packet lane packet ∷ entries) lane) o) (sym (get-set_same depacks lane d (omega (arith, below, fed.count))))
        (subst (λ (ps : List (List ℕ)). IsFedQcif ps (Some d)) (sym (same-lane entries lane packet lane true (ap (λ (k : ℕ). lane == k) same ∙ e))) (format, is)))
    at c within false e =
        let apart : lane ≢ c = grind (arith, nat_tests) in
        subst (λ (o : Option Held). IsFedQcif (packets_in (Packet lane packet ∷ entries) c) o) (sym (get-set_other depacks lane c d apart))
        (subst (λ (ps : List (List ℕ)). IsFedQcif ps (slice_get depacks c)) (sym (same-lane entries lane packet c false e)) (fed.each c within))

-- ---- a packet

pub beside-both : (a b c : Conference) → IsSameBeside a b → IsSameBeside b c → IsSameBeside a c
beside-both a b c x y = record {
  depacks = y.depacks ∙ x.depacks;
  composed = y.composed ∙ x.composed;
  packer = y.packer ∙ x.packer;
  packets = y.packets ∙ x.packets;
  octets = y.octets ∙ x.octets;
}

-- a packet came, and made of the history what it should; `fed` is the conference behind the depacketiser
-- what was sent stands as it did, where no picture is written more
sent-still : (set : Settings) (lanes : ℕ) (history after : History) (old new : Conference) (first now : Output) → IsSameBeside old new
    → pictures_written lanes after ≡ pictures_written lanes history
    → HasSent set (pictures_written lanes history) old.packer (sent_of old.tally) first now
    → HasSent set (pictures_written lanes after) new.packer (sent_of new.tally) first now
sent-still set lanes history after old new first now beside silent h = record {
  state = beside.packer ∙ h.state ∙ ap (λ (ps : List (ℕ × Picture)). record { settings = settings_after set (length (sent_packets set 0 ps)); spent = false }) (sym silent);
  packets_told = beside.packets ∙ h.packets_told ∙ ap (λ (ps : List (ℕ × Picture)). length (sent_packets set 0 ps)) (sym silent);
  octets_told = beside.octets ∙ h.octets_told ∙ ap (λ (ps : List (ℕ × Picture)). length (out set 0 ps)) (sym silent);
  written = subst (λ (ps : List (ℕ × Picture)). Appends first.written now.written (out set 0 ps)) (sym silent) h.written;
  faults = h.faults;
}

-- a packet came, and made of the history what it should; `fed` is the conference after the depacketiser
pub packet-enters : (p : Progress) (lane : ℕ) (packet : List ℕ) (lost : Bool) (bits : Option (List Bool)) (fed old mid new : Conference) (first now : Output)
    → Leads (after_loss lane lost) fed mid → UnderWay p old first now → IsOpen 2 p.history → lost ≡ (given_behind (packets_in p.entries lane) packet).lost
    → bits ≡ (given_behind (packets_in p.entries lane) packet).unit → AreFed p.lanes (Packet lane packet ∷ p.entries) fed.depacks.items
    → fed ≡ record old { depacks = fed.depacks } → UnitGoes lane bits p.lanes (after_loss lane lost p.history) mid new
    → Entered p (Packet lane packet) new first now
packet-enters p lane packet lost bits fed old mid new first now leads u free lost_is bits_is depacks is goes =
    let beside = beside-both fed mid new leads.beside goes.beside in
    let loss = loss-length lane lost p.history in
    let silent = goes.silent ∙ loss-silent p.lanes lane lost p.history in
    record {
      after = goes.after;
      under_way = record {
        steps = (
          p.history,
          u.steps,
          subst (λ (b : Bool). AfterUnit lane (given_behind (packets_in p.entries lane) packet).unit (after_loss lane b p.history) goes.after) lost_is
              (subst (λ (o : Option (List Bool)). AfterUnit lane o (after_loss lane lost p.history) goes.after) bits_is goes.is),
        );
        follows = goes.follows;
        depacks = subst (AreFed p.lanes (Packet lane packet ∷ p.entries)) (sym beside.depacks) depacks;
        hand = subst IsQcifHand (sym (goes.hand ∙ leads.hand ∙ ap (λ (c : Conference). c.hand) is)) u.hand;
        composed = ap (λ (c : Coding). c.format) (beside.composed ∙ ap (λ (c : Conference). c.composed) is) ∙ u.composed;
        sent = sent-still p.set p.lanes p.history goes.after fed new first now beside silent
            (subst (λ (c : Conference). HasSent p.set (pictures_written p.lanes p.history) c.packer (sent_of c.tally) first now) (sym is) u.sent);
        few_packets = omega (arith, beside.packets, ap (λ (c : Conference). c.tally.packets) is, u.few_packets, goes.more, loss.1);
        few_octets = omega (arith, beside.octets, ap (λ (c : Conference). c.tally.octets) is, u.few_octets, goes.more, loss.1);
      };
      few = omega (arith, goes.few, loss.0);
      going = goes.going;
    }

-- ---- a command, and the end

-- an entry that is one step, at which nothing is sent
pub step-enters : (p : Progress) (content : Content) (s : Step) (old new : Conference) (first now : Output)
    → UnderWay p old first now → FollowsHistory p.lanes (s ∷ p.history) new → IsSameBeside old new → new.hand ≡ old.hand
    → AfterEntry p.lanes p.entries content p.history (s ∷ p.history) → ((c : ℕ) → packets_in (content ∷ p.entries) c ≡ packets_in p.entries c)
    → pictures_written p.lanes (s ∷ p.history) ≡ pictures_written p.lanes p.history → StaysOpen content (s ∷ p.history)
    → Entered p content new first now
step-enters p content s old new first now u follows beside hand after none silent free = record {
  after = s ∷ p.history;
  under_way = record {
    steps = (p.history, u.steps, after);
    follows = follows;
    depacks = subst (AreFed p.lanes (content ∷ p.entries)) (sym beside.depacks) (record {
      count = u.depacks.count;
      each = λ c below. subst (λ (ps : List (List ℕ)). IsFedQcif ps (slice_get old.depacks.items c)) (sym (none c)) (u.depacks.each c below);
    });
    hand = subst IsQcifHand (sym hand) u.hand;
    composed = ap (λ (c : Coding). c.format) beside.composed ∙ u.composed;
    sent = sent-still p.set p.lanes p.history (s ∷ p.history) old new first now beside silent u.sent;
    few_packets = omega (arith, beside.packets, u.few_packets);
    few_octets = omega (arith, beside.octets, u.few_octets);
  };
  few = omega arith;
  going = free;
}
