-- A conference in which nothing came yet.
use Rattle.std.proofs.Common.{◌≡◌, ℕ, ◌<◌, ◌^◌, false, List, [], None, Option, length, slice_get, replicate, Some, All, refl, sym, ap, subst, ◌∙◌, arith}
use Rattle.std.proofs.lemmas.List.{length-replicate, get_or-replicate}
use Rattle.std.proofs.lemmas.Option.{slice_get-get_or, slice_get_read}
use Rattle.bridge_replay.specs.declared.account.Account.{Account}
use Rattle.bridge_replay.specs.declared.conference.Conference.{Conference}
use Rattle.bridge_replay.specs.UnderWay.{most_steps, IsFedQcif, AreFed, beginning, UnderWay}
use Rattle.bridge_replay.specs.Recounting.{Keeps}
use Rattle.cif_pack.specs.declared.packer.Settings.{Settings}
use Rattle.cif_pack.specs.declared.tally.Tally.{Tally}
use Rattle.cif_pack.specs.Tallies.{nothing_counted}
use Rattle.cif_pack.proofs.ListLaws.{nothing-sent}
use Rattle.h261_pic.specs.Coded.{Coding, nothing}
use Rattle.h261_pic.specs.declared.hand.Hand.{Hand}
use Rattle.hall_core.specs.Hall.{lanes_of}
use Rattle.hall_core.specs.Stands.{StandsFor, IsQcifHand}
use Rattle.io_edge.specs.Outside.{Output}
use Rattle.pel_model.specs.declared.Format.TheVariants.{Qcif, Cif}
use Rattle.pel_model.specs.declared.Quad.TheVariants.{One, Two, Three, Four}
use Rattle.rtp_h261.specs.Depack.{Held, WasFed}
use Rattle.rtp_h261.specs.OneByOne.{Seek}

-- a depacketiser of QCIF that was fed nothing
pub record IsFresh (d : Held) : Type 0 where
  pub format : d.format ≡ Qcif
  pub empty : WasFed [] d

fresh-held : Held
fresh-held = record { format = Qcif; state = record { next = None; mode = Seek } }

pub fresh-fed : (lanes : ℕ) (depacks : List Held) → length depacks ≡ lanes → All IsFresh depacks → AreFed lanes [] depacks
fresh-fed lanes depacks count all = record {
  count = count;
  each = λ c below.
      let within : c < length depacks = omega (arith, below, count) in
      let one = all c fresh-held within in
      subst (IsFedQcif []) (sym (slice_get-get_or depacks c fresh-held within)) (one.format, one.empty);
}

-- four empty boxes
qcif-hand : (h : Hand) → h.one.value ≡ nothing Qcif → h.two.value ≡ nothing Qcif → h.three.value ≡ nothing Qcif → h.four.value ≡ nothing Qcif → IsQcifHand h
qcif-hand h one two three four One = ap (λ (b : Coding). b.format) one
qcif-hand h one two three four Two = ap (λ (b : Coding). b.format) two
qcif-hand h one two three four Three = ap (λ (b : Coding). b.format) three
qcif-hand h one two three four Four = ap (λ (b : Coding). b.format) four

pub begun : (set : Settings) (lanes : ℕ) (c : Conference) (first : Output) → set.seq < 2 ^ 16 → lanes_of c.hall ≡ lanes → c.hall.limit ≡ most_steps → StandsFor c.hall []
    → AreFed lanes [] c.depacks.items → c.hand.one.value ≡ nothing Qcif → c.hand.two.value ≡ nothing Qcif → c.hand.three.value ≡ nothing Qcif → c.hand.four.value ≡ nothing Qcif
    → c.composed ≡ nothing Cif → c.packer ≡ record { settings = set; spent = false } → c.tally ≡ nothing_counted → UnderWay (beginning set lanes) c first first
begun set lanes c first small lanes_are limit stands depacks one two three four composed packer tally =
    let sent = nothing-sent set first small in
    record {
      steps = refl;
      follows = record {
        stands = stands;
        lanes_are = lanes_are;
        limit = limit;
        legal = tt;
        counts = tally ∙ sym (ap (λ (t : Tally). record nothing_counted { packets = t.packets; octets = t.octets }) tally);
      };
      depacks = depacks;
      hand = qcif-hand c.hand one two three four;
      composed = ap (λ (b : Coding). b.format) composed;
      sent = record {
        state = packer ∙ sent.state;
        packets_told = ap (λ (t : Tally). t.packets) tally;
        octets_told = ap (λ (t : Tally). t.octets) tally;
        written = sent.written;
        faults = refl;
      };
      few_packets = omega (arith, ap (λ (t : Tally). t.packets) tally);
      few_octets = omega (arith, ap (λ (t : Tally). t.octets) tally);
    }

-- ---- a conference of which is told

same-there : (X : Type 0) (n c : ℕ) (x : X) (xs : List X) → xs ≡ replicate n x → c < n → slice_get xs c ≡ Some x
same-there X n c x xs is below =
    ap (λ (ys : List X). slice_get ys c) is
    ∙ slice_get_read (replicate n x) (length (replicate n x)) c x refl (omega (arith, below, length-replicate n x)) (sym (get_or-replicate n c x x below))

pub nothing-told : (lanes : ℕ) (a : Account) → lanes_of a.hall ≡ lanes → a.hall.limit ≡ most_steps → StandsFor a.hall [] → AreFed lanes [] a.depacks.items
    → a.arrivals.items ≡ replicate lanes 0 → a.lasts.items ≡ replicate lanes None
    → a.hand.one.value ≡ nothing Qcif → a.hand.two.value ≡ nothing Qcif → a.hand.three.value ≡ nothing Qcif → a.hand.four.value ≡ nothing Qcif → Keeps lanes [] [] a
nothing-told lanes a lanes_are limit stands depacks counts lasts one two three four = record {
  steps = refl;
  follows = record {
    stands = stands;
    lanes_are = lanes_are;
    limit = limit;
    legal = tt;
    counts = record { count = ap length counts ∙ length-replicate lanes 0; each = λ c below. same-there ℕ lanes c 0 a.arrivals.items counts below };
  };
  fed = depacks;
  lasts = record { count = ap length lasts ∙ length-replicate lanes None; each = λ c below. same-there (Option ℕ) lanes c None a.lasts.items lasts below };
  hand = qcif-hand a.hand one two three four;
}
