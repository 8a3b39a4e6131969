-- A tick: what its places took, and what is written of it.
use Rattle.std.proofs.Common.{◌≡◌, ℕ, ◌+◌, ◌^◌, ◌<◌, ◌≤◌, false, List, [], ◌∷◌, ◌++◌, Option, Result, Ok, Err, refl, sym, ap, ap₂, subst, ◌∙◌, arith}
use Rattle.std.specs.Prelude.{IsErr}
use Rattle.bridge_replay.specs.declared.conference.Conference.{Conference}
use Rattle.bridge_replay.specs.FileHistory.{IsHistory}
use Rattle.bridge_replay.specs.UnderWay.{CountsSteps, FollowsHistory, IsSameBeside, PlacesTake, Progress, UnderWay, Entered, Broke, ComesAt, IsOpen, AreFed}
use Rattle.cif_mix.specs.Shows.{IsComposed}
use Rattle.cif_mix.specs.Taken.{Took}
use Rattle.cif_pack.specs.declared.packer.Sent.{Sent}
use Rattle.cif_pack.specs.declared.tally.Tally.{Tally}
use Rattle.cif_pack.specs.PicturesWritten.{picture_at, pictures_written}
use Rattle.cif_pack.specs.State.{PackerState, AreFew, SendsPicture, HasSent, HasSentNext}
use Rattle.cif_pack.specs.Tallies.{steps_counted, sent_of, with_sent}
use Rattle.cif_pack.proofs.ListLaws.{one-more-is-sent}
use Rattle.cif_pack.proofs.Totals.{totals-are-small}
use Rattle.conf_file.specs.Entries.{Content, Tick as TickEntry}
use Rattle.h261_pic.specs.Coded.{Coding, coding}
use Rattle.h261_pic.specs.Hand.{HasTaken}
use Rattle.hall_core.specs.Hall.{HallView, lanes_of}
use Rattle.hall_core.specs.Stands.{StandsFor, TakesInto, IsQcifHand, TakesLaw}
use Rattle.io_edge.specs.declared.edges.Failed.{Failed}
use Rattle.io_edge.specs.Outside.{Output}
use Rattle.pel_model.specs.declared.Format.TheVariants.{Cif}
use Rattle.pel_model.specs.declared.note.TickNote.{TickNote}
use Rattle.pel_model.specs.History.{History, Tick, has_ended, total_of}
use Rattle.pel_model.specs.Written.{written_picture}

-- where a conference stands somewhere, and its places took their pictures
pub record Ticking (p : Progress) (step : ℕ) (old mid : Conference) (note : TickNote) (first now : Output) : Type 0 where
  pub was : UnderWay p old first now
  pub free : IsOpen 2 p.history
  pub takes : PlacesTake step note old mid

module _ (law : TakesLaw) (p : Progress) (step : ℕ) (old mid : Conference) (note : TickNote) (first now : Output) (t : Ticking p step old mid note first now) where
  pub follows-so : FollowsHistory p.lanes (Tick note ∷ p.history) mid
  follows-so = t.takes.follows p.lanes p.history t.was.follows

  -- the hand has what the places took
  pub took-so : Took p.lanes p.history note mid.hand
  took-so = record {
    legal = follows-so.legal;
    holds = subst (λ (n : ℕ). HasTaken n p.history mid.hand) t.was.follows.lanes_are (law old.hall old.hand mid.hand p.history t.was.follows.stands t.takes.taken);
  }

  pub total-so : note.total ≤ 2 ^ 50
  total-so = omega (arith, follows-so.legal.2.total, totals-are-small p.lanes (Tick note ∷ p.history) follows-so.legal, t.free.room)

  pub usable-so : mid.packer.spent ≡ false
  usable-so = ap (λ (q : PackerState). q.spent) (t.takes.beside.packer ∙ t.was.sent.state)

  pub composed-so : mid.composed.format ≡ Cif
  composed-so = ap (λ (c : Coding). c.format) t.takes.beside.composed ∙ t.was.composed

  pub packets-so : mid.tally.packets < 2 ^ 63
  packets-so = omega (arith, t.takes.beside.packets, t.was.few_packets, t.free.room)

  pub octets-so : mid.tally.octets < 2 ^ 63
  octets-so = omega (arith, t.takes.beside.octets, t.was.few_octets, t.free.room)

  now-steps : IsHistory p.lanes (TickEntry step ∷ p.entries) (Tick note ∷ p.history)
  now-steps = (p.history, t.was.steps, (note, t.takes.step_is, follows-so.legal.2, refl))

  -- the packer and the counts of what was sent stand as they did
  sent-before : HasSent p.set (pictures_written p.lanes p.history) mid.packer (sent_of mid.tally) first now
  sent-before =
      let h = t.was.sent in
      record {
        state = t.takes.beside.packer ∙ h.state;
        packets_told = t.takes.beside.packets ∙ h.packets_told;
        octets_told = t.takes.beside.octets ∙ h.octets_told;
        written = h.written;
        faults = h.faults;
      }

  -- the next picture was sent, or the sink failed at it
  next-so : (coded : Coding) (packer : PackerState) (then : Output) (r : Result Sent Failed) → coded ≡ coding Cif (written_picture p.lanes p.history note)
      → SendsPicture coded note.total mid.packer packer now then r
      → HasSentNext p.set (pictures_written p.lanes p.history) (picture_at p.lanes p.history note) packer (sent_of mid.tally) first then r
  next-so coded packer then r is sends =
      subst (λ (n : ℕ). HasSentNext p.set (pictures_written p.lanes p.history) (n, written_picture p.lanes p.history note) packer (sent_of mid.tally) first then r)
      follows-so.legal.2.total
      (one-more-is-sent p.set (pictures_written p.lanes p.history) mid.packer packer (sent_of mid.tally) first now then note.total coded
      (written_picture p.lanes p.history note) r sent-before is sends)

  -- the picture was written
  pub ticked : (coded : Coding) (packer : PackerState) (then : Output) (sent : Sent) (new : Conference)
      → coded ≡ coding Cif (written_picture p.lanes p.history note) → IsComposed coded → SendsPicture coded note.total mid.packer packer now then (Ok sent)
      → new ≡ record mid { composed = coded; packer = packer; tally = with_sent mid.tally sent }
      → Entered p (TickEntry step) new first then
  ticked coded packer then sent new is composed sends new_is =
      subst (λ (c : Conference). Entered p (TickEntry step) c first then) (sym new_is) (record {
        after = Tick note ∷ p.history;
        under_way = record {
          steps = now-steps;
          follows = record {
            stands = follows-so.stands;
            lanes_are = follows-so.lanes_are;
            limit = follows-so.limit;
            legal = follows-so.legal;
            counts = ap (λ (u : Tally). with_sent u sent) follows-so.counts;
          };
          depacks = subst (AreFed p.lanes (TickEntry step ∷ p.entries)) (sym t.takes.beside.depacks) (record { count = t.was.depacks.count; each = t.was.depacks.each });
          hand = t.takes.hand;
          composed = composed.cif;
          sent = next-so coded packer then (Ok sent) is sends;
          few_packets = omega (arith, sends.few.0, t.takes.beside.packets, t.was.few_packets);
          few_octets = omega (arith, sends.few.1, t.takes.beside.octets, t.was.few_octets);
        };
        few = omega arith;
        going = t.free.going;
      })

  -- the sink failed
  pub broken : (coded : Coding) (packer : PackerState) (then : Output) (failed : Failed) (new : Conference)
      → coded ≡ coding Cif (written_picture p.lanes p.history note) → SendsPicture coded note.total mid.packer packer now then (Err failed)
      → new.tally ≡ mid.tally → Broke p (TickEntry step) new first then
  broken coded packer then failed new is sends tally_is =
      record {
        note = note;
        steps = now-steps;
        legal = follows-so.legal;
        counted = tally_is ∙ follows-so.counts
            ∙ ap₂ (λ (packets octets : ℕ). record (steps_counted (Tick note ∷ p.history)) { packets = packets; octets = octets }) sent-before.packets_told sent-before.octets_told;
        front = next-so coded packer then (Err failed) is sends;
      }

-- of a result that is an error
pub broke-of : {T : Type 0} (p : Progress) (content : Content) (new : Conference) (first now : Output) (r : Result T Failed) → IsErr r
    → Broke p content new first now → ComesAt p content new first now r
broke-of p content new first now (Ok _) is b = absurd (cc)
broke-of p content new first now (Err _) is b = b
