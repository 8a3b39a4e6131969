use Rattle.std.proofs.Common.{◌≡◌, ℕ, ◌<◌, Some, ◌∷◌, length, slice_get, slice_set, refl, sym, ap, subst, ◌∙◌, arith}
use Rattle.std.proofs.lemmas.Option.{slice_get_read}
use Rattle.bridge_replay.specs.FileHistory.{packets_in, after_loss}
use Rattle.bridge_replay.specs.UnderWay.{AreFed}
use Rattle.conf_file.specs.Entries.{Packet}
use Rattle.pel_model.specs.declared.Format.{Format}
use Rattle.rtp_h261.specs.Depack.{AnswersGiven, given_behind}
use Rattle.bridge_replay.proofs.Units.{fed-there, fed-further, still-follows, loss-open, packet-enters}
use Rattle.bridge_replay.proofs.conference.Conference.packet.Goals as goal

pub returns : goal.returns
returns c = λ p first now u free.
    let old = c.args.self.now in
    let lane = c.args.lane in
    let packet = c.args.bytes.now in
    let items = old.depacks.items in
    let d = c.index_mut.result.now in
    let below : lane < p.lanes = subst (λ (n : ℕ). lane < n) (sym c.requires.under_way.follows.lanes_are ∙ u.follows.lanes_are) c.requires.fits in
    let within : c.from.result < length items = omega (arith, below, c.from.ensures, u.depacks.count) in
    let there : slice_get items lane ≡ Some d =
    ap (slice_get items) (sym c.from.ensures) ∙ slice_get_read items (length items) c.from.result d refl within c.index_mut.ensures.value in
    let fed = fed-there p.lanes p.entries items lane d u.depacks below there in
    let given = given_behind (packets_in p.entries lane) packet in
    let answers = c.feed-fed.ensures.given (packets_in p.entries lane) fed.1 in
    let qcif = subst (λ (f : Format). AnswersGiven f given c.feed-fed.result c.deref_mut.result.now c.feed-fed.new.into) fed.0 answers in
    let now_fed = subst (λ (k : ℕ). AreFed p.lanes (Packet lane packet ∷ p.entries) (slice_set items k c.feed-fed.new.self)) (sym c.from.ensures)
    (fed-further p.lanes p.entries items lane packet c.feed-fed.new.self u.depacks below (c.feed-fed.ensures.format ∙ fed.0) (c.feed-fed.ensures.stands (packets_in p.entries lane) fed.1)) in
    packet-enters p lane packet c.feed-fed.result.lost given.unit _ old c.lose.new.self c.take_unit.new.self first now c.lose.ensures u free qcif.lost refl now_fed refl
    (c.take_unit.ensures given.unit c.deref_mut.result.now qcif.unit p.lanes (after_loss lane c.feed-fed.result.lost p.history)
    (c.lose.ensures.follows p.lanes p.history (still-follows p.lanes p.history old _ refl refl u.follows)) (loss-open lane c.feed-fed.result.lost p.history free))
