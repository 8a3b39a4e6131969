use Rattle.std.proofs.Common.{◌≡◌, ℕ, ◌<◌, Some, ◌∷◌, length, slice_get, slice_set, refl, sym, ap, subst, ◌∙◌, arith}
use Rattle.std.proofs.lemmas.Option.{slice_get_read}
use Rattle.bridge_replay.specs.FileHistory.{packets_in}
use Rattle.bridge_replay.specs.UnderWay.{AreFed}
use Rattle.conf_file.specs.Entries.{Packet}
use Rattle.h261_pic.specs.Coded.{Coding}
use Rattle.pel_model.specs.declared.Format.{Format}
use Rattle.rtp_h261.specs.Depack.{AnswersGiven, given_behind}
use Rattle.bridge_replay.proofs.Units.{fed-there, fed-further}
use Rattle.bridge_replay.proofs.account.Account.hear.Goals as goal

pub returns-clause-hears : goal.returns-clause-hears
returns-clause-hears c lanes entries history keeps below =
    let lane = c.args.lane in
    let packet = c.args.bytes.now in
    let items = c.args.self.now.depacks.items in
    let d = c.index_mut.result.now in
    let within : c.from.result < length items = omega (arith, below, c.from.ensures, keeps.fed.count) in
    let there : slice_get items lane ≡ Some d =
    ap (slice_get items) (sym c.from.ensures) ∙ slice_get_read items (length items) c.from.result d refl within c.index_mut.ensures.value in
    let fed = fed-there lanes entries items lane d keeps.fed below there in
    let given = given_behind (packets_in entries lane) packet in
    let answers = subst (λ (box : Coding). AnswersGiven d.format given c.feed-fed.result box c.feed-fed.new.into) c.deref_mut.ensures.value
    (c.feed-fed.ensures.given (packets_in entries lane) fed.1) in
    let judged = c.judge-idle.ensures lanes entries keeps.lasts below in
    record {
      given = subst (λ (f : Format). AnswersGiven f given c.feed-fed.result c.args.spare.now.item.value c.feed-fed.new.into) fed.0 answers;
      idle_is = judged.idle_is;
      fed_is = subst (λ (k : ℕ). AreFed lanes (Packet lane packet ∷ entries) (slice_set items k c.feed-fed.new.self)) (sym c.from.ensures)
          (fed-further lanes entries items lane packet c.feed-fed.new.self keeps.fed below (c.feed-fed.ensures.format ∙ fed.0) (c.feed-fed.ensures.stands (packets_in entries lane) fed.1));
      lasts = judged.lasts;
    }
