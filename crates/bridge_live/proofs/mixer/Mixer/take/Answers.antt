-- The tick was made, or given back.
use Rattle.std.proofs.Common.{ℕ, ◌+◌, refl, ap}
use Rattle.std.proofs.lemmas.Result.{err_from_is_err_and}
use Rattle.pel_model.specs.History.{Tick}
use Rattle.bridge_live.proofs.Mixings.{may-with}
use Rattle.bridge_live.proofs.Ticking.{tick-told, tick-hand, took-step, room-more}
use Rattle.bridge_live.proofs.mixer.Mixer.take.Goals as goal

pub returns-in_err-reply : goal.returns-in_err-reply
returns-in_err-reply g c =
    let p = err_from_is_err_and c.from_residual.result c.from_residual.ensures.1 in
    let e = c.in_err-reply.ensures in
    rw (p.1, p.2) (record {
      may = may-with c.args.lock.now c.args.self.now _ c.requires.may e.at_lock;
      room = tt;
      hand = tt;
      took = tt;
      counts = tt;
      kept = refl;
      writer = refl;
      grows = e.grows;
      makes = λ first steps h. let m = e.makes first steps h in (m.0, m.1);
    })

pub returns : goal.returns
returns g c =
    let e = c.in_ok-reply.ensures in
    let r = c.requires.room in
    let taken = c.tick_in-taken.result in
    let told = tick-told c.args.step c.args.hand c.in_ok-reply.reply taken c.tick_in-taken.ensures in
    let counts = c.args.self.now.counts in
    let counted = ap (λ (n : ℕ). record { ticks = counts.ticks + 1; taken = counts.taken + n; packets = counts.packets; octets = counts.octets }) c.takes_in.ensures in
    record {
      may = may-with c.args.lock.now c.args.self.now _ c.requires.may e.at_lock;
      room =
          let m = e.makes r.first r.steps r.has_made in
          room-more c.args.lock.now c.args.self.now _ taken r counted refl (m.1 (Tick taken.note) told, m.0) e.within;
      hand = tick-hand c.args.step c.args.hand c.in_ok-reply.reply taken e.answer c.tick_in-taken.ensures;
      took = took-step c.args.lock.now.opening c.args.step c.args.hand c.in_ok-reply.reply taken c.call.new.seat.seen c.requires.may.opens c.requires.may.limit
          c.tick_in-taken.ensures e.led;
      counts = counted;
      kept = tt;
      writer = refl;
      grows = e.grows;
      makes = λ first steps h. let m = e.makes first steps h in (m.1 (Tick taken.note) told, m.0);
    }
