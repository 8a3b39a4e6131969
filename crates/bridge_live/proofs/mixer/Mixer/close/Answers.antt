-- The end was called for, and the ticker had no step left, or failed.
use Rattle.std.proofs.Common.{refl, sym, subst}
use Rattle.hall_core.specs.Hall.{lanes_of}
use Rattle.bridge_live.specs.declared.ends.MixStop.TheVariants as mix_stop
use Rattle.bridge_live.specs.declared.mixer.Quiet.{Quiet}
use Rattle.bridge_live.specs.declared.mixer.Quiet.TheVariants as quiet
use Rattle.bridge_live.specs.Mixing.{StopsQuiet}
use Rattle.bridge_live.proofs.Mixings.{closes-so}
use Rattle.bridge_live.proofs.mixer.Mixer.close.Goals as goal

pub returns-in-AtEnd : goal.returns-in-AtEnd
returns-in-AtEnd g c =
    let e = c.finish-ended.ensures in
    subst (λ (q : Quiet). StopsQuiet c.args.lock.now q c.args.self.now c.finish-ended.new.self c.last_stop.result) (sym c.in-AtEnd.is) (record {
      may = e.may;
      closes = λ set taken first before now h.
          closes-so quiet.AtEnd c.finish-ended.result c.last_stop.result (lanes_of c.args.lock.now.opening) set taken first before now c.args.self.now c.finish-ended.new.self h
          e.grows e.counts (e.makes first) c.last_stop.ensures;
    })

pub returns-in-Failing : goal.returns-in-Failing
returns-in-Failing g c =
    let e = c.finish-ended.ensures in
    subst (λ (q : Quiet). StopsQuiet c.args.lock.now q c.args.self.now c.finish-ended.new.self mix_stop.Ticker) (sym c.in-Failing.is) (record {
      may = e.may;
      closes = λ set taken first before now h.
          closes-so quiet.Failing c.finish-ended.result mix_stop.Ticker (lanes_of c.args.lock.now.opening) set taken first before now c.args.self.now c.finish-ended.new.self h
          e.grows e.counts (e.makes first) refl;
    })
