-- The end was made, or given back.
use Rattle.std.proofs.Common.{refl}
use Rattle.std.proofs.lemmas.Result.{err_from_is_err_and}
use Rattle.pel_model.specs.History.{End}
use Rattle.bridge_live.proofs.Mixings.{may-with}
use Rattle.bridge_live.proofs.Ticking.{end-told}
use Rattle.bridge_live.proofs.mixer.Mixer.finish.Goals as goal

pub returns-in_err-_finished : goal.returns-in_err-_finished
returns-in_err-_finished g c =
    let p = err_from_is_err_and c.from_residual.result c.from_residual.ensures.1 in
    let e = c.in_err-_finished.ensures in
    rw (p.1, p.2) (record {
      may = may-with c.args.lock.now c.args.self.now _ c.requires.may e.at_lock;
      counts = refl;
      grows = e.grows;
      makes = λ first steps h. let m = e.makes first steps h in (m.0, m.1);
    })

pub returns : goal.returns
returns g c =
    let e = c.in_ok-_finished.ensures in
    record {
      may = may-with c.args.lock.now c.args.self.now _ c.requires.may e.at_lock;
      counts = refl;
      grows = e.grows;
      makes = λ first steps h.
          let m = e.makes first steps h in
          (m.1 End (end-told c.in_ok-_finished._finished e.answer), m.0);
    }
