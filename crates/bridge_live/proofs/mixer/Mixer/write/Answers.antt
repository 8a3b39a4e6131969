-- The picture was counted, or the sink failed at it.
use Rattle.std.proofs.Common.{refl}
use Rattle.std.proofs.lemmas.Result.{err_from_is_err_and}
use Rattle.bridge_live.proofs.Mixings.{picture-counted}
use Rattle.bridge_live.proofs.mixer.Mixer.write.Goals as goal

pub returns-in_err-sent : goal.returns-in_err-sent
returns-in_err-sent g c =
    let p = err_from_is_err_and c.from_residual.result c.from_residual.ensures.1 in
    let e = c.in_err-sent.ensures in
    rw (p.1, p.2) (record {
      grows = tt;
      seat = refl;
      kept = refl;
      writes = λ lanes before took set pictures first h. e.sends lanes before took set pictures _ first h;
      cause = record { later = e.cause.later; counted = e.cause.counted; kept = tt; failed = e.cause.failed };
    })

pub returns : goal.returns
returns g c =
    let e = c.in_ok-sent.ensures in
    record {
      grows = picture-counted c.args.self.now _ c.in_ok-sent.sent refl refl refl refl e.few e.usable;
      seat = refl;
      kept = tt;
      writes = λ lanes before took set pictures first h. e.sends lanes before took set pictures _ first h;
      cause = record { later = e.cause.later; counted = e.cause.counted; kept = e.cause.kept; failed = tt };
    }
