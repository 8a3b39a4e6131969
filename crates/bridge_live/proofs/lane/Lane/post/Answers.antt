-- The picture was posted, or given back.
use Rattle.std.proofs.lemmas.Result.{err_from_is_err_and}
use Rattle.std.proofs.Common.{◌∷◌, [], arith, refl}
use Rattle.hall_core.specs.Hall.{lanes_of}
use Rattle.pel_model.specs.History.{Post}
use Rattle.bridge_live.specs.declared.qcif.QcifBox.{QcifBox}
use Rattle.bridge_live.proofs.Giving.{post-told, post-counted, posts-none}
use Rattle.bridge_live.proofs.lane.Lane.post.Goals as goal

pub returns-in_err-reply : goal.returns-in_err-reply
returns-in_err-reply g c = λ picture holds.
    let p = err_from_is_err_and c.from_residual.result c.from_residual.ensures.1 in
    let e = c.in_err-reply.ensures in
    rw (p.1, p.2) (record {
      at_lock = record { seat = e.at_lock; number = c.requires.ready.at_lock.number };
      number = refl;
      few = omega arith;
      live = tt;
      posted = λ first steps h.
          let m = e.makes first steps h.has_made in
          posts-none QcifBox (lanes_of c.args.lock.now.opening) first steps (Post c.args.self.now.number picture) [] _ c.in_err-reply.field-0.0
          (record { has_made = m.0; counted = h.counted }) m.1;
    })

pub returns : goal.returns
returns g c = λ picture holds.
    let e = c.in_ok-reply.ensures in
    record {
      at_lock = record { seat = e.at_lock; number = c.requires.ready.at_lock.number };
      number = refl;
      few = omega arith;
      live = e.live;
      posted = λ first steps h.
          let m = e.makes first steps h.has_made in
          record {
            has_made = m.1 _ (post-told c.args.self.now.number c.args.item.item c.in_ok-reply.reply e.answer picture holds);
            counted = post-counted c.args.self.now.number picture c.args.self.now.counts steps h.counted;
          };
    }
