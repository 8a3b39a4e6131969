-- The gap was made, or given back.
use Rattle.std.proofs.lemmas.Result.{err_from_is_err_and}
use Rattle.std.proofs.Common.{◌∷◌, [], arith, refl}
use Rattle.hall_core.specs.Hall.{lanes_of}
use Rattle.pel_model.specs.History.{Gap}
use Rattle.bridge_live.proofs.Giving.{gap-told, gap-counted, posts-none}
use Rattle.bridge_live.proofs.lane.Lane.gap.Goals as goal

pub returns-in_err-_counted : goal.returns-in_err-_counted
returns-in_err-_counted g c =
    let p = err_from_is_err_and c.from_residual.result c.from_residual.ensures.1 in
    let e = c.in_err-_counted.ensures in
    rw (p.1, p.2) (record {
      at_lock = record { seat = e.at_lock; number = c.requires.at_lock.number };
      number = refl;
      few = omega arith;
      live = tt;
      posted = λ first steps h.
          let m = e.makes first steps h.has_made in
          posts-none Unit (lanes_of c.args.lock.now.opening) first steps (Gap c.args.self.now.number) [] _ c.in_err-_counted.field-0.0
          (record { has_made = m.0; counted = h.counted }) m.1;
    })

pub returns : goal.returns
returns g c =
    let e = c.in_ok-_counted.ensures in
    record {
      at_lock = record { seat = e.at_lock; number = c.requires.at_lock.number };
      number = refl;
      few = omega arith;
      live = e.live;
      posted = λ first steps h.
          let m = e.makes first steps h.has_made in
          record {
            has_made = m.1 _ (gap-told c.args.self.now.number c.in_ok-_counted._counted e.answer);
            counted = gap-counted c.args.self.now.number c.args.self.now.counts steps h.counted;
          };
    }
