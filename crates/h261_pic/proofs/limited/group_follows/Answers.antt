use Rattle.std.proofs.Common.{◌<◌, ◌≤◌, arith}
use Rattle.std.proofs.lemmas.Result.{err_from_is_err_and}
use Rattle.h261_pic.proofs.ComesWithin.{last_place, bad-within, group-within, group-long, end-within}
use Rattle.h261_pic.proofs.limited.group_follows.Goals as goal

pub returns-in_err-take_group_or_end : goal.returns-in_err-take_group_or_end
returns-in_err-take_group_or_end c = λ before due begun inside.
    let p = err_from_is_err_and c.from_residual.result c.from_residual.ensures.1 in
    let bad = bad-within c.args.format before c.args.r.now _ c.take_group_or_end.new.r (c.in_err-take_group_or_end.ensures.comes c.args.format before due) in
    rw (p.1, p.2) (record { bad = bad.bad; place = bad.place })

pub returns-in-Group : goal.returns-in-Group
returns-in-Group c = λ before due begun inside.
    let comes = c.in_ok-take_group_or_end.ensures.comes c.args.format before due in
    let far : last_place c.args.format 1 < c.take_group_or_end.new.r.1 = omega arith in
    let long = group-long c.args.format before c.args.r.now c.take_group_or_end.new.r c.in_ok-take_group_or_end.field-0 begun comes c.in-Group.is inside far in
    rw c.too_long.ensures (record { bad = long; place = c.place-place.ensures })

pub returns-in-Group-2 : goal.returns-in-Group-2
returns-in-Group-2 c = λ before due begun inside.
    let comes = c.in_ok-take_group_or_end.ensures.comes c.args.format before due in
    let fits : c.take_group_or_end.new.r.1 ≤ last_place c.args.format 1 = omega arith in
    group-within c.args.format before c.args.r.now c.take_group_or_end.new.r c.in_ok-take_group_or_end.field-0 begun comes c.in-Group.is fits

pub returns-in-End : goal.returns-in-End
returns-in-End c = λ before due begun inside.
    let comes = c.in_ok-take_group_or_end.ensures.comes c.args.format before due in
    end-within c.args.format before c.args.r.now c.take_group_or_end.new.r c.in_ok-take_group_or_end.field-0 begun comes c.in_ok-take_group_or_end.ensures.of_these c.in-End.is
