use Rattle.std.proofs.Common.{[], ◌∷◌, ◌++◌, sym, subst}
use Rattle.hall_lock.specs.Places.{EachOnce}
use Rattle.hall_lock.specs.Sorting.{SharedOut}
use Rattle.hall_lock.proofs.Joined.{joins_none}
use Rattle.hall_lock.proofs.SharedOut.{share_law}
use Rattle.hall_lock.proofs.worker_tests.close_by_name.Goals as goal

pub returns : goal.returns
returns c =
    let workers = c.args.one ∷ c.args.two ∷ [] in
    let closing = c.join-2.new.seat in
    let first = c.join.ensures.takes.joins c.args.seat [] (joins_none c.args.seat) in
    let both = c.join-2.ensures.takes.joins c.args.seat (c.args.one ∷ []) first in
    subst (λ s. SharedOut (λ t. t.call.worker) s.seen workers) (sym c.close.ensures.seat)
    (share_law (λ t. t.call.worker) c.args.seat closing workers c.requires.seat.1 c.requires.seat.2 c.requires.own both
    (subst (λ n. EachOnce n (closing.mine ++ closing.past)) c.close.ensures.closes.counted c.close.ensures.closes.places))
