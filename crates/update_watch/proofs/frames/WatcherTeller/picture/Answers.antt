-- A line where a place is overdue.
use Rattle.std.proofs.Common.{ℕ, ◌+◌, Some, ap, arith}
use Rattle.update_watch.proofs.Lines.{quiet-told, line-told, line-failed}
use Rattle.update_watch.proofs.frames.WatcherTeller.picture.Goals as goal

pub returns-in_default : goal.returns-in_default
returns-in_default g c p valid is = quiet-told p c.args.self.now.counts c.count.new.self c.count.result c.args.self.now.lines c.args.number _ c.in_default.is (c.count.ensures.counted p valid is)

pub returns-in_err-octets : goal.returns-in_err-octets
returns-in_err-octets g c p valid is =
    line-failed c.from_residual.result c.in_err-octets.field-0.0 p c.args.self.now.counts c.count.new.self c.count.result c.in-Some.overdue c.args.self.now.lines c.args.number c.overdue_line.result.bytes _ _
    c.in-Some.is (c.count.ensures.counted p valid is) c.overdue_line.ensures c.from_residual.ensures.0 c.in_err-octets.ensures.put c.in_err-octets.ensures.cause

pub returns : goal.returns
returns g c p valid is =
    line-told _ p c.args.self.now.counts c.count.new.self c.count.result c.in-Some.overdue c.args.self.now.lines c.saturating_add-self.result c.args.number c.overdue_line.result.bytes _ _
    c.in-Some.is (c.count.ensures.counted p valid is) c.overdue_line.ensures c.in_ok-octets.ensures.put c.in_ok-octets.ensures.short c.in_ok-octets.ensures.cause
    (λ small. ap (λ (n : ℕ). Some n) (omega (arith, c.saturating_add-self.ensures, small)))
