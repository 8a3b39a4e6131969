-- A front of the entry was put.
use Rattle.std.proofs.Common.{arith}
use Rattle.conf_make.proofs.Filing.{cause-failed}
use Rattle.conf_make.proofs.Pieces.{one-failed}
use Rattle.conf_make.proofs.output.put_entry.Goals as goal

pub returns-in_err-put_all : goal.returns-in_err-put_all
returns-in_err-put_all g c = record {
  pieces = one-failed c.from_residual.result _ _ c.args.entry.now c.args.tally.now c.from_residual.ensures.0 c.in_err-put_all.ensures.bytes;
  grows = record { records = omega arith; octets = omega arith };
  cause = cause-failed c.from_residual.result _ _ _ c.from_residual.ensures.0 c.in_err-put_all.ensures.cause;
}
