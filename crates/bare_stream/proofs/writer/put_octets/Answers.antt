-- The octets are what their bits spell.
use Rattle.std.proofs.Common.{arith}
use Rattle.bare_stream.proofs.PackedLemmas.{put-done, put-failed, spelled-bits}
use Rattle.bare_stream.proofs.writer.put_octets.Goals as goal

pub returns-in_err-put_all-clause-written : goal.returns-in_err-put_all-clause-written
returns-in_err-put_all-clause-written g c =
    put-failed _ _ _ _ _ _ (spelled-bits c.args.octets.now (λ i. omega (arith, c.type_inv.octets i))) c.from_residual.ensures.0 c.in_err-put_all.ensures

pub returns-clause-written : goal.returns-clause-written
returns-clause-written g c =
    put-done _ _ _ _ _ (spelled-bits c.args.octets.now (λ i. omega (arith, c.type_inv.octets i))) c.in_ok-put_all.ensures
