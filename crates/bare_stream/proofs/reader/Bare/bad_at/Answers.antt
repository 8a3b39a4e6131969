-- What is there was taken.
use Rattle.std.proofs.Common.{ap, length, arith}
use Rattle.bare_stream.proofs.Buffers.{rest-length}
use Rattle.bare_stream.proofs.reader.Bare.bad_at.Goals as goal

pub overflow_mul-begin : goal.overflow_mul-begin
overflow_mul-begin c =
    omega (arith, c.taken.ensures, c.self.invariant.4, ap (λ r. r.allowance.budget) c.self.view_is, c.requires.few)

pub overflow_sub-begin : goal.overflow_sub-begin
overflow_sub-begin c =
    let b = c.self.inside in
    omega (
      arith,
      c.taken.ensures,
      c.self.invariant.3,
      ap (λ r. length r.rest) c.self.view_is,
      c.requires.len,
      rest-length b.octets.items b.filled b.from (omega (arith, c.self.invariant.1, b.octets.ok.0)),
    )

pub overflow_add-result : goal.overflow_add-result
overflow_add-result c =
    omega (arith, c.taken.ensures, c.self.invariant.4, ap (λ r. r.allowance.budget) c.self.view_is, c.requires.few, c.requires.place, c.from.ensures)
