-- Octets have eight bits each.
use Rattle.std.proofs.Common.{sym, ◌∙◌, ap, length, arith}
use Rattle.bare_stream.proofs.Buffers.{rest-length}
use Rattle.bare_stream.proofs.reader.Bare.len.Goals as goal

pub returns : goal.returns
returns c =
    let b = c.self.inside in
    sym (rest-length b.octets.items b.filled b.from (omega (arith, c.self.invariant.1, b.octets.ok.0))) ∙ ap (λ r. length r.rest) c.self.view_is
