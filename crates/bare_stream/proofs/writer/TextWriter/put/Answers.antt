-- The whole octets of all bits are the first of those that hold them.
use Rattle.std.proofs.Common.{◌*◌, ◌/◌, Bool, List, ◌++◌, arith, sym, ◌∙◌, ap, ap₂}
use Rattle.std.proofs.lemmas.List.{length-take-le}
use Rattle.bare_stream.specs.Packed.{octets_spelled, left_over}
use Rattle.bare_stream.proofs.PackedLemmas.{spelled-front, left-drop, puts-same, length-filled}
use Rattle.bare_stream.proofs.writer.TextWriter.put.Goals as goal

pub slice_bounds-put_octets-end : goal.slice_bounds-put_octets-end
slice_bounds-put_octets-end g c =
    sym (length-take-le (c.len.result / 8) c.octets.result.now (omega (arith, length-filled c.append.new.self.list c.octets.result.now c.octets.ensures, c.len.ensures)))

pub returns-clause-written : goal.returns-clause-written
returns-clause-written g c =
    let all = ap (λ b. b.list) c.append.ensures.value ∙ ap₂ (λ (xs ys : List Bool). xs ++ ys) c.self.view_is c.bits.ensures.bits in
    puts-same _ _ _ _ c.put_octets-result.result
    (spelled-front c.append.new.self.list c.octets.result.now (c.len.result / 8) c.octets.ensures (ap (λ n. n / 8) c.len.ensures) ∙ ap octets_spelled all)
    c.put_octets-result.ensures.written

pub returns-clause-pending : goal.returns-clause-pending
returns-clause-pending g c =
    let all = ap (λ b. b.list) c.append.ensures.value ∙ ap₂ (λ (xs ys : List Bool). xs ++ ys) c.self.view_is c.bits.ensures.bits in
    ap (λ b. b.list) c.keep_from.ensures ∙ (sym (left-drop c.append.new.self.list (c.len.result / 8 * 8) (omega (arith, c.len.ensures))) ∙ ap left_over all)
