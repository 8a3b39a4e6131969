-- Nothing is left.
use Rattle.std.proofs.Common.{◌≡◌, ◌⊎◌, Bool, List, [], Option, Some, None, ◌∙◌, ap, subst, arith}
use Rattle.bare_stream.specs.Reading.{BareReading}
use Rattle.io_edge.specs.declared.allowance.Pause.{Pause}
use Rattle.io_edge.specs.declared.allowance.Pause.TheVariants as pause
use Rattle.bare_stream.proofs.Buffers.{none-left}
use Rattle.bare_stream.proofs.reader.Bare.give_last.Goals as goal

pub returns : goal.returns
returns c =
    let b = c.self.inside in
    let none = none-left b.octets.items b.filled (omega (arith, c.self.invariant.1, b.octets.ok.0)) in (
      subst (λ (w : Option Pause). (w ≡ Some pause.End) ⊎ (w ≡ None)) (ap (λ (r : BareReading). r.pause) c.self.view_is) c.in_default.ensures,
      ap (λ (r : List Bool). record { format = b.format; allowance = b.allowance; rest = r; pause = b.pause; ended = b.ended }) none
          ∙ ap (λ (r : BareReading). record { format = r.format; allowance = r.allowance; rest = []; pause = r.pause; ended = r.ended }) c.self.view_is,
    )
