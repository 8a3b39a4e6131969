-- Where PSC stands, whether the bits before it are a picture.
use Rattle.std.proofs.Common.{◌≡◌, Bool, List, subst, sym, arith, IfOk, IfErr}
use Rattle.bare_stream.specs.Tries.{LastsBefore}
use Rattle.bare_stream.proofs.Fronts.{ends-tried}
use Rattle.h261_pic.specs.Coded.{nothing, HoldsAccepted}
use Rattle.pel_model.specs.Grammar.{next_within_limit}
use Rattle.pel_model.specs.Walk.{FirstFault}
use Rattle.bare_stream.proofs.front.picture_ends.Goals as goal

pub returns : goal.returns
returns c =
    let format = c.args.format in
    let into = c.parse.new.into in
    subst (λ (b : Bool). LastsBefore format c.args.bits.now c.args.e b into) (sym c.is_ok.ensures.value)
    (ends-tried format c.args.bits.now c.args.e c.parse.result into (omega (arith, c.if-e-eq0.false)) (sym c.if-not-starts_at.ensures)
    (subst (λ (t : List Bool). IfOk c.parse.result (λ _. HoldsAccepted format t into)) c.slice.ensures.value c.parse.ensures.accepted)
    c.parse.ensures.finished
    (subst (λ (t : List Bool). IfErr c.parse.result (λ fault. FirstFault (next_within_limit format) t fault.place fault.why × (into ≡ nothing format))) c.slice.ensures.value c.parse.ensures.refused))
