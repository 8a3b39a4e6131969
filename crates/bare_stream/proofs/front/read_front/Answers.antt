-- Bits and their first fault.
use Rattle.std.proofs.Common.{◌≡◌, Bool, List, subst, ap, ◌∙◌, take, length}
use Rattle.std.proofs.Math.Seq.{take-length}
use Rattle.bare_stream.proofs.Nexts.{near-fault, none-in-whole, is-next, fault-within}
use Rattle.h261_pic.specs.Coded.{HoldsAccepted}
use Rattle.pel_model.specs.Grammar.{next_within_limit}
use Rattle.pel_model.specs.Walk.{FirstFault}
use Rattle.bare_stream.proofs.front.read_front.Goals as goal

whole : (bits slice : List Bool) (n : _) → slice ≡ take n bits → n ≡ length bits → slice ≡ bits
whole bits slice n s l = s ∙ (ap (λ k. take k bits) l ∙ take-length bits)

pub picture_before-requires-clause-small : goal.picture_before-requires-clause-small
picture_before-requires-clause-small c =
    fault-within c.args.format c.slice.result c.in-Err.fault.place c.in-Err.fault.why (c.in-Err.ensures.refused.0)

pub returns-in-Ok-clause-front : goal.returns-in-Ok-clause-front
returns-in-Ok-clause-front c =
    let same = whole c.args.bits c.slice.result c.len.result c.slice.ensures.value c.len.ensures in
    let holds : HoldsAccepted c.args.format c.args.bits c.parse.new.into = subst (λ (t : List Bool). HoldsAccepted c.args.format t c.parse.new.into) same c.in-Ok.ensures.accepted in
    (none-in-whole c.args.format c.args.bits holds.0 holds.1, holds, c.in-Ok.ensures.finished)

pub returns-in-Some-clause-front : goal.returns-in-Some-clause-front
returns-in-Some-clause-front c = (is-next c.args.format c.args.bits c.in-Some.e c.in-Some.ensures.0, c.in-Some.ensures.1, c.in-Some.ensures.2)

pub returns-in-None-clause-front : goal.returns-in-None-clause-front
returns-in-None-clause-front c =
    let same = whole c.args.bits c.slice.result c.len.result c.slice.ensures.value c.len.ensures in
    let fault : FirstFault (next_within_limit c.args.format) c.args.bits c.in-Err.fault.place c.in-Err.fault.why = subst (λ (t : List Bool). FirstFault (next_within_limit c.args.format) t c.in-Err.fault.place c.in-Err.fault.why) same c.in-Err.ensures.refused.0 in
    (λ e here. c.in-None.ensures.1 e (near-fault c.args.format c.args.bits c.in-Err.fault.place c.in-Err.fault.why e fault here) here, fault, c.in-None.ensures.0)
