use Rattle.std.proofs.Common.{◌≡◌, ℕ, ap₂, Bool, true, false, List, Result, Ok, Err, refl, sym, ◌∙◌, ap, subst}
use Rattle.std.specs.Result.{is_err, IfOk, IfErr, IsOk}
use Rattle.pel_model.specs.declared.Fault.{Fault}
use Rattle.pel_model.specs.declared.Format.{Format}
use Rattle.pel_model.specs.declared.Why.{Why}
use Rattle.pel_model.specs.Records.{Picture}
use Rattle.pel_model.specs.Accepts.{Accepts}
use Rattle.pel_model.specs.Walk.{FirstFault}
use Rattle.pel_model.specs.Grammar.{next_within_limit}
use Rattle.picture_laws.proofs.Answers.{never-both, one-record, one-fault}
use Rattle.h261_pic.specs.Coded.{Coding, coding, IsFinished}
use Rattle.h261_pic.proofs.Codings.{finished-codings}
use Rattle.h261_pic.proofs.parser.parse.Goals as goal

-- bits with a first fault are not accepted
refused_only : {X : Type 0} (format : Format) (bits : List Bool) (r : Result X Fault) (p : Picture) → is_err r ≡ true → IfErr r (λ f. FirstFault (next_within_limit format) bits f.place f.why) → Accepts format bits p → ⊥
refused_only format bits (Ok x) p bad fault accepts = absurd cc
refused_only format bits (Err f) p bad fault accepts = never-both format bits p f.place f.why accepts fault

-- bits are accepted with one picture
accepted_only : {X : Type 0} (format : Format) (bits : List Bool) (r : Result X Fault) (into : Coding) (p : Picture) → is_err r ≡ false → IfOk r (λ _. (q : Picture) × Accepts format bits q × (into ≡ coding format q)) → Accepts format bits p → IsOk r × (into ≡ coding format p)
accepted_only format bits (Ok x) into p good read accepts = (refl, read.2 ∙ ap (coding format) (one-record format bits read.0 p read.1 accepts))
accepted_only format bits (Err f) into p good read accepts = absurd cc

-- a first fault is the one that is told
faults_only : {X : Type 0} (format : Format) (bits : List Bool) (r : Result X Fault) (place : ℕ) (why : Why) → is_err r ≡ true → IfErr r (λ f. FirstFault (next_within_limit format) bits f.place f.why) → FirstFault (next_within_limit format) bits place why → r ≡ Err (record { place = place; why = why })
faults_only format bits (Ok x) place why bad fault other = absurd cc
faults_only {X} format bits (Err f) place why bad fault other =
    let same = one-fault format bits f.place place f.why why fault other in
    let told : ℕ → Why → Result X Fault = λ p w. Err (record { place = p; why = w }) in
    ap₂ told same.0 same.1

no_faults : {X : Type 0} (format : Format) (bits : List Bool) (r : Result X Fault) (into : Coding) (place : ℕ) (why : Why) → is_err r ≡ false → IfOk r (λ _. (q : Picture) × Accepts format bits q × (into ≡ coding format q)) → FirstFault (next_within_limit format) bits place why → ⊥
no_faults format bits (Ok x) into place why good read fault = never-both format bits read.0 place why read.1 fault
no_faults format bits (Err f) into place why good read fault = absurd cc

pub returns-then-is_err-clause-faults : goal.returns-then-is_err-clause-faults
returns-then-is_err-clause-faults c = λ place why fault.
    faults_only c.args.want c.args.bits c.read_picture-result.result place why (sym c.is_err.ensures.value ∙ c.if-is_err.true) c.read_picture-result.ensures.refused fault

pub returns-else-is_err-clause-faults : goal.returns-else-is_err-clause-faults
returns-else-is_err-clause-faults c = λ place why fault.
    absurd (no_faults c.args.want c.args.bits c.read_picture-result.result c.read_picture-result.new.into place why (sym c.is_err.ensures.value ∙ c.if-is_err.false) c.read_picture-result.ensures.accepted fault)

pub returns-then-is_err-clause-only : goal.returns-then-is_err-clause-only
returns-then-is_err-clause-only c = λ p accepts.
    absurd (refused_only c.args.want c.args.bits c.read_picture-result.result p (sym c.is_err.ensures.value ∙ c.if-is_err.true) c.read_picture-result.ensures.refused accepts)

pub returns-else-is_err-clause-only : goal.returns-else-is_err-clause-only
returns-else-is_err-clause-only c = λ p accepts.
    accepted_only c.args.want c.args.bits c.read_picture-result.result c.read_picture-result.new.into p (sym c.is_err.ensures.value ∙ c.if-is_err.false) c.read_picture-result.ensures.accepted accepts

bad_result : {X : Type 0} (r : Result X Fault) (P : X → Type 0) → is_err r ≡ true → IfOk r P
bad_result (Ok x) P bad = absurd cc
bad_result (Err f) P bad = tt

-- an accepted picture is finished
finished_if_read : {X : Type 0} (format : Format) (bits : List Bool) (r : Result X Fault) (into : Coding) → IfOk r (λ _. (q : Picture) × Accepts format bits q × (into ≡ coding format q)) → IfOk r (λ _. IsFinished into)
finished_if_read format bits (Ok x) into read = subst IsFinished (sym read.2) (finished-codings format read.0 read.1.1.valid)
finished_if_read format bits (Err f) into read = tt

pub returns-else-is_err-clause-finished : goal.returns-else-is_err-clause-finished
returns-else-is_err-clause-finished c =
    finished_if_read c.args.want c.args.bits c.read_picture-result.result c.read_picture-result.new.into c.read_picture-result.ensures.accepted

pub returns-then-is_err-clause-finished : goal.returns-then-is_err-clause-finished
returns-then-is_err-clause-finished c =
    bad_result c.read_picture-result.result _ (sym c.is_err.ensures.value ∙ c.if-is_err.true)
