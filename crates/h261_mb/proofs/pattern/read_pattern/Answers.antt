use Rattle.std.proofs.Common.{◌≡◌, ℕ, ◌<◌, Bool, true, false, cond, List, [], ◌∷◌, MatchBool, Result, Ok, Err, IfOk, refl, sym, ◌∙◌, ap, arith}
use Rattle.pel_model.specs.declared.Fault.{Fault}
use Rattle.pel_model.specs.declared.Format.{Format}
use Rattle.pel_model.specs.declared.MbKind.{MbKind}
use Rattle.pel_model.specs.Codes.{is_intra, has_cbp}
use Rattle.pel_model.specs.Walk.{Takes, Walked}
use Rattle.pel_model.specs.Grammar.{Element, Cbp, AtCbp, slot, block_slot, kind, may_end, next}
use Rattle.h261_mb.specs.Inside.{StaysInside}
use Rattle.h261_mb.specs.Parts.{IsPattern}
use Rattle.h261_mb.proofs.Steps.{fails_here}
use Rattle.h261_mb.proofs.Taken.{cbp_due, some_cbp-taken}
use Rattle.h261_mb.proofs.SentBlocks.{intra_has_no_cbp, slot-no-cbp}
use Rattle.h261_mb.proofs.pattern.read_pattern.Goals as goal

none : (k : MbKind) (n : ℕ) → has_cbp k ≡ false → [] ≡ cond (has_cbp k) (Cbp n ∷ []) []
none k n no_cbp = sym (ap (λ (b : Bool). cond b (Cbp n ∷ []) []) no_cbp)

all_by : (intra : Bool) (n : ℕ) (P : Type 0) → intra ≡ true → n ≡ 63 → MatchBool intra (n ≡ 63) P
all_by true n P is all = all
all_by false n P is all = absurd cc

none_by : (intra coded : Bool) (n : ℕ) → intra ≡ false → coded ≡ false → n ≡ 0 → MatchBool intra (n ≡ 63) (MatchBool coded (n < 64) (n ≡ 0))
none_by false false n other no_cbp is = is
none_by true coded n other no_cbp is = absurd cc
none_by false true n other no_cbp is = absurd cc

-- CBP was taken
taken : (format : Format) (before : List Element) (k : MbKind) (old new : List Bool × ℕ) (result : Result ℕ Fault) → Takes Cbp (next format before old) result old new → slot before ≡ AtCbp → kind before ≡ k → is_intra k ≡ false → has_cbp k ≡ true → IfOk result (λ n. n < 64) → Walked (next format) before (IsPattern k before) (StaysInside before) result old new
taken format before k old new (Ok n) took here kind_is other coded six = some_cbp-taken format before k n old new other coded kind_is six took
taken format before k old new (Err f) took here kind_is other coded six =
    fails_here (next format) before (StaysInside before) old old new [] f refl (tt, ap may_end here) took.bad took.place took.kept

pub returns-then-is_intra : goal.returns-then-is_intra
returns-then-is_intra c = record {
  onward = omega arith;
  walk = λ format before is.
      let intra = sym c.is_intra.ensures ∙ c.if-is_intra.true in
      let no_cbp = intra_has_no_cbp c.args.kind intra in record {
        elements = [];
        walk = refl;
        wanted = record {
          fits = all_by (is_intra c.args.kind) 63 _ intra refl;
          elements = none c.args.kind 63 no_cbp;
          due = is.due ∙ (slot-no-cbp c.args.kind no_cbp ∙ ap (λ (b : Bool). block_slot c.args.kind (cond b 6 0)) intra);
          to_come = is.to_come ∙ ap (λ (b : Bool). cond b 6 0) intra;
        };
      };
}

pub returns-then-has_cbp : goal.returns-then-has_cbp
returns-then-has_cbp c = record {
  onward = c.take_cbp.ensures.read.onward;
  walk = λ format before is.
      let other = sym c.is_intra.ensures ∙ c.if-is_intra.false in
      let coded = sym c.has_cbp.ensures ∙ c.if-has_cbp.true in
      let here = cbp_due format before c.args.kind coded is.due in
      taken format before c.args.kind c.args.r.now c.take_cbp.new.r c.take_cbp.result (c.take_cbp.ensures.read.taken format before here) here is.kind_is other coded
      c.take_cbp.ensures.six;
}

pub returns-else-has_cbp : goal.returns-else-has_cbp
returns-else-has_cbp c = record {
  onward = omega arith;
  walk = λ format before is.
      let other = sym c.is_intra.ensures ∙ c.if-is_intra.false in
      let no_cbp = sym c.has_cbp.ensures ∙ c.if-has_cbp.false in record {
        elements = [];
        walk = refl;
        wanted = record {
          fits = none_by (is_intra c.args.kind) (has_cbp c.args.kind) 0 other no_cbp refl;
          elements = none c.args.kind 0 no_cbp;
          due = is.due ∙ (slot-no-cbp c.args.kind no_cbp ∙ ap (λ (b : Bool). block_slot c.args.kind (cond b 6 0)) other);
          to_come = is.to_come ∙ ap (λ (b : Bool). cond b 6 0) other;
        };
      };
}
