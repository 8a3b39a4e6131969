-- What stands at the front of bits, by the places that were tried.
use Rattle.std.proofs.Common.{◌≡◌, ℕ, ◌+◌, ◌<◌, Bool, List, take, Result, Ok, Err, IfOk, IfErr, is_ok, subst, inl, inr, arith}
use Rattle.std.proofs.lemmas.Bool.{cases_lt}
use Rattle.bare_stream.specs.Streams.{StartsAt, EndsAtStart}
use Rattle.bare_stream.specs.Tries.{IsTried, LastsBefore}
use Rattle.h261_pic.specs.Coded.{Coding, nothing, HoldsAccepted, IsFinished}
use Rattle.pel_model.specs.declared.Fault.{Fault}
use Rattle.pel_model.specs.declared.Format.{Format}
use Rattle.pel_model.specs.Grammar.{next_within_limit}
use Rattle.pel_model.specs.Walk.{FirstFault}
use Rattle.picture_laws.proofs.Answers.{never-both}

pub ends-tried : (format : Format) (bits : List Bool) (e : ℕ) (result : Result Unit Fault) (into : Coding) → 0 < e → StartsAt e bits
    → IfOk result (λ _. HoldsAccepted format (take e bits) into) → IfOk result (λ _. IsFinished into)
    → IfErr result (λ fault. FirstFault (next_within_limit format) (take e bits) fault.place fault.why × (into ≡ nothing format))
    → LastsBefore format bits e (is_ok result) into
ends-tried format bits e (Ok u) into above starts holds whole refused =
    (record { above = above; starts = starts; picture = holds.0; accepted = holds.1 }, holds, whole)
ends-tried format bits e (Err f) into above starts holds whole refused =
    (λ place. never-both format (take e bits) place.picture f.place f.why place.accepted refused.0, refused.1)

-- no picture ends at the places tried so far, nor at the next one
pub one-more : (format : Format) (bits : List Bool) (fault k : ℕ) → ((e : ℕ) → IsTried fault e → e < fault + k → EndsAtStart format bits e → ⊥)
    → (EndsAtStart format bits (fault + k) → ⊥) → (e : ℕ) → IsTried fault e → e < fault + (k + 1) → EndsAtStart format bits e → ⊥
one-more format bits fault k before none e tried below here = elim (cases_lt e (fault + k)) [
  | inl less ↦ before e tried less here
  | inr not_less ↦ none (subst (λ (n : ℕ). EndsAtStart format bits n) (omega (arith, not_less, below)) here)
]
