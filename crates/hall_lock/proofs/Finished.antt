-- A worker that alone ends the machine, by its last call, is never answered that the machine has ended.
use Rattle.std.proofs.Common.{◌≡◌, ℕ, ◌≤◌, Bool, true, false, cond, List, [], ◌∷◌, length, filter, MatchBool, refl, sym, subst, arith, inl, inr}
use Rattle.hall_lock.specs.declared.view.Turn.{Turn}
use Rattle.hall_lock.specs.Turns.{Goes}
use Rattle.hall_lock.specs.Asking.{NoneEnded}
use Rattle.hall_lock.specs.Finishing.{FinishLast, EndsByFinish}
use Rattle.hall_lock.specs.TurnLaws.{FinishLaw}

module _ {M C R : Type 0} (steps : M → C → R → M → Type 0) (is_over : M → Bool) (room : M → ℕ) (is_finish : C → Bool) (is_ended : R → Bool) (ends : EndsByFinish steps is_over room is_finish is_ended) where
  not_ended : (m : M) (c : C) (r : R) (n : M) → steps m c r n → is_over m ≡ false → 1 ≤ room m → is_ended r ≡ false
  not_ended m c r n st live some =
      elim (is_ended r) as (λ b. is_ended r ≡ b → b ≡ false) [
        | true ↦ λ e.
            elim (ends.ended m c r n st e) [
              | inl over ↦ absurd (cc (over, live))
              | inr none ↦ absurd (omega (arith, none, some))
            ]
        | false ↦ λ e. refl
      ] refl

  pub none_ended :
      (own : Turn C R → Bool) → ((t : Turn C R) → is_finish t.call ≡ true → own t ≡ true) →
      (m n : M) (ts : List (Turn C R)) → Goes steps m ts n → is_over m ≡ false → length ts ≤ room m →
      FinishLast is_finish (filter own ts) → NoneEnded is_ended (filter own ts)
  none_ended own owns m n [] g live fits last = tt
  none_ended own owns m n (t ∷ ts) g live fits last =
      let k : M = g.0 in
      let fine : is_ended t.reply ≡ false = not_ended m t.call t.reply k g.1 live (omega (arith, fits)) in
      let rest_fits : length ts ≤ room k = omega (arith, fits, ends.takes_one m t.call t.reply k g.1) in
      elim (own t) as (λ b. own t ≡ b → FinishLast is_finish (cond b (t ∷ filter own ts) (filter own ts)) → NoneEnded is_ended (cond b (t ∷ filter own ts) (filter own ts))) [
        | true ↦ λ mine.
            elim (is_finish t.call) as (λ b. is_finish t.call ≡ b → MatchBool b (filter own ts ≡ []) (FinishLast is_finish (filter own ts)) → NoneEnded is_ended (t ∷ filter own ts)) [
              | true ↦ λ ended none. (fine, subst (λ (us : List (Turn C R)). NoneEnded is_ended us) (sym none) tt)
              | false ↦ λ goes rest. (fine, none_ended own owns k n ts g.2 (ends.goes_on m t.call t.reply k g.1 goes live) rest_fits rest)
            ] refl
        | false ↦ λ other rest.
            let goes : is_finish t.call ≡ false =
            elim (is_finish t.call) as (λ b. is_finish t.call ≡ b → b ≡ false) [
              | true ↦ λ e. absurd (cc (owns t e, other))
              | false ↦ λ e. refl
            ] refl in
            none_ended own owns k n ts g.2 (ends.goes_on m t.call t.reply k g.1 goes live) rest_fits rest
      ] refl last

pub finish_law : {M C R : Type 0} (steps : M → C → R → M → Type 0) → FinishLaw steps
finish_law steps is_over room is_finish is_ended ends own owns m n turns g live fits last =
    none_ended steps is_over room is_finish is_ended ends own owns m n turns g live fits last
