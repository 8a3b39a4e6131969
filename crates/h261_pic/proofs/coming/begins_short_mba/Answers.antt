use Rattle.std.proofs.Common.{◌≡◌, ◌==◌, not, ℕ, true, ◌∙◌, subst, arith}
use Rattle.h261_pic.proofs.ShortWords.{short-word}
use Rattle.h261_pic.proofs.coming.begins_short_mba.Goals as goal

pub returns-then-left-ge8 : goal.returns-then-left-ge8
returns-then-left-ge8 c = λ some.
    short-word c.args.r.now.0 c.args.r.now.1 (omega arith) (λ zero.
    let none : not (0 == 0) ≡ true = subst (λ (n : ℕ). not (n == 0) ≡ true) (c.peek.ensures ∙ zero) some in
    absurd cc)
