use Rattle.std.proofs.Common.{◌≡◌, ℕ, ◌==◌, ◌&&◌, Bool, length, not, sym, ◌∙◌, ap, arith}
use Rattle.std.specs.List.{list_any}
use Rattle.std.proofs.lemmas.Bool.{lt-ltb}
use Rattle.std.proofs.lemmas.List.{take_all}
use Rattle.pel_bits.specs.Bits.{number}
use Rattle.h261_pic.proofs.Comings.{ones}
use Rattle.h261_pic.proofs.HeaderSteps.{peeked}
use Rattle.h261_pic.proofs.coming.is_end.Goals as goal

pub returns-then-left-lt8 : goal.returns-then-left-lt8
returns-then-left-lt8 c =
    let left = c.args.r.now.0 in
    let k = c.left-left.result in
    let seen : c.peek.result ≡ number left = peeked left c.peek.result k (omega arith) c.peek.ensures ∙ ap number (take_all k left (omega arith)) in
    ap (λ (n : ℕ). n == 0) seen ∙ (ones left ∙ ap (λ (b : Bool). b && not (list_any (λ b. b) left)) (sym (lt-ltb (length left) 8 (omega arith))))
