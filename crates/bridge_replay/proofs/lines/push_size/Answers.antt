use Rattle.std.proofs.Common.{◌≡◌, ◌∙◌, ap, ap₂, List, ℕ, ◌++◌, codes, decimal, append_assoc}
use Rattle.bridge_replay.specs.Lines.{size_words}
use Rattle.bridge_replay.proofs.lines.push_size.Goals as goal

four : (line a b c d : List ℕ) → line ++ a ++ b ++ c ++ d ≡ line ++ (a ++ b ++ c ++ d)
four line a b c d =
    ap (λ (xs : List ℕ). xs ++ d) (ap (λ (xs : List ℕ). xs ++ c) (append_assoc line a b) ∙ append_assoc line (a ++ b) c) ∙ append_assoc line (a ++ b ++ c) d

pub returns-clause-bytes : goal.returns-clause-bytes
unfolding size_words
returns-clause-bytes c =
    c.push_number-2.ensures.bytes
    ∙ ap (λ (xs : List ℕ). xs ++ decimal c.args.macroblocks) (c.push_str-2.ensures.bytes ∙ ap (λ (xs : List ℕ). xs ++ codes " macroblocks ")
    (c.push_number.ensures.bytes ∙ ap₂ (λ (xs : List ℕ) (n : ℕ). xs ++ decimal n) c.push_str.ensures.bytes c.from.ensures))
    ∙ four c.args.line.now.bytes (codes " bits ") (decimal c.args.bits) (codes " macroblocks ") (decimal c.args.macroblocks)
