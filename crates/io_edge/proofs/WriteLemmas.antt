-- What the writes of a piece leave written.
use Rattle.std.proofs.Common.{◌≡◌, ℕ, ◌+◌, ◌≤◌, List, ◌++◌, Option, take, drop, sym, ap, subst, ◌∙◌, take-add, take-take}
use Rattle.std.specs.Io.KnownBytes.{Appends}
use Rattle.std.proofs.KnownBytes.{Appends-trans}

-- count octets of the piece were written, and n more of its next k
pub write_behind : (a b c : Option (List ℕ)) (piece : List ℕ) (count k n : ℕ) → n ≤ k
    → Appends a b (take count piece) → Appends b c (take n (take k (drop count piece))) → Appends a c (take (count + n) piece)
write_behind a b c piece count k n fits before written =
    let both : take (count + n) piece ≡ take count piece ++ take n (take k (drop count piece)) =
    take-add count n piece ∙ ap (λ ys. take count piece ++ ys) (sym (take-take n k (drop count piece) fits)) in
    subst (Appends a c) (sym both) (Appends-trans a b c (take count piece) _ before written)
