-- A line says one thing.
use Rattle.std.proofs.Common.{◌≡◌, List, [], ◌∷◌, length, inl, inr, refl, sym, ap, ◌∙◌, arith}
use Rattle.chair_words.specs.Line.{OneAnswer}
use Rattle.chair_words.specs.Words.{Word}
use Rattle.bridge_live.specs.Lines.{Blank, Faulty, Said, LawOfOneHearing}

none-some : (w : Word) (ws : List Word) → [] ≡ w ∷ ws → ⊥
none-some w ws e = absurd (omega (arith, ap length e))

pub one-hearing : OneAnswer → LawOfOneHearing
one-hearing law line Blank Blank h k = refl
one-hearing law line Blank Faulty h (inl long) = absurd (omega (arith, h.0, long))
one-hearing law line Blank Faulty h (inr bad) = absurd (bad.0 h.1)
one-hearing law line Blank (Said c) h k = absurd (none-some k.1.name k.1.numbers (sym h.1 ∙ k.1.whole))
one-hearing law line Faulty Blank (inl long) k = absurd (omega (arith, k.0, long))
one-hearing law line Faulty Blank (inr bad) k = absurd (bad.0 k.1)
one-hearing law line Faulty Faulty h k = refl
one-hearing law line Faulty (Said c) (inl long) k = absurd (omega (arith, k.0, long))
one-hearing law line Faulty (Said c) (inr bad) k = absurd (law.not_both line c bad.1.0 bad.1.1 k.1 bad.1.2)
one-hearing law line (Said c) Blank h k = absurd (none-some h.1.name h.1.numbers (sym k.1 ∙ h.1.whole))
one-hearing law line (Said c) Faulty h (inl long) = absurd (omega (arith, h.0, long))
one-hearing law line (Said c) Faulty h (inr bad) = absurd (law.not_both line c bad.1.0 bad.1.1 h.1 bad.1.2)
one-hearing law line (Said c) (Said d) h k = ap Said (law.one_command line c d h.1 k.1)
