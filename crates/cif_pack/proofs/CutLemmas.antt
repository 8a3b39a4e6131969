-- The walk over the ends of atoms.
use Rattle.std.proofs.Common.{◌≡◌, ℕ, ◌<◌, ◌≤◌, nat_le, nat_lt, ◌&&◌, Bool, true, false, not, List, [], ◌∷◌, refl, arith}
use Rattle.std.proofs.lemmas.Bool.{leb-true, ltb-true, and_parts}
use Rattle.std.proofs.lemmas.Bool.Decides.{nat_tests}
use Rattle.std.proofs.lemmas.List.Elements.{All-cons, All-nil}
use Rattle.std.specs.Prelude.{All}
use Rattle.cif_pack.specs.declared.atoms.AtomEnd.{AtomEnd}
use Rattle.cif_pack.specs.Cuts.{fits, is_cut}
use Rattle.cif_pack.specs.Sending.{rises, Rises}

-- the parts of what is known of the first end
pub record Ahead (mtu last from : ℕ) (e : AtomEnd) (es : List AtomEnd) : Type 0 where
  pub behind : from < e.at
  pub within : e.at ≤ last
  pub fit : fits mtu from e.at ≡ true
  pub rest : Rises mtu last e.at es

pub ahead : (mtu last from : ℕ) (e : AtomEnd) (es : List AtomEnd) → Rises mtu last from (e ∷ es) → Ahead mtu last from e es
ahead mtu last from e es rise =
    let halves = and_parts (nat_lt from e.at && nat_le e.at last) (fits mtu from e.at && rises mtu last e.at es) rise in
    let low = and_parts (nat_lt from e.at) (nat_le e.at last) halves.0 in
    let high = and_parts (fits mtu from e.at) (rises mtu last e.at es) halves.1 in
    record { behind = ltb-true from e.at low.0; within = leb-true e.at last low.1; fit = high.0; rest = high.1 }

pub rises-from : (mtu last from : ℕ) (e : AtomEnd) (es : List AtomEnd) → Ahead mtu last from e es → Rises mtu last from (e ∷ es)
rises-from mtu last from e es a =
    both (nat_lt from e.at) (nat_le e.at last) (fits mtu from e.at) (rises mtu last e.at es) (lt from e.at a.behind) (le e.at last a.within) a.fit a.rest
  where
    lt : (m n : ℕ) → m < n → nat_lt m n ≡ true
    lt m n h = grind (arith, nat_tests)

    le : (m n : ℕ) → m ≤ n → nat_le m n ≡ true
    le m n h = grind (arith, nat_tests)

    both : (a b c d : Bool) → a ≡ true → b ≡ true → c ≡ true → d ≡ true → ((a && b) && (c && d)) ≡ true
    both true true true true h i j k = refl
    both false b c d h i j k = absurd (cc)
    both true false c d h i j k = absurd (cc)
    both true true false d h i j k = absurd (cc)
    both true true true false h i j k = absurd (cc)

-- behind an end that is no cut, the next one fits too
pub rises-on : (mtu last from : ℕ) (e : AtomEnd) (es : List AtomEnd) → Rises mtu last from (e ∷ es) → is_cut mtu from es ≡ false → Rises mtu last from es
rises-on mtu last from e [] rise stays = absurd (cc)
rises-on mtu last from e (f ∷ es) rise stays =
    let a = ahead mtu last from e (f ∷ es) rise in
    let b = ahead mtu last e.at f es a.rest in
    rises-from mtu last from f es (record { behind = omega (arith, a.behind, b.behind); within = b.within; fit = not-false (fits mtu from f.at) stays; rest = b.rest })
  where
    not-false : (b : Bool) → not b ≡ false → b ≡ true
    not-false true h = refl
    not-false false h = absurd (cc)

-- the ends lie before the last place
pub rises-near : (mtu last from : ℕ) (es : List AtomEnd) (far : ℕ) → last < far → Rises mtu last from es → All (λ (e : AtomEnd). e.at < far) es
rises-near mtu last from [] far near rise = All-nil (λ (e : AtomEnd). e.at < far)
rises-near mtu last from (e ∷ es) far near rise =
    let a = ahead mtu last from e es rise in
    All-cons (λ (e : AtomEnd). e.at < far) e es (omega (arith, near, a.within)) (rises-near mtu last e.at es far near a.rest)
