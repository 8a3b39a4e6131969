-- What a look-up of a macroblock finds: in the groups of a place, under their new numbers, and in the QCIF picture alike.
use Rattle.std.proofs.Common.{◌≡◌, ℕ, ◌+◌, ◌*◌, ◌<◌, ◌==◌, Bool, true, false, cond, if◌then◌else◌, List, [], ◌∷◌, map, filter, Option, None, Some, All, refl, sym, ◌∙◌, ap, ap₂, subst, arith}
use Rattle.std.proofs.lemmas.Bool.{eqb-true, true≢false}
use Rattle.std.proofs.lemmas.Bool.Decides.{nat_tests}
use Rattle.std.proofs.lemmas.List.Elements.{All-tail}
use Rattle.pel_model.specs.declared.Quad.{Quad}
use Rattle.pel_model.specs.Composed.{stands_in, groups_in}
use Rattle.pel_model.specs.Decode.{Quantised, at_address, in_groups, macroblock_at, group_of, address_of}
use Rattle.pel_model.specs.Records.{Macroblock, Group, Picture, quantiser_after}
use Rattle.pel_model.specs.Regions.{right, below, number_in, renumbered_for, groups_for}
use Rattle.frame_laws.proofs.Places.{group-shifted, address-shifted, stands-shifted}

-- ---- the groups of a place

abbrev of_place : Quad → List Group → List Group
of_place place gs = filter (λ (g : Group). stands_in place g.number) gs

in-place-step : (place : Quad) (n a : ℕ) (g : Group) (gs : List Group) (stands same : Bool) → stands_in place g.number ≡ stands → (g.number == n) ≡ same
    → stands_in place n ≡ true → in_groups n a (of_place place gs) ≡ in_groups n a gs
    → in_groups n a (cond stands (g ∷ of_place place gs) (of_place place gs)) ≡ (if same then at_address a g.quant g.macroblocks else in_groups n a gs)
in-place-step place n a g gs true true stands_is same_is here rest = rw same_is refl
in-place-step place n a g gs true false stands_is same_is here rest = rw same_is rest
in-place-step place n a g gs false false stands_is same_is here rest = rest
in-place-step place n a g gs false true stands_is same_is here rest =
    absurd (true≢false (sym here ∙ ap (stands_in place) (sym (eqb-true g.number n same_is)) ∙ stands_is))

-- groups of other places have other numbers
in-place : (place : Quad) (n a : ℕ) (gs : List Group) → stands_in place n ≡ true → in_groups n a (of_place place gs) ≡ in_groups n a gs
in-place place n a [] here = refl
in-place place n a (g ∷ gs) here =
    in-place-step place n a g gs (stands_in place g.number) (g.number == n) refl refl here (in-place place n a gs here)

-- ---- new numbers

same-number : (m n k l : ℕ) → (m + k + 6 * l == n + k + 6 * l) ≡ (m == n)
same-number m n k l = grind (arith, nat_tests)

in-moved : (place : Quad) (n a : ℕ) (gs : List Group)
    → in_groups (number_in place n) a (map (renumbered_for place) gs) ≡ in_groups n a gs
in-moved place n a [] = refl
in-moved place n a (g ∷ gs) =
    ap₂ (λ (same : Bool) (rest : Option Quantised). if same then at_address a g.quant g.macroblocks else rest)
    (same-number g.number n (right place) (below place)) (in-moved place n a gs)

-- the same macroblock, with the same quantiser
pub found-shifted : (place : Quad) (whole sent : Picture) (column row : ℕ) → column < 11 → row < 9 → groups_in place whole ≡ groups_for place sent
    → macroblock_at whole (column + 11 * right place) (row + 9 * below place) ≡ macroblock_at sent column row
found-shifted place whole sent column row across down same =
    let number : ℕ = number_in place (group_of column row) in
    let address : ℕ = address_of column row in
    ap₂ (λ (n a : ℕ). in_groups n a whole.groups) (group-shifted place column row across down) (address-shifted place column row across)
    ∙ sym (in-place place number address whole.groups (stands-shifted place column row across down))
    ∙ ap (in_groups number address) same
    ∙ in-moved place (group_of column row) address sent.groups

-- ---- what holds of all macroblocks holds of the one that is found

abbrev pub HoldsIf : (P : ℕ → Macroblock → Type 0) (n a : ℕ) → Option Quantised → Type 0
HoldsIf P n a None = Unit {0}
HoldsIf P n a (Some found) = P n found.macroblock × (found.macroblock.address ≡ a)

at-holds-step : (P : ℕ → Macroblock → Type 0) (n a q : ℕ) (m : Macroblock) (rest : Option Quantised) (same : Bool) → (m.address == a) ≡ same
    → P n m → HoldsIf P n a rest → HoldsIf P n a (if same then Some (record { macroblock = m; quant = q }) else rest)
at-holds-step P n a q m rest true same_is holds later = (holds, eqb-true m.address a same_is)
at-holds-step P n a q m rest false same_is holds later = later

at-holds : (P : ℕ → Macroblock → Type 0) (n a q : ℕ) (ms : List Macroblock) → All (P n) ms → HoldsIf P n a (at_address a q ms)
at-holds P n a q [] all = tt
at-holds P n a q (m ∷ ms) all =
    at-holds-step P n a (quantiser_after q m.mquant) m (at_address a (quantiser_after q m.mquant) ms) (m.address == a) refl
    (all 0 m (omega arith)) (at-holds P n a (quantiser_after q m.mquant) ms (All-tail (P n) m ms all))

in-holds-step : (P : ℕ → Macroblock → Type 0) (n a : ℕ) (g : Group) (rest : Option Quantised) (same : Bool) → (g.number == n) ≡ same
    → All (P g.number) g.macroblocks → HoldsIf P n a rest → HoldsIf P n a (if same then at_address a g.quant g.macroblocks else rest)
in-holds-step P n a g rest true same_is holds later =
    at-holds P n a g.quant g.macroblocks (subst (λ (k : ℕ). All (P k) g.macroblocks) (eqb-true g.number n same_is) holds)
in-holds-step P n a g rest false same_is holds later = later

pub in-holds : (P : ℕ → Macroblock → Type 0) (n a : ℕ) (gs : List Group) → All (λ (g : Group). All (P g.number) g.macroblocks) gs
    → HoldsIf P n a (in_groups n a gs)
in-holds P n a [] all = tt
in-holds P n a (g ∷ gs) all =
    in-holds-step P n a g (in_groups n a gs) (g.number == n) refl (all 0 g (omega arith))
    (in-holds P n a gs (All-tail (λ (h : Group). All (P h.number) h.macroblocks) g gs all))
