-- Elements inside a macroblock.
use Rattle.std.proofs.Common.{◌≡◌, ℕ, ◌≤◌, false, List, [], ◌∷◌, ◌++◌, length, drop, map, flat_map, ℤ, Option, Some, None, refl, sym, ◌∙◌, ap, subst, inr}
use Rattle.std.proofs.lemmas.List.{drop-append-le}
use Rattle.pel_model.specs.declared.MbKind.{MbKind}
use Rattle.pel_model.specs.Records.{Coefficient, Block}
use Rattle.pel_model.specs.Elements.{AreInside, dc_elements, coefficient_elements, block_elements, mquant_elements, vector_elements, cbp_elements}
use Rattle.pel_model.specs.Walk.{after}
use Rattle.pel_model.specs.Grammar.{Element, Mba, Mtype, Dc, Tcoeff, slot, may_end}
use Rattle.pel_model.proofs.Walks.{after-append}
use Rattle.pel_model.proofs.InsideElements.{inside-append, inside-block-so-far, inside-block, inside-mquant, inside-vector, inside-cbp}
use Rattle.h261_mb.specs.Inside.{StaysInside, IsMacroblockSoFar}

-- ---- the elements of the parts

pub inside-blocks : (bs : List Block) → AreInside (flat_map block_elements bs)
inside-blocks [] = tt
inside-blocks (b ∷ bs) = inside-append (block_elements b) (flat_map block_elements bs) (inside-block b) (inside-blocks bs)

pub inside-front : (es : List Element) (d : ℕ) (k : MbKind) (mquant : Option ℕ) → es ≡ Mba d ∷ Mtype k ∷ mquant_elements mquant → AreInside (drop 1 es)
inside-front es d k mquant is = subst (λ (es : List Element). AreInside (drop 1 es)) (sym is) (inside-mquant mquant)

pub inside-read_vector : (es : List Element) (k : MbKind) (across down : ℤ × ℤ) → es ≡ vector_elements k across down → AreInside es
inside-read_vector es k across down is = subst AreInside (sym is) (inside-vector k across down)

pub inside-read_cbp : (es : List Element) (k : MbKind) (n : ℕ) → es ≡ cbp_elements k n → AreInside es
inside-read_cbp es k n is = subst AreInside (sym is) (inside-cbp k n)

-- ---- where a fault is met

-- in a block the macroblock is not whole
block-goes-on : (before : List Element) (cs : List Coefficient) → may_end (slot before) ≡ false → may_end (slot (after before (map Tcoeff cs))) ≡ false
block-goes-on before [] h = h
block-goes-on before (c ∷ cs) h = block-goes-on (Tcoeff c ∷ before) cs refl

pub stays-in-block : (before : List Element) (b : Block) → may_end (slot before) ≡ false → StaysInside before (coefficient_elements b)
stays-in-block before b h = (inside-block-so-far b, by_dc b.dc)
  where
    by_dc : (dc : Option ℕ) → may_end (slot (after before (dc_elements dc ++ map Tcoeff b.coefficients))) ≡ false
    by_dc None = block-goes-on before b.coefficients h
    by_dc (Some n) = block-goes-on (Dc n ∷ before) b.coefficients refl

still : (before xs ys : List Element) → may_end (slot (after (after before xs) ys)) ≡ false → may_end (slot (after before (xs ++ ys))) ≡ false
still before xs ys h = ap (λ (b : List Element). may_end (slot b)) (after-append before xs ys) ∙ h

-- elements inside, and more that stay inside
pub stays_later : (before xs ys : List Element) → AreInside xs → StaysInside (after before xs) ys → StaysInside before (xs ++ ys)
stays_later before xs ys here there = (inside-append xs ys here there.0, still before xs ys there.1)

-- a front, and more that stay inside
pub so_far_later : (before xs ys : List Element) → 1 ≤ length xs → AreInside (drop 1 xs) → StaysInside (after before xs) ys → IsMacroblockSoFar before (xs ++ ys)
so_far_later before xs ys some here there =
    (subst AreInside (sym (drop-append-le 1 xs ys some)) (inside-append (drop 1 xs) ys here there.0), inr (still before xs ys there.1))
