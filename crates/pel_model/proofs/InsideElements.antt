-- Elements with none of which a group, stuffing or a macroblock begins.
use Rattle.std.proofs.Common.{ℕ, Bool, true, false, cond, ℤ, List, [], ◌∷◌, ◌++◌, map, Option, Some, None}
use Rattle.pel_model.specs.declared.MbKind.{MbKind}
use Rattle.pel_model.specs.Codes.{has_vector, has_cbp}
use Rattle.pel_model.specs.Records.{Across, Down, Coefficient, Block, Macroblock}
use Rattle.pel_model.specs.Text.{coded_block_pattern}
use Rattle.pel_model.specs.Elements.{AreInside, dc_elements, coefficient_elements, block_elements, mquant_elements, vector_elements, cbp_elements, blocks_elements, elements_behind_mba}
use Rattle.pel_model.specs.Grammar.{Element, Gbsc, Stuffing, Mba, Mvd, Cbp, Tcoeff, Eob}

pub inside-left : (xs ys : List Element) → AreInside (xs ++ ys) → AreInside xs
inside-left [] ys h = tt
inside-left (Gbsc ∷ xs) ys h = absurd h
inside-left (Stuffing ∷ xs) ys h = absurd h
inside-left (Mba n ∷ xs) ys h = absurd h
inside-left (_ ∷ xs) ys h = inside-left xs ys h

pub inside-right : (xs ys : List Element) → AreInside (xs ++ ys) → AreInside ys
inside-right [] ys h = h
inside-right (Gbsc ∷ xs) ys h = absurd h
inside-right (Stuffing ∷ xs) ys h = absurd h
inside-right (Mba n ∷ xs) ys h = absurd h
inside-right (_ ∷ xs) ys h = inside-right xs ys h

pub inside-append : (xs ys : List Element) → AreInside xs → AreInside ys → AreInside (xs ++ ys)
inside-append [] ys h k = k
inside-append (Gbsc ∷ xs) ys h k = absurd h
inside-append (Stuffing ∷ xs) ys h k = absurd h
inside-append (Mba n ∷ xs) ys h k = absurd h
inside-append (_ ∷ xs) ys h k = inside-append xs ys h k

-- ---- blocks

inside-coefficients : (cs : List Coefficient) → AreInside (map Tcoeff cs)
inside-coefficients [] = tt
inside-coefficients (c ∷ cs) = inside-coefficients cs

inside-dc : (dc : Option ℕ) → AreInside (dc_elements dc)
inside-dc None = tt
inside-dc (Some n) = tt

pub inside-block-so-far : (b : Block) → AreInside (coefficient_elements b)
inside-block-so-far b = inside-append (dc_elements b.dc) (map Tcoeff b.coefficients) (inside-dc b.dc) (inside-coefficients b.coefficients)

pub inside-block : (b : Block) → AreInside (block_elements b)
inside-block b = inside-append (coefficient_elements b) (Eob ∷ []) (inside-block-so-far b) tt

-- ---- macroblocks

pub inside-mquant : (mquant : Option ℕ) → AreInside (mquant_elements mquant)
inside-mquant None = tt
inside-mquant (Some q) = tt

inside-if : (has : Bool) (es : List Element) → AreInside es → AreInside (cond has es [])
inside-if true es h = h
inside-if false es h = tt

pub inside-vector : (k : MbKind) (across down : ℤ × ℤ) → AreInside (vector_elements k across down)
inside-vector k across down = inside-if (has_vector k) (Mvd Across across ∷ Mvd Down down ∷ []) tt

pub inside-cbp : (k : MbKind) (pattern : ℕ) → AreInside (cbp_elements k pattern)
inside-cbp k pattern = inside-if (has_cbp k) (Cbp pattern ∷ []) tt

inside-blocks : (blocks : List (Option Block)) → AreInside (blocks_elements blocks)
inside-blocks [] = tt
inside-blocks (None ∷ blocks) = inside-blocks blocks
inside-blocks (Some b ∷ blocks) = inside-append (block_elements b) (blocks_elements blocks) (inside-block b) (inside-blocks blocks)

pub inside-macroblock : (across down : ℤ × ℤ) (m : Macroblock) → AreInside (elements_behind_mba across down m)
inside-macroblock across down m =
    let cbp = cbp_elements m.kind (coded_block_pattern m.blocks) in
    let vector = vector_elements m.kind across down in
    let behind = inside-append cbp (blocks_elements m.blocks) (inside-cbp m.kind (coded_block_pattern m.blocks)) (inside-blocks m.blocks) in
    let moved = inside-append vector (cbp ++ blocks_elements m.blocks) (inside-vector m.kind across down) behind in
    inside-append (mquant_elements m.mquant) (vector ++ (cbp ++ blocks_elements m.blocks)) (inside-mquant m.mquant) moved
