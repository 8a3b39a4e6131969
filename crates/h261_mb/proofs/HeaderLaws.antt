-- The elements of a header, with those of the blocks behind it.
use Rattle.std.proofs.Common.{◌≡◌, ℕ, ◌<◌, ◌≤◌, Bool, true, false, List, ◌∷◌, ◌++◌, length, drop, ℤ, Option, MatchBool, sym, ◌∙◌, ap, subst, arith}
use Rattle.pel_model.specs.declared.MbKind.{MbKind}
use Rattle.pel_model.specs.Codes.{is_intra, has_cbp}
use Rattle.pel_model.specs.Elements.{AreInside, mquant_elements, vector_elements, cbp_elements}
use Rattle.pel_model.specs.Grammar.{Element, Mba, Mtype}
use Rattle.pel_model.proofs.InsideElements.{inside-append, inside-mquant, inside-vector, inside-cbp}
use Rattle.h261_mb.specs.State.{PatternFits, header_elements}

-- the three parts of a header are its elements
pub whole_header : (front vector cbp : List Element) (d : ℕ) (k : MbKind) (mquant : Option ℕ) (across down : ℤ × ℤ) (pattern : ℕ) → front ≡ Mba d ∷ Mtype k ∷ mquant_elements mquant → vector ≡ vector_elements k across down → cbp ≡ cbp_elements k pattern → front ++ (vector ++ cbp) ≡ header_elements d k mquant across down pattern
whole_header front vector cbp d k mquant across down pattern front_is vector_is cbp_is =
    ap (λ (es : List Element). es ++ (vector ++ cbp)) front_is
    ∙ (ap (λ (es : List Element). (Mba d ∷ Mtype k ∷ mquant_elements mquant) ++ (es ++ cbp)) vector_is
    ∙ ap (λ (es : List Element). (Mba d ∷ Mtype k ∷ mquant_elements mquant) ++ (vector_elements k across down ++ es)) cbp_is)

-- a header is inside its macroblock, behind MBA
pub inside-header : (es : List Element) (d : ℕ) (k : MbKind) (mquant : Option ℕ) (across down : ℤ × ℤ) (pattern : ℕ) → es ≡ header_elements d k mquant across down pattern → AreInside (drop 1 es)
inside-header es d k mquant across down pattern is =
    subst (λ (es : List Element). AreInside (drop 1 es)) (sym is)
    (inside-append (mquant_elements mquant) (vector_elements k across down ++ cbp_elements k pattern) (inside-mquant mquant)
    (inside-append (vector_elements k across down) (cbp_elements k pattern) (inside-vector k across down) (inside-cbp k pattern)))

pub header-begins : (es : List Element) (d : ℕ) (k : MbKind) (mquant : Option ℕ) (across down : ℤ × ℤ) (pattern : ℕ) → es ≡ header_elements d k mquant across down pattern → 1 ≤ length es
header-begins es d k mquant across down pattern is = omega (arith, ap length is)

-- a pattern has six bits
pub pattern-within : (k : MbKind) (pattern : ℕ) → PatternFits k pattern → pattern < 64
pattern-within k pattern fits = by_kind (is_intra k) (has_cbp k) fits
  where
    by_kind : (intra coded : Bool) → MatchBool intra (pattern ≡ 63) (MatchBool coded (pattern < 64) (pattern ≡ 0)) → pattern < 64
    by_kind true coded is = omega (arith, is)
    by_kind false true within = within
    by_kind false false is = omega (arith, is)
