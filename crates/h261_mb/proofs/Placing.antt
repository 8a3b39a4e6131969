-- Blocks in their places: those that are sent stand where CBP has a one.
use Rattle.std.proofs.Common.{◌≡◌, ℕ, suc, ◌+◌, Bool, true, false, cond, List, [], ◌∷◌, ◌++◌, ℤ, length, map, flat_map, count_by, Option, Some, None, is_some, refl, sym, ◌∙◌, ap, arith, append_assoc}
use Rattle.std.proofs.lemmas.List.Sums.{sum_by-cons}
use Rattle.pel_model.specs.Bits.{number}
use Rattle.pel_model.specs.Records.{Block, Macroblock}
use Rattle.pel_model.specs.Text.{coded_block_pattern}
use Rattle.pel_model.specs.Elements.{block_elements, mquant_elements, vector_elements, cbp_elements, blocks_elements, macroblock_elements}
use Rattle.pel_model.specs.Grammar.{Element, Mba, Mtype}
use Rattle.h261_mb.specs.State.{header_elements}

abbrev pub placed : List Bool → List Block → List (Option Block)
placed [] bs = []
placed (false ∷ pattern) bs = None ∷ placed pattern bs
placed (true ∷ pattern) [] = None ∷ placed pattern []
placed (true ∷ pattern) (b ∷ bs) = Some b ∷ placed pattern bs

pub length-placed : (pattern : List Bool) (bs : List Block) → length (placed pattern bs) ≡ length pattern
length-placed [] bs = refl
length-placed (false ∷ pattern) bs = ap suc (length-placed pattern bs)
length-placed (true ∷ pattern) [] = ap suc (length-placed pattern [])
length-placed (true ∷ pattern) (b ∷ bs) = ap suc (length-placed pattern bs)

-- a one more is counted
counted : (pattern : List Bool) → count_by (λ b. b) (true ∷ pattern) ≡ 1 + count_by (λ b. b) pattern
counted pattern = sum_by-cons (λ b. cond b 1 0) true pattern

pub placed-pattern : (pattern : List Bool) (bs : List Block) → length bs ≡ count_by (λ b. b) pattern → map is_some (placed pattern bs) ≡ pattern
placed-pattern [] bs h = refl
placed-pattern (false ∷ pattern) bs h = ap (λ t. false ∷ t) (placed-pattern pattern bs (omega (arith, h)))
placed-pattern (true ∷ pattern) [] h = absurd (omega (arith, h, counted pattern))
placed-pattern (true ∷ pattern) (b ∷ bs) h = ap (λ t. true ∷ t) (placed-pattern pattern bs (omega (arith, h, counted pattern)))

pub placed-elements : (pattern : List Bool) (bs : List Block) → length bs ≡ count_by (λ b. b) pattern → blocks_elements (placed pattern bs) ≡ flat_map block_elements bs
placed-elements [] [] h = refl
placed-elements [] (b ∷ bs) h = absurd (omega (arith, h))
placed-elements (false ∷ pattern) bs h = placed-elements pattern bs (omega (arith, h))
placed-elements (true ∷ pattern) [] h = absurd (omega (arith, h, counted pattern))
placed-elements (true ∷ pattern) (b ∷ bs) h = ap (λ (es : List Element). block_elements b ++ es) (placed-elements pattern bs (omega (arith, h, counted pattern)))

module _ (m : Macroblock) (d : ℕ) (across down : ℤ × ℤ) (pattern : List Bool) (bs : List Block) (blocks_are : m.blocks ≡ placed pattern bs) (counted : length bs ≡ count_by (λ b. b) pattern) where
  pattern_is : coded_block_pattern m.blocks ≡ number pattern
  pattern_is = ap coded_block_pattern blocks_are ∙ ap number (placed-pattern pattern bs counted)

  blocks_is : blocks_elements m.blocks ≡ flat_map block_elements bs
  blocks_is = ap blocks_elements blocks_are ∙ placed-elements pattern bs counted

  -- its header and its blocks are its elements
  pub whole_elements : (head blocks : List Element) → head ≡ header_elements d m.kind m.mquant across down (number pattern) → blocks ≡ flat_map block_elements bs → head ++ blocks ≡ macroblock_elements d across down m
  whole_elements head blocks head_is last_is =
      let front : List Element = mquant_elements m.mquant in
      let vector : List Element = vector_elements m.kind across down in
      let cbp : List Element = cbp_elements m.kind (coded_block_pattern m.blocks) in
      let joined : (front ++ (vector ++ cbp)) ++ blocks_elements m.blocks ≡ front ++ (vector ++ (cbp ++ blocks_elements m.blocks)) =
      append_assoc front (vector ++ cbp) (blocks_elements m.blocks) ∙ ap (λ (es : List Element). front ++ es) (append_assoc vector cbp (blocks_elements m.blocks)) in
      ap (λ (es : List Element). es ++ blocks) (head_is ∙ ap (header_elements d m.kind m.mquant across down) (sym pattern_is))
      ∙ (ap (λ (es : List Element). header_elements d m.kind m.mquant across down (coded_block_pattern m.blocks) ++ es) (last_is ∙ sym blocks_is)
      ∙ ap (λ (es : List Element). Mba d ∷ (Mtype m.kind ∷ es)) joined)
