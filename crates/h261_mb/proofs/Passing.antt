-- The elements of blocks pass over what is known of the macroblock.
use Rattle.std.proofs.Common.{◌≡◌, ℕ, Bool, true, false, cond, List, [], ◌∷◌, flat_map, ℤ, refl, ◌∙◌, ap}
use Rattle.pel_model.specs.declared.MbKind.{MbKind}
use Rattle.pel_model.specs.Codes.{has_cbp}
use Rattle.pel_model.specs.Records.{Block}
use Rattle.pel_model.specs.Elements.{block_elements, cbp_elements}
use Rattle.pel_model.specs.Walk.{after}
use Rattle.pel_model.specs.Grammar.{Element, Cbp, kind}
use Rattle.pel_model.proofs.BlockElements.{said, pass_block}
use Rattle.pel_model.proofs.Walks.{after-append}
use Rattle.h261_mb.specs.State.{Say}

pub pass_blocks : (before : List Element) (bs : List Block) → said (after before (flat_map block_elements bs)) ≡ said before
pass_blocks before [] = refl
pass_blocks before (b ∷ bs) =
    ap said (after-append before (block_elements b) (flat_map block_elements bs))
    ∙ (pass_blocks (after before (block_elements b)) bs ∙ pass_block before b)

-- what was said is still said
pub say_again : (number at q : ℕ) (h v : ℤ) (before behind : List Element) → said behind ≡ said before → Say number at q h v before → Say number at q h v behind
say_again number at q h v before behind same say = record {
  number_is = ap (λ (s : MbKind × ℕ × ℕ × ℕ × ℤ × ℤ). s.1) same ∙ say.number_is;
  address_is = ap (λ (s : MbKind × ℕ × ℕ × ℕ × ℤ × ℤ). s.2) same ∙ say.address_is;
  quant_is = ap (λ (s : MbKind × ℕ × ℕ × ℕ × ℤ × ℤ). s.3) same ∙ say.quant_is;
  across_is = ap (λ (s : MbKind × ℕ × ℕ × ℕ × ℤ × ℤ). s.4) same ∙ say.across_is;
  down_is = ap (λ (s : MbKind × ℕ × ℕ × ℕ × ℤ × ℤ). s.5) same ∙ say.down_is;
}

pass_if : (before : List Element) (n : ℕ) (has : Bool) → said (after before (cond has (Cbp n ∷ []) [])) ≡ said before
pass_if before n true = refl
pass_if before n false = refl

pub behind_cbp : (before : List Element) (k : MbKind) (n : ℕ) (es : List Element) → es ≡ cbp_elements k n → said (after before es) ≡ said before
behind_cbp before k n es is = ap (λ (es : List Element). said (after before es)) is ∙ pass_if before n (has_cbp k)

pub behind_blocks : (before : List Element) (bs : List Block) (es : List Element) → es ≡ flat_map block_elements bs → said (after before es) ≡ said before
behind_blocks before bs es is = ap (λ (es : List Element). said (after before es)) is ∙ pass_blocks before bs

pub said_kind : (before behind : List Element) (k : MbKind) → said behind ≡ said before → kind before ≡ k → kind behind ≡ k
said_kind before behind k same is = ap (λ (s : MbKind × ℕ × ℕ × ℕ × ℤ × ℤ). s.0) same ∙ is
