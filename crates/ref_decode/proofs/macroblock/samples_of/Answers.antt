use Rattle.std.proofs.Common.{◌≡◌, ℕ, ◌+◌, ◌*◌, ◌<◌, ◌++◌, Bool, false, List, Option, None, Some, Ok, sym, ◌∙◌, ap, rules, Fits, w8}
use Rattle.std.specs.Prelude.{slice_index, is_some}
use Rattle.std.proofs.lemmas.Bool.{false≢true}
use Rattle.pel_model.specs.declared.Fault.{Fault}
use Rattle.pel_model.specs.Records.{Block}
use Rattle.pel_model.specs.Residual.{residual}
use Rattle.pel_model.specs.Text.{sent_block_text}
use Rattle.ref_decode.specs.Blocks.{block_at}
use Rattle.ref_decode.specs.Drawing.{AreJoined}
use Rattle.ref_decode.proofs.Rowing.{sample_same}
use Rattle.ref_decode.proofs.macroblock.samples_of.Goals as goal

same_flag : (a b : Bool) → Some a ≡ Some b → a ≡ b
same_flag a b e = cc

not_sent : (b : Option Block) (rest : List Bool) (quant : ℕ) (prediction : List ℕ) (left : List Bool) → is_some b ≡ false → ((x y : ℕ) → block_at prediction x y < 256) → left ≡ sent_block_text b ++ rest → AreJoined {E = Fault} quant b prediction (Ok prediction) × (left ≡ rest)
unfolding residual
not_sent None rest quant prediction left none small bits = (λ x y hx hy. sym (sample_same (block_at prediction x y) (small x y)), bits)
not_sent (Some b) rest quant prediction left none small bits = absurd (false≢true (sym none))

pub returns-then-not-sends : goal.returns-then-not-sends
returns-then-not-sends c = λ b rest flag valid bits.
    let none : is_some b ≡ false = same_flag _ _ (sym flag ∙ (c.sends.ensures ∙ ap Some c.if-not-sends.true)) in
    let small : (x y : ℕ) → block_at c.args.prediction x y < 256 = λ x y. let f : Fits w8 (slice_index c.args.prediction (8 * y + x)) = search rules in f.fits in
    not_sent b rest c.args.header.now.quant c.args.prediction c.args.r.now.0 none small bits
