-- The levels of a block, one coefficient more.
use Rattle.std.proofs.Common.{◌≡◌, ℕ, suc, ◌+◌, ◌-◌, ◌<◌, ℤ, pos, List, [], ◌∷◌, ◌++◌, length, drop, set, replicate, sym, ◌∙◌, ap, arith, append_assoc, length-append}
use Rattle.std.proofs.lemmas.List.{set-append_right, set_split, take-replicate, drop-replicate, length-replicate, flat_map_more}
use Rattle.pel_model.specs.Records.{Coefficient, Block}
use Rattle.pel_model.specs.Levels.{dc_levels, run_and_level, sent_levels, levels}

-- the block with one coefficient more
abbrev pub with_one_more : Block → Coefficient → Block
with_one_more b c = record b { coefficients = b.coefficients ++ c ∷ [] }

pub sent-more : (b : Block) (c : Coefficient) → sent_levels (with_one_more b c) ≡ sent_levels b ++ run_and_level c
sent-more b c = sym (flat_map_more run_and_level (dc_levels b.dc) b.coefficients c)

pub length-sent-more : (b : Block) (c : Coefficient) (count : ℕ) → length (sent_levels b) ≡ count → length (sent_levels (with_one_more b c)) ≡ count + c.run + 1
length-sent-more b c count is =
    ap length (sent-more b c)
    ∙ (length-append (sent_levels b) (run_and_level c)
    ∙ omega (arith, is, length-append (replicate c.run (pos 0)) (c.level ∷ []), length-replicate c.run (pos 0)))

regroup : (a b : List ℤ) (x : ℤ) (c : List ℤ) → a ++ (b ++ x ∷ c) ≡ (a ++ (b ++ x ∷ [])) ++ c
regroup a b x c =
    ap (λ (t : List ℤ). a ++ t) (sym (append_assoc b (x ∷ []) c)) ∙ sym (append_assoc a (b ++ x ∷ []) c)

set-zeros : (n run : ℕ) (level : ℤ) → run < n → set (replicate n (pos 0)) run level ≡ replicate run (pos 0) ++ level ∷ replicate (n - suc run) (pos 0)
set-zeros n run level inside =
    set_split (replicate n (pos 0)) run level (omega (arith, length-replicate n (pos 0)))
    ∙ (ap (λ (t : List ℤ). t ++ level ∷ drop (suc run) (replicate n (pos 0))) (take-replicate run n (pos 0) (omega arith))
    ∙ ap (λ (t : List ℤ). replicate run (pos 0) ++ level ∷ t) (drop-replicate (suc run) n (pos 0)))

-- the level is written behind the zeros of its run
pub levels-more : (b : Block) (c : Coefficient) (count place : ℕ) (out : List ℤ) → length (sent_levels b) ≡ count → out ≡ levels b → place ≡ count + c.run → place < 64 → set out place c.level ≡ levels (with_one_more b c)
levels-more b c count place out len is at inside =
    let sent : List ℤ = sent_levels b in
    let rest : ℕ = 64 - length (sent_levels b) in
    let left : place - count ≡ c.run = omega arith in
    let zeros_left : rest - suc c.run ≡ 64 - length (sent_levels (with_one_more b c)) = omega (arith, length-sent-more b c count len) in
    ap (λ (xs : List ℤ). set xs place c.level) is
    ∙ (set-append_right sent (replicate rest (pos 0)) count place c.level len (omega arith)
    ∙ (ap (λ (n : ℕ). sent ++ set (replicate rest (pos 0)) n c.level) left
    ∙ (ap (λ (t : List ℤ). sent ++ t) (set-zeros rest c.run c.level (omega (arith, len)))
    ∙ (ap (λ (n : ℕ). sent ++ (replicate c.run (pos 0) ++ c.level ∷ replicate n (pos 0))) zeros_left
    ∙ (regroup sent (replicate c.run (pos 0)) c.level (replicate (64 - length (sent_levels (with_one_more b c))) (pos 0))
    ∙ ap (λ (t : List ℤ). t ++ replicate (64 - length (sent_levels (with_one_more b c))) (pos 0)) (sym (sent-more b c)))))))
