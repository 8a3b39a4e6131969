-- A block that is read from its text is that block.
use Rattle.std.proofs.Common.{◌≡◌, ℕ, ◌+◌, ◌-◌, Bool, true, false, cond, ℤ, pos, List, [], ◌∷◌, ◌++◌, length, map, replicate, Option, Some, None, refl, sym, ◌∙◌, ap, subst, inl, inr, append-nil, append_assoc}
use Rattle.std.specs.List.{flat_map}
use Rattle.std.proofs.lemmas.Bool.{false≢true}
use Rattle.pel_model.specs.declared.Format.{Format}
use Rattle.pel_model.specs.declared.MbKind.TheVariants.{Intra, Inter}
use Rattle.pel_model.specs.declared.Why.{Why}
use Rattle.pel_model.specs.Elements.{dc_elements, coefficient_elements, block_elements}
use Rattle.pel_model.specs.Grammar.{Element, Mtype, Cbp, Dc, Tcoeff, Eob, slot, AtDc, AtFirst, next}
use Rattle.pel_model.specs.Levels.{dc_level, run_and_level, sent_levels, levels}
use Rattle.pel_model.specs.Records.{Coefficient, Block}
use Rattle.pel_model.specs.Text.{block_text}
use Rattle.pel_model.specs.Walk.{Reading, Bad, after, Goes}
use Rattle.picture_laws.proofs.Blocks.{says-block}
use Rattle.picture_laws.proofs.Chains.{walk-goes}
use Rattle.ref_decode.specs.Blocks.{IsBlockOf}
use Rattle.ref_decode.proofs.Comparing.{compared, none_at_fault}

-- ---- what elements tell up to the end of a block

-- the levels
told : List Element → List ℤ
told (Dc n ∷ es) = dc_level n ∷ told es
told (Tcoeff c ∷ es) = run_and_level c ++ told es
told _ = []

-- what stands behind the block
behind : List Element → List Element
behind [] = []
behind (Eob ∷ es) = es
behind (_ ∷ es) = behind es

-- whether the block ends
ends : List Element → Bool
ends [] = false
ends (Eob ∷ es) = true
ends (_ ∷ es) = ends es

told_coefficients : (cs : List Coefficient) (zs : List Element) → told (map Tcoeff cs ++ (Eob ∷ zs)) ≡ flat_map run_and_level cs
unfolding told
told_coefficients [] zs = refl
told_coefficients (c ∷ cs) zs = ap (λ t. run_and_level c ++ t) (told_coefficients cs zs)

behind_coefficients : (cs : List Coefficient) (zs : List Element) → behind (map Tcoeff cs ++ (Eob ∷ zs)) ≡ zs
unfolding behind
behind_coefficients [] zs = refl
behind_coefficients (c ∷ cs) zs = behind_coefficients cs zs

ends_coefficients : (cs : List Coefficient) (zs : List Element) → ends (map Tcoeff cs ++ (Eob ∷ zs)) ≡ true
unfolding ends
ends_coefficients [] zs = refl
ends_coefficients (c ∷ cs) zs = ends_coefficients cs zs

no_end : (cs : List Coefficient) → ends (map Tcoeff cs) ≡ false
unfolding ends
no_end [] = refl
no_end (c ∷ cs) = no_end cs

-- the elements of a block, and more behind it
spread : (dc : Option ℕ) (cs : List Coefficient) (zs : List Element) → block_elements (record { dc = dc; coefficients = cs }) ++ zs ≡ dc_elements dc ++ (map Tcoeff cs ++ (Eob ∷ zs))
spread dc cs zs =
    append_assoc (dc_elements dc ++ map Tcoeff cs) (Eob ∷ []) zs ∙ append_assoc (dc_elements dc) (map Tcoeff cs) (Eob ∷ zs)

told_dc : (dc : Option ℕ) (cs : List Coefficient) (zs : List Element) → told (dc_elements dc ++ (map Tcoeff cs ++ (Eob ∷ zs))) ≡ sent_levels (record { dc = dc; coefficients = cs })
unfolding told
told_dc None cs zs = told_coefficients cs zs
told_dc (Some n) cs zs = ap (λ t. dc_level n ∷ t) (told_coefficients cs zs)

behind_dc : (dc : Option ℕ) (cs : List Coefficient) (zs : List Element) → behind (dc_elements dc ++ (map Tcoeff cs ++ (Eob ∷ zs))) ≡ zs
unfolding behind
behind_dc None cs zs = behind_coefficients cs zs
behind_dc (Some n) cs zs = behind_coefficients cs zs

ends_dc : (dc : Option ℕ) (cs : List Coefficient) (zs : List Element) → ends (dc_elements dc ++ (map Tcoeff cs ++ (Eob ∷ zs))) ≡ true
unfolding ends
ends_dc None cs zs = ends_coefficients cs zs
ends_dc (Some n) cs zs = ends_coefficients cs zs

no_end_dc : (dc : Option ℕ) (cs : List Coefficient) → ends (dc_elements dc ++ map Tcoeff cs) ≡ false
unfolding ends
no_end_dc None cs = no_end cs
no_end_dc (Some n) cs = no_end cs

told_block : (b : Block) (zs : List Element) → told (block_elements b ++ zs) ≡ sent_levels b
told_block b zs = ap told (spread b.dc b.coefficients zs) ∙ told_dc b.dc b.coefficients zs

behind_block : (b : Block) (zs : List Element) → behind (block_elements b ++ zs) ≡ zs
behind_block b zs = ap behind (spread b.dc b.coefficients zs) ∙ behind_dc b.dc b.coefficients zs

ends_block : (b : Block) (zs : List Element) → ends (block_elements b ++ zs) ≡ true
ends_block b zs = ap ends (spread b.dc b.coefficients zs) ∙ ends_dc b.dc b.coefficients zs

-- one block in front of another's elements is that block
same_block : (b other : Block) (zs : List Element) → block_elements other ≡ block_elements b ++ zs → (levels other ≡ levels b) × (zs ≡ [])
same_block b other zs is =
    let e : block_elements other ++ [] ≡ block_elements b ++ zs = append-nil (block_elements other) ∙ is in
    let sent : sent_levels other ≡ sent_levels b = sym (told_block other []) ∙ (ap told e ∙ told_block b zs) in
    let none : zs ≡ [] = sym (behind_block b zs) ∙ (sym (ap behind e) ∙ behind_block other []) in
    (ap (λ xs. xs ++ replicate (64 - length xs) (pos 0)) sent, none)

-- ---- the walk of a block's text

-- elements behind which a block stands
abbrev pub block_before : Bool → List Element
block_before intra = cond intra (Mtype Intra ∷ []) (Cbp 1 ∷ (Mtype Inter ∷ []))

pub block_due : (intra : Bool) → slot (block_before intra) ≡ cond intra AtDc AtFirst
block_due true = refl
block_due false = refl

pub block_goes : (format : Format) (intra : Bool) (b : Block) (rest : List Bool) (r : Reading) → IsBlockOf intra b → r.0 ≡ block_text b ++ rest → Goes (next format) (block_before intra) r (block_elements b) (rest, r.1 + length (block_text b))
block_goes format intra b rest r valid bits =
    let s = says-block format (block_before intra) intra b (block_due intra) valid in
    walk-goes format (block_before intra) r (block_elements b) (rest, r.1 + length (block_text b)) (record {
      chain = s.chain;
      bits = bits ∙ ap (λ t. t ++ rest) (sym s.text);
      place = ap (λ t. r.1 + length t) (sym s.text);
    })

-- what was read is the block
pub block_read : (format : Format) (before : List Element) (b other : Block) (r end new : Reading) → Goes (next format) before r (block_elements b) end → Goes (next format) before r (block_elements other) new → (levels other ≡ levels b) × (new ≡ end)
block_read format before b other r end new goes read = elim (compared (next format) before r end new (block_elements b) (block_elements other) goes read) [
  | inl on ↦
      let s = same_block b other on.more on.is in
      (s.0, subst (λ (zs : List Element). Goes (next format) (after before (block_elements b)) end zs new) s.1 on.walk)
  | inr on ↦
      let s = same_block other b on.more on.is in
      (sym s.0, sym (subst (λ (zs : List Element). Goes (next format) (after before (block_elements other)) new zs end) s.1 on.walk))
]

meets_none : (format : Format) (before : List Element) (b part : Block) (r end new : Reading) (why : Why) → Goes (next format) before r (block_elements b) end → Goes (next format) before r (coefficient_elements part) new → next format (after before (coefficient_elements part)) new ≡ Bad why → ⊥
meets_none format before b part r end new why goes read bad = elim (compared (next format) before r end new (block_elements b) (coefficient_elements part) goes read) [
  | inl on ↦ false≢true (sym (no_end_dc part.dc part.coefficients) ∙ (ap ends on.is ∙ ends_block b on.more))
  | inr on ↦
      let e : block_elements b ≡ coefficient_elements part = none_at_fault (next format) before new end (coefficient_elements part) (block_elements b) why on bad in
      false≢true (sym (no_end_dc part.dc part.coefficients) ∙ (ap ends (sym (append-nil (block_elements b) ∙ e)) ∙ ends_block b []))
]

-- no fault is met
pub block_meets_no_fault : (format : Format) (before : List Element) (b part : Block) (es : List Element) (r end new : Reading) (why : Why) → es ≡ coefficient_elements part → Goes (next format) before r (block_elements b) end → Goes (next format) before r es new → next format (after before es) new ≡ Bad why → ⊥
block_meets_no_fault format before b part es r end new why is goes read bad =
    meets_none format before b part r end new why goes
    (subst (λ (xs : List Element). Goes (next format) before r xs new) is read)
    (subst (λ (xs : List Element). next format (after before xs) new ≡ Bad why) is bad)
