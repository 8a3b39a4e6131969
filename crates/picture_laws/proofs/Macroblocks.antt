-- The macroblock layer: the elements of a valid macroblock may stand behind those before it, and their words are its
-- text.
use Rattle.std.proofs.Common.{◌≡◌, ℕ, ◌+◌, ◌-◌, ◌<◌, ◌≤◌, ◌^◌, ◌==◌, not, Bool, true, false, cond, List, [], ◌∷◌, ◌++◌, length, map, Option, Some, None, nat_lt, refl, sym, ◌∙◌, ap, subst, inl, inr, append_assoc, append-nil, ℤ, pos, ◌-ℤ◌, nat_abs, MatchBool, IsSomeAnd, IfSome, IsNone, IsSome, All, Any, is_some, arith}
use Rattle.std.specs.List.{flat_map}
use Rattle.std.proofs.lemmas.Bool.{false≢true, cases_Bool, cond-false, cond-true, le-ltb, ne_eqb}
use Rattle.pel_model.specs.declared.Format.{Format}
use Rattle.pel_model.specs.declared.MbKind.{MbKind}
use Rattle.pel_model.specs.declared.Why.TheVariants.{BadQuant, BadAddress, BadVector, VectorOutside}
use Rattle.pel_model.specs.Codes.{is_intra, has_mquant, has_vector, has_cbp, mvd_table}
use Rattle.pel_model.specs.Bits.{field, number}
use Rattle.pel_model.specs.Records.{Axis, Across, Down, Block, Macroblock, component}
use Rattle.pel_model.specs.Text.{address_of, predictor, mba_word, mtype_word, mquant_text, mvd_word, mvd_text, cbp_text, coded_block_pattern, sent_block_text, macroblock_text, resets_predictor}
use Rattle.pel_model.specs.Valid.{IsQuantiser, side, corner, ComponentFits, IsIntraBlock, IsCodedBlock, BlocksFit, IsValidMacroblock, stays_within}
use Rattle.pel_model.specs.Walk.{after}
use Rattle.pel_model.specs.Grammar.{Element, Mba, Mtype, Mquant, Mvd, Cbp, AtMacroblock, AtMquant, AtMvd, AtCbp, slot, kind, blocks, group, address, vector_component, block_slot, cbp_slot, vector_slot, ones, component_from, in_range}
use Rattle.pel_model.proofs.Walks.{after-append}
use Rattle.pel_model.specs.Elements.{mquant_elements, blocks_elements}
use Rattle.picture_laws.specs.SoFar.{IsBehind, IsSentBefore}
use Rattle.picture_laws.specs.PictureElements.{pair_in, mvd_element, elements_of_vector, elements_of_pattern, elements_of_macroblock}
use Rattle.picture_laws.proofs.Slots.{word_at, Takes}
use Rattle.picture_laws.proofs.Words.{number_below}
use Rattle.std.proofs.lemmas.List.{length-map}
use Rattle.picture_laws.proofs.Patterns.{ones-trues, number-some, sent-trues, blocks-intra, blocks-coded, blocks-none, any-sent, not-both}
use Rattle.picture_laws.proofs.Chains.{Stands, word_in}
use Rattle.picture_laws.proofs.Vectors.{pair-of, predicted, predictor-small, in-range}
use Rattle.picture_laws.proofs.Blocks.{Says, says-none, says-cons, says-append, says-text, one_pass, two_pass, state, sent, AreBlocksOf, says-blocks, blocks-state, blocks-slot}

pub says-same : (format : Format) (before es es' : List Element) (a b : List Bool) → es ≡ es' → a ≡ b → Says format before es a → Says format before es' b
says-same format before es es' a b is same s = subst (λ t. Says format before t b) is (says-text format before es a b same s)

-- ---- MQUANT

pub mquant-state : (before : List Element) (q : Option ℕ) → state (after before (mquant_elements q)) ≡ state before
mquant-state before None = refl
mquant-state before (Some q) = refl

pub mquant-blocks : (before : List Element) (q : Option ℕ) → blocks (after before (mquant_elements q)) ≡ blocks before
mquant-blocks before None = refl
mquant-blocks before (Some q) = refl

pub quantiser_says : (format : Format) (before : List Element) (b : Bool) (k : MbKind) (q : Option ℕ) → slot before ≡ cond b AtMquant (vector_slot k) → kind before ≡ k → MatchBool b (IsSomeAnd q IsQuantiser) (IsNone q) → Says format before (mquant_elements q) (mquant_text q) × (slot (after before (mquant_elements q)) ≡ vector_slot k)
quantiser_says format before true k None at is h = absurd h
quantiser_says format before true k (Some q) at is h =
    let stands : Stands format before (Mquant q) = record {
      takes = subst (λ s. Takes s (Mquant q)) (sym at) (q, omega (arith, h), refl);
      good = one_pass (q == 0) BadQuant (ne_eqb q 0 (λ same. absurd (omega (arith, same, h.0))));
    } in
    (says-same format before (Mquant q ∷ []) (Mquant q ∷ []) (field q 5 ++ []) (field q 5) refl (append-nil (field q 5)) (says-cons format before (Mquant q) [] (field q 5) [] stands refl (says-none format (Mquant q ∷ before))), ap vector_slot is)
quantiser_says format before false k None at is h = (says-none format before, at)
quantiser_says format before false k (Some q) at is h = absurd (false≢true (sym h))

-- ---- MVD

-- a place behind MQUANT, or where that would stand
pub record IsAtVector (number : ℕ) (last : Option Macroblock) (m : Macroblock) (before : List Element) : Type 0 where
  pub at : slot before ≡ vector_slot m.kind
  pub kind_is : kind before ≡ m.kind
  pub group_is : group before ≡ number
  pub address_is : address before ≡ m.address
  pub vector_is : (axis : Axis) → vector_component axis before ≡ cond (has_vector m.kind) (predictor axis last m) (pos 0)

-- a place behind MVD, or where that would stand
pub record IsBehindVector (number : ℕ) (m : Macroblock) (before : List Element) : Type 0 where
  pub at : slot before ≡ cbp_slot m.kind
  pub kind_is : kind before ≡ m.kind
  pub group_is : group before ≡ number
  pub address_is : address before ≡ m.address
  pub vector_is : (axis : Axis) → vector_component axis before ≡ component axis m

pub both_axes : (P : Axis → Type 0) → P Across → P Down → (axis : Axis) → P axis
both_axes P a d Across = a
both_axes P a d Down = d

abbrev IsFit : Format → ℕ → Axis → Macroblock → Type 0
IsFit format number axis m = (nat_abs (component axis m) ≤ 15) × (stays_within (side format axis) (corner axis number m.address) (component axis m) ≡ true)

stands_mvd : (format : Format) (before : List Element) (number : ℕ) (axis : Axis) (last : Option Macroblock) (m : Macroblock) → IsSentBefore last → slot before ≡ AtMvd axis → group before ≡ number → address before ≡ m.address → vector_component axis before ≡ predictor axis last m → IsFit format number axis m → Stands format before (mvd_element axis last m) × (word_in before (mvd_element axis last m) ≡ mvd_word axis last m) × (component_from (vector_component axis before) (pair_in (component axis m -ℤ predictor axis last m) mvd_table) ≡ component axis m)
stands_mvd format before number axis last m is at group_is address_is vector_is fit =
    let p : ℤ = predictor axis last m in
    let pair = pair-of axis (predictor axis last m) (component axis m) (predictor-small axis last m is) fit.0 in
    let gives : component_from (vector_component axis before) (pair_in (component axis m -ℤ predictor axis last m) mvd_table) ≡ component axis m = ap (λ p. component_from p (pair_in (component axis m -ℤ predictor axis last m) mvd_table)) vector_is ∙ pair.gives in
    let inside : in_range (component_from (vector_component axis before) (pair_in (component axis m -ℤ predictor axis last m) mvd_table)) ≡ true = ap in_range gives ∙ in-range (component axis m) fit.0 in
    let within : stays_within (side format axis) (corner axis (group before) (address before)) (component_from (vector_component axis before) (pair_in (component axis m -ℤ predictor axis last m) mvd_table)) ≡ true =
    ap (λ g. stays_within (side format axis) (corner axis g (address before)) (component_from (vector_component axis before) (pair_in (component axis m -ℤ predictor axis last m) mvd_table))) group_is
    ∙ (ap (λ a. stays_within (side format axis) (corner axis number a) (component_from (vector_component axis before) (pair_in (component axis m -ℤ predictor axis last m) mvd_table))) address_is
    ∙ (ap (stays_within (side format axis) (corner axis number m.address)) gives ∙ fit.1)) in (
      record {
        takes = subst (λ s. Takes s (mvd_element axis last m)) (sym at) (pair.row, pair.among, ap (Mvd axis) (sym pair.is));
        good = two_pass _ _ BadVector VectorOutside (ap not inside) (ap not within);
      },
      ap (λ s. word_at s (mvd_element axis last m)) at ∙ pair.word,
      gives,
    )

-- with a vector
has_vector_says : (format : Format) (before : List Element) (number : ℕ) (last : Option Macroblock) (m : Macroblock) → IsSentBefore last → slot before ≡ AtMvd Across → kind before ≡ m.kind → group before ≡ number → address before ≡ m.address → ((axis : Axis) → vector_component axis before ≡ predictor axis last m) → IsFit format number Across m → IsFit format number Down m → Says format before (mvd_element Across last m ∷ mvd_element Down last m ∷ []) (mvd_word Across last m ++ mvd_word Down last m) × IsBehindVector number m (mvd_element Down last m ∷ mvd_element Across last m ∷ before)
has_vector_says format before number last m is at kind_is group_is address_is vector_is across down =
    let a = stands_mvd format before number Across last m is at group_is address_is (vector_is Across) across in
    let d = stands_mvd format (mvd_element Across last m ∷ before) number Down last m is refl group_is address_is (vector_is Down) down in
    let one = says-cons format (mvd_element Across last m ∷ before) (mvd_element Down last m) [] (mvd_word Down last m) [] d.0 d.1 (says-none format _) in (
      says-same format before _ (mvd_element Across last m ∷ mvd_element Down last m ∷ []) (mvd_word Across last m ++ (mvd_word Down last m ++ [])) (mvd_word Across last m ++ mvd_word Down last m) refl (ap (λ t. mvd_word Across last m ++ t) (append-nil (mvd_word Down last m))) (says-cons format before (mvd_element Across last m) (mvd_element Down last m ∷ []) (mvd_word Across last m) (mvd_word Down last m ++ []) a.0 a.1 one),
      record {
        at = ap cbp_slot kind_is;
        kind_is = kind_is;
        group_is = group_is;
        address_is = address_is;
        vector_is = both_axes (λ axis. vector_component axis (mvd_element Down last m ∷ mvd_element Across last m ∷ before) ≡ component axis m) a.2 d.2;
      },
    )

pub says-vector : (format : Format) (before : List Element) (number : ℕ) (last : Option Macroblock) (m : Macroblock) → IsSentBefore last → IsAtVector number last m before → ComponentFits format number Across m → ComponentFits format number Down m → Says format before (elements_of_vector last m) (mvd_text last m) × IsBehindVector number m (after before (elements_of_vector last m))
says-vector format before number last m is place across down = elim (cases_Bool (has_vector m.kind)) [
  | inl has ↦
      let es : List Element = mvd_element Across last m ∷ mvd_element Down last m ∷ [] in
      let e : mvd_element Across last m ∷ mvd_element Down last m ∷ [] ≡ elements_of_vector last m = sym (cond-true (has_vector m.kind) (mvd_element Across last m ∷ mvd_element Down last m ∷ []) [] has) in
      let t : mvd_word Across last m ++ mvd_word Down last m ≡ mvd_text last m = sym (cond-true (has_vector m.kind) (mvd_word Across last m ++ mvd_word Down last m) [] has) in
      let r = has_vector_says format before number last m is
      (place.at ∙ ap (λ b. cond b (AtMvd Across) (cbp_slot m.kind)) has) place.kind_is place.group_is place.address_is
      (λ axis. place.vector_is axis ∙ ap (λ b. cond b (predictor axis last m) (pos 0)) has)
      (subst (λ b. MatchBool b (IsFit format number Across m) (component Across m ≡ pos 0)) has across)
      (subst (λ b. MatchBool b (IsFit format number Down m) (component Down m ≡ pos 0)) has down) in
      (says-same format before _ (elements_of_vector last m) _ (mvd_text last m) e t r.0, subst (λ es. IsBehindVector number m (after before es)) e r.1)
  | inr none ↦
      let e : [] ≡ elements_of_vector last m = sym (cond-false (has_vector m.kind) (mvd_element Across last m ∷ mvd_element Down last m ∷ []) [] none) in
      let t : [] ≡ mvd_text last m = sym (cond-false (has_vector m.kind) (mvd_word Across last m ++ mvd_word Down last m) [] none) in
      let a : component Across m ≡ pos 0 = subst (λ b. MatchBool b (IsFit format number Across m) (component Across m ≡ pos 0)) none across in
      let d : component Down m ≡ pos 0 = subst (λ b. MatchBool b (IsFit format number Down m) (component Down m ≡ pos 0)) none down in (
        says-same format before [] (elements_of_vector last m) [] (mvd_text last m) e t (says-none format before),
        subst (λ es. IsBehindVector number m (after before es)) e (record {
          at = place.at ∙ ap (λ b. cond b (AtMvd Across) (cbp_slot m.kind)) none;
          kind_is = place.kind_is;
          group_is = place.group_is;
          address_is = place.address_is;
          vector_is = λ axis. place.vector_is axis ∙ (ap (λ b. cond b (predictor axis last m) (pos 0)) none ∙ sym (both_axes (λ axis. component axis m ≡ pos 0) a d axis));
        }),
      )
]

-- ---- CBP and the blocks

-- a place behind a macroblock
pub record IsDone (number : ℕ) (m : Macroblock) (before : List Element) : Type 0 where
  pub at : slot before ≡ AtMacroblock
  pub group_is : group before ≡ number
  pub address_is : address before ≡ m.address
  pub vector_is : (axis : Axis) → vector_component axis before ≡ component axis m

done_blocks : (number : ℕ) (m : Macroblock) (before : List Element) (bs : List (Option Block)) → group before ≡ number → address before ≡ m.address → ((axis : Axis) → vector_component axis before ≡ component axis m) → slot before ≡ block_slot (kind before) (sent bs) → blocks before ≡ sent bs → IsDone number m (after before (blocks_elements bs))
done_blocks number m before bs group_is address_is vector_is at count =
    let same = blocks-state before bs in
    record {
      at = blocks-slot before bs at count;
      group_is = ap (λ (s : MbKind × ℕ × ℕ × ℤ × ℤ). s.1) same ∙ group_is;
      address_is = ap (λ (s : MbKind × ℕ × ℕ × ℤ × ℤ). s.2) same ∙ address_is;
      vector_is = both_axes (λ axis. vector_component axis (after before (blocks_elements bs)) ≡ component axis m) (ap (λ (s : MbKind × ℕ × ℕ × ℤ × ℤ). s.3) same ∙ vector_is Across) (ap (λ (s : MbKind × ℕ × ℕ × ℤ × ℤ). s.4) same ∙ vector_is Down);
    }

-- behind the vector, all blocks or none where there is no CBP
says_blocks_alone : (format : Format) (before : List Element) (number : ℕ) (m : Macroblock) → IsBehindVector number m before → has_cbp m.kind ≡ false → blocks before ≡ cond (is_intra m.kind) 6 0 → length m.blocks ≡ 6 → BlocksFit m.kind m.blocks → (sent m.blocks ≡ cond (is_intra m.kind) 6 0) × AreBlocksOf (is_intra m.kind) m.blocks
says_blocks_alone format before number m place none count six fit = elim (cases_Bool (is_intra m.kind)) [
  | inl intra ↦
      let all = subst (λ b. MatchBool b (All (λ b. IsSomeAnd b IsIntraBlock) m.blocks) (MatchBool (has_cbp m.kind) (Any IsSome m.blocks × All (λ b. IfSome b IsCodedBlock) m.blocks) (All IsNone m.blocks))) intra fit in
      let r = blocks-intra m.blocks all in
      (r.0 ∙ (six ∙ ap (λ b. cond b 6 0) (sym intra)), subst (λ b. AreBlocksOf b m.blocks) (sym intra) r.1)
  | inr inter ↦
      let rest = subst (λ b. MatchBool b (All (λ b. IsSomeAnd b IsIntraBlock) m.blocks) (MatchBool (has_cbp m.kind) (Any IsSome m.blocks × All (λ b. IfSome b IsCodedBlock) m.blocks) (All IsNone m.blocks))) inter fit in
      let all = subst (λ b. MatchBool b (Any IsSome m.blocks × All (λ b. IfSome b IsCodedBlock) m.blocks) (All IsNone m.blocks)) none rest in
      let r = blocks-none (is_intra m.kind) m.blocks all in
      (r.0 ∙ ap (λ b. cond b 6 0) (sym inter), r.1)
]

pub says-rest : (format : Format) (before : List Element) (number : ℕ) (m : Macroblock) → IsBehindVector number m before → blocks before ≡ cond (is_intra m.kind) 6 0 → length m.blocks ≡ 6 → BlocksFit m.kind m.blocks → Says format before (elements_of_pattern m ++ blocks_elements m.blocks) (cbp_text m ++ flat_map sent_block_text m.blocks) × IsDone number m (after before (elements_of_pattern m ++ blocks_elements m.blocks))
says-rest format before number m place count six fit = elim (cases_Bool (has_cbp m.kind)) [
  | inl has ↦
      let inter : is_intra m.kind ≡ false = not-both m.kind has in
      let rest = subst (λ b. MatchBool b (All (λ b. IsSomeAnd b IsIntraBlock) m.blocks) (MatchBool (has_cbp m.kind) (Any IsSome m.blocks × All (λ b. IfSome b IsCodedBlock) m.blocks) (All IsNone m.blocks))) inter fit in
      let coded = subst (λ b. MatchBool b (Any IsSome m.blocks × All (λ b. IfSome b IsCodedBlock) m.blocks) (All IsNone m.blocks)) has rest in
      let flags : length (map is_some m.blocks) ≡ 6 = length-map m.blocks is_some ∙ six in
      let ones_are : ones (coded_block_pattern m.blocks) ≡ sent m.blocks = ones-trues (map is_some m.blocks) flags ∙ sent-trues m.blocks in
      let some : 0 < coded_block_pattern m.blocks = number-some (map is_some m.blocks) (omega (arith, sent-trues m.blocks, any-sent m.blocks coded.0)) in
      let few : coded_block_pattern m.blocks < 64 = subst (λ k. coded_block_pattern m.blocks < 2 ^ k) flags (number_below (map is_some m.blocks)) in
      let at : slot before ≡ AtCbp = place.at ∙ ap (λ b. cond b AtCbp (block_slot m.kind (cond (is_intra m.kind) 6 0))) has in
      let stands : Stands format before (Cbp (coded_block_pattern m.blocks)) = record { takes = subst (λ s. Takes s (Cbp (coded_block_pattern m.blocks))) (sym at) (coded_block_pattern m.blocks, (some, few), refl); good = refl } in
      let next_at : block_slot (kind before) (ones (coded_block_pattern m.blocks)) ≡ block_slot (kind before) (sent m.blocks) = ap (block_slot (kind before)) ones_are in
      let valid : AreBlocksOf (is_intra (kind before)) m.blocks = subst (λ b. AreBlocksOf b m.blocks) (sym (ap is_intra place.kind_is ∙ inter)) (blocks-coded m.blocks coded.1) in
      let e : Cbp (coded_block_pattern m.blocks) ∷ [] ≡ elements_of_pattern m = sym (cond-true (has_cbp m.kind) (Cbp (coded_block_pattern m.blocks) ∷ []) [] has) in
      let t : word_in before (Cbp (coded_block_pattern m.blocks)) ≡ cbp_text m = sym (cond-true (has_cbp m.kind) (word_in before (Cbp (coded_block_pattern m.blocks))) [] has) in
      let blocks_say = says-blocks format (Cbp (coded_block_pattern m.blocks) ∷ before) m.blocks next_at ones_are valid in (
        says-same format before (Cbp (coded_block_pattern m.blocks) ∷ blocks_elements m.blocks) (elements_of_pattern m ++ blocks_elements m.blocks) (cbp_text m ++ flat_map sent_block_text m.blocks) (cbp_text m ++ flat_map sent_block_text m.blocks) (ap (λ es. es ++ blocks_elements m.blocks) e) refl (says-cons format before (Cbp (coded_block_pattern m.blocks)) (blocks_elements m.blocks) (cbp_text m) (flat_map sent_block_text m.blocks) stands t blocks_say),
        subst (λ es. IsDone number m (after before (es ++ blocks_elements m.blocks))) e (done_blocks number m (Cbp (coded_block_pattern m.blocks) ∷ before) m.blocks place.group_is place.address_is (both_axes (λ axis. vector_component axis (Cbp (coded_block_pattern m.blocks) ∷ before) ≡ component axis m) (place.vector_is Across) (place.vector_is Down)) next_at ones_are),
      )
  | inr none ↦
      let r = says_blocks_alone format before number m place none count six fit in
      let at : slot before ≡ block_slot (kind before) (sent m.blocks) =
      place.at ∙ (ap (λ b. cond b AtCbp (block_slot m.kind (cond (is_intra m.kind) 6 0))) none ∙ (ap (block_slot m.kind) (sym r.0) ∙ ap (λ k. block_slot k (sent m.blocks)) (sym place.kind_is))) in
      let count_is : blocks before ≡ sent m.blocks = count ∙ sym r.0 in
      let valid : AreBlocksOf (is_intra (kind before)) m.blocks = subst (λ b. AreBlocksOf b m.blocks) (sym (ap is_intra place.kind_is)) r.1 in
      let e : [] ≡ elements_of_pattern m = sym (cond-false (has_cbp m.kind) (Cbp (coded_block_pattern m.blocks) ∷ []) [] none) in
      let t : [] ≡ cbp_text m = sym (cond-false (has_cbp m.kind) (word_in before (Cbp (coded_block_pattern m.blocks))) [] none) in (
        says-same format before (blocks_elements m.blocks) (elements_of_pattern m ++ blocks_elements m.blocks) (flat_map sent_block_text m.blocks) (cbp_text m ++ flat_map sent_block_text m.blocks) (ap (λ es. es ++ blocks_elements m.blocks) e) (ap (λ t. t ++ flat_map sent_block_text m.blocks) t) (says-blocks format before m.blocks at count_is valid),
        subst (λ es. IsDone number m (after before (es ++ blocks_elements m.blocks))) e (done_blocks number m before m.blocks place.group_is place.address_is place.vector_is at count_is),
      )
]

-- ---- the macroblock

-- behind MTYPE
abbrev pub headed : List Element → Option Macroblock → Macroblock → List Element
headed before last m = Mtype m.kind ∷ Mba (m.address - address_of last) ∷ before

pub at-vector : (number : ℕ) (last : Option Macroblock) (m : Macroblock) (before : List Element) → IsBehind number last before → address_of last < m.address → slot (after (headed before last m) (mquant_elements m.mquant)) ≡ vector_slot m.kind → IsAtVector number last m (after (headed before last m) (mquant_elements m.mquant))
at-vector number last m before place rise at =
    let same = mquant-state (headed before last m) m.mquant in
    let sum : address before + (m.address - address_of last) ≡ m.address = omega (arith, place.address_is, rise) in
    let predicts = λ (axis : Axis).
    ap (λ b. cond (has_vector m.kind) b (pos 0))
    (ap (λ a. cond (resets_predictor (m.address - address_of last) a) (pos 0) (vector_component axis before)) sum
    ∙ (ap (λ z. cond (resets_predictor (m.address - address_of last) m.address) (pos 0) z) (place.vector_is axis)
    ∙ sym (predicted axis last m place.last_is))) in
    record {
      at = at;
      kind_is = ap (λ (s : MbKind × ℕ × ℕ × ℤ × ℤ). s.0) same;
      group_is = ap (λ (s : MbKind × ℕ × ℕ × ℤ × ℤ). s.1) same ∙ place.group_is;
      address_is = ap (λ (s : MbKind × ℕ × ℕ × ℤ × ℤ). s.2) same ∙ sum;
      vector_is = both_axes (λ axis. vector_component axis (after (headed before last m) (mquant_elements m.mquant)) ≡ cond (has_vector m.kind) (predictor axis last m) (pos 0))
          (ap (λ (s : MbKind × ℕ × ℕ × ℤ × ℤ). s.3) same ∙ predicts Across)
          (ap (λ (s : MbKind × ℕ × ℕ × ℤ × ℤ). s.4) same ∙ predicts Down);
    }

pub vector-blocks : (before : List Element) (last : Option Macroblock) (m : Macroblock) → blocks (after before (elements_of_vector last m)) ≡ blocks before
vector-blocks before last m = elim (cases_Bool (has_vector m.kind)) [
  | inl has ↦ ap (λ es. blocks (after before es)) (cond-true (has_vector m.kind) (mvd_element Across last m ∷ mvd_element Down last m ∷ []) [] has)
  | inr none ↦ ap (λ es. blocks (after before es)) (cond-false (has_vector m.kind) (mvd_element Across last m ∷ mvd_element Down last m ∷ []) [] none)
]

pub component_small : (format : Format) (number : ℕ) (axis : Axis) (m : Macroblock) → ComponentFits format number axis m → (nat_abs (component axis m) ≤ 15) × (has_vector m.kind ≡ false → component axis m ≡ pos 0)
component_small format number axis m fit = elim (cases_Bool (has_vector m.kind)) [
  | inl has ↦ ((subst (λ b. MatchBool b (IsFit format number axis m) (component axis m ≡ pos 0)) has fit).0, λ none. absurd (false≢true (sym none ∙ has)))
  | inr none ↦
      let zero_ : component axis m ≡ pos 0 = subst (λ b. MatchBool b (IsFit format number axis m) (component axis m ≡ pos 0)) none fit in
      (subst (λ z. nat_abs z ≤ 15) (sym zero_) (omega arith), λ _. zero_)
]

pub done-behind : (format : Format) (number : ℕ) (m : Macroblock) (before : List Element) → 0 < m.address → IsValidMacroblock format number m → IsDone number m before → IsBehind number (Some m) before
done-behind format number m before some valid done =
    let a = component_small format number Across m valid.across in
    let d = component_small format number Down m valid.down in
    record {
      at = done.at;
      group_is = done.group_is;
      address_is = done.address_is;
      vector_is = done.vector_is;
      last_is = (some, both_axes (λ axis. nat_abs (component axis m) ≤ 15) a.0 d.0, both_axes (λ axis. has_vector m.kind ≡ false → component axis m ≡ pos 0) a.1 d.1);
    }

-- the parts of a macroblock behind MTYPE
abbrev pub body : Option Macroblock → Macroblock → List Element
body last m = mquant_elements m.mquant ++ (elements_of_vector last m ++ (elements_of_pattern m ++ blocks_elements m.blocks))

pub after-body : (before : List Element) (last : Option Macroblock) (m : Macroblock) → after before (body last m) ≡ after (after (after before (mquant_elements m.mquant)) (elements_of_vector last m)) (elements_of_pattern m ++ blocks_elements m.blocks)
after-body before last m =
    after-append before (mquant_elements m.mquant) (elements_of_vector last m ++ (elements_of_pattern m ++ blocks_elements m.blocks))
    ∙ after-append (after before (mquant_elements m.mquant)) (elements_of_vector last m) (elements_of_pattern m ++ blocks_elements m.blocks)

five : (a b c d e f : List Bool) → a ++ (b ++ (c ++ (d ++ (e ++ f)))) ≡ a ++ b ++ c ++ d ++ e ++ f
five a b c d e f =
    sym (append_assoc a b (c ++ (d ++ (e ++ f))))
    ∙ (sym (append_assoc (a ++ b) c (d ++ (e ++ f)))
    ∙ (sym (append_assoc (a ++ b ++ c) d (e ++ f)) ∙ sym (append_assoc (a ++ b ++ c ++ d) e f)))

pub stands-mba : (format : Format) (number : ℕ) (last : Option Macroblock) (m : Macroblock) (before : List Element) → IsBehind number last before → address_of last < m.address → m.address ≤ 33 → Stands format before (Mba (m.address - address_of last))
stands-mba format number last m before place rise most = record {
  takes = subst (λ s. Takes s (Mba (m.address - address_of last))) (sym place.at) (inl (m.address - address_of last, (omega (arith, rise), omega (arith, most)), refl));
  good = one_pass (nat_lt 33 (address before + (m.address - address_of last))) BadAddress (le-ltb 33 (address before + (m.address - address_of last)) (omega (arith, place.address_is, rise, most)));
}

pub says-macroblock : (format : Format) (number : ℕ) (last : Option Macroblock) (m : Macroblock) (before : List Element) → IsBehind number last before → address_of last < m.address → m.address ≤ 33 → IsValidMacroblock format number m → Says format before (elements_of_macroblock last m) (macroblock_text last m) × IsBehind number (Some m) (after before (elements_of_macroblock last m))
unfolding macroblock_text
says-macroblock format number last m before place rise most valid =
    let q = quantiser_says format (headed before last m) (has_mquant m.kind) m.kind m.mquant refl refl valid.mquant in
    let v_at = at-vector number last m before place rise q.1 in
    let v = says-vector format (after (headed before last m) (mquant_elements m.mquant)) number last m place.last_is v_at valid.across valid.down in
    let count : blocks (after (after (headed before last m) (mquant_elements m.mquant)) (elements_of_vector last m)) ≡ cond (is_intra m.kind) 6 0 = vector-blocks (after (headed before last m) (mquant_elements m.mquant)) last m ∙ mquant-blocks (headed before last m) m.mquant in
    let r = says-rest format (after (after (headed before last m) (mquant_elements m.mquant)) (elements_of_vector last m)) number m v.1 count valid.six valid.blocks in
    let parts = says-append format (headed before last m) (mquant_elements m.mquant) _ (mquant_text m.mquant) _ q.0 (says-append format (after (headed before last m) (mquant_elements m.mquant)) (elements_of_vector last m) _ (mvd_text last m) _ v.0 r.0) in
    let mtype : Stands format (Mba (m.address - address_of last) ∷ before) (Mtype m.kind) = record { takes = (m.kind, refl); good = refl } in
    let whole = says-cons format before (Mba (m.address - address_of last)) (Mtype m.kind ∷ body last m) (mba_word last m) _ (stands-mba format number last m before place rise most) refl (says-cons format (Mba (m.address - address_of last) ∷ before) (Mtype m.kind) (body last m) (mtype_word m.kind) _ mtype refl parts) in (
      says-text format before (elements_of_macroblock last m) _ _ (five (mba_word last m) (mtype_word m.kind) (mquant_text m.mquant) (mvd_text last m) (cbp_text m) (flat_map sent_block_text m.blocks)) whole,
      done-behind format number m (after before (elements_of_macroblock last m)) (omega (arith, rise)) valid (subst (λ b. IsDone number m b) (sym (after-body (headed before last m) last m)) r.1),
    )
