-- Elements that may stand one behind another up to an end: those of a macroblock are the elements of a valid macroblock.
use Rattle.std.proofs.Common.{◌≡◌, ◌≢◌, ℕ, ◌+◌, ◌-◌, ◌<◌, ◌≤◌, ◌==◌, ◌||◌, not, Bool, true, false, cond, List, [], ◌∷◌, ◌++◌, length, map, replicate, Option, Some, None, nat_lt, if◌then◌else◌, refl, sym, ◌∙◌, ap, subst, inl, inr, append_assoc, ℤ, pos, ◌-ℤ◌, nat_abs, MatchBool, IsSomeAnd, IfSome, IsNone, IsSome, All, Any, is_some, arith}
use Rattle.std.proofs.lemmas.Bool.{false≢true, ltb-false, cases_Bool, cond-false, cond-true, eqb-false, not-false}
use Rattle.std.proofs.lemmas.List.{length-map, length-replicate}
use Rattle.pel_model.specs.declared.Format.{Format}
use Rattle.pel_model.specs.declared.MbKind.{MbKind}
use Rattle.pel_model.specs.declared.Why.TheVariants.{BadQuant, BadAddress, BadVector, VectorOutside}
use Rattle.pel_model.specs.Codes.{is_intra, has_mquant, has_vector, has_cbp, mvd_table}
use Rattle.pel_model.specs.Bits.{field, number}
use Rattle.pel_model.specs.Records.{Axis, Across, Down, Block, Macroblock, component}
use Rattle.pel_model.specs.Text.{address_of, predictor, coded_block_pattern, resets_predictor}
use Rattle.pel_model.specs.Valid.{IsQuantiser, MquantFits, side, corner, ComponentFits, IsIntraBlock, IsCodedBlock, BlocksFit, IsValidMacroblock, stays_within}
use Rattle.pel_model.specs.Walk.{after}
use Rattle.pel_model.specs.Grammar.{Element, Mba, Mtype, Mquant, Mvd, Cbp, AtMtype, AtMquant, AtMvd, AtCbp, slot, kind, blocks, group, address, vector_component, block_slot, cbp_slot, vector_slot, ones, component_from, in_range}
use Rattle.pel_model.specs.Elements.{mquant_elements, blocks_elements}
use Rattle.picture_laws.specs.SoFar.{IsBehind, IsSentBefore}
use Rattle.picture_laws.specs.PictureElements.{pair_in, mvd_element, elements_of_vector, elements_of_pattern, elements_of_macroblock}
use Rattle.vlc_codes.proofs.FoundRows.{Among}
use Rattle.picture_laws.proofs.Slots.{IsStep, IsPattern}
use Rattle.picture_laws.proofs.Words.{number-fits, length-field}
use Rattle.picture_laws.proofs.Chains.{Stands}
use Rattle.picture_laws.proofs.Vectors.{predictor-small, range-in, pair-back}
use Rattle.picture_laws.proofs.Patterns.{trues, ones-trues, trues-some, sent-trues, intra-blocks, coded-blocks, none-blocks, sent-any, not-both}
use Rattle.picture_laws.proofs.Blocks.{one_passed, two_passed, sent, AreBlocksOf}
use Rattle.picture_laws.proofs.Macroblocks.{quantiser_says, says-vector, IsAtVector, IsBehindVector, headed, at-vector, mquant-blocks, vector-blocks}
use Rattle.picture_laws.proofs.ReadBlocks.{IsRest, rest-after, rest-step, rest-more, ReadsBlocks, read-blocks}

-- ---- MQUANT

pub record ReadsMquant (has : Bool) (es : List Element) : Type 0 where
  pub q : Option ℕ
  pub rest : List Element
  pub is : es ≡ mquant_elements q ++ rest
  pub valid : MatchBool has (IsSomeAnd q IsQuantiser) (IsNone q)

read-mquant : (format : Format) (before es : List Element) (has : Bool) (k : MbKind) → slot before ≡ cond has AtMquant (vector_slot k) → IsRest format before es → ReadsMquant has es
read-mquant format before es true k at r =
    let m = rest-more format before es AtMquant at refl r in
    let s = rest-step format before m.first (Mquant m.takes.0) m.rest m.left m.takes.2 in
    let some : m.takes.0 ≢ 0 = eqb-false m.takes.0 0 (one_passed (m.takes.0 == 0) BadQuant s.0.good) in
    record { q = Some m.takes.0; rest = m.rest; is = m.is ∙ ap (λ x. x ∷ m.rest) m.takes.2; valid = (omega (arith, some), omega (arith, m.takes.1)) }
read-mquant format before es false k at r = record { q = None; rest = es; is = refl; valid = refl }

-- ---- MVD

pub predictor_same : (axis : Axis) (last : Option Macroblock) (m n : Macroblock) → m.address ≡ n.address → predictor axis last m ≡ predictor axis last n
predictor_same axis None m n same = refl
predictor_same axis (Some l) m n same = ap (λ (a : ℕ). cond (resets_predictor (a - l.address) a || not (has_vector l.kind)) (pos 0) (component axis l)) same

abbrev IsFit : Format → ℕ → Axis → ℕ → ℤ → Type 0
IsFit format number axis at c = (nat_abs c ≤ 15) × (stays_within (side format axis) (corner axis number at) c ≡ true)

pub record ReadsComponent (format : Format) (number : ℕ) (axis : Axis) (last : Option Macroblock) (m : Macroblock) (es : List Element) : Type 0 where
  pub c : ℤ
  pub rest : List Element
  pub is : es ≡ Mvd axis (pair_in (c -ℤ predictor axis last m) mvd_table) ∷ rest
  pub fit : IsFit format number axis m.address c

read_component : (format : Format) (before es : List Element) (number : ℕ) (axis : Axis) (last : Option Macroblock) (m : Macroblock) → IsSentBefore last → group before ≡ number → address before ≡ m.address → vector_component axis before ≡ predictor axis last m → (row : List Bool × (ℤ × ℤ)) → Among row mvd_table → Stands format before (Mvd axis row.1) → es ≡ es → (all : List Element) → all ≡ Mvd axis row.1 ∷ es → ReadsComponent format number axis last m all
read_component format before es number axis last m is group_is address_is vector_is row among stands same all all_is =
    let both = two_passed (not (in_range (component_from (vector_component axis before) row.1))) (not (stays_within (side format axis) (corner axis (group before) (address before)) (component_from (vector_component axis before) row.1))) BadVector VectorOutside stands.good in
    let inside : in_range (component_from (predictor axis last m) row.1) ≡ true = ap (λ v. in_range (component_from v row.1)) (sym vector_is) ∙ not-false (in_range (component_from (vector_component axis before) row.1)) both.0 in
    let within : stays_within (side format axis) (corner axis number m.address) (component_from (predictor axis last m) row.1) ≡ true =
    ap (λ v. stays_within (side format axis) (corner axis number m.address) (component_from v row.1)) (sym vector_is)
    ∙ (ap (λ a. stays_within (side format axis) (corner axis number a) (component_from (vector_component axis before) row.1)) (sym address_is)
    ∙ (ap (λ g. stays_within (side format axis) (corner axis g (address before)) (component_from (vector_component axis before) row.1)) (sym group_is)
    ∙ not-false (stays_within (side format axis) (corner axis (group before) (address before)) (component_from (vector_component axis before) row.1)) both.1)) in
    record {
      c = component_from (predictor axis last m) row.1;
      rest = es;
      is = all_is ∙ ap (λ v. Mvd axis v ∷ es) (sym (pair-back (predictor axis last m) row (predictor-small axis last m is) among));
      fit = (range-in (component_from (predictor axis last m) row.1) inside, within);
    }

read-component : (format : Format) (before es : List Element) (number : ℕ) (axis : Axis) (last : Option Macroblock) (m : Macroblock) → IsSentBefore last → slot before ≡ AtMvd axis → group before ≡ number → address before ≡ m.address → vector_component axis before ≡ predictor axis last m → IsRest format before es → ReadsComponent format number axis last m es
read-component format before es number axis last m is at group_is address_is vector_is r =
    let more = rest-more format before es (AtMvd axis) at refl r in
    let s = rest-step format before more.first (Mvd axis more.takes.0.1) more.rest more.left more.takes.2 in
    read_component format before more.rest number axis last m is group_is address_is vector_is more.takes.0 more.takes.1 s.0 refl es (more.is ∙ ap (λ x. x ∷ more.rest) more.takes.2)

abbrev pub with_vector : Macroblock → ℤ → ℤ → Macroblock
with_vector m a d = record { address = m.address; kind = m.kind; mquant = m.mquant; across = a; down = d; blocks = m.blocks }

pub record ReadsVector (format : Format) (number : ℕ) (last : Option Macroblock) (m : Macroblock) (es : List Element) : Type 0 where
  pub a : ℤ
  pub d : ℤ
  pub rest : List Element
  pub is : es ≡ elements_of_vector last (with_vector m a d) ++ rest
  pub across : ComponentFits format number Across (with_vector m a d)
  pub down : ComponentFits format number Down (with_vector m a d)

vector_read : (format : Format) (number : ℕ) (last : Option Macroblock) (m : Macroblock) (es : List Element) → has_vector m.kind ≡ true → (a : ReadsComponent format number Across last m es) → (d : ReadsComponent format number Down last m a.rest) → ReadsVector format number last m es
vector_read format number last m es has a d =
    let pa : predictor Across last m ≡ predictor Across last (with_vector m a.c d.c) = predictor_same Across last m (with_vector m a.c d.c) refl in
    let pd : predictor Down last m ≡ predictor Down last (with_vector m a.c d.c) = predictor_same Down last m (with_vector m a.c d.c) refl in
    record {
      a = a.c;
      d = d.c;
      rest = d.rest;
      is = a.is ∙ (ap (λ t. Mvd Across (pair_in (a.c -ℤ predictor Across last m) mvd_table) ∷ t) d.is
          ∙ (ap (λ p. Mvd Across (pair_in (a.c -ℤ p) mvd_table) ∷ (Mvd Down (pair_in (d.c -ℤ predictor Down last m) mvd_table) ∷ d.rest)) pa
          ∙ (ap (λ p. mvd_element Across last (with_vector m a.c d.c) ∷ (Mvd Down (pair_in (d.c -ℤ p) mvd_table) ∷ d.rest)) pd
          ∙ ap (λ t. t ++ d.rest) (sym (cond-true (has_vector m.kind) (mvd_element Across last (with_vector m a.c d.c) ∷ mvd_element Down last (with_vector m a.c d.c) ∷ []) [] has)))));
      across = subst (λ b. MatchBool b (IsFit format number Across m.address a.c) (a.c ≡ pos 0)) (sym has) a.fit;
      down = subst (λ b. MatchBool b (IsFit format number Down m.address d.c) (d.c ≡ pos 0)) (sym has) d.fit;
    }

pub read-vector : (format : Format) (before es : List Element) (number : ℕ) (last : Option Macroblock) (m : Macroblock) → IsSentBefore last → IsAtVector number last m before → IsRest format before es → ReadsVector format number last m es
read-vector format before es number last m is place r = elim (cases_Bool (has_vector m.kind)) [
  | inl has ↦
      let at : slot before ≡ AtMvd Across = place.at ∙ ap (λ b. cond b (AtMvd Across) (cbp_slot m.kind)) has in
      let vector_is = λ (axis : Axis). place.vector_is axis ∙ ap (λ b. cond b (predictor axis last m) (pos 0)) has in
      let a = read-component format before es number Across last m is at place.group_is place.address_is (vector_is Across) r in
      let left = rest-after format before es (Mvd Across (pair_in (a.c -ℤ predictor Across last m) mvd_table) ∷ []) a.rest r a.is in
      let d = read-component format (Mvd Across (pair_in (a.c -ℤ predictor Across last m) mvd_table) ∷ before) a.rest number Down last m is refl place.group_is place.address_is (vector_is Down) left in
      vector_read format number last m es has a d
  | inr none ↦ record {
    a = pos 0;
    d = pos 0;
    rest = es;
    is = ap (λ t. t ++ es) (sym (cond-false (has_vector m.kind) (mvd_element Across last (with_vector m (pos 0) (pos 0)) ∷ mvd_element Down last (with_vector m (pos 0) (pos 0)) ∷ []) [] none));
    across = subst (λ b. MatchBool b (IsFit format number Across m.address (pos 0)) (pos 0 ≡ pos 0)) (sym none) refl;
    down = subst (λ b. MatchBool b (IsFit format number Down m.address (pos 0)) (pos 0 ≡ pos 0)) (sym none) refl;
  }
]

-- ---- CBP and the blocks

abbrev pub with_blocks : Macroblock → List (Option Block) → Macroblock
with_blocks m bs = record { address = m.address; kind = m.kind; mquant = m.mquant; across = m.across; down = m.down; blocks = bs }

pub record ReadsRest (m : Macroblock) (es : List Element) : Type 0 where
  pub bs : List (Option Block)
  pub rest : List Element
  pub is : es ≡ (elements_of_pattern (with_blocks m bs) ++ blocks_elements bs) ++ rest
  pub six : length bs ≡ 6
  pub fits : BlocksFit m.kind bs

rest_coded : (m : Macroblock) (es left : List Element) (c : ℕ) (intra : Bool) → has_cbp m.kind ≡ true → intra ≡ false → IsPattern c → es ≡ Cbp c ∷ left → ReadsBlocks intra (field c 6) left → ReadsRest m es
rest_coded m es left c intra has inter pattern is r =
    let n : number (map is_some r.bs) ≡ c = ap number r.flags_are ∙ number-fits c 6 (omega (arith, pattern.1)) in
    let six : length r.bs ≡ 6 = sym (length-map r.bs is_some) ∙ (ap length r.flags_are ∙ length-field c 6) in
    let some : 0 < sent r.bs = omega (arith, sent-trues r.bs, trues-some (map is_some r.bs) (omega (arith, n, pattern.0))) in
    let valid : AreBlocksOf false r.bs = subst (λ b. AreBlocksOf b r.bs) inter r.valid in
    let coded : MatchBool (has_cbp m.kind) (Any IsSome r.bs × All (λ b. IfSome b IsCodedBlock) r.bs) (All IsNone r.bs) = subst (λ b. MatchBool b (Any IsSome r.bs × All (λ b. IfSome b IsCodedBlock) r.bs) (All IsNone r.bs)) (sym has) (sent-any r.bs some, coded-blocks r.bs valid) in
    record {
      bs = r.bs;
      rest = r.rest;
      is = is ∙ (ap (λ t. Cbp c ∷ t) r.is
          ∙ (ap (λ k. Cbp k ∷ (blocks_elements r.bs ++ r.rest)) (sym n)
          ∙ ap (λ t. (t ++ blocks_elements r.bs) ++ r.rest) (sym (cond-true (has_cbp m.kind) (Cbp (coded_block_pattern r.bs) ∷ []) [] has))));
      six = six;
      fits = subst (λ b. MatchBool b (All (λ b. IsSomeAnd b IsIntraBlock) r.bs) (MatchBool (has_cbp m.kind) (Any IsSome r.bs × All (λ b. IfSome b IsCodedBlock) r.bs) (All IsNone r.bs))) (sym (not-both m.kind has)) coded;
    }

all_flags : (intra : Bool) → trues (replicate 6 intra) ≡ cond intra 6 0
all_flags true = refl
all_flags false = refl

fits_alone : (intra has : Bool) (bs : List (Option Block)) → has ≡ false → length bs ≡ 6 → sent bs ≡ cond intra 6 0 → AreBlocksOf intra bs → MatchBool intra (All (λ b. IsSomeAnd b IsIntraBlock) bs) (MatchBool has (Any IsSome bs × All (λ b. IfSome b IsCodedBlock) bs) (All IsNone bs))
fits_alone true has bs none six count valid = intra-blocks bs (count ∙ sym six) valid
fits_alone false true bs none six count valid = absurd (false≢true (sym none))
fits_alone false false bs none six count valid = none-blocks bs count

rest_alone : (m : Macroblock) (es : List Element) (intra : Bool) → has_cbp m.kind ≡ false → intra ≡ is_intra m.kind → ReadsBlocks intra (replicate 6 intra) es → ReadsRest m es
rest_alone m es intra none same r =
    let six : length r.bs ≡ 6 = sym (length-map r.bs is_some) ∙ (ap length r.flags_are ∙ length-replicate 6 intra) in
    let count : sent r.bs ≡ cond intra 6 0 = sym (sent-trues r.bs) ∙ (ap trues r.flags_are ∙ all_flags intra) in
    record {
      bs = r.bs;
      rest = r.rest;
      is = r.is ∙ ap (λ t. (t ++ blocks_elements r.bs) ++ r.rest) (sym (cond-false (has_cbp m.kind) (Cbp (coded_block_pattern r.bs) ∷ []) [] none));
      six = six;
      fits = subst (λ b. MatchBool b (All (λ b. IsSomeAnd b IsIntraBlock) r.bs) (MatchBool (has_cbp m.kind) (Any IsSome r.bs × All (λ b. IfSome b IsCodedBlock) r.bs) (All IsNone r.bs))) same (fits_alone intra (has_cbp m.kind) r.bs none six count r.valid);
    }

pub read-rest : (format : Format) (before es : List Element) (number : ℕ) (m : Macroblock) → IsBehindVector number m before → blocks before ≡ cond (is_intra m.kind) 6 0 → IsRest format before es → ReadsRest m es
read-rest format before es number m place count r = elim (cases_Bool (has_cbp m.kind)) [
  | inl has ↦
      let at : slot before ≡ AtCbp = place.at ∙ ap (λ b. cond b AtCbp (block_slot m.kind (cond (is_intra m.kind) 6 0))) has in
      let more = rest-more format before es AtCbp at refl r in
      let s = rest-step format before more.first (Cbp more.takes.0) more.rest more.left more.takes.2 in
      let ones_are : ones more.takes.0 ≡ trues (field more.takes.0 6) = ap ones (sym (number-fits more.takes.0 6 (omega (arith, more.takes.1)))) ∙ ones-trues (field more.takes.0 6) (length-field more.takes.0 6) in
      let bs = read-blocks format (Cbp more.takes.0 ∷ before) more.rest (field more.takes.0 6) (ap (block_slot (kind before)) ones_are) ones_are s.1 in
      rest_coded m es more.rest more.takes.0 (is_intra (kind before)) has (ap is_intra place.kind_is ∙ not-both m.kind has) more.takes.1 (more.is ∙ ap (λ x. x ∷ more.rest) more.takes.2) bs
  | inr none ↦
      let same : is_intra (kind before) ≡ is_intra m.kind = ap is_intra place.kind_is in
      let flags : trues (replicate 6 (is_intra (kind before))) ≡ cond (is_intra m.kind) 6 0 = all_flags (is_intra (kind before)) ∙ ap (λ b. cond b 6 0) same in
      let at : slot before ≡ block_slot (kind before) (trues (replicate 6 (is_intra (kind before)))) =
      place.at ∙ (ap (λ b. cond b AtCbp (block_slot m.kind (cond (is_intra m.kind) 6 0))) none ∙ (ap (block_slot m.kind) (sym flags) ∙ ap (λ k. block_slot k (trues (replicate 6 (is_intra (kind before))))) (sym place.kind_is))) in
      rest_alone m es (is_intra (kind before)) none same (read-blocks format before es (replicate 6 (is_intra (kind before))) at (count ∙ sym flags) r)
]

-- ---- the macroblock

pub record ReadsMacroblock (format : Format) (number : ℕ) (last : Option Macroblock) (es : List Element) : Type 0 where
  pub m : Macroblock
  pub rest : List Element
  pub is : es ≡ elements_of_macroblock last m ++ rest
  pub valid : IsValidMacroblock format number m
  pub rise : address_of last < m.address
  pub most : m.address ≤ 33

vector_same : (last : Option Macroblock) (m : Macroblock) (bs : List (Option Block)) → elements_of_vector last m ≡ elements_of_vector last (with_blocks m bs)
vector_same last m bs =
    ap (λ p. if has_vector m.kind then Mvd Across (pair_in (m.across -ℤ p) mvd_table) ∷ mvd_element Down last m ∷ [] else []) (predictor_same Across last m (with_blocks m bs) refl)
    ∙ ap (λ p. if has_vector m.kind then mvd_element Across last (with_blocks m bs) ∷ Mvd Down (pair_in (m.down -ℤ p) mvd_table) ∷ [] else []) (predictor_same Down last m (with_blocks m bs) refl)

-- a macroblock so far: its address, kind and MQUANT
abbrev pub begun_macroblock : ℕ → MbKind → Option ℕ → Macroblock
begun_macroblock at k q = record { address = at; kind = k; mquant = q; across = pos 0; down = pos 0; blocks = [] }

pub join3 : (a b c rest : List Element) → a ++ (b ++ (c ++ rest)) ≡ (a ++ (b ++ c)) ++ rest
join3 a b c rest = sym (append_assoc a (b ++ c) rest ∙ ap (λ t. a ++ t) (append_assoc b c rest))

built : (format : Format) (number : ℕ) (last : Option Macroblock) (es : List Element) (m : Macroblock) (left : List Element) → es ≡ Mba (m.address - address_of last) ∷ (Mtype m.kind ∷ (mquant_elements m.mquant ++ left)) → MquantFits m.kind m.mquant → address_of last < m.address → m.address ≤ 33 → (v : ReadsVector format number last m left) → (r : ReadsRest (with_vector m v.a v.d) v.rest) → ReadsMacroblock format number last es
built format number last es m left is mquant rise most v r =
    record {
      m = with_blocks (with_vector m v.a v.d) r.bs;
      rest = r.rest;
      is = is ∙ ap (λ t. Mba (m.address - address_of last) ∷ (Mtype m.kind ∷ t))
          (ap (λ t. mquant_elements m.mquant ++ t) (v.is
          ∙ (ap (λ t. elements_of_vector last (with_vector m v.a v.d) ++ t) r.is
          ∙ ap (λ t. t ++ ((elements_of_pattern (with_blocks (with_vector m v.a v.d) r.bs) ++ blocks_elements r.bs) ++ r.rest)) (vector_same last (with_vector m v.a v.d) r.bs)))
          ∙ join3 (mquant_elements m.mquant) (elements_of_vector last (with_blocks (with_vector m v.a v.d) r.bs)) (elements_of_pattern (with_blocks (with_vector m v.a v.d) r.bs) ++ blocks_elements r.bs) r.rest);
      valid = record { mquant = mquant; across = v.across; down = v.down; six = r.six; blocks = r.fits };
      rise = rise;
      most = most;
    }

-- behind the vector
read_behind : (format : Format) (before all : List Element) (number : ℕ) (last : Option Macroblock) (m : Macroblock) (es : List Element) → IsBehind number last before → address_of last < m.address → m.address ≤ 33 → all ≡ Mba (m.address - address_of last) ∷ (Mtype m.kind ∷ (mquant_elements m.mquant ++ es)) → MquantFits m.kind m.mquant → IsRest format (after (headed before last m) (mquant_elements m.mquant)) es → slot (after (headed before last m) (mquant_elements m.mquant)) ≡ vector_slot m.kind → (v : ReadsVector format number last m es) → ReadsMacroblock format number last all
read_behind format before all number last m es place rise most all_is mquant r at v =
    let place2 = at-vector number last (with_vector m v.a v.d) before place rise at in
    let says = says-vector format (after (headed before last m) (mquant_elements m.mquant)) number last (with_vector m v.a v.d) place.last_is place2 v.across v.down in
    let left = rest-after format (after (headed before last m) (mquant_elements m.mquant)) es (elements_of_vector last (with_vector m v.a v.d)) v.rest r v.is in
    let count : blocks (after (after (headed before last m) (mquant_elements m.mquant)) (elements_of_vector last (with_vector m v.a v.d))) ≡ cond (is_intra m.kind) 6 0 = vector-blocks (after (headed before last m) (mquant_elements m.mquant)) last (with_vector m v.a v.d) ∙ mquant-blocks (headed before last m) m.mquant in
    built format number last all m es all_is mquant rise most v (read-rest format (after (after (headed before last m) (mquant_elements m.mquant)) (elements_of_vector last (with_vector m v.a v.d))) v.rest number (with_vector m v.a v.d) says.1 count left)

-- behind MTYPE
read_headed : (format : Format) (before es all : List Element) (number : ℕ) (last : Option Macroblock) (at : ℕ) (k : MbKind) → IsBehind number last before → address_of last < at → at ≤ 33 → all ≡ Mba (at - address_of last) ∷ (Mtype k ∷ es) → IsRest format (headed before last (begun_macroblock at k None)) es → (q : ReadsMquant (has_mquant k) es) → ReadsMacroblock format number last all
read_headed format before es all number last at k place rise most all_is r q =
    let left = rest-after format (headed before last (begun_macroblock at k None)) es (mquant_elements q.q) q.rest r q.is in
    let at_vector = (quantiser_says format (headed before last (begun_macroblock at k None)) (has_mquant k) k q.q refl refl q.valid).1 in
    let place1 = at-vector number last (begun_macroblock at k q.q) before place rise at_vector in
    let v = read-vector format (after (headed before last (begun_macroblock at k None)) (mquant_elements q.q)) q.rest number last (begun_macroblock at k q.q) place.last_is place1 left in
    read_behind format before all number last (begun_macroblock at k q.q) q.rest place rise most (all_is ∙ ap (λ t. Mba (at - address_of last) ∷ (Mtype k ∷ t)) q.is) q.valid left at_vector v

pub read-macroblock : (format : Format) (before es : List Element) (number : ℕ) (last : Option Macroblock) (n : ℕ) → IsBehind number last before → IsStep n → Stands format before (Mba n) → IsRest format (Mba n ∷ before) es → ReadsMacroblock format number last (Mba n ∷ es)
read-macroblock format before es number last n place step_ stands r =
    let most : address before + n ≤ 33 = ltb-false 33 (address before + n) (one_passed (nat_lt 33 (address before + n)) BadAddress stands.good) in
    let d : n ≡ address_of last + n - address_of last = omega arith in
    let r2 : IsRest format (Mba (address_of last + n - address_of last) ∷ before) es = subst (λ k. IsRest format (Mba k ∷ before) es) d r in
    let more = rest-more format (Mba (address_of last + n - address_of last) ∷ before) es AtMtype refl refl r2 in
    let s = rest-step format (Mba (address_of last + n - address_of last) ∷ before) more.first (Mtype more.takes.0) more.rest more.left more.takes.1 in
    let q = read-mquant format (Mtype more.takes.0 ∷ Mba (address_of last + n - address_of last) ∷ before) more.rest (has_mquant more.takes.0) more.takes.0 refl s.1 in
    read_headed format before more.rest (Mba n ∷ es) number last (address_of last + n) more.takes.0 place (omega (arith, step_.0)) (omega (arith, most, place.address_is)) (ap (λ k. Mba k ∷ es) d ∙ ap (λ t. Mba (address_of last + n - address_of last) ∷ t) (more.is ∙ ap (λ x. x ∷ more.rest) more.takes.1)) s.1 q
