-- The header of a macroblock that is read from its text is that macroblock's.
use Rattle.std.proofs.Common.{◌≡◌, ℕ, zero, suc, ◌+◌, ◌-◌, ◌<◌, ◌≤◌, ◌==◌, ◌&&◌, Bool, true, false, cond, List, [], ◌∷◌, ◌++◌, length, map, drop, replicate, Option, Some, None, refl, sym, ◌∙◌, ap, ap₂, subst, inl, inr, append_assoc, append-nil, ℤ, MatchBool, IsSomeAnd, IfSome, IsNone, IsSome, All, Any, is_some, arith}
use Rattle.std.specs.Prelude.{slice_get, slice_index_or}
use Rattle.std.specs.List.{flat_map}
use Rattle.std.proofs.lemmas.Bool.{false≢true, cases_Bool, cond-false, cond-true}
use Rattle.std.proofs.lemmas.List.{length-map}
use Rattle.pel_model.specs.declared.Format.{Format}
use Rattle.pel_model.specs.declared.MbKind.{MbKind}
use Rattle.pel_model.specs.declared.Why.{Why}
use Rattle.pel_model.specs.Bits.{field, number}
use Rattle.pel_model.specs.Codes.{is_intra, has_mquant, has_vector, has_cbp, is_prefix_free, mba_table}
use Rattle.pel_model.specs.Elements.{mquant_elements, blocks_elements, AreInside}
use Rattle.pel_model.specs.Elements as by_words
use Rattle.pel_model.specs.Grammar.{Element, Mba, Mtype, Mquant, Mvd, Cbp, AtMacroblock, AtCbp, AtDc, AtFirst, slot, kind, blocks, group, address, quantiser, vector_component, block_slot, ones, may_end, next, mba_rows, table_rows, word_row}
use Rattle.pel_model.specs.Records.{Across, Down, Block, Macroblock, quantiser_after}
use Rattle.pel_model.specs.Text.{address_of, word_of, coded_block_pattern, macroblock_text, sent_block_text}
use Rattle.pel_model.specs.Valid.{IsIntraBlock, IsCodedBlock, BlocksFit}
use Rattle.pel_model.specs.Walk.{Reading, Standing, Good, Bad, skipped, after, Goes, read}
use Rattle.pel_model.proofs.BlockElements.{pass_block}
use Rattle.pel_model.proofs.InsideElements.{inside-right}
use Rattle.pel_model.proofs.Walks.{after-append, good_same, goes-append}
use Rattle.vlc_codes.specs.Lookup.{codes_of_rows}
use Rattle.vlc_codes.proofs.FoundRows.{Among, read-row, among-left, among-mapped}
use Rattle.picture_laws.specs.PictureElements.{mvd_pair, elements_of_vector as vector_elements, elements_of_pattern as cbp_elements, elements_of_macroblock as macroblock_elements}
use Rattle.picture_laws.proofs.Blocks.{sent, AreBlocksOf, says-blocks}
use Rattle.picture_laws.proofs.Chains.{goes-walk, walk-goes, next-is, words}
use Rattle.picture_laws.proofs.Macroblocks.{IsBehindVector, quantiser_says, says-vector, at-vector, vector-blocks, mquant-blocks, headed, says-macroblock}
use Rattle.picture_laws.proofs.Patterns.{ones-trues, sent-trues, blocks-intra, blocks-coded, blocks-none}
use Rattle.picture_laws.proofs.Slots.{Takes, IsStep}
use Rattle.picture_laws.proofs.Words.{field-number}
use Rattle.picture_laws.proofs.Written.{found_step}
use Rattle.h261_mb.specs.declared.header.Header.{Header}
use Rattle.h261_mb.specs.declared.state.MbState.{MbState}
use Rattle.h261_mb.specs.Inside.{IsMacroblockSoFar}
use Rattle.h261_mb.specs.State.{Stands, IsHeader, PatternFits, header_elements, state_behind}
use Rattle.ref_decode.specs.Drawing.{IsHeaderOf, ComesNext, IsSentAs}
use Rattle.ref_decode.proofs.Comparing.{compared, none_at_fault}

and_both : (a b : Bool) → (a && b) ≡ true → (a ≡ true) × (b ≡ true)
and_both true true h = (refl, refl)
and_both true false h = absurd cc
and_both false b h = absurd cc

-- ---- walks

pub walk_parts : (next : List Element → Reading → Standing Element) (before : List Element) (r end : Reading) (xs ys : List Element) → Goes next before r (xs ++ ys) end → (mid : Reading) × Goes next before r xs mid × Goes next (after before xs) mid ys end
walk_parts next before r end [] ys p = (r, refl, p)
walk_parts next before r end (x ∷ xs) ys p =
    let q = walk_parts next (x ∷ before) (skipped p.0 r) end xs ys p.2 in (q.0, (p.0, p.1, q.1), q.2)

one_end : (format : Format) (before : List Element) (r end mid : Reading) (xs : List Element) → Goes (next format) before r xs end → Goes (next format) before r xs mid → mid ≡ end
one_end format before r end mid [] p q = q ∙ sym p
one_end format before r end mid (x ∷ xs) p q =
    let s = good_same x x p.0 q.0 (sym p.1 ∙ q.1) in
    one_end format (x ∷ before) (skipped p.0 r) end mid xs p.2 (subst (λ (k : ℕ). Goes (next format) (x ∷ before) (skipped k r) xs mid) (sym s.1) q.2)

-- ---- the first word

mba_free : is_prefix_free (codes_of_rows mba_rows) ≡ true
unfolding mba_table
mba_free = refl

pub mba_read : (n : ℕ) (rest : List Bool) → IsStep n → (len : ℕ) × (read mba_rows (word_of (λ k. k == n) mba_table ++ rest) ≡ Good (Mba n) len)
mba_read n rest is =
    let f = found_step n is in
    let among : Among (word_row f.0.0 (Mba n)) mba_rows = among-left _ (table_rows mba_table Mba) _ (subst (λ k. Among (word_row f.0.0 (Mba k)) (table_rows mba_table Mba)) f.3 (among-mapped (λ row. word_row row.0 (Mba row.1)) f.0 mba_table f.1)) in
    (length f.0.0 + 0, ap (λ w. read mba_rows (w ++ rest)) f.2 ∙ read-row mba_rows (word_row f.0.0 (Mba n)) [] rest mba_free among refl)

-- ---- elements of a header

is_head : Element → Bool
is_head (Mtype k) = true
is_head (Mquant q) = true
is_head (Mvd axis v) = true
is_head (Cbp c) = true
is_head _ = false

all_head : List Element → Bool
all_head [] = true
all_head (e ∷ es) = is_head e && all_head es

heads_append : (xs ys : List Element) → all_head xs ≡ true → all_head ys ≡ true → all_head (xs ++ ys) ≡ true
unfolding all_head
heads_append [] ys p q = q
heads_append (x ∷ xs) ys p q =
    let b = and_both (is_head x) (all_head xs) p in
    ap₂ (λ (s t : Bool). s && t) b.0 (heads_append xs ys b.1 q)

one_head : (xs : List Element) (z : Element) (zs : List Element) → all_head (xs ++ z ∷ zs) ≡ true → is_head z ≡ true
unfolding all_head
one_head [] z zs h = (and_both (is_head z) (all_head zs) h).0
one_head (x ∷ xs) z zs h = one_head xs z zs (and_both (is_head x) (all_head (xs ++ z ∷ zs)) h).1

mquant_heads : (q : Option ℕ) → all_head (mquant_elements q) ≡ true
unfolding all_head is_head
mquant_heads None = refl
mquant_heads (Some q) = refl

vector_heads : (k : MbKind) (a d : ℤ × ℤ) → all_head (by_words.vector_elements k a d) ≡ true
unfolding all_head is_head
vector_heads k a d = elim (cases_Bool (has_vector k)) [
  | inl has ↦ ap all_head (cond-true (has_vector k) (Mvd Across a ∷ Mvd Down d ∷ []) [] has)
  | inr none ↦ ap all_head (cond-false (has_vector k) (Mvd Across a ∷ Mvd Down d ∷ []) [] none)
]

cbp_heads : (k : MbKind) (c : ℕ) → all_head (by_words.cbp_elements k c) ≡ true
unfolding all_head is_head
cbp_heads k c = elim (cases_Bool (has_cbp k)) [
  | inl has ↦ ap all_head (cond-true (has_cbp k) (Cbp c ∷ []) [] has)
  | inr none ↦ ap all_head (cond-false (has_cbp k) (Cbp c ∷ []) [] none)
]

-- behind MBA
abbrev behind_mba : MbKind → Option ℕ → (a d : ℤ × ℤ) → ℕ → List Element
behind_mba k q a d c = Mtype k ∷ (mquant_elements q ++ (by_words.vector_elements k a d ++ by_words.cbp_elements k c))

header_heads : (k : MbKind) (q : Option ℕ) (a d : ℤ × ℤ) (c : ℕ) → all_head (behind_mba k q a d c) ≡ true
unfolding all_head is_head
header_heads k q a d c =
    heads_append (mquant_elements q) (by_words.vector_elements k a d ++ by_words.cbp_elements k c) (mquant_heads q)
    (heads_append (by_words.vector_elements k a d) (by_words.cbp_elements k c) (vector_heads k a d) (cbp_heads k c))

-- no block, macroblock or group begins with any of them
no_head : (k : MbKind) (n : ℕ) (z : Element) → Takes (block_slot k n) z → is_head z ≡ false
unfolding is_head
no_head k zero z t = elim t [
  | inl a ↦ ap is_head a.2
  | inr a ↦ elim a [ inl b ↦ ap is_head b | inr b ↦ ap is_head b ]
]
no_head k (suc n) z t = elim (cases_Bool (is_intra k)) [
  | inl e ↦ let u : Takes AtDc z = subst (λ s. Takes s z) (cond-true (is_intra k) AtDc AtFirst e) t in ap is_head u.2
  | inr e ↦ let u : Takes AtFirst z = subst (λ s. Takes s z) (cond-false (is_intra k) AtDc AtFirst e) t in ap is_head u.2
]

heads_more : (format : Format) (before : List Element) (x y : Element) (xs ys : List Element) (end mid : Reading) (k : MbKind) (n : ℕ) (more : List Element) → y ∷ ys ≡ (x ∷ xs) ++ more → Goes (next format) (after before (x ∷ xs)) end more mid → slot (after before (x ∷ xs)) ≡ block_slot k n → all_head ys ≡ true → y ∷ ys ≡ x ∷ xs
heads_more format before x y xs ys end mid k n [] is walk due heads = is ∙ append-nil (x ∷ xs)
heads_more format before x y xs ys end mid k n (z ∷ zs) is walk due heads =
    let tail : ys ≡ xs ++ z ∷ zs = ap (drop 1) is in
    let head : is_head z ≡ true = one_head xs z zs (ap all_head (sym tail) ∙ heads) in
    let s = next-is format (after before (x ∷ xs)) end z walk.0 walk.1 in
    absurd (false≢true (sym (no_head k n z (subst (λ s. Takes s z) due s.0.takes)) ∙ head))

-- two headers that are read at one place are one
heads_same : (format : Format) (before : List Element) (r end mid : Reading) (x y : Element) (xs ys : List Element) (k l : MbKind) (n m : ℕ) → Goes (next format) before r (x ∷ xs) end → Goes (next format) before r (y ∷ ys) mid → slot (after before (x ∷ xs)) ≡ block_slot k n → slot (after before (y ∷ ys)) ≡ block_slot l m → all_head xs ≡ true → all_head ys ≡ true → y ∷ ys ≡ x ∷ xs
heads_same format before r end mid x y xs ys k l n m p q due other heads heads' = elim (compared (next format) before r end mid (x ∷ xs) (y ∷ ys) p q) [
  | inl on ↦ heads_more format before x y xs ys end mid k n on.more on.is on.walk due heads'
  | inr on ↦ sym (heads_more format before y x ys xs mid end l m on.more on.is on.walk other heads)
]

-- ---- what the elements of a header say

head_end : (before : List Element) (d : ℕ) (k : MbKind) (q : Option ℕ) (a v : ℤ × ℤ) (c : ℕ) → after before (header_elements d k q a v c) ≡ after (after (after (Mtype k ∷ Mba d ∷ before) (mquant_elements q)) (by_words.vector_elements k a v)) (by_words.cbp_elements k c)
head_end before d k q a v c =
    after-append (Mtype k ∷ Mba d ∷ before) (mquant_elements q) (by_words.vector_elements k a v ++ by_words.cbp_elements k c)
    ∙ after-append (after (Mtype k ∷ Mba d ∷ before) (mquant_elements q)) (by_words.vector_elements k a v) (by_words.cbp_elements k c)

quantiser_mquant : (before : List Element) (q : Option ℕ) → quantiser (after before (mquant_elements q)) ≡ quantiser_after (quantiser before) q
quantiser_mquant before None = refl
quantiser_mquant before (Some q) = refl

quantiser_vector : (before : List Element) (k : MbKind) (a d : ℤ × ℤ) → quantiser (after before (by_words.vector_elements k a d)) ≡ quantiser before
quantiser_vector before k a d = elim (cases_Bool (has_vector k)) [
  | inl has ↦ ap (λ es. quantiser (after before es)) (cond-true (has_vector k) (Mvd Across a ∷ Mvd Down d ∷ []) [] has)
  | inr none ↦ ap (λ es. quantiser (after before es)) (cond-false (has_vector k) (Mvd Across a ∷ Mvd Down d ∷ []) [] none)
]

quantiser_cbp : (before : List Element) (k : MbKind) (c : ℕ) → quantiser (after before (by_words.cbp_elements k c)) ≡ quantiser before
quantiser_cbp before k c = elim (cases_Bool (has_cbp k)) [
  | inl has ↦ ap (λ es. quantiser (after before es)) (cond-true (has_cbp k) (Cbp c ∷ []) [] has)
  | inr none ↦ ap (λ es. quantiser (after before es)) (cond-false (has_cbp k) (Cbp c ∷ []) [] none)
]

-- the pattern that stands last
pattern_of : List Element → ℕ
pattern_of (Cbp c ∷ es) = c
pattern_of _ = 0

pattern_last : (before : List Element) (k : MbKind) (c : ℕ) → has_cbp k ≡ true → pattern_of (after before (by_words.cbp_elements k c)) ≡ c
unfolding pattern_of
pattern_last before k c has = ap (λ es. pattern_of (after before es)) (cond-true (has_cbp k) (Cbp c ∷ []) [] has)

-- ---- the flags of blocks

at_most : (bs : List (Option Block)) → sent bs ≤ length bs
at_most [] = omega arith
at_most (None ∷ bs) = omega (arith, at_most bs)
at_most (Some b ∷ bs) = omega (arith, at_most bs)

all_sent : (bs : List (Option Block)) → sent bs ≡ length bs → map is_some bs ≡ replicate (length bs) true
all_sent [] h = refl
all_sent (None ∷ bs) h = absurd (omega (arith, h, at_most bs))
all_sent (Some b ∷ bs) h = ap (λ t. true ∷ t) (all_sent bs (omega (arith, h)))

none_sent : (bs : List (Option Block)) → sent bs ≡ 0 → map is_some bs ≡ replicate (length bs) false
none_sent [] h = refl
none_sent (None ∷ bs) h = ap (λ t. false ∷ t) (none_sent bs h)
none_sent (Some b ∷ bs) h = absurd (omega (arith, h))

all_flags : field 63 6 ≡ replicate 6 true
unfolding field
all_flags = refl

no_flags : field 0 6 ≡ replicate 6 false
unfolding field
no_flags = refl

flag_at : (bs : List (Option Block)) (k : ℕ) → k < length bs → slice_get (map is_some bs) k ≡ Some (is_some (slice_index_or bs k None))
flag_at [] k h = absurd (omega (arith, h))
flag_at (b ∷ bs) zero h = refl
flag_at (b ∷ bs) (suc k) h = flag_at bs k (omega (arith, h))

-- ---- a header behind its elements

-- what is known behind the header of a macroblock
pub record IsDue (number : ℕ) (m : Macroblock) (before : List Element) : Type 0 where
  pub due : slot before ≡ block_slot m.kind (sent m.blocks)
  pub count_is : blocks before ≡ sent m.blocks
  pub kind_is : kind before ≡ m.kind
  pub group_is : group before ≡ number
  pub address_is : address before ≡ m.address
  pub across_is : vector_component Across before ≡ m.across
  pub down_is : vector_component Down before ≡ m.down

-- which blocks are sent, by the kind
pub record SendsBlocks (m : Macroblock) : Type 0 where
  pub blocks_of : AreBlocksOf (is_intra m.kind) m.blocks
  pub intra : is_intra m.kind ≡ true → sent m.blocks ≡ length m.blocks
  pub none : is_intra m.kind ≡ false → has_cbp m.kind ≡ false → sent m.blocks ≡ 0

pub sends_blocks : (m : Macroblock) → BlocksFit m.kind m.blocks → SendsBlocks m
sends_blocks m fit = elim (cases_Bool (is_intra m.kind)) [
  | inl intra ↦
      let all = subst (λ b. MatchBool b (All (λ b. IsSomeAnd b IsIntraBlock) m.blocks) (MatchBool (has_cbp m.kind) (Any IsSome m.blocks × All (λ b. IfSome b IsCodedBlock) m.blocks) (All IsNone m.blocks))) intra fit in
      let r = blocks-intra m.blocks all in
      record {
        blocks_of = subst (λ b. AreBlocksOf b m.blocks) (sym intra) r.1;
        intra = λ _. r.0;
        none = λ inter. absurd (false≢true (sym inter ∙ intra));
      }
  | inr inter ↦
      let rest = subst (λ b. MatchBool b (All (λ b. IsSomeAnd b IsIntraBlock) m.blocks) (MatchBool (has_cbp m.kind) (Any IsSome m.blocks × All (λ b. IfSome b IsCodedBlock) m.blocks) (All IsNone m.blocks))) inter fit in
      elim (cases_Bool (has_cbp m.kind)) [
        | inl has ↦
            let coded = subst (λ b. MatchBool b (Any IsSome m.blocks × All (λ b. IfSome b IsCodedBlock) m.blocks) (All IsNone m.blocks)) has rest in
            record {
              blocks_of = subst (λ b. AreBlocksOf b m.blocks) (sym inter) (blocks-coded m.blocks coded.1);
              intra = λ intra. absurd (false≢true (sym inter ∙ intra));
              none = λ _ none. absurd (false≢true (sym none ∙ has));
            }
        | inr none ↦
            let all = subst (λ b. MatchBool b (Any IsSome m.blocks × All (λ b. IfSome b IsCodedBlock) m.blocks) (All IsNone m.blocks)) none rest in
            let r = blocks-none (is_intra m.kind) m.blocks all in
            record {
              blocks_of = r.1;
              intra = λ intra. absurd (false≢true (sym inter ∙ intra));
              none = λ _ _. r.0;
            }
      ]
]

due_behind : (number : ℕ) (m : Macroblock) (before : List Element) → IsBehindVector number m before → blocks before ≡ cond (is_intra m.kind) 6 0 → length m.blocks ≡ 6 → BlocksFit m.kind m.blocks → IsDue number m (after before (cbp_elements m))
due_behind number m before place few six fit = elim (cases_Bool (has_cbp m.kind)) [
  | inl has ↦
      let flags : length (map is_some m.blocks) ≡ 6 = length-map m.blocks is_some ∙ six in
      let ones_are : ones (coded_block_pattern m.blocks) ≡ sent m.blocks = ones-trues (map is_some m.blocks) flags ∙ sent-trues m.blocks in
      let e : Cbp (coded_block_pattern m.blocks) ∷ [] ≡ cbp_elements m = sym (cond-true (has_cbp m.kind) (Cbp (coded_block_pattern m.blocks) ∷ []) [] has) in
      subst (λ es. IsDue number m (after before es)) e (record {
        due = ap (λ k. block_slot k (ones (coded_block_pattern m.blocks))) place.kind_is ∙ ap (block_slot m.kind) ones_are;
        count_is = ones_are;
        kind_is = place.kind_is;
        group_is = place.group_is;
        address_is = place.address_is;
        across_is = place.vector_is Across;
        down_is = place.vector_is Down;
      })
  | inr none ↦
      let s = sends_blocks m fit in
      let count : sent m.blocks ≡ cond (is_intra m.kind) 6 0 = elim (cases_Bool (is_intra m.kind)) [
        | inl intra ↦ s.intra intra ∙ (six ∙ ap (λ b. cond b 6 0) (sym intra))
        | inr inter ↦ s.none inter none ∙ ap (λ b. cond b 6 0) (sym inter)
      ] in
      let e : [] ≡ cbp_elements m = sym (cond-false (has_cbp m.kind) (Cbp (coded_block_pattern m.blocks) ∷ []) [] none) in
      subst (λ es. IsDue number m (after before es)) e (record {
        due = place.at ∙ (ap (λ b. cond b AtCbp (block_slot m.kind (cond (is_intra m.kind) 6 0))) none ∙ ap (block_slot m.kind) (sym count));
        count_is = few ∙ sym count;
        kind_is = place.kind_is;
        group_is = place.group_is;
        address_is = place.address_is;
        across_is = place.vector_is Across;
        down_is = place.vector_is Down;
      })
]

-- ---- a macroblock that comes next

-- the elements of its header
abbrev pub own_header : Option Macroblock → Macroblock → List Element
own_header last m = header_elements (m.address - address_of last) m.kind m.mquant (mvd_pair Across last m) (mvd_pair Down last m) (coded_block_pattern m.blocks)

pub own_due : (format : Format) (number : ℕ) (last : Option Macroblock) (m : Macroblock) (before : List Element) → ComesNext format number last m before → IsDue number m (after before (own_header last m))
own_due format number last m before is =
    let q = quantiser_says format (headed before last m) (has_mquant m.kind) m.kind m.mquant refl refl is.valid.mquant in
    let v_at = at-vector number last m before is.behind is.rises q.1 in
    let v = says-vector format (after (headed before last m) (mquant_elements m.mquant)) number last m is.behind.last_is v_at is.valid.across is.valid.down in
    subst (λ b. IsDue number m b) (sym (head_end before (m.address - address_of last) m.kind m.mquant (mvd_pair Across last m) (mvd_pair Down last m) (coded_block_pattern m.blocks)))
    (due_behind number m (after (after (headed before last m) (mquant_elements m.mquant)) (vector_elements last m)) v.1 (vector-blocks (after (headed before last m) (mquant_elements m.mquant)) last m ∙ mquant-blocks (headed before last m) m.mquant) is.valid.six is.valid.blocks)

-- its elements are those of its header and of its blocks
parts_are : (last : Option Macroblock) (m : Macroblock) → macroblock_elements last m ≡ own_header last m ++ blocks_elements m.blocks
parts_are last m =
    ap (λ t. Mba (m.address - address_of last) ∷ Mtype m.kind ∷ t)
    (ap (λ t. mquant_elements m.mquant ++ t) (sym (append_assoc (vector_elements last m) (cbp_elements m) (blocks_elements m.blocks)))
    ∙ sym (append_assoc (mquant_elements m.mquant) (vector_elements last m ++ cbp_elements m) (blocks_elements m.blocks)))

-- where its text stands, its header and its blocks do
pub record HasParts (format : Format) (last : Option Macroblock) (m : Macroblock) (before : List Element) (rest : List Bool) (r : Reading) : Type 0 where
  pub mid : Reading
  pub end : Reading
  pub header : Goes (next format) before r (own_header last m) mid
  pub blocks : Goes (next format) (after before (own_header last m)) mid (blocks_elements m.blocks) end
  pub rest_is : end.0 ≡ rest

pub has_parts : (format : Format) (number : ℕ) (last : Option Macroblock) (m : Macroblock) (before : List Element) (rest : List Bool) (r : Reading) → ComesNext format number last m before → r.0 ≡ macroblock_text last m ++ rest → HasParts format last m before rest r
has_parts format number last m before rest r is bits =
    let s = (says-macroblock format number last m before is.behind is.rises is.most is.valid).0 in
    let goes : Goes (next format) before r (macroblock_elements last m) (rest, r.1 + length (macroblock_text last m)) = walk-goes format before r (macroblock_elements last m) (rest, r.1 + length (macroblock_text last m)) (record {
      chain = s.chain;
      bits = bits ∙ ap (λ t. t ++ rest) (sym s.text);
      place = ap (λ t. r.1 + length t) (sym s.text);
    }) in
    let p = walk_parts (next format) before r (rest, r.1 + length (macroblock_text last m)) (own_header last m) (blocks_elements m.blocks) (subst (λ es. Goes (next format) before r es (rest, r.1 + length (macroblock_text last m))) (parts_are last m) goes) in
    record { mid = p.0; end = (rest, r.1 + length (macroblock_text last m)); header = p.1; blocks = p.2; rest_is = refl }

-- the header that was read is its own
pub header_same : (format : Format) (number : ℕ) (last : Option Macroblock) (m : Macroblock) (before es : List Element) (header : Header) (r mid new : Reading) → ComesNext format number last m before → Goes (next format) before r (own_header last m) mid → Goes (next format) before r es new → IsHeader number before header es new → (es ≡ own_header last m) × (new ≡ mid)
header_same format number last m before es header r mid new is goes read found =
    let due = own_due format number last m before is in
    let own_heads = header_heads m.kind m.mquant (mvd_pair Across last m) (mvd_pair Down last m) (coded_block_pattern m.blocks) in
    let heads = header_heads header.kind found.mquant found.across found.down header.pattern in
    let read' = subst (λ xs. Goes (next format) before r xs new) found.elements read in
    let found_due = subst (λ xs. slot (after before xs) ≡ block_slot header.kind (ones header.pattern)) found.elements found.due in
    let same : es ≡ own_header last m = found.elements ∙ heads_same format before r mid new _ _ _ _ m.kind header.kind (sent m.blocks) (ones header.pattern) goes read' due.due found_due own_heads heads in
    (same, one_end format before r mid new (own_header last m) goes (subst (λ xs. Goes (next format) before r xs new) same read))

-- which blocks a header sends
sends_is : (m : Macroblock) (header : Header) → length m.blocks ≡ 6 → BlocksFit m.kind m.blocks → header.kind ≡ m.kind → PatternFits header.kind header.pattern → (has_cbp m.kind ≡ true → header.pattern ≡ coded_block_pattern m.blocks) → field header.pattern 6 ≡ map is_some m.blocks
sends_is m header six fit kind_is pattern coded =
    let s = sends_blocks m fit in
    let fits = subst (λ k. PatternFits k header.pattern) kind_is pattern in
    elim (cases_Bool (is_intra m.kind)) [
      | inl intra ↦
          let all : header.pattern ≡ 63 = subst (λ b. MatchBool b (header.pattern ≡ 63) (MatchBool (has_cbp m.kind) (header.pattern < 64) (header.pattern ≡ 0))) intra fits in
          ap (λ c. field c 6) all ∙ (all_flags ∙ (ap (λ n. replicate n true) (sym six) ∙ sym (all_sent m.blocks (s.intra intra))))
      | inr inter ↦ elim (cases_Bool (has_cbp m.kind)) [
        | inl has ↦
            let flags : length (map is_some m.blocks) ≡ 6 = length-map m.blocks is_some ∙ six in
            ap (λ c. field c 6) (coded has) ∙ (ap (field (number (map is_some m.blocks))) (sym flags) ∙ field-number (map is_some m.blocks))
        | inr none ↦
            let rest = subst (λ b. MatchBool b (header.pattern ≡ 63) (MatchBool (has_cbp m.kind) (header.pattern < 64) (header.pattern ≡ 0))) inter fits in
            let nothing : header.pattern ≡ 0 = subst (λ b. MatchBool b (header.pattern < 64) (header.pattern ≡ 0)) none rest in
            ap (λ c. field c 6) nothing ∙ (no_flags ∙ (ap (λ n. replicate n false) (sym six) ∙ sym (none_sent m.blocks (s.none inter none))))
      ]
    ]

own_quantiser : (before : List Element) (last : Option Macroblock) (m : Macroblock) → quantiser (after before (own_header last m)) ≡ quantiser_after (quantiser before) m.mquant
own_quantiser before last m =
    ap quantiser (head_end before (m.address - address_of last) m.kind m.mquant (mvd_pair Across last m) (mvd_pair Down last m) (coded_block_pattern m.blocks))
    ∙ (quantiser_cbp (after (after (headed before last m) (mquant_elements m.mquant)) (vector_elements last m)) m.kind (coded_block_pattern m.blocks)
    ∙ (quantiser_vector (after (headed before last m) (mquant_elements m.mquant)) m.kind (mvd_pair Across last m) (mvd_pair Down last m)
    ∙ quantiser_mquant (headed before last m) m.mquant))

pub header_is : (format : Format) (number : ℕ) (last : Option Macroblock) (m : Macroblock) (before es : List Element) (state : MbState) (header : Header) (new : Reading) → ComesNext format number last m before → Stands number state before → IsHeader number before header es new → es ≡ own_header last m → IsHeaderOf m (quantiser_after state.quant m.mquant) header
header_is format number last m before es state header new is stands found same =
    let due = own_due format number last m before is in
    let kind_is : header.kind ≡ m.kind = sym found.kind_is ∙ (ap (λ xs. kind (after before xs)) same ∙ due.kind_is) in
    let pattern : has_cbp m.kind ≡ true → header.pattern ≡ coded_block_pattern m.blocks = λ has.
    sym (pattern_last (after (after (Mtype header.kind ∷ Mba found.difference ∷ before) (mquant_elements found.mquant)) (by_words.vector_elements header.kind found.across found.down)) header.kind header.pattern (ap has_cbp kind_is ∙ has))
    ∙ (ap pattern_of (sym (head_end before found.difference header.kind found.mquant found.across found.down header.pattern))
    ∙ (ap (λ xs. pattern_of (after before xs)) (sym found.elements ∙ same)
    ∙ (ap pattern_of (head_end before (m.address - address_of last) m.kind m.mquant (mvd_pair Across last m) (mvd_pair Down last m) (coded_block_pattern m.blocks))
    ∙ pattern_last (after (after (headed before last m) (mquant_elements m.mquant)) (vector_elements last m)) m.kind (coded_block_pattern m.blocks) has))) in
    let flags = sends_is m header is.valid.six is.valid.blocks kind_is found.pattern pattern in
    record {
      address_is = sym found.say.address_is ∙ (ap (λ xs. address (after before xs)) same ∙ due.address_is);
      kind_is = kind_is;
      quant_is = sym found.say.quant_is ∙ (ap (λ xs. quantiser (after before xs)) same ∙ (own_quantiser before last m ∙ ap (λ q. quantiser_after q m.mquant) stands.say.quant_is));
      across_is = sym found.say.across_is ∙ (ap (λ xs. vector_component Across (after before xs)) same ∙ due.across_is);
      down_is = sym found.say.down_is ∙ (ap (λ xs. vector_component Down (after before xs)) same ∙ due.down_is);
      sends = λ k h. ap (λ xs. slice_get xs k) flags ∙ flag_at m.blocks k (omega (arith, h, is.valid.six));
    }

-- ---- no fault is met

not_empty : (x : Element) (xs : List Element) → x ∷ xs ≡ [] → ⊥
not_empty x xs is = omega (arith, ap length is)

begins_none : (format : Format) (z : Element) (zs : List Element) → Takes AtMacroblock z → AreInside (z ∷ zs) → ⊥
begins_none format z zs t inside = elim t [
  | inl a ↦ subst (λ e. AreInside (e ∷ zs)) a.2 inside
  | inr a ↦ elim a [ inl b ↦ subst (λ e. AreInside (e ∷ zs)) b inside | inr b ↦ subst (λ e. AreInside (e ∷ zs)) b inside ]
]

-- elements that are a macroblock's are no front of one
whole_front : (last : Option Macroblock) (m : Macroblock) (before es : List Element) → slot (after before (macroblock_elements last m)) ≡ AtMacroblock → IsMacroblockSoFar before es → es ≡ macroblock_elements last m → ⊥
whole_front last m before es at part is = elim part.1 [
  | inl none ↦ not_empty _ _ (sym is ∙ none)
  | inr on ↦ false≢true (sym on ∙ (ap (λ xs. may_end (slot (after before xs))) is ∙ ap may_end at))
]

goes_past : (format : Format) (last : Option Macroblock) (m : Macroblock) (before es : List Element) (end new : Reading) (more : List Element) → slot (after before (macroblock_elements last m)) ≡ AtMacroblock → IsMacroblockSoFar before es → es ≡ macroblock_elements last m ++ more → Goes (next format) (after before (macroblock_elements last m)) end more new → ⊥
goes_past format last m before es end new [] at part is walk = whole_front last m before es at part (is ∙ append-nil (macroblock_elements last m))
goes_past format last m before es end new (z ∷ zs) at part is walk =
    let s = next-is format (after before (macroblock_elements last m)) end z walk.0 walk.1 in
    let inside : AreInside (drop 1 (macroblock_elements last m) ++ (z ∷ zs)) = subst (λ xs. AreInside (drop 1 xs)) is part.0 in
    begins_none format z zs (subst (λ s. Takes s z) at s.0.takes) (inside-right (drop 1 (macroblock_elements last m)) (z ∷ zs) inside)

pub header_meets_no_fault : (format : Format) (number : ℕ) (last : Option Macroblock) (m : Macroblock) (before es : List Element) (rest : List Bool) (r new : Reading) (why : Why) → ComesNext format number last m before → HasParts format last m before rest r → Goes (next format) before r es new → IsMacroblockSoFar before es → next format (after before es) new ≡ Bad why → ⊥
header_meets_no_fault format number last m before es rest r new why is parts read part bad =
    let at = (says-macroblock format number last m before is.behind is.rises is.most is.valid).1.at in
    let whole : Goes (next format) before r (macroblock_elements last m) parts.end = subst (λ xs. Goes (next format) before r xs parts.end) (sym (parts_are last m)) (goes-append (next format) before r parts.mid parts.end (own_header last m) (blocks_elements m.blocks) parts.header parts.blocks) in
    elim (compared (next format) before r parts.end new (macroblock_elements last m) es whole read) [
      | inl on ↦ goes_past format last m before es parts.end new on.more at part on.is on.walk
      | inr on ↦ whole_front last m before es at part (sym (none_at_fault (next format) before new parts.end es (macroblock_elements last m) why on bad))
    ]

-- ---- what a reader of macroblocks has to know

-- the word of its MBA stands there
pub first_word : (format : Format) (last : Option Macroblock) (m : Macroblock) (before : List Element) (r mid : Reading) → address_of last < m.address → m.address ≤ 33 → Goes (next format) before r (own_header last m) mid → (len : ℕ) × (read mba_rows r.0 ≡ Good (Mba (m.address - address_of last)) len)
first_word format last m before r mid rises most goes =
    let w = goes-walk format before r (own_header last m) mid goes in
    let q = mba_read (m.address - address_of last) (words (Mba (m.address - address_of last) ∷ before) (drop 1 (own_header last m)) ++ mid.0) (omega (arith, rises), omega (arith, most)) in
    (q.0, ap (read mba_rows) (w.bits ∙ append_assoc (word_of (λ k. k == m.address - address_of last) mba_table) (words (Mba (m.address - address_of last) ∷ before) (drop 1 (own_header last m))) mid.0) ∙ q.1)

-- behind its header stand the texts of its blocks
pub blocks_follow : (format : Format) (number : ℕ) (last : Option Macroblock) (m : Macroblock) (before : List Element) (rest : List Bool) (r : Reading) (is : ComesNext format number last m before) (parts : HasParts format last m before rest r) → parts.mid.0 ≡ flat_map sent_block_text m.blocks ++ rest
blocks_follow format number last m before rest r is parts =
    let due = own_due format number last m before is in
    let s = sends_blocks m is.valid.blocks in
    let says = says-blocks format (after before (own_header last m)) m.blocks (due.due ∙ ap (λ k. block_slot k (sent m.blocks)) (sym due.kind_is)) due.count_is (subst (λ k. AreBlocksOf (is_intra k) m.blocks) (sym due.kind_is) s.blocks_of) in
    let w = goes-walk format (after before (own_header last m)) parts.mid (blocks_elements m.blocks) parts.end parts.blocks in
    w.bits ∙ ap₂ (λ (a b : List Bool). a ++ b) says.text parts.rest_is

-- each block is as its macroblock's kind asks
pub sent_as : (intra : Bool) (bs : List (Option Block)) (k : ℕ) → AreBlocksOf intra bs → IsSentAs intra (slice_index_or bs k None)
sent_as intra [] k h = tt
sent_as intra (None ∷ bs) zero h = tt
sent_as intra (Some b ∷ bs) zero h = h.0
sent_as intra (None ∷ bs) (suc k) h = sent_as intra bs k h
sent_as intra (Some b ∷ bs) (suc k) h = sent_as intra bs k h.1

pub block_split : (bs : List (Option Block)) (k : ℕ) → k < length bs → flat_map sent_block_text (drop k bs) ≡ sent_block_text (slice_index_or bs k None) ++ flat_map sent_block_text (drop (k + 1) bs)
block_split [] k h = absurd (omega (arith, h))
block_split (b ∷ bs) zero h = refl
block_split (b ∷ bs) (suc k) h = let e : suc k + 1 ≡ suc (k + 1) = omega arith in rw e (block_split bs k (omega (arith, h)))

quantiser_blocks : (before : List Element) (bs : List (Option Block)) → quantiser (after before (blocks_elements bs)) ≡ quantiser before
quantiser_blocks before [] = refl
quantiser_blocks before (None ∷ bs) = quantiser_blocks before bs
quantiser_blocks before (Some b ∷ bs) =
    ap quantiser (after-append before (by_words.block_elements b) (blocks_elements bs))
    ∙ (quantiser_blocks (after before (by_words.block_elements b)) bs ∙ ap (λ (s : MbKind × ℕ × ℕ × ℕ × ℤ × ℤ). s.3) (pass_block before b))

-- the state behind the macroblock
pub stands_behind : (format : Format) (number : ℕ) (last : Option Macroblock) (m : Macroblock) (before : List Element) (state : MbState) (header : Header) → ComesNext format number last m before → Stands number state before → IsHeaderOf m (quantiser_after state.quant m.mquant) header → Stands number (state_behind header) (after before (macroblock_elements last m))
stands_behind format number last m before state header is stands of =
    let behind = (says-macroblock format number last m before is.behind is.rises is.most is.valid).1 in
    let quant : quantiser (after before (macroblock_elements last m)) ≡ quantiser_after state.quant m.mquant =
    ap (λ xs. quantiser (after before xs)) (parts_are last m)
    ∙ (ap quantiser (after-append before (own_header last m) (blocks_elements m.blocks))
    ∙ (quantiser_blocks (after before (own_header last m)) m.blocks
    ∙ (own_quantiser before last m ∙ ap (λ q. quantiser_after q m.mquant) stands.say.quant_is))) in
    record {
      due = behind.at;
      say = record {
        number_is = behind.group_is;
        address_is = behind.address_is ∙ sym of.address_is;
        quant_is = quant ∙ sym of.quant_is;
        across_is = behind.vector_is Across ∙ sym of.across_is;
        down_is = behind.vector_is Down ∙ sym of.down_is;
      };
    }

-- behind the last block nothing is left of the macroblock
pub no_more_blocks : (bs : List (Option Block)) → length bs ≡ 6 → flat_map sent_block_text (drop 6 bs) ≡ []
no_more_blocks bs six = ap (flat_map sent_block_text) (drop_none bs 6 (omega (arith, six)))
  where
    drop_none : (bs : List (Option Block)) (k : ℕ) → length bs ≤ k → drop k bs ≡ []
    drop_none [] zero h = refl
    drop_none [] (suc k) h = refl
    drop_none (b ∷ bs) zero h = absurd (omega (arith, h))
    drop_none (b ∷ bs) (suc k) h = drop_none bs k (omega (arith, h))
