-- The picture that elements tell, as a function of them: it gives back each picture from its elements.
use Rattle.std.proofs.Common.{◌≡◌, ℕ, zero, suc, ◌+◌, ◌-◌, ◌<◌, ◌≤◌, ◌==◌, Bool, true, false, cond, List, [], ◌∷◌, ◌++◌, length, map, take, drop, get_or, replicate, Option, Some, None, refl, sym, ◌∙◌, ap, subst, inl, inr, append_assoc, ℤ, pos, ◌-ℤ◌, nat_abs, MatchBool, IsSomeAnd, IfSome, IsNone, IsSome, All, Any, is_some, arith}
use Rattle.std.proofs.lemmas.List.Elements.{All-head, All-tail}
use Rattle.std.proofs.lemmas.Bool.{false≢true, eqb-true, eq-eqb, cases_Bool, cond-false, cond-true}
use Rattle.std.proofs.lemmas.List.{length-append, length-map}
use Rattle.pel_model.specs.declared.Format.{Format}
use Rattle.pel_model.specs.declared.MbKind.{MbKind}
use Rattle.pel_model.specs.declared.MbKind.TheVariants.{Intra}
use Rattle.pel_model.specs.Codes.{is_intra, has_mquant, has_vector, has_cbp, mvd_table}
use Rattle.pel_model.specs.Bits.{field, number}
use Rattle.pel_model.specs.Records.{Across, Down, Coefficient, Block, Macroblock, Group, Picture, component}
use Rattle.pel_model.specs.Text.{address_of, predictor, coded_block_pattern}
use Rattle.pel_model.specs.Valid.{IsQuantiser, ComponentFits, IsIntraBlock, IsCodedBlock, BlocksFit, IsValidMacroblock, AddressesRise, IsValidGroup, IsValid, group_numbers}
use Rattle.pel_model.specs.Spelling.{GroupForm, LeftOut, Sent, Form, GroupsFit}
use Rattle.pel_model.specs.Grammar.{Element, Psc, Tr, Ptype, Pei, Pspare, Gbsc, Gn, Gquant, Gei, Gspare, Stuffing, Mba, Mtype, Mquant, Mvd, Cbp, Dc, Tcoeff, Eob, component_from}
use Rattle.pel_model.specs.Elements.{block_elements, blocks_elements, mquant_elements, spare_elements}
use Rattle.picture_laws.specs.SoFar.{IsSentBefore}
use Rattle.picture_laws.specs.PictureElements.{pair_in, mvd_element, elements_of_vector, elements_of_pattern, elements_of_macroblock, elements_of_macroblocks, elements_of_group, elements_of_groups, elements_of_picture, Tells}
use Rattle.picture_laws.proofs.Words.{field-number}
use Rattle.picture_laws.proofs.Vectors.{pair-of, predictor-small}
use Rattle.picture_laws.proofs.Macroblocks.{component_small, both_axes, body}
use Rattle.picture_laws.proofs.ReadMacroblocks.{predictor_same, begun_macroblock, join3}
use Rattle.picture_laws.proofs.Groups.{RiseFrom}
use Rattle.picture_laws.proofs.ReadGroups.{empty}
use Rattle.picture_laws.proofs.Pictures.{valid-rise, take_all}

-- ---- blocks

told_coefficients : List Element → List Coefficient × List Element
told_coefficients [] = ([], [])
told_coefficients (Tcoeff c ∷ es) = (c ∷ (told_coefficients es).0, (told_coefficients es).1)
told_coefficients (_ ∷ es) = ([], es)

coefficients_again : (cs : List Coefficient) (rest : List Element) → told_coefficients (map Tcoeff cs ++ (Eob ∷ rest)) ≡ (cs, rest)
unfolding told_coefficients
coefficients_again [] rest = refl
coefficients_again (c ∷ cs) rest = ap (λ (r : List Coefficient × List Element). (c ∷ r.0, r.1)) (coefficients_again cs rest)

abbrev with_dc : Option ℕ → List Coefficient × List Element → Block × List Element
with_dc dc r = (record { dc = dc; coefficients = r.0 }, r.1)

told_block : List Element → Block × List Element
told_block (Dc n ∷ es) = with_dc (Some n) (told_coefficients es)
told_block es = with_dc None (told_coefficients es)

block_parts : (dc : Option ℕ) (cs : List Coefficient) (rest : List Element) → told_block (block_elements (record { dc = dc; coefficients = cs }) ++ rest) ≡ (record { dc = dc; coefficients = cs }, rest)
unfolding told_block
block_parts (Some n) cs rest = ap (λ t. with_dc (Some n) (told_coefficients t)) (append_assoc (map Tcoeff cs) (Eob ∷ []) rest) ∙ ap (with_dc (Some n)) (coefficients_again cs rest)
block_parts None [] rest = ap (with_dc None) (coefficients_again [] rest)
block_parts None (c ∷ cs) rest = ap (λ t. with_dc None (told_coefficients (Tcoeff c ∷ t))) (append_assoc (map Tcoeff cs) (Eob ∷ []) rest) ∙ ap (with_dc None) (coefficients_again (c ∷ cs) rest)

block_again : (b : Block) (rest : List Element) → told_block (block_elements b ++ rest) ≡ (b, rest)
block_again b rest = block_parts b.dc b.coefficients rest

told_blocks : List Bool → List Element → List (Option Block) × List Element
told_blocks [] es = ([], es)
told_blocks (false ∷ flags) es = (None ∷ (told_blocks flags es).0, (told_blocks flags es).1)
told_blocks (true ∷ flags) es = (Some (told_block es).0 ∷ (told_blocks flags (told_block es).1).0, (told_blocks flags (told_block es).1).1)

blocks_again : (bs : List (Option Block)) (rest : List Element) → told_blocks (map is_some bs) (blocks_elements bs ++ rest) ≡ (bs, rest)
unfolding told_blocks
blocks_again [] rest = refl
blocks_again (None ∷ bs) rest = ap (λ (r : List (Option Block) × List Element). (None ∷ r.0, r.1)) (blocks_again bs rest)
blocks_again (Some b ∷ bs) rest =
    ap (λ t. (Some (told_block t).0 ∷ (told_blocks (map is_some bs) (told_block t).1).0, (told_blocks (map is_some bs) (told_block t).1).1)) (append_assoc (block_elements b) (blocks_elements bs) rest)
    ∙ (ap (λ (r : Block × List Element). (Some r.0 ∷ (told_blocks (map is_some bs) r.1).0, (told_blocks (map is_some bs) r.1).1)) (block_again b (blocks_elements bs ++ rest))
    ∙ ap (λ (r : List (Option Block) × List Element). (Some b ∷ r.0, r.1)) (blocks_again bs rest))

-- ---- macroblocks

told_mquant : Bool → List Element → Option ℕ × List Element
told_mquant true (Mquant q ∷ es) = (Some q, es)
told_mquant _ es = (None, es)

mquant_again : (has : Bool) (q : Option ℕ) (rest : List Element) → MatchBool has (IsSomeAnd q IsQuantiser) (IsNone q) → told_mquant has (mquant_elements q ++ rest) ≡ (q, rest)
unfolding told_mquant
mquant_again true None rest h = absurd h
mquant_again true (Some q) rest h = refl
mquant_again false None rest h = refl
mquant_again false (Some q) rest h = absurd (false≢true (sym h))

told_vector : Bool → ℤ → ℤ → List Element → ℤ × ℤ × List Element
told_vector true p q (Mvd a v ∷ Mvd d w ∷ es) = (component_from p v, component_from q w, es)
told_vector _ p q es = (pos 0, pos 0, es)

vector_again : (format : Format) (number : ℕ) (last : Option Macroblock) (m : Macroblock) (rest : List Element) → IsSentBefore last → ComponentFits format number Across m → ComponentFits format number Down m → told_vector (has_vector m.kind) (predictor Across last m) (predictor Down last m) (elements_of_vector last m ++ rest) ≡ (m.across, m.down, rest)
unfolding told_vector
vector_again format number last m rest is across down =
    let a = component_small format number Across m across in
    let d = component_small format number Down m down in
    elim (cases_Bool (has_vector m.kind)) [
      | inl has ↦
          let pa = pair-of Across (predictor Across last m) m.across (predictor-small Across last m is) a.0 in
          let pd = pair-of Down (predictor Down last m) m.down (predictor-small Down last m is) d.0 in
          ap (λ b. told_vector b (predictor Across last m) (predictor Down last m) (elements_of_vector last m ++ rest)) has
          ∙ (ap (λ t. told_vector true (predictor Across last m) (predictor Down last m) (t ++ rest)) (cond-true (has_vector m.kind) (mvd_element Across last m ∷ mvd_element Down last m ∷ []) [] has)
          ∙ (ap (λ (z : ℤ). (z, component_from (predictor Down last m) (pair_in (m.down -ℤ predictor Down last m) mvd_table), rest)) pa.gives
          ∙ ap (λ (z : ℤ). (m.across, z, rest)) pd.gives))
      | inr none ↦
          ap (λ b. told_vector b (predictor Across last m) (predictor Down last m) (elements_of_vector last m ++ rest)) none
          ∙ (ap (λ t. told_vector false (predictor Across last m) (predictor Down last m) (t ++ rest)) (cond-false (has_vector m.kind) (mvd_element Across last m ∷ mvd_element Down last m ∷ []) [] none)
          ∙ (ap (λ (z : ℤ). (z, pos 0, rest)) (sym (a.1 none)) ∙ ap (λ (z : ℤ). (m.across, z, rest)) (sym (d.1 none))))
    ]

-- which blocks are sent, and what follows
told_flags : Bool → MbKind → List Element → List Bool × List Element
told_flags true k (Cbp c ∷ es) = (field c 6, es)
told_flags _ k es = (replicate 6 (is_intra k), es)

all_some : (bs : List (Option Block)) (n : ℕ) → length bs ≡ n → All (λ b. IsSomeAnd b IsIntraBlock) bs → map is_some bs ≡ replicate n true
all_some [] zero n h = refl
all_some [] (suc k) n h = absurd (omega (arith, n))
all_some (b ∷ bs) zero n h = absurd (omega (arith, n))
all_some (None ∷ bs) (suc k) n h = absurd (All-head (λ b. IsSomeAnd b IsIntraBlock) None bs h)
all_some (Some b ∷ bs) (suc k) n h = ap (λ t. true ∷ t) (all_some bs k (omega (arith, n)) (All-tail (λ b. IsSomeAnd b IsIntraBlock) (Some b) bs h))

all_none : (bs : List (Option Block)) (n : ℕ) → length bs ≡ n → All IsNone bs → map is_some bs ≡ replicate n false
all_none [] zero n h = refl
all_none [] (suc k) n h = absurd (omega (arith, n))
all_none (b ∷ bs) zero n h = absurd (omega (arith, n))
all_none (Some b ∷ bs) (suc k) n h = absurd (false≢true (sym (All-head IsNone (Some b) bs h)))
all_none (None ∷ bs) (suc k) n h = ap (λ t. false ∷ t) (all_none bs k (omega (arith, n)) (All-tail IsNone None bs h))

flags_alone : (m : Macroblock) → length m.blocks ≡ 6 → has_cbp m.kind ≡ false → BlocksFit m.kind m.blocks → replicate 6 (is_intra m.kind) ≡ map is_some m.blocks
flags_alone m six none fit = elim (cases_Bool (is_intra m.kind)) [
  | inl intra ↦
      let all = subst (λ b. MatchBool b (All (λ b. IsSomeAnd b IsIntraBlock) m.blocks) (MatchBool (has_cbp m.kind) (Any IsSome m.blocks × All (λ b. IfSome b IsCodedBlock) m.blocks) (All IsNone m.blocks))) intra fit in
      ap (replicate 6) intra ∙ sym (all_some m.blocks 6 six all)
  | inr inter ↦
      let rest = subst (λ b. MatchBool b (All (λ b. IsSomeAnd b IsIntraBlock) m.blocks) (MatchBool (has_cbp m.kind) (Any IsSome m.blocks × All (λ b. IfSome b IsCodedBlock) m.blocks) (All IsNone m.blocks))) inter fit in
      let all = subst (λ b. MatchBool b (Any IsSome m.blocks × All (λ b. IfSome b IsCodedBlock) m.blocks) (All IsNone m.blocks)) none rest in
      ap (replicate 6) inter ∙ sym (all_none m.blocks 6 six all)
]

flags_again : (m : Macroblock) (rest : List Element) → length m.blocks ≡ 6 → BlocksFit m.kind m.blocks → told_flags (has_cbp m.kind) m.kind (elements_of_pattern m ++ rest) ≡ (map is_some m.blocks, rest)
unfolding told_flags
flags_again m rest six fit = elim (cases_Bool (has_cbp m.kind)) [
  | inl has ↦
      let long : length (map is_some m.blocks) ≡ 6 = length-map m.blocks is_some ∙ six in
      ap (λ b. told_flags b m.kind (elements_of_pattern m ++ rest)) has
      ∙ (ap (λ t. told_flags true m.kind (t ++ rest)) (cond-true (has_cbp m.kind) (Cbp (coded_block_pattern m.blocks) ∷ []) [] has)
      ∙ ap (λ (flags : List Bool). (flags, rest)) (ap (field (coded_block_pattern m.blocks)) (sym long) ∙ field-number (map is_some m.blocks)))
  | inr none ↦
      ap (λ b. told_flags b m.kind (elements_of_pattern m ++ rest)) none
      ∙ (ap (λ t. told_flags false m.kind (t ++ rest)) (cond-false (has_cbp m.kind) (Cbp (coded_block_pattern m.blocks) ∷ []) [] none)
      ∙ ap (λ (flags : List Bool). (flags, rest)) (flags_alone m six none fit))
]

-- a macroblock of which so much is known
abbrev behind_flags : ℕ → MbKind → Option ℕ → ℤ → ℤ → List (Option Block) × List Element → Macroblock × List Element
behind_flags at k q a d b = (record { address = at; kind = k; mquant = q; across = a; down = d; blocks = b.0 }, b.1)

abbrev behind_vector : ℕ → MbKind → Option ℕ → ℤ × ℤ × List Element → Macroblock × List Element
behind_vector at k q v = behind_flags at k q v.0 v.1 (told_blocks (told_flags (has_cbp k) k v.2).0 (told_flags (has_cbp k) k v.2).1)

abbrev behind_mquant : Option Macroblock → ℕ → MbKind → Option ℕ × List Element → Macroblock × List Element
behind_mquant last at k q = behind_vector at k q.0 (told_vector (has_vector k) (predictor Across last (begun_macroblock at k None)) (predictor Down last (begun_macroblock at k None)) q.1)

-- the macroblock that begins with these
told_body : Option Macroblock → ℕ → MbKind → List Element → Macroblock × List Element
told_body last at k es = behind_mquant last at k (told_mquant (has_mquant k) es)

told_macroblock : Option Macroblock → List Element → Macroblock × List Element
told_macroblock last (Mba n ∷ Mtype k ∷ es) = told_body last (address_of last + n) k es
told_macroblock last es = (begun_macroblock 0 Intra None, es)

body_again : (format : Format) (number : ℕ) (last : Option Macroblock) (m : Macroblock) (rest : List Element) → IsSentBefore last → IsValidMacroblock format number m → told_body last m.address m.kind (mquant_elements m.mquant ++ (elements_of_vector last m ++ (elements_of_pattern m ++ (blocks_elements m.blocks ++ rest)))) ≡ (m, rest)
unfolding told_body
body_again format number last m rest is valid =
    let pa : predictor Across last (begun_macroblock m.address m.kind None) ≡ predictor Across last m = predictor_same Across last (begun_macroblock m.address m.kind None) m refl in
    let pd : predictor Down last (begun_macroblock m.address m.kind None) ≡ predictor Down last m = predictor_same Down last (begun_macroblock m.address m.kind None) m refl in
    ap (behind_mquant last m.address m.kind) (mquant_again (has_mquant m.kind) m.mquant (elements_of_vector last m ++ (elements_of_pattern m ++ (blocks_elements m.blocks ++ rest))) valid.mquant)
    ∙ (ap (λ p. behind_vector m.address m.kind m.mquant (told_vector (has_vector m.kind) p (predictor Down last (begun_macroblock m.address m.kind None)) (elements_of_vector last m ++ (elements_of_pattern m ++ (blocks_elements m.blocks ++ rest))))) pa
    ∙ (ap (λ p. behind_vector m.address m.kind m.mquant (told_vector (has_vector m.kind) (predictor Across last m) p (elements_of_vector last m ++ (elements_of_pattern m ++ (blocks_elements m.blocks ++ rest))))) pd
    ∙ (ap (behind_vector m.address m.kind m.mquant) (vector_again format number last m (elements_of_pattern m ++ (blocks_elements m.blocks ++ rest)) is valid.across valid.down)
    ∙ (ap (λ (f : List Bool × List Element). behind_flags m.address m.kind m.mquant m.across m.down (told_blocks f.0 f.1)) (flags_again m (blocks_elements m.blocks ++ rest) valid.six valid.blocks)
    ∙ ap (behind_flags m.address m.kind m.mquant m.across m.down) (blocks_again m.blocks rest)))))

macroblock_again : (format : Format) (number : ℕ) (last : Option Macroblock) (m : Macroblock) (rest : List Element) → IsSentBefore last → address_of last < m.address → IsValidMacroblock format number m → told_macroblock last (elements_of_macroblock last m ++ rest) ≡ (m, rest)
unfolding told_macroblock
macroblock_again format number last m rest is rise valid =
    let at : address_of last + (m.address - address_of last) ≡ m.address = omega (arith, rise) in
    let parts : (mquant_elements m.mquant ++ (elements_of_vector last m ++ (elements_of_pattern m ++ blocks_elements m.blocks))) ++ rest ≡ mquant_elements m.mquant ++ (elements_of_vector last m ++ (elements_of_pattern m ++ (blocks_elements m.blocks ++ rest))) =
    append_assoc (mquant_elements m.mquant) (elements_of_vector last m ++ (elements_of_pattern m ++ blocks_elements m.blocks)) rest
    ∙ ap (λ t. mquant_elements m.mquant ++ t) (append_assoc (elements_of_vector last m) (elements_of_pattern m ++ blocks_elements m.blocks) rest
    ∙ ap (λ t. elements_of_vector last m ++ t) (append_assoc (elements_of_pattern m) (blocks_elements m.blocks) rest)) in
    ap (λ k. told_body last k m.kind ((mquant_elements m.mquant ++ (elements_of_vector last m ++ (elements_of_pattern m ++ blocks_elements m.blocks))) ++ rest)) at
    ∙ (ap (told_body last m.address m.kind) parts ∙ body_again format number last m rest is valid)

-- ---- macroblocks and their stuffing

told_macroblocks : ℕ → Option Macroblock → List Element → List Macroblock × List Element
told_macroblocks zero last es = ([], es)
told_macroblocks (suc fuel) last (Mba n ∷ es) =
    ((told_macroblock last (Mba n ∷ es)).0 ∷ (told_macroblocks fuel (Some (told_macroblock last (Mba n ∷ es)).0) (told_macroblock last (Mba n ∷ es)).1).0, (told_macroblocks fuel (Some (told_macroblock last (Mba n ∷ es)).0) (told_macroblock last (Mba n ∷ es)).1).1)
told_macroblocks (suc fuel) last (Stuffing ∷ es) = told_macroblocks fuel last es
told_macroblocks (suc fuel) last es = ([], es)

-- what follows a group
abbrev Opens : List Element → Type 0
Opens [] = Unit {0}
Opens (Gbsc ∷ es) = Unit {0}
Opens (_ ∷ es) = ⊥

opens_none : (fuel : ℕ) (last : Option Macroblock) (rest : List Element) → Opens rest → told_macroblocks fuel last rest ≡ ([], rest)
unfolding told_macroblocks
opens_none zero last rest h = refl
opens_none (suc fuel) last [] h = refl
opens_none (suc fuel) last (Gbsc ∷ rest) h = refl
opens_none (suc fuel) last (_ ∷ rest) h = absurd h

last_of : (format : Format) (number : ℕ) (m : Macroblock) → 0 < m.address → IsValidMacroblock format number m → IsSentBefore (Some m)
last_of format number m some valid =
    let a = component_small format number Across m valid.across in
    let d = component_small format number Down m valid.down in
    (some, both_axes (λ axis. nat_abs (component axis m) ≤ 15) a.0 d.0, both_axes (λ axis. has_vector m.kind ≡ false → component axis m ≡ pos 0) a.1 d.1)

told_next : (fuel n : ℕ) (last : Option Macroblock) (es more rest : List Element) (m : Macroblock) (ms : List Macroblock) → told_macroblock last (Mba n ∷ es) ≡ (m, more) → told_macroblocks fuel (Some m) more ≡ (ms, rest) → told_macroblocks (suc fuel) last (Mba n ∷ es) ≡ (m ∷ ms, rest)
unfolding told_macroblocks
told_next fuel n last es more rest m ms one later =
    ap (λ (r : Macroblock × List Element). (r.0 ∷ (told_macroblocks fuel (Some r.0) r.1).0, (told_macroblocks fuel (Some r.0) r.1).1)) one
    ∙ ap (λ (r : List Macroblock × List Element). (m ∷ r.0, r.1)) later

-- what stands behind a macroblock
abbrev behind_one : Macroblock → List ℕ → List Macroblock → List Element → List Element
behind_one m behind ms rest = replicate (get_or behind 0 0) Stuffing ++ (elements_of_macroblocks (Some m) (drop 1 behind) ms ++ rest)

first_apart : (last : Option Macroblock) (behind : List ℕ) (m : Macroblock) (ms : List Macroblock) (rest : List Element) → elements_of_macroblocks last behind (m ∷ ms) ++ rest ≡ elements_of_macroblock last m ++ behind_one m behind ms rest
first_apart last behind m ms rest = sym (join3 (elements_of_macroblock last m) (replicate (get_or behind 0 0) Stuffing) (elements_of_macroblocks (Some m) (drop 1 behind) ms) rest)

fewer_behind : (fuel : ℕ) (last : Option Macroblock) (behind : List ℕ) (m : Macroblock) (ms : List Macroblock) (rest : List Element) → length (elements_of_macroblocks last behind (m ∷ ms) ++ rest) ≤ suc fuel → length (behind_one m behind ms rest) ≤ fuel
fewer_behind fuel last behind m ms rest few =
    omega (arith, few, ap length (first_apart last behind m ms rest), length-append (elements_of_macroblock last m) (behind_one m behind ms rest))

macroblocks_again : (fuel : ℕ) (format : Format) (number : ℕ) (last : Option Macroblock) (n : ℕ) (behind : List ℕ) (ms : List Macroblock) (rest : List Element) → length (replicate n Stuffing ++ (elements_of_macroblocks last behind ms ++ rest)) ≤ fuel → IsSentBefore last → AddressesRise (address_of last) ms → All (IsValidMacroblock format number) ms → Opens rest → told_macroblocks fuel last (replicate n Stuffing ++ (elements_of_macroblocks last behind ms ++ rest)) ≡ (ms, rest)
unfolding told_macroblocks
macroblocks_again fuel format number last zero behind [] rest few is rise valid opening = opens_none fuel last rest opening
macroblocks_again zero format number last (suc n) behind ms rest few is rise valid opening = absurd (omega (arith, few))
macroblocks_again (suc fuel) format number last (suc n) behind ms rest few is rise valid opening =
    macroblocks_again fuel format number last n behind ms rest (omega (arith, few)) is rise valid opening
macroblocks_again zero format number last zero behind (m ∷ ms) rest few is rise valid opening = absurd (omega (arith, few))
macroblocks_again (suc fuel) format number last zero behind (m ∷ ms) rest few is rise valid opening =
    let ok = All-head (IsValidMacroblock format number) m ms valid in
    ap (told_macroblocks (suc fuel) last) (first_apart last behind m ms rest)
    ∙ told_next fuel (m.address - address_of last) last (Mtype m.kind ∷ body last m ++ behind_one m behind ms rest) (behind_one m behind ms rest) rest m ms
    (macroblock_again format number last m (behind_one m behind ms rest) is rise.0 ok)
    (macroblocks_again fuel format number (Some m) (get_or behind 0 0) (drop 1 behind) ms rest (fewer_behind fuel last behind m ms rest few) (last_of format number m (omega (arith, rise.0)) ok) rise.2 (All-tail (IsValidMacroblock format number) m ms valid) opening)

-- ---- groups

-- behind spare octets
past_gspares : List Element → List Element
past_gspares (Gei true ∷ e ∷ es) = past_gspares es
past_gspares (Gei false ∷ es) = es
past_gspares _ = []

gspares_again : (spares : List ℕ) (rest : List Element) → past_gspares (spare_elements Gei Gspare spares ++ rest) ≡ rest
unfolding past_gspares
gspares_again [] rest = refl
gspares_again (n ∷ ns) rest = gspares_again ns rest

past_pspares : List Element → List Element
past_pspares (Pei true ∷ e ∷ es) = past_pspares es
past_pspares (Pei false ∷ es) = es
past_pspares _ = []

pspares_again : (spares : List ℕ) (rest : List Element) → past_pspares (spare_elements Pei Pspare spares ++ rest) ≡ rest
unfolding past_pspares
pspares_again [] rest = refl
pspares_again (n ∷ ns) rest = pspares_again ns rest

abbrev told_sent : List Element → List Macroblock × List Element
told_sent es = told_macroblocks (length es) None es

-- the groups with these numbers
told_groups : List ℕ → List Element → List Group
told_groups [] es = []
told_groups (n ∷ ns) (Gbsc ∷ Gn g ∷ Gquant q ∷ es) =
    cond (g == n) (record { number = n; quant = q; macroblocks = (told_sent (past_gspares es)).0 } ∷ told_groups ns (told_sent (past_gspares es)).1) (empty n ∷ told_groups ns (Gbsc ∷ Gn g ∷ Gquant q ∷ es))
told_groups (n ∷ ns) _ = empty n ∷ told_groups ns []

-- the elements are none, or begin a group above `low`
abbrev BeginsAbove : ℕ → List Element → Type 0
BeginsAbove low [] = Unit {0}
BeginsAbove low (Gbsc ∷ Gn g ∷ Gquant q ∷ es) = low < g
BeginsAbove low _ = ⊥

is_prefix_lower : (low high : ℕ) (es : List Element) → low ≤ high → BeginsAbove high es → BeginsAbove low es
is_prefix_lower low high [] h b = tt
is_prefix_lower low high (Gbsc ∷ Gn g ∷ Gquant q ∷ es) h b = omega (arith, h, b)
is_prefix_lower low high _ h b = absurd b

is_prefix_above : (format : Format) (low : ℕ) (forms : List GroupForm) (gs : List Group) → GroupsFit forms gs → RiseFrom format low gs → BeginsAbove low (elements_of_groups forms gs)
is_prefix_above format low [] gs fit rise = tt
is_prefix_above format low (f ∷ forms) [] fit rise = tt
is_prefix_above format low (LeftOut ∷ forms) (g ∷ gs) fit rise = is_prefix_lower low g.number (elements_of_groups forms gs) (omega (arith, rise.1)) (is_prefix_above format g.number forms gs fit.1 rise.2)
is_prefix_above format low (Sent spares stuffings behind ∷ forms) (g ∷ gs) fit rise = rise.1

is_prefix_opens : (low : ℕ) (es : List Element) → BeginsAbove low es → Opens es
is_prefix_opens low [] b = tt
is_prefix_opens low (Gbsc ∷ es) b = tt
is_prefix_opens low _ b = absurd b

not_number : (g n : ℕ) → n < g → (g == n) ≡ false
not_number g n h = elim (cases_Bool (g == n)) [ inl same ↦ absurd (omega (arith, h, eqb-true g n same)) | inr no_ ↦ no_ ]

-- where the group n is not sent
left_again : (n : ℕ) (ns : List ℕ) (es : List Element) → BeginsAbove n es → told_groups (n ∷ ns) es ≡ empty n ∷ told_groups ns es
unfolding told_groups
left_again n ns [] b = refl
left_again n ns (Gbsc ∷ Gn g ∷ Gquant q ∷ es) b =
    ap (λ c. cond c (record { number = n; quant = q; macroblocks = (told_sent (past_gspares es)).0 } ∷ told_groups ns (told_sent (past_gspares es)).1) (empty n ∷ told_groups ns (Gbsc ∷ Gn g ∷ Gquant q ∷ es))) (not_number g n b)
left_again n ns _ b = absurd b

sent_again : (format : Format) (g : Group) (spares : List ℕ) (stuffings : ℕ) (behind : List ℕ) (ns : List ℕ) (rest : List Element) → IsValidGroup format g → Opens rest → told_groups (g.number ∷ ns) (elements_of_group (Sent spares stuffings behind) g ++ rest) ≡ g ∷ told_groups ns rest
unfolding told_groups
sent_again format g spares stuffings behind ns rest valid opening =
    let parts : (spare_elements Gei Gspare spares ++ (replicate stuffings Stuffing ++ elements_of_macroblocks None behind g.macroblocks)) ++ rest ≡ spare_elements Gei Gspare spares ++ (replicate stuffings Stuffing ++ (elements_of_macroblocks None behind g.macroblocks ++ rest)) =
    sym (join3 (spare_elements Gei Gspare spares) (replicate stuffings Stuffing) (elements_of_macroblocks None behind g.macroblocks) rest) in
    let past : past_gspares ((spare_elements Gei Gspare spares ++ (replicate stuffings Stuffing ++ elements_of_macroblocks None behind g.macroblocks)) ++ rest) ≡ replicate stuffings Stuffing ++ (elements_of_macroblocks None behind g.macroblocks ++ rest) = ap past_gspares parts ∙ gspares_again spares (replicate stuffings Stuffing ++ (elements_of_macroblocks None behind g.macroblocks ++ rest)) in
    let told = macroblocks_again (length (replicate stuffings Stuffing ++ (elements_of_macroblocks None behind g.macroblocks ++ rest))) format g.number None stuffings behind g.macroblocks rest (omega arith) tt valid.addresses valid.macroblocks opening in
    let sent_ : told_sent (past_gspares ((spare_elements Gei Gspare spares ++ (replicate stuffings Stuffing ++ elements_of_macroblocks None behind g.macroblocks)) ++ rest)) ≡ (g.macroblocks, rest) = ap told_sent past ∙ told in
    ap (λ c. cond c (record { number = g.number; quant = g.quant; macroblocks = (told_sent (past_gspares ((spare_elements Gei Gspare spares ++ (replicate stuffings Stuffing ++ elements_of_macroblocks None behind g.macroblocks)) ++ rest))).0 } ∷ told_groups ns (told_sent (past_gspares ((spare_elements Gei Gspare spares ++ (replicate stuffings Stuffing ++ elements_of_macroblocks None behind g.macroblocks)) ++ rest))).1) (empty g.number ∷ told_groups ns (Gbsc ∷ Gn g.number ∷ Gquant g.quant ∷ ((spare_elements Gei Gspare spares ++ (replicate stuffings Stuffing ++ elements_of_macroblocks None behind g.macroblocks)) ++ rest)))) (eq-eqb g.number g.number refl)
    ∙ ap (λ (r : List Macroblock × List Element). record { number = g.number; quant = g.quant; macroblocks = r.0 } ∷ told_groups ns r.1) sent_

left_out_is : (g : Group) → g.quant ≡ 1 → g.macroblocks ≡ [] → empty g.number ≡ g
left_out_is g q m = ap (λ (k : ℕ). record { number = g.number; quant = k; macroblocks = [] }) (sym q) ∙ ap (λ (ms : List Macroblock). record { number = g.number; quant = g.quant; macroblocks = ms }) (sym m)

none_again : told_groups [] [] ≡ []
unfolding told_groups
none_again = refl

groups_again : (format : Format) (low : ℕ) (forms : List GroupForm) (gs : List Group) → GroupsFit forms gs → RiseFrom format low gs → All (IsValidGroup format) gs → told_groups (map (λ (g : Group). g.number) gs) (elements_of_groups forms gs) ≡ gs
groups_again format low [] [] fit rise valid = none_again
groups_again format low [] (g ∷ gs) fit rise valid = absurd fit
groups_again format low (f ∷ forms) [] fit rise valid = absurd fit
groups_again format low (LeftOut ∷ forms) (g ∷ gs) fit rise valid =
    left_again g.number (map (λ (g : Group). g.number) gs) (elements_of_groups forms gs) (is_prefix_above format g.number forms gs fit.1 rise.2)
    ∙ (ap (λ (x : Group). x ∷ told_groups (map (λ (g : Group). g.number) gs) (elements_of_groups forms gs)) (left_out_is g fit.0.0 fit.0.1)
    ∙ ap (λ t. g ∷ t) (groups_again format g.number forms gs fit.1 rise.2 (All-tail (IsValidGroup format) g gs valid)))
groups_again format low (Sent spares stuffings behind ∷ forms) (g ∷ gs) fit rise valid =
    sent_again format g spares stuffings behind (map (λ (g : Group). g.number) gs) (elements_of_groups forms gs) (All-head (IsValidGroup format) g gs valid) (is_prefix_opens g.number (elements_of_groups forms gs) (is_prefix_above format g.number forms gs fit.1 rise.2))
    ∙ ap (λ t. g ∷ t) (groups_again format g.number forms gs fit.1 rise.2 (All-tail (IsValidGroup format) g gs valid))

-- ---- the picture

pub told_picture : Format → List Element → Picture
told_picture format (Psc ∷ Tr tr ∷ Ptype p ∷ es) = record { tr = tr; groups = told_groups (group_numbers format) (past_pspares es) }
told_picture format _ = record { tr = 0; groups = [] }

pub picture-again : (format : Format) (form : Form) (p : Picture) → GroupsFit form.groups p.groups → IsValid format p → told_picture format (elements_of_picture format form p) ≡ p
unfolding told_picture
picture-again format form p fit valid =
    let numbers : map (λ (g : Group). g.number) p.groups ≡ group_numbers format = valid.so_far.numbers ∙ (ap (λ k. take k (group_numbers format)) valid.whole ∙ take_all (group_numbers format)) in
    ap (λ (gs : List Group). record { tr = p.tr; groups = gs })
    (ap (told_groups (group_numbers format)) (pspares_again form.spares (elements_of_groups form.groups p.groups))
    ∙ (ap (λ ns. told_groups ns (elements_of_groups form.groups p.groups)) (sym numbers) ∙ groups_again format 0 form.groups p.groups fit (valid-rise format p valid) valid.so_far.groups))

-- elements tell one picture
pub told-one : (format : Format) (es : List Element) (p q : Picture) → Tells format es p → IsValid format p → Tells format es q → IsValid format q → p ≡ q
told-one format es p q tells valid tells' valid' =
    sym (picture-again format tells.0 p tells.1 valid) ∙ (ap (told_picture format) (sym tells.2 ∙ tells'.2) ∙ picture-again format tells'.0 q tells'.1 valid')
