-- Elements that may stand one behind another up to an end: those of a block are the elements of a valid block.
use Rattle.std.proofs.Common.{suc, ◌≡◌, ℕ, ◌+◌, ◌-◌, ◌<◌, ◌≤◌, ◌==◌, ◌&&◌, ◌||◌, Bool, true, false, cond, List, [], ◌∷◌, ◌++◌, map, Option, Some, None, nat_lt, refl, sym, ◌∙◌, ap, subst, inl, inr, append_assoc, ℤ, All, sum_by, is_some, arith}
use Rattle.std.proofs.lemmas.List.Elements.{All-cons, All-nil}
use Rattle.std.proofs.lemmas.Bool.{false≢true, ltb-false, eqb-false, or_parts}
use Rattle.std.proofs.lemmas.List.Sums.{sum_by-cons}
use Rattle.pel_model.specs.declared.Format.{Format}
use Rattle.pel_model.specs.declared.MbKind.{MbKind}
use Rattle.pel_model.specs.declared.Why.TheVariants.{BadDc, BadLevel, TooMany}
use Rattle.pel_model.specs.Codes.{is_intra}
use Rattle.pel_model.specs.Records.{Coefficient, Block}
use Rattle.pel_model.specs.Valid.{IsValidCoefficient, IsValidDc}
use Rattle.pel_model.specs.Walk.{after}
use Rattle.pel_model.specs.Grammar.{Element, Dc, Tcoeff, Eob, Slot, AtDc, AtFirst, AtCoefficient, slot, kind, blocks, filled, is_forbidden_level, block_slot, may_end}
use Rattle.pel_model.proofs.Walks.{after-append}
use Rattle.pel_model.specs.Elements.{block_elements, blocks_elements}
use Rattle.picture_laws.proofs.Slots.{Takes, IsSent}
use Rattle.picture_laws.proofs.Chains.{Stands, Chain, chain-right}
use Rattle.picture_laws.proofs.Patterns.{trues}
use Rattle.picture_laws.proofs.Blocks.{one_passed, two_passed, sent_valid, IsBlockOf, AreBlocksOf, block-state}
use Rattle.pel_model.proofs.BlockElements.{block-blocks, block-slot, first-filled}

-- elements that may stand behind these, up to where an end may be
pub record IsRest (format : Format) (before es : List Element) : Type 0 where
  pub chain : Chain format before es
  pub final : may_end (slot (after before es)) ≡ true

pub rest-after : (format : Format) (before es xs rest : List Element) → IsRest format before es → es ≡ xs ++ rest → IsRest format (after before xs) rest
rest-after format before es xs rest r is =
    let s : IsRest format before (xs ++ rest) = subst (λ t. IsRest format before t) is r in
    record { chain = chain-right format before xs rest s.chain; final = ap (λ b. may_end (slot b)) (sym (after-append before xs rest)) ∙ s.final }

-- the first element, where it is this one
pub rest-step : (format : Format) (before : List Element) (e x : Element) (es : List Element) → IsRest format before (e ∷ es) → e ≡ x → Stands format before x × IsRest format (x ∷ before) es
rest-step format before e x es r is =
    let s : IsRest format before (x ∷ es) = subst (λ y. IsRest format before (y ∷ es)) is r in
    (s.chain.0, record { chain = s.chain.1; final = s.final })

-- there is a first element where no end may be
pub record IsMore (format : Format) (before es : List Element) (s : Slot) : Type 0 where
  pub first : Element
  pub rest : List Element
  pub is : es ≡ first ∷ rest
  pub takes : Takes s first
  pub left : IsRest format before (first ∷ rest)

pub rest-more : (format : Format) (before es : List Element) (s : Slot) → slot before ≡ s → may_end s ≡ false → IsRest format before es → IsMore format before es s
rest-more format before [] s at no_ r = absurd (false≢true (sym (ap may_end at ∙ no_) ∙ r.final))
rest-more format before (e ∷ es) s at no_ r = record { first = e; rest = es; is = refl; takes = subst (λ s. Takes s e) at r.chain.0.takes; left = r }

-- ---- coefficients

pub record ReadsCoefficients (before es : List Element) : Type 0 where
  pub cs : List Coefficient
  pub rest : List Element
  pub is : es ≡ map Tcoeff cs ++ (Eob ∷ rest)
  pub valid : All IsValidCoefficient cs
  pub fits : filled before + sum_by (λ c. c.run + 1) cs ≤ 64

one_more : (format : Format) (before : List Element) (c : Coefficient) → Stands format before (Tcoeff c) → ((c.long && is_forbidden_level c.level) ≡ false) × (filled before + c.run + 1 ≤ 64)
one_more format before c s =
    let both = two_passed (c.long && is_forbidden_level c.level) (nat_lt 64 (filled before + c.run + 1)) BadLevel TooMany s.good in
    (both.0, ltb-false 64 (filled before + c.run + 1) both.1)

abbrev with_one : (before es rest : List Element) (c : Coefficient) → IsSent c → (c.long && is_forbidden_level c.level) ≡ false → es ≡ Tcoeff c ∷ rest → ReadsCoefficients (Tcoeff c ∷ before) rest → ReadsCoefficients before es
with_one before es rest c sent ok is r =
    let sum : sum_by (λ c. c.run + 1) (c ∷ r.cs) ≡ c.run + 1 + sum_by (λ c. c.run + 1) r.cs = sum_by-cons (λ (c : Coefficient). c.run + 1) c r.cs in
    record {
      cs = c ∷ r.cs;
      rest = r.rest;
      is = is ∙ ap (λ t. Tcoeff c ∷ t) r.is;
      valid = All-cons IsValidCoefficient c r.cs (sent_valid c.run c.level c.long sent ok) r.valid;
      fits = omega (arith, r.fits, sum);
    }

pub read-coefficients : (format : Format) (before es : List Element) → slot before ≡ AtCoefficient → filled before ≤ 64 → IsRest format before es → ReadsCoefficients before es
read-coefficients format before [] at few r = absurd (false≢true (sym (ap may_end at) ∙ r.final))
read-coefficients format before (e ∷ es) at few r =
    let takes : Takes AtCoefficient e = subst (λ s. Takes s e) at r.chain.0.takes in
    elim takes [
      | inl c ↦
          let s = rest-step format before e (Tcoeff c.0) es r c.2 in
          let ok = one_more format before c.0 s.0 in
          with_one before (e ∷ es) es c.0 c.1 ok.0 (ap (λ x. x ∷ es) c.2) (read-coefficients format (Tcoeff c.0 ∷ before) es refl ok.1 s.1)
      | inr end ↦ record { cs = []; rest = es; is = ap (λ x. x ∷ es) end; valid = All-nil IsValidCoefficient; fits = omega (arith, few) }
    ]

-- ---- a block

pub record ReadsBlock (intra : Bool) (es : List Element) : Type 0 where
  pub block : Block
  pub rest : List Element
  pub is : es ≡ block_elements block ++ rest
  pub valid : IsBlockOf intra block

end_joined : (cs : List Coefficient) (rest : List Element) → map Tcoeff cs ++ (Eob ∷ rest) ≡ (map Tcoeff cs ++ (Eob ∷ [])) ++ rest
end_joined cs rest = sym (append_assoc (map Tcoeff cs) (Eob ∷ []) rest)

good_dc : (n : ℕ) → n < 256 → (n == 0 || n == 128) ≡ false → IsValidDc n
good_dc n small ok =
    let both = or_parts (n == 0) (n == 128) ok in
    let some = eqb-false n 0 both.0 in
    (omega (arith, some), omega (arith, small), eqb-false n 128 both.1)

intra_built : (before es left : List Element) (n : ℕ) → IsValidDc n → es ≡ Dc n ∷ left → ReadsCoefficients (Dc n ∷ before) left → ReadsBlock true es
intra_built before es left n ok is c = record {
  block = record { dc = Some n; coefficients = c.cs };
  rest = c.rest;
  is = is ∙ ap (λ t. Dc n ∷ t) (c.is ∙ end_joined c.cs c.rest);
  valid = (ok, (c.valid, c.fits));
}

coded_built : (before es left : List Element) (c : Coefficient) → filled before ≡ 0 → IsSent c → (c.long && is_forbidden_level c.level) ≡ false → es ≡ Tcoeff c ∷ left → ReadsCoefficients (Tcoeff c ∷ before) left → ReadsBlock false es
coded_built before es left c none sent ok is more =
    let all = with_one before es left c sent ok is more in
    record {
      block = record { dc = None; coefficients = c ∷ more.cs };
      rest = more.rest;
      is = all.is ∙ end_joined (c ∷ more.cs) more.rest;
      valid = (refl, omega arith, (all.valid, subst (λ k. k + sum_by (λ (c : Coefficient). c.run + 1) (c ∷ more.cs) ≤ 64) none all.fits));
    }

pub read-block : (format : Format) (before es : List Element) (intra : Bool) → slot before ≡ cond intra AtDc AtFirst → IsRest format before es → ReadsBlock intra es
read-block format before es true at r =
    let m = rest-more format before es AtDc at refl r in
    let s = rest-step format before m.first (Dc m.takes.0) m.rest m.left m.takes.2 in
    let ok : (m.takes.0 == 0 || m.takes.0 == 128) ≡ false = one_passed (m.takes.0 == 0 || m.takes.0 == 128) BadDc s.0.good in
    intra_built before es m.rest m.takes.0 (good_dc m.takes.0 m.takes.1 ok) (m.is ∙ ap (λ x. x ∷ m.rest) m.takes.2) (read-coefficients format (Dc m.takes.0 ∷ before) m.rest refl (omega arith) s.1)
read-block format before es false at r =
    let m = rest-more format before es AtFirst at refl r in
    let s = rest-step format before m.first (Tcoeff m.takes.0) m.rest m.left m.takes.2 in
    let ok = one_more format before m.takes.0 s.0 in
    coded_built before es m.rest m.takes.0 (first-filled before at) m.takes.1 ok.0 (m.is ∙ ap (λ x. x ∷ m.rest) m.takes.2) (read-coefficients format (Tcoeff m.takes.0 ∷ before) m.rest refl ok.1 s.1)

-- ---- the blocks of a macroblock

pub record ReadsBlocks (intra : Bool) (flags : List Bool) (es : List Element) : Type 0 where
  pub bs : List (Option Block)
  pub rest : List Element
  pub is : es ≡ blocks_elements bs ++ rest
  pub flags_are : map is_some bs ≡ flags
  pub valid : AreBlocksOf intra bs

one_block : (intra : Bool) (flags : List Bool) (es : List Element) → (one : ReadsBlock intra es) → ReadsBlocks intra flags one.rest → ReadsBlocks intra (true ∷ flags) es
one_block intra flags es one more = record {
  bs = Some one.block ∷ more.bs;
  rest = more.rest;
  is = one.is ∙ (ap (λ t. block_elements one.block ++ t) more.is ∙ sym (append_assoc (block_elements one.block) (blocks_elements more.bs) more.rest));
  flags_are = ap (λ t. true ∷ t) more.flags_are;
  valid = (one.valid, more.valid);
}

no_block : (intra : Bool) (flags : List Bool) (es : List Element) → ReadsBlocks intra flags es → ReadsBlocks intra (false ∷ flags) es
no_block intra flags es more = record { bs = None ∷ more.bs; rest = more.rest; is = more.is; flags_are = ap (λ t. false ∷ t) more.flags_are; valid = more.valid }

-- a place where so many blocks are due
record IsDue (kind_ : MbKind) (n : ℕ) (before : List Element) : Type 0 where
  pub at : slot before ≡ block_slot kind_ n
  pub kind_is : kind before ≡ kind_
  pub count : blocks before ≡ n

due_less : (k : MbKind) (n : ℕ) (before : List Element) (b : Block) → IsDue k (suc n) before → IsDue k n (after before (block_elements b))
due_less k n before b due_ =
    let fewer : blocks before - 1 ≡ n = omega (arith, due_.count) in
    record {
      at = block-slot before b ∙ (ap (block_slot (kind before)) fewer ∙ ap (λ k. block_slot k n) due_.kind_is);
      kind_is = ap (λ (s : MbKind × ℕ × ℕ × ℤ × ℤ). s.0) (block-state before b) ∙ due_.kind_is;
      count = block-blocks before b ∙ fewer;
    }

blocks_due : (format : Format) (before es : List Element) (k : MbKind) (flags : List Bool) → IsDue k (trues flags) before → IsRest format before es → ReadsBlocks (is_intra k) flags es
blocks_due format before es k [] due_ r = record { bs = []; rest = es; is = refl; flags_are = refl; valid = tt }
blocks_due format before es k (false ∷ flags) due_ r = no_block (is_intra k) flags es (blocks_due format before es k flags due_ r)
blocks_due format before es k (true ∷ flags) due_ r =
    let one = read-block format before es (is_intra k) due_.at r in
    one_block (is_intra k) flags es one (blocks_due format (after before (block_elements one.block)) one.rest k flags (due_less k (trues flags) before one.block due_) (rest-after format before es (block_elements one.block) one.rest r one.is))

pub read-blocks : (format : Format) (before es : List Element) (flags : List Bool) → slot before ≡ block_slot (kind before) (trues flags) → blocks before ≡ trues flags → IsRest format before es → ReadsBlocks (is_intra (kind before)) flags es
read-blocks format before es flags at count r = blocks_due format before es (kind before) flags (record { at = at; kind_is = refl; count = count }) r
