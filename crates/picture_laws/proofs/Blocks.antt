-- The block layer: the elements of a valid block may stand at its place, and their words are its text.
use Rattle.std.proofs.Common.{◌≡◌, ℕ, suc, ◌+◌, ◌-◌, ◌≤◌, ◌==◌, ◌&&◌, ◌||◌, Bool, true, false, cond, List, [], ◌∷◌, ◌++◌, map, Option, Some, None, nat_lt, refl, sym, ◌∙◌, ap, subst, inl, inr, ◌⊎◌, append_assoc, ℤ, pos, negsuc, MatchBool, All, sum_by, arith}
use Rattle.std.proofs.lemmas.List.Elements.{All-head, All-tail}
use Rattle.std.specs.List.{flat_map}
use Rattle.std.proofs.lemmas.Bool.{false≢true, eqb-false, le-ltb, ne_eqb}
use Rattle.std.proofs.lemmas.List.Sums.{sum_by-cons}
use Rattle.pel_model.specs.declared.Format.{Format}
use Rattle.pel_model.specs.declared.MbKind.{MbKind}
use Rattle.pel_model.specs.declared.Why.{Why}
use Rattle.pel_model.specs.declared.Why.TheVariants.{BadDc, BadLevel, TooMany}
use Rattle.pel_model.specs.Codes.{first_one_word, later_one_word, end_of_block_word, is_intra}
use Rattle.pel_model.specs.Bits.{field}
use Rattle.pel_model.specs.Records.{Across, Down, Coefficient, Block}
use Rattle.pel_model.specs.Text.{coefficient_word, coefficients_text, block_text, sent_block_text}
use Rattle.pel_model.specs.Valid.{IsLongLevel, IsValidCoefficient, IsIntraBlock, IsCodedBlock}
use Rattle.pel_model.specs.Walk.{after}
use Rattle.pel_model.specs.Grammar.{Element, Dc, Tcoeff, Eob, Slot, AtDc, AtFirst, AtCoefficient, AtMacroblock, slot, kind, blocks, filled, group, address, vector_component, first_why, is_forbidden_level, block_slot}
use Rattle.pel_model.proofs.BlockElements.{pass_block, block-blocks, block-slot, first-filled}
use Rattle.pel_model.proofs.Walks.{after-append}
use Rattle.pel_model.specs.Elements.{block_elements, blocks_elements}
use Rattle.picture_laws.proofs.Slots.{one_at, Takes, IsSent, IsByteLevel}
use Rattle.picture_laws.proofs.Chains.{Stands, Chain, word_in, words, chain-append, words-append}

-- ---- elements that may stand here, and their words

pub record Says (format : Format) (before : List Element) (es : List Element) (bits : List Bool) : Type 0 where
  pub chain : Chain format before es
  pub text : words before es ≡ bits

pub says-none : (format : Format) (before : List Element) → Says format before [] []
says-none format before = record { chain = tt; text = refl }

pub says-cons : (format : Format) (before : List Element) (e : Element) (es : List Element) (w bits : List Bool) → Stands format before e → word_in before e ≡ w → Says format (e ∷ before) es bits → Says format before (e ∷ es) (w ++ bits)
says-cons format before e es w bits s is rest = record { chain = (s, rest.chain); text = ap (λ t. t ++ words (e ∷ before) es) is ∙ ap (λ t. w ++ t) rest.text }

pub says-append : (format : Format) (before xs ys : List Element) (a b : List Bool) → Says format before xs a → Says format (after before xs) ys b → Says format before (xs ++ ys) (a ++ b)
says-append format before xs ys a b p q = record {
  chain = chain-append format before xs ys p.chain q.chain;
  text = words-append before xs ys ∙ (ap (λ t. t ++ words (after before xs) ys) p.text ∙ ap (λ t. a ++ t) q.text);
}

pub says-text : (format : Format) (before es : List Element) (a b : List Bool) → a ≡ b → Says format before es a → Says format before es b
says-text format before es a b is s = record { chain = s.chain; text = s.text ∙ is }

-- ---- conditions

pub one_pass : (a : Bool) (x : Why) → a ≡ false → first_why ((a, x) ∷ []) ≡ None
one_pass true x h = absurd cc
one_pass false x h = refl

pub one_passed : (a : Bool) (x : Why) → first_why ((a, x) ∷ []) ≡ None → a ≡ false
one_passed true x h = absurd cc
one_passed false x h = refl

pub two_pass : (a b : Bool) (x y : Why) → a ≡ false → b ≡ false → first_why ((a, x) ∷ (b, y) ∷ []) ≡ None
two_pass true b x y p q = absurd cc
two_pass false true x y p q = absurd cc
two_pass false false x y p q = refl

pub two_passed : (a b : Bool) (x y : Why) → first_why ((a, x) ∷ (b, y) ∷ []) ≡ None → (a ≡ false) × (b ≡ false)
two_passed true b x y h = absurd cc
two_passed false true x y h = absurd cc
two_passed false false x y h = (refl, refl)

-- ---- coefficients

byte_level : (level : ℤ) → IsLongLevel level → IsByteLevel level × (is_forbidden_level level ≡ false)
byte_level (pos n) h = (omega (arith, h.1), ne_eqb n 0 (λ same. absurd (omega (arith, h.0, same))))
byte_level (negsuc n) h = (omega (arith, h.1), ne_eqb n 127 (λ same. absurd (omega (arith, h.1, same))))

valid_sent : (run : ℕ) (level : ℤ) (long : Bool) → IsValidCoefficient (record { run = run; level = level; long = long }) → IsSent (record { run = run; level = level; long = long }) × ((long && is_forbidden_level level) ≡ false)
valid_sent run level true h = let b = byte_level level h.1 in ((h.0, b.0), b.1)
valid_sent run level false h = (h, refl)

long_level : (level : ℤ) → IsByteLevel level → is_forbidden_level level ≡ false → IsLongLevel level
long_level (pos n) h ok = let e = eqb-false n 0 ok in (omega (arith, e), omega (arith, h))
long_level (negsuc n) h ok = let e = eqb-false n 127 ok in (omega arith, omega (arith, h, e))

pub sent_valid : (run : ℕ) (level : ℤ) (long : Bool) → IsSent (record { run = run; level = level; long = long }) → (long && is_forbidden_level level) ≡ false → IsValidCoefficient (record { run = run; level = level; long = long })
sent_valid run level true h ok = (h.0, long_level level h.1 ok)
sent_valid run level false h ok = h

-- a slot of coefficients
abbrev pub IsAtCoefficients : Slot → Type 0
IsAtCoefficients s = (s ≡ AtFirst) ⊎ (s ≡ AtCoefficient)

takes_coefficient : (s : Slot) (c : Coefficient) → IsAtCoefficients s → IsSent c → Takes s (Tcoeff c)
takes_coefficient s c at sent = elim at [
  | inl f ↦ subst (λ s. Takes s (Tcoeff c)) (sym f) (c, sent, refl)
  | inr l ↦ subst (λ s. Takes s (Tcoeff c)) (sym l) (inl (c, sent, refl))
]

stands_coefficient : (format : Format) (before : List Element) (c : Coefficient) → IsAtCoefficients (slot before) → IsValidCoefficient c → filled before + c.run + 1 ≤ 64 → Stands format before (Tcoeff c)
stands_coefficient format before c at valid fits =
    let v = valid_sent c.run c.level c.long valid in
    record {
      takes = takes_coefficient (slot before) c at v.0;
      good = two_pass (c.long && is_forbidden_level c.level) (nat_lt 64 (filled before + c.run + 1)) BadLevel TooMany v.1 (le-ltb 64 (filled before + c.run + 1) fits);
    }

pub says-coefficients : (format : Format) (before : List Element) (one : List Bool) (cs : List Coefficient) → IsAtCoefficients (slot before) → one_at (slot before) ≡ one → All IsValidCoefficient cs → filled before + sum_by (λ c. c.run + 1) cs ≤ 64 → Says format before (map Tcoeff cs) (coefficients_text one cs)
says-coefficients format before one [] at is valid fits = says-none format before
says-coefficients format before one (c ∷ cs) at is valid fits =
    let sum : sum_by (λ c. c.run + 1) (c ∷ cs) ≡ c.run + 1 + sum_by (λ c. c.run + 1) cs = sum_by-cons (λ (c : Coefficient). c.run + 1) c cs in
    says-cons format before (Tcoeff c) (map Tcoeff cs) (coefficient_word one c) (coefficients_text later_one_word cs)
    (stands_coefficient format before c at (All-head IsValidCoefficient c cs valid) (omega (arith, sum, fits)))
    (ap (λ one. coefficient_word one c) is)
    (says-coefficients format (Tcoeff c ∷ before) later_one_word cs (inr refl) refl (All-tail IsValidCoefficient c cs valid) (omega (arith, sum, fits)))

-- what coefficients leave as it was
abbrev pub state : List Element → MbKind × ℕ × ℕ × ℤ × ℤ
state before = (kind before, group before, address before, vector_component Across before, vector_component Down before)

pub coefficients-slot : (before : List Element) (cs : List Coefficient) → slot before ≡ AtCoefficient → slot (after before (map Tcoeff cs)) ≡ AtCoefficient
coefficients-slot before [] h = h
coefficients-slot before (c ∷ cs) h = coefficients-slot (Tcoeff c ∷ before) cs refl

-- ---- a block

pub block-state : (before : List Element) (b : Block) → state (after before (block_elements b)) ≡ state before
block-state before b = ap (λ (s : MbKind × ℕ × ℕ × ℕ × ℤ × ℤ). (s.0, s.1, s.2, s.4, s.5)) (pass_block before b)

-- a block of a macroblock that is Intra or not
abbrev pub IsBlockOf : Bool → Block → Type 0
IsBlockOf intra b = MatchBool intra (IsIntraBlock b) (IsCodedBlock b)

says_end : (format : Format) (before : List Element) → slot before ≡ AtCoefficient → Says format before (Eob ∷ []) end_of_block_word
says_end format before at = says-cons format before Eob [] end_of_block_word [] (record { takes = subst (λ s. Takes s Eob) (sym at) (inr refl); good = refl }) refl (says-none format (Eob ∷ before))

says_block_of : (format : Format) (before : List Element) (intra : Bool) (dc : Option ℕ) (cs : List Coefficient) → slot before ≡ cond intra AtDc AtFirst → IsBlockOf intra (record { dc = dc; coefficients = cs }) → Says format before (block_elements (record { dc = dc; coefficients = cs })) (block_text (record { dc = dc; coefficients = cs }))
unfolding block_text
says_block_of format before true None cs at valid = absurd valid.0
says_block_of format before true (Some n) cs at valid =
    let dc : Stands format before (Dc n) = record {
      takes = subst (λ s. Takes s (Dc n)) (sym at) (n, omega (arith, valid.0.1), refl);
      good = one_pass (n == 0 || n == 128) BadDc (ap (λ b. b || n == 128) (ne_eqb n 0 (λ same. absurd (omega (arith, same, valid.0.0)))) ∙ ne_eqb n 128 valid.0.2);
    } in
    let coefs = says-coefficients format (Dc n ∷ before) later_one_word cs (inr refl) refl valid.1.0 valid.1.1 in
    let end = says_end format (after (Dc n ∷ before) (map Tcoeff cs)) (coefficients-slot (Dc n ∷ before) cs refl) in
    says-text format before (Dc n ∷ (map Tcoeff cs ++ (Eob ∷ []))) (field n 8 ++ (coefficients_text later_one_word cs ++ end_of_block_word)) (field n 8 ++ coefficients_text later_one_word cs ++ end_of_block_word)
    (sym (append_assoc (field n 8) (coefficients_text later_one_word cs) end_of_block_word))
    (says-cons format before (Dc n) (map Tcoeff cs ++ (Eob ∷ [])) (field n 8) (coefficients_text later_one_word cs ++ end_of_block_word) dc refl (says-append format (Dc n ∷ before) (map Tcoeff cs) (Eob ∷ []) (coefficients_text later_one_word cs) end_of_block_word coefs end))
says_block_of format before false (Some n) cs at valid = absurd (false≢true (sym valid.0))
says_block_of format before false None [] at valid = absurd (omega (arith, valid.1))
says_block_of format before false None (c ∷ cs) at valid =
    let fits : filled before + sum_by (λ c. c.run + 1) (c ∷ cs) ≤ 64 = subst (λ k. k + sum_by (λ (c : Coefficient). c.run + 1) (c ∷ cs) ≤ 64) (sym (first-filled before at)) valid.2.1 in
    let coefs = says-coefficients format before first_one_word (c ∷ cs) (inl at) (ap one_at at) valid.2.0 fits in
    let end = says_end format (after (Tcoeff c ∷ before) (map Tcoeff cs)) (coefficients-slot (Tcoeff c ∷ before) cs refl) in
    says-append format before (map Tcoeff (c ∷ cs)) (Eob ∷ []) (coefficients_text first_one_word (c ∷ cs)) end_of_block_word coefs end

pub says-block : (format : Format) (before : List Element) (intra : Bool) (b : Block) → slot before ≡ cond intra AtDc AtFirst → IsBlockOf intra b → Says format before (block_elements b) (block_text b)
says-block format before intra b at valid = says_block_of format before intra b.dc b.coefficients at valid

-- ---- the blocks of a macroblock

abbrev pub sent : List (Option Block) → ℕ
sent [] = 0
sent (None ∷ bs) = sent bs
sent (Some b ∷ bs) = suc (sent bs)

abbrev pub AreBlocksOf : Bool → List (Option Block) → Type 0
AreBlocksOf intra [] = Unit {0}
AreBlocksOf intra (None ∷ bs) = AreBlocksOf intra bs
AreBlocksOf intra (Some b ∷ bs) = IsBlockOf intra b × AreBlocksOf intra bs

pub says-blocks : (format : Format) (before : List Element) (bs : List (Option Block)) → slot before ≡ block_slot (kind before) (sent bs) → blocks before ≡ sent bs → AreBlocksOf (is_intra (kind before)) bs → Says format before (blocks_elements bs) (flat_map sent_block_text bs)
says-blocks format before [] at count valid = says-none format before
says-blocks format before (None ∷ bs) at count valid = says-blocks format before bs at count valid
says-blocks format before (Some b ∷ bs) at count valid =
    let one = says-block format before (is_intra (kind before)) b at valid.0 in
    let same : kind (after before (block_elements b)) ≡ kind before = ap (λ (s : MbKind × ℕ × ℕ × ℤ × ℤ). s.0) (block-state before b) in
    let left : blocks before - 1 ≡ sent bs = omega (arith, count) in
    let rest = says-blocks format (after before (block_elements b)) bs
    (block-slot before b ∙ (ap (block_slot (kind before)) left ∙ ap (λ k. block_slot k (sent bs)) (sym same)))
    (block-blocks before b ∙ left)
    (subst (λ k. AreBlocksOf (is_intra k) bs) (sym same) valid.1) in
    says-append format before (block_elements b) (blocks_elements bs) (block_text b) (flat_map sent_block_text bs) one rest

pub blocks-state : (before : List Element) (bs : List (Option Block)) → state (after before (blocks_elements bs)) ≡ state before
blocks-state before [] = refl
blocks-state before (None ∷ bs) = blocks-state before bs
blocks-state before (Some b ∷ bs) =
    ap state (after-append before (block_elements b) (blocks_elements bs))
    ∙ (blocks-state (after before (block_elements b)) bs ∙ block-state before b)

pub blocks-slot : (before : List Element) (bs : List (Option Block)) → slot before ≡ block_slot (kind before) (sent bs) → blocks before ≡ sent bs → slot (after before (blocks_elements bs)) ≡ AtMacroblock
blocks-slot before [] at count = at
blocks-slot before (None ∷ bs) at count = blocks-slot before bs at count
blocks-slot before (Some b ∷ bs) at count =
    let same : kind (after before (block_elements b)) ≡ kind before = ap (λ (s : MbKind × ℕ × ℕ × ℤ × ℤ). s.0) (block-state before b) in
    let left : blocks before - 1 ≡ sent bs = omega (arith, count) in
    ap slot (after-append before (block_elements b) (blocks_elements bs))
    ∙ blocks-slot (after before (block_elements b)) bs
    (block-slot before b ∙ (ap (block_slot (kind before)) left ∙ ap (λ k. block_slot k (sent bs)) (sym same)))
    (block-blocks before b ∙ left)
