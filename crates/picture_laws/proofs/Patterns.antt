-- The blocks of a macroblock: which are sent, and the number that says so.
use Rattle.std.proofs.Common.{◌≡◌, ℕ, zero, suc, ◌<◌, ◌≤◌, ◌^◌, ◌==◌, Bool, true, false, List, [], ◌∷◌, length, map, Option, Some, None, refl, sym, ◌∙◌, ap, subst, IsSomeAnd, IfSome, IsNone, IsSome, All, Any, is_some, slice_index_or, arith}
use Rattle.std.proofs.lemmas.List.Elements.{All-cons, All-head, All-nil, All-tail}
use Rattle.std.specs.List.{list_all}
use Rattle.std.proofs.lemmas.Bool.{false≢true, eqb-true}
use Rattle.std.proofs.lemmas.Nat.{pow_pos}
use Rattle.pel_model.specs.declared.MbKind.{MbKind}
use Rattle.pel_model.specs.declared.MbKind.TheVariants.{Intra, IntraQuant}
use Rattle.pel_model.specs.Codes.{is_intra, has_cbp}
use Rattle.pel_model.specs.Bits.{field, number}
use Rattle.pel_model.specs.Records.{Block}
use Rattle.pel_model.specs.Valid.{IsIntraBlock, IsCodedBlock}
use Rattle.pel_model.specs.Grammar.{ones}
use Rattle.picture_laws.proofs.Words.{field-number, number_below}
use Rattle.picture_laws.proofs.Written.{below_all, below}
use Rattle.picture_laws.proofs.Blocks.{sent, AreBlocksOf}

-- ---- numbers of flags

abbrev pub trues : List Bool → ℕ
trues [] = 0
trues (true ∷ flags) = suc (trues flags)
trues (false ∷ flags) = trues flags

ones_computed : list_all (λ c. ones c == trues (field c 6)) (below 64) ≡ true
unfolding field
ones_computed = refl

pub ones-trues : (flags : List Bool) → length flags ≡ 6 → ones (number flags) ≡ trues flags
ones-trues flags six =
    let fits : number flags < 64 = subst (λ k. number flags < 2 ^ k) six (number_below flags) in
    let c = below_all (λ c. ones c == trues (field c 6)) 64 (number flags) ones_computed fits in
    let same : field (number flags) 6 ≡ flags = ap (field (number flags)) (sym six) ∙ field-number flags in
    eqb-true (ones (number flags)) (trues (field (number flags) 6)) c ∙ ap trues same

pub number-some : (flags : List Bool) → 0 < trues flags → 0 < number flags
unfolding number
number-some [] h = absurd (omega arith)
number-some (true ∷ flags) h = omega (arith, pow_pos (length flags))
number-some (false ∷ flags) h = omega (arith, number-some flags h)

pub trues-some : (flags : List Bool) → 0 < number flags → 0 < trues flags
unfolding number
trues-some [] h = absurd (omega arith)
trues-some (true ∷ flags) h = omega arith
trues-some (false ∷ flags) h = trues-some flags (omega (arith, h))

pub sent-trues : (bs : List (Option Block)) → trues (map is_some bs) ≡ sent bs
sent-trues [] = refl
sent-trues (None ∷ bs) = sent-trues bs
sent-trues (Some b ∷ bs) = ap suc (sent-trues bs)

-- ---- what validity says of the blocks

pub blocks-intra : (bs : List (Option Block)) → All (λ b. IsSomeAnd b IsIntraBlock) bs → (sent bs ≡ length bs) × AreBlocksOf true bs
blocks-intra [] h = (refl, tt)
blocks-intra (None ∷ bs) h = absurd (All-head (λ b. IsSomeAnd b IsIntraBlock) None bs h)
blocks-intra (Some b ∷ bs) h =
    let rest = blocks-intra bs (All-tail (λ b. IsSomeAnd b IsIntraBlock) (Some b) bs h) in
    (ap suc rest.0, (All-head (λ b. IsSomeAnd b IsIntraBlock) (Some b) bs h, rest.1))

sent_most : (bs : List (Option Block)) → sent bs ≤ length bs
sent_most [] = omega arith
sent_most (None ∷ bs) = omega (arith, sent_most bs)
sent_most (Some b ∷ bs) = omega (arith, sent_most bs)

pub intra-blocks : (bs : List (Option Block)) → sent bs ≡ length bs → AreBlocksOf true bs → All (λ b. IsSomeAnd b IsIntraBlock) bs
intra-blocks [] n h = All-nil (λ b. IsSomeAnd b IsIntraBlock)
intra-blocks (None ∷ bs) n h = absurd (omega (arith, n, sent_most bs))
intra-blocks (Some b ∷ bs) n h = All-cons (λ b. IsSomeAnd b IsIntraBlock) (Some b) bs h.0 (intra-blocks bs (omega (arith, n)) h.1)

pub blocks-coded : (bs : List (Option Block)) → All (λ b. IfSome b IsCodedBlock) bs → AreBlocksOf false bs
blocks-coded [] h = tt
blocks-coded (None ∷ bs) h = blocks-coded bs (All-tail (λ b. IfSome b IsCodedBlock) None bs h)
blocks-coded (Some b ∷ bs) h = (All-head (λ b. IfSome b IsCodedBlock) (Some b) bs h, blocks-coded bs (All-tail (λ b. IfSome b IsCodedBlock) (Some b) bs h))

pub coded-blocks : (bs : List (Option Block)) → AreBlocksOf false bs → All (λ b. IfSome b IsCodedBlock) bs
coded-blocks [] h = All-nil (λ b. IfSome b IsCodedBlock)
coded-blocks (None ∷ bs) h = All-cons (λ b. IfSome b IsCodedBlock) None bs tt (coded-blocks bs h)
coded-blocks (Some b ∷ bs) h = All-cons (λ b. IfSome b IsCodedBlock) (Some b) bs h.0 (coded-blocks bs h.1)

pub blocks-none : (intra : Bool) (bs : List (Option Block)) → All IsNone bs → (sent bs ≡ 0) × AreBlocksOf intra bs
blocks-none intra [] h = (refl, tt)
blocks-none intra (None ∷ bs) h = blocks-none intra bs (All-tail IsNone None bs h)
blocks-none intra (Some b ∷ bs) h = absurd (false≢true (sym (All-head IsNone (Some b) bs h)))

pub none-blocks : (bs : List (Option Block)) → sent bs ≡ 0 → All IsNone bs
none-blocks [] h = All-nil IsNone
none-blocks (None ∷ bs) h = All-cons IsNone None bs refl (none-blocks bs h)
none-blocks (Some b ∷ bs) h = absurd (omega (arith, h))

any_sent_at : (bs : List (Option Block)) (k : ℕ) (x : Option Block) → k < length bs → slice_index_or bs k x ≡ x → IsSome x → 0 < sent bs
any_sent_at [] k x lt is some = absurd (omega (arith, lt))
any_sent_at (Some b ∷ bs) k x lt is some = omega arith
any_sent_at (None ∷ bs) zero x lt is some = absurd (false≢true (ap is_some is ∙ some))
any_sent_at (None ∷ bs) (suc k) x lt is some = any_sent_at bs k x (omega (arith, lt)) is some

pub any-sent : (bs : List (Option Block)) → Any IsSome bs → 0 < sent bs
any-sent bs h = any_sent_at bs h.0 h.1 h.2 h.3 h.4

pub sent-any : (bs : List (Option Block)) → 0 < sent bs → Any IsSome bs
sent-any [] h = absurd (omega (arith, h))
sent-any (Some b ∷ bs) h = (0, Some b, omega arith, refl, refl)
sent-any (None ∷ bs) h = let r = sent-any bs h in (suc r.0, r.1, omega (arith, r.2), r.3, r.4)

pub not-both : (k : MbKind) → has_cbp k ≡ true → is_intra k ≡ false
not-both Intra h = absurd cc
not-both IntraQuant h = absurd cc
not-both _ h = refl
