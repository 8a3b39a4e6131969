-- Worked bounds of valid pictures: for each rule records that just keep it, and records that break it and nothing else.
use Rattle.std.proofs.Common.{◌≡◌, ℕ, zero, suc, ◌+◌, ◌<◌, ◌≤◌, true, false, List, [], ◌∷◌, ◌++◌, map, replicate, Option, Some, None, IsNone, IsSomeAnd, IfSome, is_some, All, ℤ, pos, negsuc, nat_abs, refl, ap, arith}
use Rattle.std.proofs.lemmas.Bool.{false≢true, true≢false, ltb-true, ltb-false}
use Rattle.std.proofs.lemmas.List.Elements.{All-nil, All-cons}
use Rattle.std.proofs.lemmas.List.Folds.{list_any-from_Any}
use Rattle.std.proofs.Math.Dec.{ltb}
use Rattle.pel_model.specs.declared.Format.{Format}
use Rattle.pel_model.specs.declared.Format.TheVariants.{Qcif, Cif}
use Rattle.pel_model.specs.declared.MbKind.TheVariants.{Intra, IntraQuant, Inter, Mc, McCoded, McQuant}
use Rattle.pel_model.specs.Codes.{tcoeff_table}
use Rattle.pel_model.specs.Records.{Across, Down, Coefficient, Block, Macroblock, Group, Picture}
use Rattle.pel_model.specs.Refresh.{IsRefresh}
use Rattle.pel_model.specs.Valid.{IsValidCoefficient, IsIntraBlock, IsCodedBlock, BlocksFit, MquantFits, ComponentFits, IsValidMacroblock, AddressesRise, IsValidGroup, IsValidSoFar, IsValid}
use Rattle.pel_model.proofs.WorkedRecords.{pair, escape, coded, intra, none_sent, sent, group_of}

-- ---- orders of numbers, by computing

at_most : (a b : ℕ) → ltb b a ≡ false → a ≤ b
at_most a b h = ltb-false b a h

below : (a b : ℕ) → ltb a b ≡ true → a < b
below a b h = ltb-true a b h

not_at_most : (a b : ℕ) → ltb b a ≡ true → a ≤ b → ⊥
not_at_most a b h le = let lt = ltb-true b a h in omega (arith, lt, le)

not_below : (a b : ℕ) → ltb a b ≡ false → a < b → ⊥
not_below a b h lt = let le = ltb-false a b h in omega (arith, lt, le)

-- ---- coefficients (4.2.4.1)

abbrev pub Not : Type 0 → Type 0
Not P = P → ⊥

pub good_coefficients :
    IsValidCoefficient (escape 63 (pos 127))
    × IsValidCoefficient (escape 0 (negsuc 126))
    × IsValidCoefficient (escape 0 (pos 1))
    × IsValidCoefficient (pair 0 (pos 1))
    × IsValidCoefficient (pair 26 (negsuc 0))
    × IsValidCoefficient (pair 4 (pos 3))
unfolding tcoeff_table
good_coefficients = (
  (at_most 63 63 refl, (below 0 127 refl, at_most 127 127 refl)),
  (at_most 0 63 refl, (below 0 127 refl, at_most 127 127 refl)),
  (at_most 0 63 refl, (below 0 1 refl, at_most 1 127 refl)),
  refl,
  refl,
  refl,
)

-- a run of 64, the levels 0, 128 and -128, and pairs without a code
pub bad_coefficients :
    Not (IsValidCoefficient (escape 64 (pos 1)))
    × Not (IsValidCoefficient (escape 0 (pos 0)))
    × Not (IsValidCoefficient (escape 0 (pos 128)))
    × Not (IsValidCoefficient (escape 0 (negsuc 127)))
    × Not (IsValidCoefficient (pair 27 (pos 1)))
    × Not (IsValidCoefficient (pair 4 (pos 4)))
    × Not (IsValidCoefficient (pair 0 (pos 0)))
    × Not (IsValidCoefficient (pair 0 (negsuc 15)))
unfolding tcoeff_table
bad_coefficients = (
  (λ h. not_at_most 64 63 refl h.0),
  (λ h. not_below 0 0 refl h.1.0),
  (λ h. not_at_most 128 127 refl h.1.1),
  (λ h. not_at_most 128 127 refl h.1.1),
  (λ h. false≢true h),
  (λ h. false≢true h),
  (λ h. false≢true h),
  (λ h. false≢true h),
)

-- ---- blocks (4.2.4)

abbrev pub block : Option ℕ → List Coefficient → Block
block dc coefficients = record { dc = dc; coefficients = coefficients }

long_one : (run : ℕ) → run ≤ 63 → IsValidCoefficient (escape run (pos 1))
long_one run h = (h, (below 0 1 refl, at_most 1 127 refl))

one_alone : (c : Coefficient) → IsValidCoefficient c → All IsValidCoefficient (c ∷ [])
one_alone c h = All-cons IsValidCoefficient c [] h (All-nil IsValidCoefficient)

-- all 64 places are filled, behind INTRADC and without it
pub full_blocks : IsIntraBlock (block (Some 255) (escape 62 (pos 1)
    ∷ [])) × IsCodedBlock (block None (escape 63 (pos 1) ∷ []))
full_blocks = (
  ((below 0 255 refl, at_most 255 255 refl, λ h. omega (arith, h)), (one_alone (escape 62 (pos 1)) (long_one 62 (at_most 62 63 refl)), at_most 64 64 refl)),
  (refl, below 0 1 refl, (one_alone (escape 63 (pos 1)) (long_one 63 (at_most 63 63 refl)), at_most 64 64 refl)),
)

-- INTRADC 1, 127 and 129, beside what is forbidden
pub border_blocks : IsIntraBlock (block (Some 1) []) × IsIntraBlock (block (Some 127) []) × IsIntraBlock (block (Some 129) [])
border_blocks = (
  ((below 0 1 refl, at_most 1 255 refl, λ h. omega (arith, h)), (All-nil IsValidCoefficient, at_most 1 64 refl)),
  ((below 0 127 refl, at_most 127 255 refl, λ h. omega (arith, h)), (All-nil IsValidCoefficient, at_most 1 64 refl)),
  ((below 0 129 refl, at_most 129 255 refl, λ h. omega (arith, h)), (All-nil IsValidCoefficient, at_most 1 64 refl)),
)

-- INTRADC 0, 128, 256 and none; a 65th place; a coefficient that is not valid
pub bad_intra_blocks :
    Not (IsIntraBlock (block (Some 0) []))
    × Not (IsIntraBlock (block (Some 128) []))
    × Not (IsIntraBlock (block (Some 256) []))
    × Not (IsIntraBlock (block None []))
    × Not (IsIntraBlock (block (Some 1) (escape 63 (pos 1) ∷ [])))
    × Not (IsIntraBlock (block (Some 1) (escape 0 (pos 0) ∷ [])))
bad_intra_blocks = (
  (λ h. not_below 0 0 refl h.0.0),
  (λ h. h.0.2 refl),
  (λ h. not_at_most 256 255 refl h.0.1),
  (λ h. h.0),
  (λ h. not_at_most 65 64 refl h.1.1),
  (λ h. not_below 0 0 refl (h.1.0 0 (pair 0 (pos 1)) (below 0 1 refl)).1.0),
)

-- INTRADC; no coefficient; a 65th place; a coefficient that is not valid
pub bad_coded_blocks :
    Not (IsCodedBlock (block (Some 1) (pair 0 (pos 1) ∷ [])))
    × Not (IsCodedBlock (block None []))
    × Not (IsCodedBlock (block None (pair 0 (pos 1) ∷ escape 63 (pos 1) ∷ [])))
    × Not (IsCodedBlock (block None (escape 0 (pos 0) ∷ [])))
bad_coded_blocks = (
  (λ h. true≢false h.0),
  (λ h. not_below 0 0 refl h.1),
  (λ h. not_at_most 65 64 refl h.2.1),
  (λ h. not_below 0 0 refl (h.2.0 0 (pair 0 (pos 1)) (below 0 1 refl)).1.0),
)

-- ---- the blocks of a kind (4.2.3.2, 4.2.3.5)

grey_is_valid : IsIntraBlock (block (Some 255) [])
grey_is_valid = ((below 0 255 refl, at_most 255 255 refl, λ h. omega (arith, h)), (All-nil IsValidCoefficient, at_most 1 64 refl))

one_coefficient : IsCodedBlock (block None (pair 0 (pos 1) ∷ []))
one_coefficient = (refl, below 0 1 refl, (one_alone (pair 0 (pos 1)) refl, at_most 1 64 refl))

abbrev IntraBlocks : List (Option Block) → Type 0
IntraBlocks = All (λ b. IsSomeAnd b IsIntraBlock)

abbrev CodedBlocks : List (Option Block) → Type 0
CodedBlocks = All (λ b. IfSome b IsCodedBlock)

same_intra : (n : ℕ) → IntraBlocks (replicate n (intra 255 []))
same_intra zero = All-nil (λ b. IsSomeAnd b IsIntraBlock)
same_intra (suc n) = All-cons (λ b. IsSomeAnd b IsIntraBlock) (intra 255 []) (replicate n (intra 255 [])) grey_is_valid (same_intra n)

no_coded : (n : ℕ) → CodedBlocks (replicate n None)
no_coded zero = All-nil (λ b. IfSome b IsCodedBlock)
no_coded (suc n) = All-cons (λ b. IfSome b IsCodedBlock) None (replicate n None) tt (no_coded n)

nothing_sent : (n : ℕ) → All (IsNone {T = Block}) (replicate n None)
nothing_sent zero = All-nil (IsNone {T = Block})
nothing_sent (suc n) = All-cons (IsNone {T = Block}) None (replicate n None) refl (nothing_sent n)

abbrev first_alone : List (Option Block)
first_alone = coded (pair 0 (pos 1) ∷ []) ∷ replicate 5 None

first_is_coded : CodedBlocks first_alone
first_is_coded = All-cons (λ b. IfSome b IsCodedBlock) (coded (pair 0 (pos 1)
    ∷ [])) (replicate 5 None) one_coefficient (no_coded 5)

pub blocks_of_kinds :
    BlocksFit Intra (replicate 6 (intra 255 []))
    × BlocksFit IntraQuant (replicate 6 (intra 255 []))
    × BlocksFit Inter first_alone
    × BlocksFit McCoded first_alone
    × BlocksFit Mc none_sent
blocks_of_kinds = (
  same_intra 6,
  same_intra 6,
  ((0, coded (pair 0 (pos 1) ∷ []), below 0 6 refl, refl, refl), first_is_coded),
  ((0, coded (pair 0 (pos 1) ∷ []), below 0 6 refl, refl, refl), first_is_coded),
  nothing_sent 6,
)

-- an Intra macroblock without its last block, and with a block that is not Intra; one with CBP that has no block, and one
-- with an Intra block; one without CBP that has a block
pub blocks_that_do_not_fit :
    Not (BlocksFit Intra (replicate 5 (intra 255 []) ++ None ∷ []))
    × Not (BlocksFit IntraQuant (replicate 5 (intra 255 []) ++ coded (pair 0 (pos 1) ∷ []) ∷ []))
    × Not (BlocksFit Inter none_sent)
    × Not (BlocksFit Inter (replicate 6 (intra 255 [])))
    × Not (BlocksFit Mc first_alone)
blocks_that_do_not_fit = (
  (λ h. h 5 None (below 5 6 refl)),
  (λ h. (h 5 None (below 5 6 refl)).0),
  (λ h. false≢true (list_any-from_Any is_some none_sent h.0)),
  (λ h. true≢false (h.1 0 None (below 0 6 refl)).0),
  (λ h. true≢false (h 0 None (below 0 6 refl))),
)

-- ---- quantisers of macroblocks (4.2.3.3)

pub mquants : MquantFits McQuant (Some 31) × MquantFits IntraQuant (Some 1) × MquantFits Mc None
mquants = ((below 0 31 refl, at_most 31 31 refl), (below 0 1 refl, at_most 1 31 refl), refl)

pub bad_mquants :
    Not (MquantFits McQuant None)
    × Not (MquantFits McQuant (Some 0))
    × Not (MquantFits IntraQuant (Some 32))
    × Not (MquantFits Mc (Some 5))
bad_mquants = (
  (λ h. h),
  (λ h. not_below 0 0 refl h.0),
  (λ h. not_at_most 32 31 refl h.1),
  (λ h. true≢false h),
)

-- ---- vectors (4.2.3.4)

abbrev moving : (address : ℕ) → (across down : ℤ) → Macroblock
moving address across down = sent address Mc None across down none_sent

-- 15 and -15; to the edges of the picture; over the edge of a group of CIF; downwards where a step to the right would leave
-- the picture; none
pub components :
    ComponentFits Qcif 1 Across (moving 1 (pos 15) (pos 0))
    × ComponentFits Qcif 3 Down (moving 1 (pos 0) (negsuc 14))
    × ComponentFits Qcif 1 Across (moving 11 (pos 0) (pos 0))
    × ComponentFits Qcif 5 Down (moving 33 (pos 0) (pos 0))
    × ComponentFits Qcif 1 Across (moving 1 (pos 0) (pos 0))
    × ComponentFits Cif 1 Across (moving 11 (pos 15) (pos 0))
    × ComponentFits Cif 12 Across (moving 33 (pos 0) (pos 0))
    × ComponentFits Cif 12 Down (moving 33 (pos 0) (pos 0))
    × ComponentFits Qcif 1 Down (moving 11 (pos 0) (pos 15))
    × ComponentFits Qcif 1 Across (sent 1 Inter None (pos 0) (pos 0) none_sent)
components = (
  (at_most 15 15 refl, refl),
  (at_most 15 15 refl, refl),
  (at_most 0 15 refl, refl),
  (at_most 0 15 refl, refl),
  (at_most 0 15 refl, refl),
  (at_most 15 15 refl, refl),
  (at_most 0 15 refl, refl),
  (at_most 0 15 refl, refl),
  (at_most 15 15 refl, refl),
  refl,
)

-- 16; one sample over each edge of both formats; a vector of a kind that has none
pub bad_components :
    Not (ComponentFits Qcif 1 Across (moving 1 (pos 16) (pos 0)))
    × Not (ComponentFits Qcif 1 Across (moving 1 (negsuc 0) (pos 0)))
    × Not (ComponentFits Qcif 1 Down (moving 1 (pos 0) (negsuc 0)))
    × Not (ComponentFits Qcif 1 Across (moving 11 (pos 1) (pos 0)))
    × Not (ComponentFits Qcif 5 Down (moving 33 (pos 0) (pos 1)))
    × Not (ComponentFits Cif 12 Across (moving 33 (pos 1) (pos 0)))
    × Not (ComponentFits Cif 12 Down (moving 33 (pos 0) (pos 1)))
    × Not (ComponentFits Qcif 1 Across (sent 1 Inter None (pos 1) (pos 0) none_sent))
bad_components = (
  (λ h. not_at_most 16 15 refl h.0),
  (λ h. false≢true h.1),
  (λ h. false≢true h.1),
  (λ h. false≢true h.1),
  (λ h. false≢true h.1),
  (λ h. false≢true h.1),
  (λ h. false≢true h.1),
  (λ h. let e : 1 ≡ 0 = ap nat_abs h in omega (arith, e)),
)

-- ---- macroblocks

moving_is_valid : IsValidMacroblock Qcif 3 (moving 1 (pos 0) (negsuc 0))
moving_is_valid = record {
  mquant = refl;
  across = (at_most 0 15 refl, refl);
  down = (at_most 1 15 refl, refl);
  six = refl;
  blocks = nothing_sent 6;
}

-- an MQUANT that its kind has not; vectors that leave the picture to the left, and upwards; five blocks; a block that its
-- kind has not
pub bad_macroblocks :
    Not (IsValidMacroblock Qcif 1 (sent 1 Mc (Some 1) (pos 0) (pos 0) none_sent))
    × Not (IsValidMacroblock Qcif 1 (moving 1 (negsuc 0) (pos 0)))
    × Not (IsValidMacroblock Qcif 1 (moving 1 (pos 0) (negsuc 0)))
    × Not (IsValidMacroblock Qcif 1 (sent 1 Mc None (pos 0) (pos 0) (replicate 5 None)))
    × Not (IsValidMacroblock Qcif 1 (sent 1 Mc None (pos 0) (pos 0) first_alone))
bad_macroblocks = (
  (λ h. true≢false h.mquant),
  (λ h. false≢true h.across.1),
  (λ h. false≢true h.down.1),
  (λ h. let e : 5 ≡ 6 = h.six in omega (arith, e)),
  (λ h. true≢false (h.blocks 0 None (below 0 6 refl))),
)

-- ---- groups (4.2.2)

pub addresses : AddressesRise 0 (moving 1 (pos 0) (pos 0) ∷ moving 33 (pos 0) (pos 0) ∷ [])
addresses = (below 0 1 refl, at_most 1 33 refl, (below 1 33 refl, at_most 33 33 refl, tt))

-- 34; an address twice; one that falls
pub bad_addresses :
    Not (AddressesRise 0 (moving 34 (pos 0) (pos 0) ∷ []))
    × Not (AddressesRise 0 (moving 2 (pos 0) (pos 0) ∷ moving 2 (pos 0) (pos 0) ∷ []))
    × Not (AddressesRise 0 (moving 0 (pos 0) (pos 0) ∷ []))
    × Not (AddressesRise 0 (moving 3 (pos 0) (pos 0) ∷ moving 2 (pos 0) (pos 0) ∷ []))
bad_addresses = (
  (λ h. not_at_most 34 33 refl h.1),
  (λ h. not_below 2 2 refl h.2.0),
  (λ h. not_below 0 0 refl h.0),
  (λ h. not_below 3 2 refl h.2.0),
)

-- upwards out of group 3, which is no fault; the greatest quantiser
pub a_group : IsValidGroup Qcif (group_of 3 31 (moving 1 (pos 0) (negsuc 0) ∷ []))
a_group = record {
  quant = (below 0 31 refl, at_most 31 31 refl);
  addresses = (below 0 1 refl, at_most 1 33 refl, tt);
  macroblocks = All-cons (IsValidMacroblock Qcif 3) (moving 1 (pos 0) (negsuc 0)) [] moving_is_valid (All-nil (IsValidMacroblock Qcif 3));
}

-- the quantisers 0 and 32; address 34; upwards out of group 1
pub bad_groups :
    Not (IsValidGroup Qcif (group_of 3 0 []))
    × Not (IsValidGroup Qcif (group_of 3 32 []))
    × Not (IsValidGroup Qcif (group_of 3 1 (sent 34 Mc None (pos 0) (pos 0) none_sent ∷ [])))
    × Not (IsValidGroup Qcif (group_of 1 1 (moving 1 (pos 0) (negsuc 0) ∷ [])))
bad_groups = (
  (λ h. not_below 0 0 refl h.quant.0),
  (λ h. not_at_most 32 31 refl h.quant.1),
  (λ h. not_at_most 34 33 refl h.addresses.1),
  (λ h. false≢true (h.macroblocks 0 (moving 1 (pos 0) (negsuc 0)) (below 0 1 refl)).down.1),
)

-- ---- pictures (4.2.1)

pub silent_group : (format : Format) (number : ℕ) → IsValidGroup format (group_of number 1 [])
silent_group format number = record { quant = (below 0 1 refl, at_most 1 31 refl); addresses = tt; macroblocks = All-nil (IsValidMacroblock format number) }

abbrev pub silent_groups : List ℕ → List Group
silent_groups numbers = map (λ n. group_of n 1 []) numbers

pub silent_are_valid : (format : Format) (numbers : List ℕ) → All (IsValidGroup format) (silent_groups numbers)
silent_are_valid format [] = All-nil (IsValidGroup format)
silent_are_valid format (n
    ∷ numbers) = All-cons (IsValidGroup format) (group_of n 1 []) (silent_groups numbers) (silent_group format n) (silent_are_valid format numbers)

abbrev pub picture_of : ℕ → List Group → Picture
picture_of tr groups = record { tr = tr; groups = groups }

abbrev pub qcif_numbers : List ℕ
qcif_numbers = 1 ∷ 3 ∷ 5 ∷ []

abbrev pub cif_numbers : List ℕ
cif_numbers = 1 ∷ 2 ∷ 3 ∷ 4 ∷ 5 ∷ 6 ∷ 7 ∷ 8 ∷ 9 ∷ 10 ∷ 11 ∷ 12 ∷ []

pub silent_qcif : IsValid Qcif (picture_of 31 (silent_groups qcif_numbers))
silent_qcif = record {
  so_far = record { tr = below 31 32 refl; numbers = refl; groups = silent_are_valid Qcif qcif_numbers };
  whole = refl;
}

pub silent_cif : IsValid Cif (picture_of 0 (silent_groups cif_numbers))
silent_cif = record {
  so_far = record { tr = below 0 32 refl; numbers = refl; groups = silent_are_valid Cif cif_numbers };
  whole = refl;
}

-- the first two groups are valid so far
pub two_groups : IsValidSoFar Qcif (picture_of 0 (silent_groups (1 ∷ 3 ∷ [])))
two_groups = record { tr = below 0 32 refl; numbers = refl; groups = silent_are_valid Qcif (1 ∷ 3 ∷ []) }

abbrev second : List ℕ → ℕ
second (a ∷ b ∷ rest) = b
second _ = 0

-- TR 32; groups in another order; a group with quantiser 0; the last group left out
pub bad_pictures :
    Not (IsValid Qcif (picture_of 32 (silent_groups qcif_numbers)))
    × Not (IsValid Qcif (picture_of 0 (silent_groups (1 ∷ 5 ∷ 3 ∷ []))))
    × Not (IsValid Qcif (picture_of 0 (group_of 1 0 [] ∷ silent_groups (3 ∷ 5 ∷ []))))
    × Not (IsValid Qcif (picture_of 0 (silent_groups (1 ∷ 3 ∷ []))))
bad_pictures = (
  (λ h. not_below 32 32 refl h.so_far.tr),
  (λ h. let e : 5 ≡ 3 = ap second h.so_far.numbers in omega (arith, e)),
  (λ h. not_below 0 0 refl (h.so_far.groups 0 (group_of 1 1 []) (below 0 3 refl)).quant.0),
  (λ h. let e : 2 ≡ 3 = h.whole in omega (arith, e)),
)

-- ---- refreshes

abbrev intra_from : (last more : ℕ) → List Macroblock
intra_from last zero = []
intra_from last (suc more) = sent (last + 1) Intra None (pos 0) (pos 0) (replicate 6 (intra 255 []))
    ∷ intra_from (last + 1) more

abbrev refresh_of : List Macroblock → Picture
refresh_of last = picture_of 0 (group_of 1 8 (intra_from 0 33) ∷ group_of 3 8 (intra_from 0 33)
    ∷ group_of 5 8 last ∷ [])

pub a_refresh : IsRefresh Qcif (refresh_of (intra_from 0 33))
a_refresh = refl

-- 98 macroblocks; the last one not Intra; the same picture as CIF
pub no_refreshes :
    Not (IsRefresh Qcif (refresh_of (intra_from 0 32)))
    × Not (IsRefresh Qcif (refresh_of (intra_from 0 32 ++ sent 33 Inter None (pos 0) (pos 0) first_alone ∷ [])))
    × Not (IsRefresh Cif (refresh_of (intra_from 0 33)))
no_refreshes = ((λ h. false≢true h), (λ h. false≢true h), (λ h. false≢true h))
