-- The longest blocks and macroblocks, and the most macroblocks of a group.
use Rattle.std.proofs.Common.{◌≡◌, ℕ, zero, suc, ◌+◌, ◌-◌, ◌*◌, ◌<◌, ◌≤◌, Bool, true, false, List, [], ◌∷◌, ◌++◌, length, Option, Some, None, flat_map, refl, ap, subst, sym, ◌∙◌, arith, length-append}
use Rattle.std.proofs.lemmas.List.Elements.{All-head, All-tail}
use Rattle.std.proofs.lemmas.List.Sums.{sum_by-cons}
use Rattle.std.specs.Prelude.{All, Any, sum_by, MatchBool, IsSome, IsSomeAnd, IfSome, IsNone}
use Rattle.pel_model.specs.declared.Format.{Format}
use Rattle.pel_model.specs.declared.MbKind.{MbKind}
use Rattle.pel_model.specs.declared.MbKind.TheVariants.{Intra, IntraQuant, Inter, InterQuant, Mc, McCoded, McQuant, McFil, McFilCoded, McFilQuant}
use Rattle.pel_model.specs.Codes.{mtype_table, first_one_word, later_one_word, end_of_block_word, is_intra, has_cbp}
use Rattle.pel_model.specs.Records.{Coefficient, Block, Macroblock, Group}
use Rattle.pel_model.specs.Text.{coefficient_word, coefficients_text, dc_text, one_word, block_text, sent_block_text, mba_word, mtype_word, mquant_text, mvd_text, cbp_text, macroblock_text}
use Rattle.pel_model.specs.Valid.{IsIntraBlock, IsCodedBlock, BlocksFit, AddressesRise, IsValidMacroblock, IsValidGroup}
use Rattle.picture_laws.proofs.Words.{length-field}
use Rattle.picture_laws.proofs.LongestWords.{mba_is_short, mtype_is_short, mquant_is_short, mvd_is_short, cbp_is_short, coefficient_is_short}

abbrev places : List Coefficient → ℕ
places cs = sum_by (λ (c : Coefficient). c.run + 1) cs

coefficients_are_short : (one : List Bool) (cs : List Coefficient) → length one ≤ 13 → length (coefficients_text one cs) ≤ 20 * places cs
coefficients_are_short one [] h = omega arith
coefficients_are_short one (c ∷ cs) h =
    omega (arith, coefficient_is_short one c h, coefficients_are_short later_one_word cs (omega arith), length-append (coefficient_word one c) (coefficients_text later_one_word cs), sum_by-cons (λ (c : Coefficient). c.run + 1) c cs)

one_is_short : (dc : Option ℕ) → length (one_word dc) ≤ 13
one_is_short None = omega arith
one_is_short (Some n) = omega arith

dc_is_short : (dc : Option ℕ) → length (dc_text dc) ≤ 8
dc_is_short None = omega arith
dc_is_short (Some n) = omega (arith, length-field n 8)

-- with INTRADC one place is taken
blocks_bits : (dc : Option ℕ) (taken : ℕ) (cs : List Coefficient) → length (dc_text dc) ≤ 20 * taken → taken + places cs ≤ 64
    → length (dc_text dc ++ coefficients_text (one_word dc) cs ++ end_of_block_word) ≤ 1282
blocks_bits dc taken cs short few =
    let long : length (dc_text dc ++ coefficients_text (one_word dc) cs ++ end_of_block_word) ≡ length (dc_text dc) + length (coefficients_text (one_word dc) cs) + 2 =
    sums (dc_text dc) (coefficients_text (one_word dc) cs) end_of_block_word in
    omega (arith, short, few, long, coefficients_are_short (one_word dc) cs (one_is_short dc))
  where
    sums : (xs ys zs : List Bool) → length (xs ++ ys ++ zs) ≡ length xs + length ys + length zs
    sums xs ys zs = omega (arith, length-append xs (ys ++ zs), length-append ys zs, length-append (xs ++ ys) zs, length-append xs ys)

intra_is_short : (b : Block) → IsIntraBlock b → length (block_text b) ≤ 1282
unfolding block_text
intra_is_short b valid = blocks_bits b.dc 1 b.coefficients (omega (arith, dc_is_short b.dc)) valid.1.1

coded_is_short : (b : Block) → IsCodedBlock b → length (block_text b) ≤ 1282
unfolding block_text
coded_is_short b valid = blocks_bits b.dc 0 b.coefficients (none b.dc valid.0) valid.2.1
  where
    none : (dc : Option ℕ) → IsNone dc → length (dc_text dc) ≤ 20 * 0
    none None is = omega arith
    none (Some n) is = absurd (cc)

-- a block as it is sent
abbrev IsShort : Option Block → Type 0
IsShort b = length (sent_block_text b) ≤ 1282

all_short : (P : Option Block → Type 0) → ((b : Option Block) → P b → IsShort b) → (bs : List (Option Block)) → All P bs → length (flat_map sent_block_text bs) ≤ 1282 * length bs
all_short P short [] valid = omega arith
all_short P short (b ∷ bs) valid =
    omega (arith, short b (All-head P b bs valid), all_short P short bs (All-tail P b bs valid), length-append (sent_block_text b) (flat_map sent_block_text bs))

blocks_are_short : (intra coded : Bool) (bs : List (Option Block))
    → MatchBool intra (All (λ b. IsSomeAnd b IsIntraBlock) bs) (MatchBool coded (Any IsSome bs × All (λ b. IfSome b IsCodedBlock) bs) (All IsNone bs))
    → length (flat_map sent_block_text bs) ≤ 1282 * length bs
blocks_are_short true coded bs fit = all_short _ some bs fit
  where
    some : (b : Option Block) → IsSomeAnd b IsIntraBlock → IsShort b
    some None is = absurd is
    some (Some b) is = intra_is_short b is
blocks_are_short false true bs fit = all_short _ some bs fit.1
  where
    some : (b : Option Block) → IfSome b IsCodedBlock → IsShort b
    some None is = omega arith
    some (Some b) is = coded_is_short b is
blocks_are_short false false bs fit = all_short _ none bs fit
  where
    none : (b : Option Block) → IsNone b → IsShort b
    none None is = omega arith
    none (Some b) is = absurd (cc)

mtype_is_there : (kind : MbKind) → 0 < length (mtype_word kind)
unfolding mtype_table
mtype_is_there Intra = omega arith
mtype_is_there IntraQuant = omega arith
mtype_is_there Inter = omega arith
mtype_is_there InterQuant = omega arith
mtype_is_there Mc = omega arith
mtype_is_there McCoded = omega arith
mtype_is_there McQuant = omega arith
mtype_is_there McFil = omega arith
mtype_is_there McFilCoded = omega arith
mtype_is_there McFilQuant = omega arith

six_sums : (a b c d e f : List Bool) → length (a ++ b ++ c ++ d ++ e ++ f) ≡ length a + (length b + (length c + (length d + (length e + length f))))
six_sums a b c d e f =
    omega (arith, length-append (a ++ b ++ c ++ d ++ e) f, length-append (a ++ b ++ c ++ d) e, length-append (a ++ b ++ c) d, length-append (a ++ b) c, length-append a b)

pub macroblock_is_short : (format : Format) (group : ℕ) (last : Option Macroblock) (m : Macroblock) → IsValidMacroblock format group m
    → (0 < length (macroblock_text last m)) × (length (macroblock_text last m) ≤ 7749)
unfolding macroblock_text
macroblock_is_short format group last m valid =
    let blocks = flat_map sent_block_text m.blocks in
    let a : length (mba_word last m) ≤ 11 = mba_is_short last m in
    let b : length (mtype_word m.kind) ≤ 10 = mtype_is_short m.kind in
    let c : length (mquant_text m.mquant) ≤ 5 = mquant_is_short m.mquant in
    let d : length (mvd_text last m) ≤ 22 = mvd_is_short last m in
    let e : length (cbp_text m) ≤ 9 = cbp_is_short m in
    let f : length blocks ≤ 1282 * length m.blocks = blocks_are_short (is_intra m.kind) (has_cbp m.kind) m.blocks valid.blocks in
    let g : 0 < length (mtype_word m.kind) = mtype_is_there m.kind in
    let long : length (macroblock_text last m)
    ≡ length (mba_word last m) + (length (mtype_word m.kind) + (length (mquant_text m.mquant) + (length (mvd_text last m) + (length (cbp_text m) + length blocks)))) =
    six_sums (mba_word last m) (mtype_word m.kind) (mquant_text m.mquant) (mvd_text last m) (cbp_text m) blocks in
    (omega (arith, g, long), omega (arith, a, b, c, d, e, f, valid.six, long))

pub few_addresses : (last : ℕ) (ms : List Macroblock) → last ≤ 33 → AddressesRise last ms → last + length ms ≤ 33
few_addresses last [] within rise = omega (arith, within)
few_addresses last (m ∷ ms) within rise = omega (arith, rise.0, few_addresses m.address ms rise.1 rise.2)

pub group_is_short : (format : Format) (g : Group) → IsValidGroup format g → length g.macroblocks ≤ 33
group_is_short format g valid = omega (arith, few_addresses 0 g.macroblocks (omega arith) valid.addresses)
