-- The atoms of a valid picture fit packets one by one.
use Rattle.std.proofs.Common.{◌≡◌, ℕ, ◌+◌, ◌-◌, ◌/◌, ◌<◌, ◌≤◌, nat_le, true, List, [], ◌∷◌, ◌++◌, length, flat_map, Option, Some, None, refl, sym, ◌∙◌, ap, subst, arith, length-append}
use Rattle.std.proofs.lemmas.Bool.Decides.{nat_tests}
use Rattle.std.proofs.lemmas.List.Elements.{All-head, All-tail}
use Rattle.std.specs.Prelude.{All}
use Rattle.picture_laws.proofs.LongestMacroblocks.{macroblock_is_short}
use Rattle.pel_model.specs.declared.Format.{Format}
use Rattle.pel_model.specs.declared.Format.TheVariants.{Cif}
use Rattle.pel_model.specs.Records.{Macroblock, Group, Picture, quantiser_after}
use Rattle.pel_model.specs.Text.{macroblock_text, macroblocks_text, group_text, text}
use Rattle.pel_model.specs.Valid.{IsValid, IsValidGroup, IsValidMacroblock}
use Rattle.h261_pic.proofs.Texts.{length-group_text, length-text}
use Rattle.h261_pic.specs.Coded.{Coding, coding, IsWhole}
use Rattle.std.proofs.Math.Logic.{∥∥₁_elim}
use Rattle.std.proofs.Props.{props}
use Rattle.cif_pack.specs.declared.atoms.AtomEnd.{AtomEnd}
use Rattle.cif_pack.specs.Atoms.{context_behind, macroblock_ends, ends_behind, group_ends, atom_ends}
use Rattle.cif_pack.specs.Cuts.{fits}
use Rattle.cif_pack.specs.Sending.{Rises}
use Rattle.cif_pack.specs.Payload.{no_context}
use Rattle.cif_pack.proofs.CutLemmas.{rises-from}

-- 7,807 bits fit a packet of 1,000 octets wherever they begin
fits-in : (mtu from to : ℕ) → 1000 ≤ mtu → to ≤ from + 7807 → fits mtu from to ≡ true
fits-in mtu from to most near = le ((to + 7) / 8 - from / 8) (mtu - 16) (omega (arith, most, near))
  where
    le : (m n : ℕ) → m ≤ n → nat_le m n ≡ true
    le m n h = grind (arith, nat_tests)

one-more : (mtu last from : ℕ) (e : AtomEnd) (es : List AtomEnd) → 1000 ≤ mtu → from < e.at → e.at ≤ from + 7807 → e.at ≤ last → Rises mtu last e.at es → Rises mtu last from (e ∷ es)
one-more mtu last from e es most behind near within rest =
    rises-from mtu last from e es (record { behind = behind; within = within; fit = fits-in mtu from e.at most near; rest = rest })

pub length-more : (last : Option Macroblock) (m : Macroblock) (ms : List Macroblock) → length (macroblocks_text last (m ∷ ms)) ≡ length (macroblock_text last m) + length (macroblocks_text (Some m) ms)
unfolding macroblocks_text
length-more last m ms = length-append (macroblock_text last m) (macroblocks_text (Some m) ms)

pub length-none : (last : Option Macroblock) → length (macroblocks_text last []) ≡ 0
unfolding macroblocks_text
length-none last = refl

-- macroblocks one behind another, and what stands behind them
macroblocks-rise : (mtu last at number quant : ℕ) (before : Option Macroblock) (ms : List Macroblock) (behind : List AtomEnd) → 1000 ≤ mtu → All (IsValidMacroblock Cif number) ms
    → at + length (macroblocks_text before ms) ≤ last → Rises mtu last (at + length (macroblocks_text before ms)) behind
    → Rises mtu last at (macroblock_ends at number quant before ms ++ behind)
macroblocks-rise mtu last at number quant before [] behind most valid within rise = subst (λ n. Rises mtu last n behind) (omega (arith, length-none before)) rise
macroblocks-rise mtu last at number quant before (m ∷ ms) behind most valid within rise =
    let short = macroblock_is_short Cif number before m (All-head (IsValidMacroblock Cif number) m ms valid) in
    let next = at + length (macroblock_text before m) in
    let long = length-more before m ms in
    one-more mtu last at (record { at = next; context = context_behind number (quantiser_after quant m.mquant) m ms }) _ most (omega (arith, short.0)) (omega (arith, short.1)) (omega (arith, within, long))
    (macroblocks-rise mtu last next number (quantiser_after quant m.mquant) (Some m) ms behind most (All-tail (IsValidMacroblock Cif number) m ms valid)
    (omega (arith, within, long)) (subst (λ n. Rises mtu last n behind) (omega (arith, long)) rise))

-- a group whose header ends at `at`, from at most both headers before it
group-rises : (mtu last from at number quant : ℕ) (ms : List Macroblock) (behind : List AtomEnd) → 1000 ≤ mtu → from + 26 ≤ at → at ≤ from + 58 → All (IsValidMacroblock Cif number) ms
    → at + length (macroblocks_text None ms) ≤ last → Rises mtu last (at + length (macroblocks_text None ms)) behind
    → Rises mtu last from (ends_behind at number quant ms ++ behind)
group-rises mtu last from at number quant [] behind most far near valid within rise =
    one-more mtu last from (record { at = at; context = no_context }) behind most (omega (arith, far)) (omega (arith, near)) (omega (arith, within))
    (subst (λ n. Rises mtu last n behind) (omega (arith, length-none None)) rise)
group-rises mtu last from at number quant (m ∷ ms) behind most far near valid within rise =
    let short = macroblock_is_short Cif number None m (All-head (IsValidMacroblock Cif number) m ms valid) in
    let next = at + length (macroblock_text None m) in
    let long = length-more None m ms in
    one-more mtu last from (record { at = next; context = context_behind number (quantiser_after quant m.mquant) m ms }) _ most (omega (arith, far, short.0)) (omega (arith, near, short.1)) (omega (arith, within, long))
    (macroblocks-rise mtu last next number (quantiser_after quant m.mquant) (Some m) ms behind most (All-tail (IsValidMacroblock Cif number) m ms valid)
    (omega (arith, within, long)) (subst (λ n. Rises mtu last n behind) (omega (arith, long)) rise))

groups-rise : (mtu last from at : ℕ) (gs : List Group) → 1000 ≤ mtu → from ≤ at → at ≤ from + 32 → All (IsValidGroup Cif) gs
    → at + length (flat_map group_text gs) ≤ last → Rises mtu last from (group_ends at gs)
groups-rise mtu last from at [] most far near valid within = refl
groups-rise mtu last from at (g ∷ gs) most far near valid within =
    let next = at + length (group_text g) in
    let long : length (group_text g) ≡ 26 + length (macroblocks_text None g.macroblocks) = length-group_text g in
    let all : length (flat_map group_text (g ∷ gs)) ≡ length (group_text g) + length (flat_map group_text gs) = length-append (group_text g) (flat_map group_text gs) in
    let one : IsValidGroup Cif g = All-head (IsValidGroup Cif) g gs valid in
    group-rises mtu last from (at + 26) g.number g.quant g.macroblocks (group_ends next gs) most (omega (arith, far)) (omega (arith, near)) one.macroblocks
    (omega (arith, within, all, long))
    (subst (λ n. Rises mtu last n (group_ends next gs)) (omega (arith, long))
    (groups-rise mtu last next next gs most (omega arith) (omega arith) (All-tail (IsValidGroup Cif) g gs valid) (omega (arith, within, all))))

pub atoms-rise : (mtu : ℕ) (p : Picture) → 1000 ≤ mtu → IsValid Cif p → Rises mtu (length (text Cif p)) 0 (atom_ends p)
atoms-rise mtu p most valid =
    groups-rise mtu (length (text Cif p)) 0 32 p.groups most (omega arith) (omega arith) valid.so_far.groups (omega (arith, length-text Cif p))

-- of what a coded picture holds
rises-in : (coded : Coding) (p : Picture) (mtu len : ℕ) (ends : List AtomEnd) → 1000 ≤ mtu → len ≡ length coded.bits → coded ≡ coding Cif p → IsValid Cif p
    → ends ≡ atom_ends p → Rises mtu len 0 ends
rises-in coded p mtu len ends most len_is is valid ends_are =
    subst (Rises mtu len 0) (sym ends_are)
    (subst (λ n. Rises mtu n 0 (atom_ends p)) (ap (λ (c : Coding). length c.bits) (sym is) ∙ sym len_is) (atoms-rise mtu p most valid))

pub rises-of : (coded : Coding) (mtu len : ℕ) (ends : List AtomEnd) → 1000 ≤ mtu → len ≡ length coded.bits → coded.format ≡ Cif → IsWhole coded
    → ((p : Picture) → coded ≡ coding Cif p → ends ≡ atom_ends p) → Rises mtu len 0 ends
rises-of coded mtu len ends most len_is cif whole ends_are =
    ∥∥₁_elim whole (hlevel props)
    (λ h. rises-in coded h.0 mtu len ends most len_is (h.1 ∙ ap (λ (f : Format). coding f h.0) cif) (subst (λ (f : Format). IsValid f h.0) cif h.2)
    (ends_are h.0 (h.1 ∙ ap (λ (f : Format). coding f h.0) cif)))
