-- A refresh sends each macroblock, since 33 addresses that rise up to 33 are all of them, and refers to no frame before.
use Rattle.std.proofs.Common.{◌≡◌, ℕ, suc, zero, ◌+◌, ◌*◌, ◌/◌, ◌%◌, ◌<◌, ◌≤◌, ◌==◌, Bool, true, false, if◌then◌else◌, ℤ, pos, ◌+ℤ◌, List, [], ◌∷◌, length, slice_index_or, Option, None, Some, IsSome, refl, sym, ◌∙◌, ap, subst, arith}
use Rattle.std.proofs.Math.Path.{fun_ext}
use Rattle.std.proofs.lemmas.Bool.{eqb-false, true≢false}
use Rattle.pel_model.specs.declared.Format.TheVariants.{Qcif}
use Rattle.pel_model.specs.Codes.{is_intra}
use Rattle.pel_model.specs.Decode.{Quantised, at_address, in_groups, macroblock_at, group_of, address_of, block_number, sample, decoded, decode}
use Rattle.pel_model.specs.Frames.{Plane, Frame, ratio, is_inside}
use Rattle.pel_model.specs.Prediction.{predicted}
use Rattle.pel_model.specs.Records.{Macroblock, Group, Picture, quantiser_after}
use Rattle.pel_model.specs.Refresh.{IsRefresh}
use Rattle.pel_model.specs.Regions.{empty_group}
use Rattle.pel_model.specs.Residual.{residual}
use Rattle.pel_model.specs.Transform.{Transform}
use Rattle.pel_model.specs.Valid.{AddressesRise, IsValid}
use Rattle.pel_model.proofs.RefreshLaws.{refresh-facts}
use Rattle.frame_laws.specs.DecodedFrames.{RefreshLaw}
use Rattle.frame_laws.proofs.Lookups.{HoldsIf, in-holds}
use Rattle.frame_laws.proofs.Quadrants.{decode-inside, decode-outside, column-below, row-below}
use Rattle.frame_laws.proofs.ThreeGroups.{of_three, by-three}

-- ---- every address is sent

addresses-left : (last : ℕ) (ms : List Macroblock) → last ≤ 33 → AddressesRise last ms → length ms + last ≤ 33
addresses-left last [] below rise = omega arith
addresses-left last (m ∷ ms) below rise = omega (arith, addresses-left m.address ms rise.1 rise.2, rise.0)

at-found-step : (m : Macroblock) (a q : ℕ) (rest : Option Quantised) (same : Bool) → (m.address == a) ≡ same → ((m.address ≡ a → ⊥) → IsSome rest)
    → IsSome (if same then Some (record { macroblock = m; quant = q }) else rest)
at-found-step m a q rest true same_is later = refl
at-found-step m a q rest false same_is later = later (eqb-false m.address a same_is)

at-found : (last q a : ℕ) (ms : List Macroblock) → AddressesRise last ms → last + length ms ≡ 33 → last < a → a ≤ 33 → IsSome (at_address a q ms)
at-found last q a [] rise full above below = absurd (omega arith)
at-found last q a (m ∷ ms) rise full above below =
    let next : m.address + length ms ≡ 33 = omega (arith, addresses-left m.address ms rise.1 rise.2, rise.0) in
    at-found-step m a (quantiser_after q m.mquant) (at_address a (quantiser_after q m.mquant) ms) (m.address == a) refl
    (λ other. at-found m.address (quantiser_after q m.mquant) a ms rise.2 next (omega (arith, other, next)) below)

-- in each of the three groups
in-three : (a : ℕ) (x y z : Group) → 0 < a → a ≤ 33
    → AddressesRise 0 x.macroblocks → AddressesRise 0 y.macroblocks → AddressesRise 0 z.macroblocks
    → 0 + length x.macroblocks + length y.macroblocks + length z.macroblocks ≡ 99
    → (third : ℕ) → third < 3 → IsSome (in_groups (2 * third + 1) a (of_three 0 x y z).groups)
in-three a x y z above below rise_x rise_y rise_z all zero less =
    at-found 0 x.quant a x.macroblocks rise_x
    (omega (arith, addresses-left 0 x.macroblocks (omega arith) rise_x, addresses-left 0 y.macroblocks (omega arith) rise_y, addresses-left 0 z.macroblocks (omega arith) rise_z)) above below
in-three a x y z above below rise_x rise_y rise_z all (suc zero) less =
    at-found 0 y.quant a y.macroblocks rise_y
    (omega (arith, addresses-left 0 x.macroblocks (omega arith) rise_x, addresses-left 0 y.macroblocks (omega arith) rise_y, addresses-left 0 z.macroblocks (omega arith) rise_z)) above below
in-three a x y z above below rise_x rise_y rise_z all (suc (suc zero)) less =
    at-found 0 z.quant a z.macroblocks rise_z
    (omega (arith, addresses-left 0 x.macroblocks (omega arith) rise_x, addresses-left 0 y.macroblocks (omega arith) rise_y, addresses-left 0 z.macroblocks (omega arith) rise_z)) above below
in-three a x y z above below rise_x rise_y rise_z all (suc (suc (suc n))) less = absurd (omega arith)

abbrev FindsAll : (column row : ℕ) → Picture → Type 0
FindsAll column row p = IsValid Qcif p → IsRefresh Qcif p → IsSome (macroblock_at p column row)

finds-three : (column row : ℕ) → column < 11 → row < 9 → (tr : ℕ) (x y z : Group) → FindsAll column row (of_three tr x y z)
finds-three column row across down tr x y z valid refresh =
    let number_is : 2 * (row / 3) + 1 ≡ group_of column row = omega arith in
    subst (λ (n : ℕ). IsSome (in_groups n (address_of column row) (of_three 0 x y z).groups)) number_is
    (in-three (address_of column row) x y z (omega arith) (omega arith)
    (valid.so_far.groups 0 (empty_group 0) (omega arith)).addresses
    (valid.so_far.groups 1 (empty_group 0) (omega arith)).addresses
    (valid.so_far.groups 2 (empty_group 0) (omega arith)).addresses
    (refresh-facts Qcif (of_three tr x y z) refresh).all_sent (row / 3) (omega arith))

finds : (column row : ℕ) (p : Picture) → column < 11 → row < 9 → FindsAll column row p
finds column row p across down valid refresh =
    by-three (FindsAll column row) p (finds-three column row across down) valid valid refresh

-- ---- and none refers to the frame before

abbrev IsIntra : ℕ → Macroblock → Type 0
IsIntra n m = is_intra m.kind ≡ true

intra-predicted : (frame : Frame) (m : Macroblock) (plane : Plane) (x y : ℕ) → is_intra m.kind ≡ true → predicted frame m plane x y ≡ 0
intra-predicted frame m plane x y intra = rw intra refl

intra-decoded : (t : Transform) (before other : Frame) (plane : Plane) (x y n a : ℕ) (found : Option Quantised) → IsSome found → HoldsIf IsIntra n a found
    → decoded t before found plane x y ≡ decoded t other found plane x y
intra-decoded t before other plane x y n a None some holds = absurd (true≢false (sym some))
intra-decoded t before other plane x y n a (Some found) some holds =
    let m : Macroblock = found.macroblock in
    ap (λ (p : ℕ). sample (pos p +ℤ residual t found.quant (slice_index_or m.blocks (block_number plane x y) None) (x % 8) (y % 8)))
    (intra-predicted before m plane x y holds.0 ∙ sym (intra-predicted other m plane x y holds.0))

refresh-at : (t : Transform) (before other : Frame) (sent : Picture) → IsValid Qcif sent → IsRefresh Qcif sent → (plane : Plane) (x y : ℕ) (b : Bool) → is_inside Qcif plane x y ≡ b
    → decode Qcif t before sent plane x y ≡ decode Qcif t other sent plane x y
refresh-at t before other sent valid refresh plane x y true test =
    let column : ℕ = ratio plane * x / 16 in
    let row : ℕ = ratio plane * y / 16 in
    decode-inside Qcif t before sent plane x y test
    ∙ intra-decoded t before other plane x y (group_of column row) (address_of column row) (macroblock_at sent column row)
    (finds column row sent (column-below plane x y test) (row-below plane x y test) valid refresh)
    (in-holds IsIntra (group_of column row) (address_of column row) sent.groups (refresh-facts Qcif sent refresh).all_intra)
    ∙ sym (decode-inside Qcif t other sent plane x y test)
refresh-at t before other sent valid refresh plane x y false test =
    decode-outside Qcif t before sent plane x y test ∙ sym (decode-outside Qcif t other sent plane x y test)

pub refresh-law : RefreshLaw
refresh-law t before other sent valid refresh =
    fun_ext λ plane. fun_ext λ x. fun_ext λ y. refresh-at t before other sent valid refresh plane x y (is_inside Qcif plane x y) refl
