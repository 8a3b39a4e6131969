-- A refresh sends an Intra macroblock at each place: 33 addresses that rise up to 33 are all of them.
use Rattle.std.proofs.Common.{◌≡◌, ℕ, suc, zero, ◌+◌, ◌*◌, ◌/◌, ◌<◌, ◌≤◌, ◌==◌, Bool, true, false, if◌then◌else◌, List, [], ◌∷◌, length, Option, None, Some, IsSome, refl, sym, subst, arith}
use Rattle.std.proofs.lemmas.Bool.{eqb-false, true≢false}
use Rattle.pel_model.specs.declared.Format.TheVariants.{Qcif}
use Rattle.pel_model.specs.Decode.{Quantised, at_address, in_groups, macroblock_at, group_of, address_of}
use Rattle.pel_model.specs.Records.{Macroblock, Group, Picture, quantiser_after}
use Rattle.pel_model.specs.Refresh.{IsRefresh}
use Rattle.pel_model.specs.Regions.{empty_group}
use Rattle.pel_model.specs.Valid.{AddressesRise, IsValid}
use Rattle.pel_model.proofs.RefreshLaws.{refresh-facts}
use Rattle.frame_laws.proofs.Lookups.{HoldsIf, in-holds}
use Rattle.frame_laws.proofs.ThreeGroups.{of_three, by-three}
use Rattle.update_laws.specs.Kept.{macroblock_of, sent_at, is_update}

-- ---- every address is sent

room-left : (last : ℕ) (ms : List Macroblock) → last ≤ 33 → AddressesRise last ms → length ms + last ≤ 33
room-left last [] below rise = omega arith
room-left last (m ∷ ms) below rise = omega (arith, room-left m.address ms rise.1 rise.2, rise.0)

found-step : (m : Macroblock) (a q : ℕ) (rest : Option Quantised) (same : Bool) → (m.address == a) ≡ same → ((m.address ≡ a → ⊥) → IsSome rest)
    → IsSome (if same then Some (record { macroblock = m; quant = q }) else rest)
found-step m a q rest true same_is later = refl
found-step m a q rest false same_is later = later (eqb-false m.address a same_is)

found-at : (last q a : ℕ) (ms : List Macroblock) → AddressesRise last ms → last + length ms ≡ 33 → last < a → a ≤ 33 → IsSome (at_address a q ms)
found-at last q a [] rise full above below = absurd (omega arith)
found-at last q a (m ∷ ms) rise full above below =
    let next : m.address + length ms ≡ 33 = omega (arith, room-left m.address ms rise.1 rise.2, rise.0) in
    found-step m a (quantiser_after q m.mquant) (at_address a (quantiser_after q m.mquant) ms) (m.address == a) refl
    (λ other. found-at m.address (quantiser_after q m.mquant) a ms rise.2 next (omega (arith, other, next)) below)

-- in each of the three groups
found-in : (a : ℕ) (x y z : Group) → 0 < a → a ≤ 33
    → AddressesRise 0 x.macroblocks → AddressesRise 0 y.macroblocks → AddressesRise 0 z.macroblocks
    → 0 + length x.macroblocks + length y.macroblocks + length z.macroblocks ≡ 99
    → (third : ℕ) → third < 3 → IsSome (in_groups (2 * third + 1) a (of_three 0 x y z).groups)
found-in a x y z above below rise_x rise_y rise_z all zero less =
    found-at 0 x.quant a x.macroblocks rise_x
    (omega (arith, room-left 0 x.macroblocks (omega arith) rise_x, room-left 0 y.macroblocks (omega arith) rise_y, room-left 0 z.macroblocks (omega arith) rise_z)) above below
found-in a x y z above below rise_x rise_y rise_z all (suc zero) less =
    found-at 0 y.quant a y.macroblocks rise_y
    (omega (arith, room-left 0 x.macroblocks (omega arith) rise_x, room-left 0 y.macroblocks (omega arith) rise_y, room-left 0 z.macroblocks (omega arith) rise_z)) above below
found-in a x y z above below rise_x rise_y rise_z all (suc (suc zero)) less =
    found-at 0 z.quant a z.macroblocks rise_z
    (omega (arith, room-left 0 x.macroblocks (omega arith) rise_x, room-left 0 y.macroblocks (omega arith) rise_y, room-left 0 z.macroblocks (omega arith) rise_z)) above below
found-in a x y z above below rise_x rise_y rise_z all (suc (suc (suc n))) less = absurd (omega arith)

abbrev FindsAll : (column row : ℕ) → Picture → Type 0
FindsAll column row p = IsValid Qcif p → IsRefresh Qcif p → IsSome (macroblock_at p column row)

finds-three : (column row : ℕ) → column < 11 → row < 9 → (tr : ℕ) (x y z : Group) → FindsAll column row (of_three tr x y z)
finds-three column row across down tr x y z valid refresh =
    let number_is : 2 * (row / 3) + 1 ≡ group_of column row = omega arith in
    subst (λ (n : ℕ). IsSome (in_groups n (address_of column row) (of_three 0 x y z).groups)) number_is
    (found-in (address_of column row) x y z (omega arith) (omega arith)
    (valid.so_far.groups 0 (empty_group 0) (omega arith)).addresses
    (valid.so_far.groups 1 (empty_group 0) (omega arith)).addresses
    (valid.so_far.groups 2 (empty_group 0) (omega arith)).addresses
    (refresh-facts Qcif (of_three tr x y z) refresh).all_sent (row / 3) (omega arith))

finds : (column row : ℕ) (p : Picture) → column < 11 → row < 9 → FindsAll column row p
finds column row p across down valid refresh =
    by-three (FindsAll column row) p (finds-three column row across down) valid valid refresh

-- ---- and is Intra

abbrev IsUpdate : ℕ → Macroblock → Type 0
IsUpdate n m = is_update m ≡ true

abbrev pub SendsUpdate : Option Macroblock → Type 0
SendsUpdate sent = (m : Macroblock) × (sent ≡ Some m) × (is_update m ≡ true)

update-of : (n a : ℕ) (found : Option Quantised) → IsSome found → HoldsIf IsUpdate n a found → SendsUpdate (macroblock_of found)
update-of n a None some holds = absurd (true≢false (sym some))
update-of n a (Some found) some holds = (found.macroblock, refl, holds.0)

pub refresh-sends : (column row : ℕ) (p : Picture) → column < 11 → row < 9 → IsValid Qcif p → IsRefresh Qcif p
    → SendsUpdate (sent_at (group_of column row) (address_of column row) p)
refresh-sends column row p across down valid refresh =
    update-of (group_of column row) (address_of column row) (macroblock_at p column row) (finds column row p across down valid refresh)
    (in-holds IsUpdate (group_of column row) (address_of column row) p.groups (refresh-facts Qcif p refresh).all_intra)
