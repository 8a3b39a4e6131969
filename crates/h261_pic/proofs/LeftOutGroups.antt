-- The numbers of a picture's groups, and groups that are left out.
use Rattle.std.proofs.Common.{◌≡◌, ℕ, zero, suc, ◌+◌, ◌*◌, ◌<◌, ◌≤◌, Bool, List, [], ◌∷◌, length, flat_map, slice_index, None, refl, sym, ◌∙◌, ap, arith, length-append}
use Rattle.std.proofs.lemmas.Grind.{flat_map-append}
use Rattle.std.proofs.lemmas.List.FromFn.{get_or-range_with_len}
use Rattle.pel_model.specs.declared.Format.{Format}
use Rattle.pel_model.specs.declared.Format.TheVariants.{Qcif, Cif}
use Rattle.pel_model.specs.Records.{Group, Picture, with_group}
use Rattle.pel_model.specs.Text.{text, group_text, macroblocks_text}
use Rattle.pel_model.specs.Valid.{group_numbers, group_count}
use Rattle.pel_model.specs.Grammar.{Element}
use Rattle.picture_laws.specs.SoFar.{IsPictureSoFar, IsGroupSoFar, group_with}
use Rattle.picture_laws.specs.SoFar as law
use Rattle.picture_laws.proofs.Joins.{group-left-out}
use Rattle.h261_pic.specs.Coded.{Coding, coding, grown, next_number}
use Rattle.h261_pic.proofs.Texts.{length-group_text, length-views, length-text, coding-with_group}
use Rattle.h261_pic.proofs.Texts.{nothing_sent}
use Rattle.h261_pic.specs.Adding.{emptied}

-- ---- the groups' numbers

-- a number by its place
pub numbered : (format : Format) (i : ℕ) → i < group_count format → (slice_index (group_numbers format) i ≤ 12) × (i < slice_index (group_numbers format) i)
numbered Qcif zero below = (omega arith, omega arith)
numbered Qcif (suc zero) below = (omega arith, omega arith)
numbered Qcif (suc (suc zero)) below = (omega arith, omega arith)
numbered Qcif (suc (suc (suc i))) below = absurd (omega arith)
numbered Cif i below = (omega (arith, get_or-range_with_len 1 12 i 0 below), omega (arith, get_or-range_with_len 1 12 i 0 below))

-- numbers rise
pub rising : (format : Format) (i j : ℕ) → i ≤ j → j < group_count format → slice_index (group_numbers format) i ≤ slice_index (group_numbers format) j
rising Qcif zero zero h below = omega arith
rising Qcif zero (suc zero) h below = omega arith
rising Qcif zero (suc (suc zero)) h below = omega arith
rising Qcif (suc zero) (suc zero) h below = omega arith
rising Qcif (suc zero) (suc (suc zero)) h below = omega arith
rising Qcif (suc (suc zero)) (suc (suc zero)) h below = omega arith
rising Qcif (suc i) zero h below = absurd (omega arith)
rising Qcif (suc (suc i)) (suc zero) h below = absurd (omega arith)
rising Qcif (suc (suc (suc i))) (suc (suc zero)) h below = absurd (omega arith)
rising Qcif i (suc (suc (suc j))) h below = absurd (omega arith)
rising Cif i j h below = omega (arith, get_or-range_with_len 1 12 i 0 (omega arith), get_or-range_with_len 1 12 j 0 below)

-- ---- groups that are left out

-- so many groups more, with quantiser 1 and no macroblocks
abbrev pub filled : Format → ℕ → Picture → Picture
filled format zero p = p
filled format (suc n) p = with_group (filled format n p) (group_with (law.number_due format (filled format n p)) 1 [])

pub length-filled : (format : Format) (n : ℕ) (p : Picture) → length (filled format n p).groups ≡ length p.groups + n
length-filled format zero p = omega arith
length-filled format (suc n) p =
    length-append (filled format n p).groups (group_with (law.number_due format (filled format n p)) 1 [] ∷ []) ∙ omega (arith, length-filled format n p)

pub next-same : (format : Format) (p : Picture) → law.number_due format p ≡ next_number (coding format p)
next-same format p = ap (λ (k : ℕ). slice_index (group_numbers format) k) (sym (length-views 32 0 p.groups))

pub emptied-filled : (format : Format) (n : ℕ) (p : Picture) → emptied n (coding format p) ≡ coding format (filled format n p)
emptied-filled format zero p = refl
emptied-filled format (suc n) p =
    let q : Picture = filled format n p in
    let g : Group = group_with (law.number_due format q) 1 [] in
    ap (λ (c : Coding). grown c 1 [] []) (emptied-filled format n p)
    ∙ (ap (λ (bits : List Bool). grown (coding format q) 1 bits []) nothing_sent
    ∙ coding-with_group format q g [] (next-same format q) (λ at. refl))

pub filled-so-far : (format : Format) (n : ℕ) (p : Picture) (es : List Element) → IsPictureSoFar format p es → length p.groups + n ≤ group_count format → IsPictureSoFar format (filled format n p) es
filled-so-far format zero p es so_far fits = so_far
filled-so-far format (suc n) p es so_far fits =
    group-left-out format (filled format n p) es (filled-so-far format n p es so_far (omega (arith, fits))) (omega (arith, fits, length-filled format n p))

-- ---- lengths of texts

pub length-more : (format : Format) (p : Picture) (g : Group) → length (text format (with_group p g)) ≡ length (text format p) + 26 + length (macroblocks_text None g.macroblocks)
length-more format p g =
    let all = flat_map-append group_text p.groups (g ∷ []) in
    omega (arith, length-text format (with_group p g), length-text format p, ap length all, length-append (flat_map group_text p.groups) (flat_map group_text (g ∷ [])), length-append (group_text g) [], length-group_text g)

pub length-filled_text : (format : Format) (n : ℕ) (p : Picture) → length (text format (filled format n p)) ≡ length (text format p) + 26 * n
length-filled_text format zero p = omega arith
length-filled_text format (suc n) p =
    let q : Picture = filled format n p in
    omega (arith, length-more format q (group_with (law.number_due format q) 1 []), length-filled_text format n p, ap length nothing_sent)
