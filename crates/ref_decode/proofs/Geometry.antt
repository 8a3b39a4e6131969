-- Where the blocks of macroblocks stand in a picture, and which samples each covers.
use Rattle.std.proofs.Common.{◌≡◌, ℕ, zero, suc, ◌+◌, ◌-◌, ◌*◌, ◌/◌, ◌%◌, ◌<◌, ◌≤◌, ◌==◌, ◌&&◌, Bool, true, false, refl, sym, ◌∙◌, ap, ap₂, subst, ◌⊎◌, inl, inr, arith, nat_lt}
use Rattle.std.proofs.lemmas.Bool.{cond-false, cond-true, eqb-true, ltb-true, lt-ltb, cases_lt, eq-eqb}
use Rattle.std.proofs.Math.Nat.{mul-le-mul_left}
use Rattle.pel_model.specs.declared.Format.{Format}
use Rattle.pel_model.specs.declared.Format.TheVariants.{Qcif, Cif}
use Rattle.pel_model.specs.Decode.{group_of, address_of, block_number}
use Rattle.pel_model.specs.Frames.{Plane, Luminance, Cb, Cr, ratio, is_inside}
use Rattle.pel_model.specs.Records.{Across, Down}
use Rattle.pel_model.specs.Grammar.{is_group}
use Rattle.pel_model.specs.Valid.{side, corner, group_numbers}
use Rattle.vlc_codes.proofs.FoundRows.{among-all}
use Rattle.picture_laws.proofs.Groups.{among_numbers}
use Rattle.std.specs.List.{list_all}
use Rattle.ref_decode.specs.Shown.{columns, row_count, plane_start, sample_place}
use Rattle.ref_decode.specs.Drawing.{covers, block_plane, block_left, block_top}

-- a sample inside the picture area
pub record IsInside (format : Format) (plane : Plane) (x y : ℕ) : Type 0 where
  pub across : ratio plane * x < side format Across
  pub down : ratio plane * y < side format Down

pub and_both : (a b : Bool) → (a && b) ≡ true → (a ≡ true) × (b ≡ true)
and_both true true h = (refl, refl)
and_both true false h = absurd cc
and_both false b h = absurd cc

pub inside-is : (format : Format) (plane : Plane) (x y : ℕ) → is_inside format plane x y ≡ true → IsInside format plane x y
inside-is format plane x y h =
    let b = and_both (nat_lt (ratio plane * x) (side format Across)) (nat_lt (ratio plane * y) (side format Down)) h in
    record { across = ltb-true (ratio plane * x) (side format Across) b.0; down = ltb-true (ratio plane * y) (side format Down) b.1 }

pub is-inside : (format : Format) (plane : Plane) (x y : ℕ) → IsInside format plane x y → is_inside format plane x y ≡ true
is-inside format plane x y h =
    ap₂ (λ (a b : Bool). a && b) (lt-ltb (ratio plane * x) (side format Across) h.across) (lt-ltb (ratio plane * y) (side format Down) h.down)

side_most : (format : Format) → (side format Across ≤ 352) × (side format Down ≤ 288)
side_most Qcif = (omega arith, omega arith)
side_most Cif = (omega arith, omega arith)

-- ---- macroblocks

corner_across : (column row : ℕ) → column < 22 → corner Across (group_of column row) (address_of column row) ≡ 16 * column
corner_across column row h = omega arith

corner_down : (column row : ℕ) → column < 22 → corner Down (group_of column row) (address_of column row) ≡ 16 * row
corner_down column row h = omega arith

-- the luminance samples that a macroblock covers
pub covered_by : (number address u v : ℕ) → 0 < number → 0 < address → address ≤ 33 → corner Across number address ≤ u → u < corner Across number address + 16 → corner Down number address ≤ v → v < corner Down number address + 16 → (group_of (u / 16) (v / 16) ≡ number) × (address_of (u / 16) (v / 16) ≡ address)
covered_by number address u v n a most left right top bottom =
    let column : u / 16 ≡ 11 * ((number - 1) % 2) + (address - 1) % 11 = omega (arith, left, right) in
    let row : v / 16 ≡ 3 * ((number - 1) / 2) + (address - 1) / 11 = omega (arith, top, bottom) in
    rw (column, row) (omega (arith, n, a, most), omega (arith, n, a, most))

-- a macroblock that covers a sample begins at its column and row of macroblocks
pub record IsCovered (number address : ℕ) (plane : Plane) (x y : ℕ) : Type 0 where
  pub across : corner Across number address ≡ 16 * (ratio plane * x / 16)
  pub down : corner Down number address ≡ 16 * (ratio plane * y / 16)

pub covered-is : (format : Format) (number address : ℕ) (plane : Plane) (x y : ℕ) → IsInside format plane x y → covers number address plane x y ≡ true → IsCovered number address plane x y
covered-is format number address plane x y inside covered =
    let b = and_both _ _ covered in
    let g : group_of (ratio plane * x / 16) (ratio plane * y / 16) ≡ number = eqb-true _ _ b.0 in
    let a : address_of (ratio plane * x / 16) (ratio plane * y / 16) ≡ address = eqb-true _ _ b.1 in
    let few : ratio plane * x / 16 < 22 = omega (arith, inside.across, (side_most format).0) in
    record {
      across = sym (ap₂ (corner Across) g a) ∙ corner_across (ratio plane * x / 16) (ratio plane * y / 16) few;
      down = sym (ap₂ (corner Down) g a) ∙ corner_down (ratio plane * x / 16) (ratio plane * y / 16) few;
    }

-- ---- blocks

-- the sample lies in a block, at this place of it
pub record IsAt (number address block : ℕ) (plane : Plane) (x y : ℕ) : Type 0 where
  pub plane_is : block_plane block ≡ plane
  pub left : block_left number address block ≤ x
  pub right : x < block_left number address block + 8
  pub top : block_top number address block ≤ y
  pub bottom : y < block_top number address block + 8

in_luminance : (number address block x y : ℕ) → block < 4 → IsCovered number address Luminance x y → 2 * (y / 8 % 2) + x / 8 % 2 ≡ block → IsAt number address block Luminance x y
in_luminance number address block x y few is number_is =
    let t : nat_lt block 4 ≡ true = lt-ltb block 4 few in
    let a : corner Across number address ≡ 16 * (x / 16) = is.across ∙ one x in
    let d : corner Down number address ≡ 16 * (y / 16) = is.down ∙ one y in
    let l : block_left number address block ≡ 16 * (x / 16) + 8 * (block % 2) = cond-true _ _ _ t ∙ ap (λ n. n + 8 * (block % 2)) a in
    let p : block_top number address block ≡ 16 * (y / 16) + 8 * (block / 2) = cond-true _ _ _ t ∙ ap (λ n. n + 8 * (block / 2)) d in
    record {
      plane_is = cond-true _ _ _ t;
      left = omega (arith, l, number_is);
      right = omega (arith, l, number_is);
      top = omega (arith, p, number_is);
      bottom = omega (arith, p, number_is);
    }
  where
    one : (x : ℕ) → 16 * (1 * x / 16) ≡ 16 * (x / 16)
    one x = omega arith

in_colour : (number address block : ℕ) (plane : Plane) (x y : ℕ) → nat_lt block 4 ≡ false → block_plane block ≡ plane → corner Across number address ≡ 16 * (2 * x / 16) → corner Down number address ≡ 16 * (2 * y / 16) → IsAt number address block plane x y
in_colour number address block plane x y many plane_is a d =
    let l : block_left number address block ≡ corner Across number address / 2 = cond-false _ _ _ many in
    let p : block_top number address block ≡ corner Down number address / 2 = cond-false _ _ _ many in
    record {
      plane_is = plane_is;
      left = omega (arith, l, a);
      right = omega (arith, l, a);
      top = omega (arith, p, d);
      bottom = omega (arith, p, d);
    }

-- a sample that a macroblock covers lies in the block of its number
pub in_block : (number address block : ℕ) (plane : Plane) (x y : ℕ) → IsCovered number address plane x y → block_number plane x y ≡ block → IsAt number address block plane x y
in_block number address block Luminance x y is same = in_luminance number address block x y (omega (arith, same)) is same
in_block number address block Cb x y is same = subst (λ k. IsAt number address k Cb x y) same (in_colour number address 4 Cb x y refl refl is.across is.down)
in_block number address block Cr x y is same = subst (λ k. IsAt number address k Cr x y) same (in_colour number address 5 Cr x y refl refl is.across is.down)

-- a sample in a block is covered, and the block is that of its number
pub record IsOfBlock (number address block : ℕ) (plane : Plane) (x y : ℕ) : Type 0 where
  pub covered : covers number address plane x y ≡ true
  pub number_is : block_number plane x y ≡ block

both_true : (a b c d : ℕ) → a ≡ b → c ≡ d → (a == b && (c == d)) ≡ true
both_true a b c d p q = ap₂ (λ (s t : Bool). s && t) (eq-eqb a b p) (eq-eqb c d q)

of_luminance : (number address block x y : ℕ) → 0 < number → 0 < address → address ≤ 33 → block < 4 → IsAt number address block Luminance x y → IsOfBlock number address block Luminance x y
of_luminance number address block x y n a most few is =
    let t : nat_lt block 4 ≡ true = lt-ltb block 4 few in
    let l : block_left number address block ≡ corner Across number address + 8 * (block % 2) = cond-true _ _ _ t in
    let p : block_top number address block ≡ corner Down number address + 8 * (block / 2) = cond-true _ _ _ t in
    let u : 1 * x ≡ x = omega arith in
    let v : 1 * y ≡ y = omega arith in
    let c = covered_by number address x y n a most (omega (arith, l, is.left)) (omega (arith, l, is.right)) (omega (arith, p, is.top)) (omega (arith, p, is.bottom)) in
    record {
      covered = rw (u, v) (both_true _ _ _ _ c.0 c.1);
      number_is = omega (arith, l, p, is.left, is.right, is.top, is.bottom);
    }

of_colour : (number address : ℕ) (plane : Plane) (x y : ℕ) → ratio plane ≡ 2 → 0 < number → 0 < address → address ≤ 33 → corner Across number address / 2 ≤ x → x < corner Across number address / 2 + 8 → corner Down number address / 2 ≤ y → y < corner Down number address / 2 + 8 → covers number address plane x y ≡ true
of_colour number address plane x y two n a most left right top bottom =
    let c = covered_by number address (2 * x) (2 * y) n a most (omega (arith, left)) (omega (arith, right)) (omega (arith, top)) (omega (arith, bottom)) in
    rw two (both_true _ _ _ _ c.0 c.1)

pub of_block : (number address block : ℕ) (plane : Plane) (x y : ℕ) → 0 < number → 0 < address → address ≤ 33 → block < 6 → IsAt number address block plane x y → IsOfBlock number address block plane x y
of_block number address zero Luminance x y n a most few is = of_luminance number address 0 x y n a most (omega arith) is
of_block number address (suc zero) Luminance x y n a most few is = of_luminance number address 1 x y n a most (omega arith) is
of_block number address (suc (suc zero)) Luminance x y n a most few is = of_luminance number address 2 x y n a most (omega arith) is
of_block number address (suc (suc (suc zero))) Luminance x y n a most few is = of_luminance number address 3 x y n a most (omega arith) is
of_block number address (suc (suc (suc (suc zero)))) Cb x y n a most few is = record { covered = of_colour number address Cb x y refl n a most is.left is.right is.top is.bottom; number_is = refl }
of_block number address (suc (suc (suc (suc (suc zero))))) Cr x y n a most few is = record { covered = of_colour number address Cr x y refl n a most is.left is.right is.top is.bottom; number_is = refl }
of_block number address (suc (suc (suc (suc (suc (suc k)))))) plane x y n a most few is = absurd (omega (arith, few))
of_block number address block plane x y n a most few is = let e = is.plane_is in absurd cc

-- ---- places among the samples

-- rows of eight samples from a place on, and another place
abbrev pub Beside : (from width b k : ℕ) → Type 0
Beside from width b k = (k < from + width * b) ⊎ (from + width * b + 8 ≤ k)

-- of one plane
same_plane : (start width left top x y b : ℕ) → left + 8 ≤ width → x < width → (y ≡ top + b → (x < left) ⊎ (left + 8 ≤ x)) → Beside (start + width * top + left) width b (start + width * y + x)
same_plane start width left top x y b fits inside here = elim (cases_lt y (top + b)) [
  | inl above ↦
      let next : y + 1 ≤ top + b = omega (arith, above) in
      inl (omega (arith, mul-le-mul_left width next, inside))
  | inr not_above ↦ elim (cases_lt (top + b) y) [
    | inl below ↦
        let next : top + b + 1 ≤ y = omega (arith, below) in
        inr (omega (arith, mul-le-mul_left width next, fits))
    | inr not_below ↦
        let same : y ≡ top + b = omega (arith, not_above, not_below) in
        let row : width * y ≡ width * (top + b) = ap (λ n. width * n) same in
        elim (here same) [
          | inl before ↦ inl (omega (arith, row, before))
          | inr behind ↦ inr (omega (arith, row, behind))
        ]
  ]
]

-- where a sample does not lie in a block, it stands beside each row of it
pub stands_beside : (format : Format) (here plane : Plane) (left top x y b : ℕ) → IsInside format plane x y → left + 8 ≤ columns format here → top + 8 ≤ row_count format here → b < 8 → (here ≡ plane → y ≡ top + b → (x < left) ⊎ (left + 8 ≤ x)) → Beside (plane_start format here + columns format here * top + left) (columns format here) b (sample_place format plane x y)
stands_beside Qcif Luminance Luminance left top x y b inside across down few apart = same_plane 0 176 left top x y b across (omega (arith, inside.across)) (apart refl)
stands_beside Qcif Cb Cb left top x y b inside across down few apart = same_plane 25344 88 left top x y b across (omega (arith, inside.across)) (apart refl)
stands_beside Qcif Cr Cr left top x y b inside across down few apart = same_plane 31680 88 left top x y b across (omega (arith, inside.across)) (apart refl)
stands_beside Qcif Luminance Cb left top x y b inside across down few apart = inr (omega (arith, across, down, few))
stands_beside Qcif Luminance Cr left top x y b inside across down few apart = inr (omega (arith, across, down, few))
stands_beside Qcif Cb Cr left top x y b inside across down few apart = inr (omega (arith, across, down, few))
stands_beside Qcif Cb Luminance left top x y b inside across down few apart = inl (omega (arith, inside.across, inside.down))
stands_beside Qcif Cr Luminance left top x y b inside across down few apart = inl (omega (arith, inside.across, inside.down))
stands_beside Qcif Cr Cb left top x y b inside across down few apart = inl (omega (arith, inside.across, inside.down))
stands_beside Cif Luminance Luminance left top x y b inside across down few apart = same_plane 0 352 left top x y b across (omega (arith, inside.across)) (apart refl)
stands_beside Cif Cb Cb left top x y b inside across down few apart = same_plane 101376 176 left top x y b across (omega (arith, inside.across)) (apart refl)
stands_beside Cif Cr Cr left top x y b inside across down few apart = same_plane 126720 176 left top x y b across (omega (arith, inside.across)) (apart refl)
stands_beside Cif Luminance Cb left top x y b inside across down few apart = inr (omega (arith, across, down, few))
stands_beside Cif Luminance Cr left top x y b inside across down few apart = inr (omega (arith, across, down, few))
stands_beside Cif Cb Cr left top x y b inside across down few apart = inr (omega (arith, across, down, few))
stands_beside Cif Cb Luminance left top x y b inside across down few apart = inl (omega (arith, inside.across, inside.down))
stands_beside Cif Cr Luminance left top x y b inside across down few apart = inl (omega (arith, inside.across, inside.down))
stands_beside Cif Cr Cb left top x y b inside across down few apart = inl (omega (arith, inside.across, inside.down))

-- ---- the numbers of a format's groups

suits : Format → ℕ → Bool
suits Qcif n = (n % 2 == 1) && nat_lt n 6
suits Cif n = nat_lt 0 n && nat_lt n 13

all_suit : (format : Format) → list_all (suits format) (group_numbers format) ≡ true
unfolding suits
all_suit Qcif = refl
all_suit Cif = refl

group_suits : (format : Format) (n : ℕ) → is_group format n ≡ true → suits format n ≡ true
group_suits format n h = among-all (suits format) n (group_numbers format) (all_suit format) (among_numbers (group_numbers format) n h)

-- a macroblock lies within the picture
pub record IsPlaced (format : Format) (number address : ℕ) : Type 0 where
  pub some : 0 < number
  pub across : corner Across number address + 16 ≤ side format Across
  pub down : corner Down number address + 16 ≤ side format Down

pub is_placed : (format : Format) (number address : ℕ) → is_group format number ≡ true → address ≤ 33 → IsPlaced format number address
unfolding suits
is_placed Qcif number address h most =
    let b = and_both (number % 2 == 1) (nat_lt number 6) (group_suits Qcif number h) in
    let odd : number % 2 ≡ 1 = eqb-true (number % 2) 1 b.0 in
    let few : number < 6 = ltb-true number 6 b.1 in
    record { some = omega (arith, odd); across = omega (arith, odd, few); down = omega (arith, few, most) }
is_placed Cif number address h most =
    let b = and_both (nat_lt 0 number) (nat_lt number 13) (group_suits Cif number h) in
    let some : 0 < number = ltb-true 0 number b.0 in
    let few : number < 13 = ltb-true number 13 b.1 in
    record { some = some; across = omega arith; down = omega (arith, few, most) }

-- and so do its blocks within their planes
pub record BlockWithin (format : Format) (number address block : ℕ) : Type 0 where
  pub across : block_left number address block + 8 ≤ columns format (block_plane block)
  pub down : block_top number address block + 8 ≤ row_count format (block_plane block)

pub block_within : (format : Format) (number address block : ℕ) → IsPlaced format number address → block < 6 → BlockWithin format number address block
block_within Qcif number address zero is few = record { across = omega (arith, is.across); down = omega (arith, is.down) }
block_within Qcif number address (suc zero) is few = record { across = omega (arith, is.across); down = omega (arith, is.down) }
block_within Qcif number address (suc (suc zero)) is few = record { across = omega (arith, is.across); down = omega (arith, is.down) }
block_within Qcif number address (suc (suc (suc zero))) is few = record { across = omega (arith, is.across); down = omega (arith, is.down) }
block_within Qcif number address (suc (suc (suc (suc zero)))) is few = record { across = omega (arith, is.across); down = omega (arith, is.down) }
block_within Qcif number address (suc (suc (suc (suc (suc zero))))) is few = record { across = omega (arith, is.across); down = omega (arith, is.down) }
block_within Cif number address zero is few = record { across = omega (arith, is.across); down = omega (arith, is.down) }
block_within Cif number address (suc zero) is few = record { across = omega (arith, is.across); down = omega (arith, is.down) }
block_within Cif number address (suc (suc zero)) is few = record { across = omega (arith, is.across); down = omega (arith, is.down) }
block_within Cif number address (suc (suc (suc zero))) is few = record { across = omega (arith, is.across); down = omega (arith, is.down) }
block_within Cif number address (suc (suc (suc (suc zero)))) is few = record { across = omega (arith, is.across); down = omega (arith, is.down) }
block_within Cif number address (suc (suc (suc (suc (suc zero))))) is few = record { across = omega (arith, is.across); down = omega (arith, is.down) }
block_within format number address (suc (suc (suc (suc (suc (suc k)))))) is few = absurd (omega (arith, few))
