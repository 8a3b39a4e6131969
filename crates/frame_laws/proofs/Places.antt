-- Where a sample of a place stands in the CIF picture: in which macroblock, group and block.
use Rattle.std.proofs.Common.{◌≡◌, ℕ, zero, suc, ◌+◌, ◌*◌, ◌/◌, ◌%◌, ◌<◌, ◌≤◌, true, refl, ◌∙◌, ap, arith}
use Rattle.std.proofs.lemmas.Bool.Decides.{Decides-and, Decides-ltb}
use Rattle.pel_model.specs.declared.Format.{Format}
use Rattle.pel_model.specs.declared.Format.TheVariants.{Qcif, Cif}
use Rattle.pel_model.specs.declared.Quad.{Quad}
use Rattle.pel_model.specs.declared.Quad.TheVariants.{One, Two, Three, Four}
use Rattle.pel_model.specs.Composed.{stands_in}
use Rattle.pel_model.specs.Decode.{group_of, address_of, block_number}
use Rattle.pel_model.specs.Frames.{Plane, Luminance, Cb, Cr, ratio, is_inside}
use Rattle.pel_model.specs.Records.{Axis, Across, Down}
use Rattle.pel_model.specs.Regions.{right, below, number_in}
use Rattle.pel_model.specs.Valid.{side, corner}

-- how far a place lies to the right and down, in samples of a plane
abbrev pub shift : Axis → Plane → Quad → ℕ
shift Across plane place = side Qcif Across / ratio plane * right place
shift Down plane place = side Qcif Down / ratio plane * below place

pub right-le : (place : Quad) → right place ≤ 1
right-le One = omega arith
right-le Two = omega arith
right-le Three = omega arith
right-le Four = omega arith

pub below-le : (place : Quad) → below place ≤ 1
below-le One = omega arith
below-le Two = omega arith
below-le Three = omega arith
below-le Four = omega arith

-- ---- inside

pub inside-is : (format : Format) (plane : Plane) (x y : ℕ) → is_inside format plane x y ≡ true
    → (ratio plane * x < side format Across) × (ratio plane * y < side format Down)
inside-is format plane x y test =
    (Decides-and _ _ (Decides-ltb (ratio plane * x) (side format Across)) (Decides-ltb (ratio plane * y) (side format Down))).0 test

pub is-inside : (format : Format) (plane : Plane) (x y : ℕ) → ratio plane * x < side format Across → ratio plane * y < side format Down → is_inside format plane x y ≡ true
is-inside format plane x y across down =
    (Decides-and _ _ (Decides-ltb (ratio plane * x) (side format Across)) (Decides-ltb (ratio plane * y) (side format Down))).1 (across, down)

shifted-across : (plane : Plane) (x r : ℕ) → r ≤ 1 → ratio plane * x < 176 → ratio plane * (x + 176 / ratio plane * r) < 352
shifted-across Luminance x r small less = omega arith
shifted-across Cb x r small less = omega arith
shifted-across Cr x r small less = omega arith

shifted-down : (plane : Plane) (y b : ℕ) → b ≤ 1 → ratio plane * y < 144 → ratio plane * (y + 144 / ratio plane * b) < 288
shifted-down Luminance y b small less = omega arith
shifted-down Cb y b small less = omega arith
shifted-down Cr y b small less = omega arith

pub inside-shifted : (plane : Plane) (place : Quad) (x y : ℕ) → is_inside Qcif plane x y ≡ true
    → is_inside Cif plane (x + shift Across plane place) (y + shift Down plane place) ≡ true
inside-shifted plane place x y test =
    let within : (ratio plane * x < 176) × (ratio plane * y < 144) = inside-is Qcif plane x y test in
    is-inside Cif plane (x + shift Across plane place) (y + shift Down plane place)
    (shifted-across plane x (right place) (right-le place) within.0) (shifted-down plane y (below place) (below-le place) within.1)

-- ---- macroblocks

pub column-shifted : (plane : Plane) (place : Quad) (x : ℕ) → ratio plane * (x + shift Across plane place) / 16 ≡ ratio plane * x / 16 + 11 * right place
column-shifted Luminance place x = omega arith
column-shifted Cb place x = omega arith
column-shifted Cr place x = omega arith

pub row-shifted : (plane : Plane) (place : Quad) (y : ℕ) → ratio plane * (y + shift Down plane place) / 16 ≡ ratio plane * y / 16 + 9 * below place
row-shifted Luminance place y = omega arith
row-shifted Cb place y = omega arith
row-shifted Cr place y = omega arith

group-at : (column row r b : ℕ) → column < 11 → row < 9 → r ≤ 1 → b ≤ 1 → group_of (column + 11 * r) (row + 9 * b) ≡ group_of column row + r + 6 * b
group-at column row r b across down small low = omega arith

pub group-shifted : (place : Quad) (column row : ℕ) → column < 11 → row < 9
    → group_of (column + 11 * right place) (row + 9 * below place) ≡ number_in place (group_of column row)
group-shifted place column row across down = group-at column row (right place) (below place) across down (right-le place) (below-le place)

pub address-shifted : (place : Quad) (column row : ℕ) → column < 11
    → address_of (column + 11 * right place) (row + 9 * below place) ≡ address_of column row
address-shifted place column row across = omega (arith, right-le place)

-- the first sample of that macroblock
pub corner-across : (column row : ℕ) → column < 11 → row < 9 → corner Across (group_of column row) (address_of column row) ≡ 16 * column
corner-across column row across down = omega arith

pub corner-down : (column row : ℕ) → column < 11 → row < 9 → corner Down (group_of column row) (address_of column row) ≡ 16 * row
corner-down column row across down = omega arith

-- a group of a QCIF picture stands in the place under its number there
stands-third : (place : Quad) (third : ℕ) → third < 3 → stands_in place (number_in place (2 * third + 1)) ≡ true
stands-third One zero less = refl
stands-third Two zero less = refl
stands-third Three zero less = refl
stands-third Four zero less = refl
stands-third One (suc zero) less = refl
stands-third Two (suc zero) less = refl
stands-third Three (suc zero) less = refl
stands-third Four (suc zero) less = refl
stands-third One (suc (suc zero)) less = refl
stands-third Two (suc (suc zero)) less = refl
stands-third Three (suc (suc zero)) less = refl
stands-third Four (suc (suc zero)) less = refl
stands-third place (suc (suc (suc n))) less = absurd (omega arith)

pub stands-shifted : (place : Quad) (column row : ℕ) → column < 11 → row < 9 → stands_in place (number_in place (group_of column row)) ≡ true
stands-shifted place column row across down =
    let number_is : group_of column row ≡ 2 * (row / 3) + 1 = omega arith in
    ap (λ (n : ℕ). stands_in place (number_in place n)) number_is ∙ stands-third place (row / 3) (omega arith)

-- ---- blocks

pub place-shifted-across : (plane : Plane) (place : Quad) (x : ℕ) → (x + shift Across plane place) % 8 ≡ x % 8
place-shifted-across Luminance place x = omega arith
place-shifted-across Cb place x = omega arith
place-shifted-across Cr place x = omega arith

pub place-shifted-down : (plane : Plane) (place : Quad) (y : ℕ) → (y + shift Down plane place) % 8 ≡ y % 8
place-shifted-down Luminance place y = omega arith
place-shifted-down Cb place y = omega arith
place-shifted-down Cr place y = omega arith

pub block-shifted : (plane : Plane) (place : Quad) (x y : ℕ) → block_number plane (x + shift Across plane place) (y + shift Down plane place) ≡ block_number plane x y
block-shifted Luminance place x y = omega arith
block-shifted Cb place x y = refl
block-shifted Cr place x y = refl
