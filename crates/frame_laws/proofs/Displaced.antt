-- The prediction of a macroblock whose vector stays inside: in a place of the CIF picture and in the QCIF picture alike.
use Rattle.std.proofs.Common.{◌≡◌, ◌⊎◌, ℕ, ◌+◌, ◌-◌, ◌*◌, ◌/◌, ◌%◌, ◌<◌, ◌≤◌, ◌==◌, ◌||◌, Bool, true, false, if◌then◌else◌, ℤ, pos, negsuc, inl, inr, refl, sym, ◌∙◌, ap, ap₂, subst, arith}
use Rattle.std.proofs.lemmas.Bool.{or_parts, eqb-false, leb-true, le-leb}
use Rattle.pel_model.specs.declared.Format.TheVariants.{Qcif}
use Rattle.pel_model.specs.declared.Quad.{Quad}
use Rattle.pel_model.specs.Codes.{is_intra}
use Rattle.pel_model.specs.Crop.{crop}
use Rattle.pel_model.specs.Frames.{Plane, Luminance, Cb, Cr, Frame, ratio, is_inside}
use Rattle.pel_model.specs.Prediction.{moved_by, displaced, weighted, filtered, predicted, has_filter}
use Rattle.pel_model.specs.Records.{Across, Down, Macroblock}
use Rattle.pel_model.specs.Valid.{stays_within}
use Rattle.frame_laws.proofs.Places.{shift, is-inside, place-shifted-across, place-shifted-down}

-- what a place shows of a frame
pub crop-inside : (place : Quad) (frame : Frame) (plane : Plane) (x y : ℕ) → is_inside Qcif plane x y ≡ true
    → crop place frame plane x y ≡ frame plane (x + shift Across plane place) (y + shift Down plane place)
unfolding crop
crop-inside place frame plane x y inside = rw inside refl

-- ---- one direction

-- what the test of a component tells
abbrev pub StaysWithin : (end first : ℕ) → ℤ → Type 0
StaysWithin end first (pos n) = first + n + 16 ≤ end
StaysWithin end first (negsuc n) = n + 1 ≤ first

pub within-is : (end first : ℕ) (h : ℤ) → stays_within end first h ≡ true → StaysWithin end first h
within-is end first (pos n) test = leb-true (first + n + 16) end test
within-is end first (negsuc n) test = leb-true (n + 1) first test

pub is-within : (end first : ℕ) (h : ℤ) → StaysWithin end first h → stays_within end first h ≡ true
is-within end first (pos n) within = le-leb (first + n + 16) end within
is-within end first (negsuc n) within = le-leb (n + 1) first within

-- a component that is 0 stays within a macroblock
pub stays : (end first : ℕ) (h : ℤ) → first + 16 ≤ end → (stays_within end first h ≡ true) ⊎ (h ≡ pos 0) → StaysWithin end first h
stays end first h fits (inl test) = within-is end first h test
stays end first h fits (inr none) = subst (λ (k : ℤ). StaysWithin end first k) (sym none) (omega arith)

moved-inside : (plane : Plane) (end column x : ℕ) (h : ℤ) → ratio plane * x / 16 ≡ column → StaysWithin end (16 * column) h → 16 * column + 16 ≤ end
    → ratio plane * moved_by (ratio plane) h x < end
moved-inside Luminance end column x (pos n) here within fits = omega arith
moved-inside Luminance end column x (negsuc n) here within fits = omega arith
moved-inside Cb end column x (pos n) here within fits = omega arith
moved-inside Cb end column x (negsuc n) here within fits = omega arith
moved-inside Cr end column x (pos n) here within fits = omega arith
moved-inside Cr end column x (negsuc n) here within fits = omega arith

moved-shifted : (plane : Plane) (end column x d : ℕ) (h : ℤ) → ratio plane * x / 16 ≡ column → StaysWithin end (16 * column) h
    → moved_by (ratio plane) h (x + d) ≡ moved_by (ratio plane) h x + d
moved-shifted Luminance end column x d (pos n) here within = omega arith
moved-shifted Luminance end column x d (negsuc n) here within = omega arith
moved-shifted Cb end column x d (pos n) here within = omega arith
moved-shifted Cb end column x d (negsuc n) here within = omega arith
moved-shifted Cr end column x d (pos n) here within = omega arith
moved-shifted Cr end column x d (negsuc n) here within = omega arith

-- ---- both

-- a macroblock of a QCIF picture whose vector stays inside
pub record IsPlaced (m : Macroblock) (column row : ℕ) : Type 0 where
  pub across : column < 11
  pub down : row < 9
  pub stays_across : StaysWithin 176 (16 * column) m.across
  pub stays_down : StaysWithin 144 (16 * row) m.down

displaced-shifted : (before : Frame) (plane : Plane) (place : Quad) (m : Macroblock) (column row x y : ℕ) → IsPlaced m column row
    → ratio plane * x / 16 ≡ column → ratio plane * y / 16 ≡ row
    → displaced (crop place before) m plane x y ≡ displaced before m plane (x + shift Across plane place) (y + shift Down plane place)
displaced-shifted before plane place m column row x y is here there =
    let a : ℕ = moved_by (ratio plane) m.across x in
    let b : ℕ = moved_by (ratio plane) m.down y in
    crop-inside place before plane a b
    (is-inside Qcif plane a b (moved-inside plane 176 column x m.across here is.stays_across (omega (arith, is.across))) (moved-inside plane 144 row y m.down there is.stays_down (omega (arith, is.down))))
    ∙ ap₂ (before plane)
    (sym (moved-shifted plane 176 column x (shift Across plane place) m.across here is.stays_across))
    (sym (moved-shifted plane 144 row y (shift Down plane place) m.down there is.stays_down))

-- ---- the loop filter

-- two lines that are alike in the block of i, one of them groups_for by whole blocks
weighted-inside : (f g : ℕ → ℕ) (i d : ℕ) → 0 < i % 8 → i % 8 < 7 → ((j : ℕ) → j / 8 ≡ i / 8 → f j ≡ g (j + d))
    → f (i - 1) + 2 * f i + f (i + 1) ≡ g (i + d - 1) + 2 * g (i + d) + g (i + d + 1)
weighted-inside f g i d low high alike =
    let before : f (i - 1) ≡ g (i + d - 1) = alike (i - 1) (omega arith) ∙ ap g {x = i - 1 + d} {y = i + d - 1} (omega arith) in
    let here : f i ≡ g (i + d) = alike i refl in
    let after : f (i + 1) ≡ g (i + d + 1) = alike (i + 1) (omega arith) ∙ ap g {x = i + 1 + d} {y = i + d + 1} (omega arith) in
    omega (arith, before, here, after)

weighted-step : (f g : ℕ → ℕ) (i d : ℕ) (edge : Bool) → ((i % 8 == 0) || (i % 8 == 7)) ≡ edge → (((i + d) % 8 == 0) || ((i + d) % 8 == 7)) ≡ edge
    → ((j : ℕ) → j / 8 ≡ i / 8 → f j ≡ g (j + d)) → weighted f i ≡ weighted g (i + d)
weighted-step f g i d true edge_is edge_too alike = rw (edge_is, edge_too) (ap (λ n. 4 * n) (alike i refl))
weighted-step f g i d false edge_is edge_too alike =
    let sides : ((i % 8 == 0) ≡ false) × ((i % 8 == 7) ≡ false) = or_parts (i % 8 == 0) (i % 8 == 7) edge_is in
    let first : i % 8 ≡ 0 → ⊥ = eqb-false (i % 8) 0 sides.0 in
    let last : i % 8 ≡ 7 → ⊥ = eqb-false (i % 8) 7 sides.1 in
    rw (edge_is, edge_too) (weighted-inside f g i d (omega (arith, first)) (omega (arith, last)) alike)

pub weighted-shifted : (f g : ℕ → ℕ) (i d : ℕ) → (i + d) % 8 ≡ i % 8 → ((j : ℕ) → j / 8 ≡ i / 8 → f j ≡ g (j + d)) → weighted f i ≡ weighted g (i + d)
weighted-shifted f g i d same alike =
    weighted-step f g i d ((i % 8 == 0) || (i % 8 == 7)) refl (ap (λ (k : ℕ). (k == 0) || (k == 7)) same) alike

filtered-shifted : (p q : ℕ → ℕ → ℕ) (x y d e : ℕ) → (x + d) % 8 ≡ x % 8 → (y + e) % 8 ≡ y % 8
    → ((a b : ℕ) → a / 8 ≡ x / 8 → b / 8 ≡ y / 8 → p a b ≡ q (a + d) (b + e)) → filtered p x y ≡ filtered q (x + d) (y + e)
filtered-shifted p q x y d e across down alike =
    ap (λ (n : ℕ). (n + 8) / 16)
    (weighted-shifted (λ b. weighted (λ a. p a b) x) (λ b. weighted (λ a. q a b) (x + d)) y e down
    (λ b here. weighted-shifted (λ a. p a b) (λ a. q a (b + e)) x d across (λ a there. alike a b there here)))

-- the samples of a block lie in one macroblock
same-macroblock : (plane : Plane) (a x : ℕ) → a / 8 ≡ x / 8 → ratio plane * a / 16 ≡ ratio plane * x / 16
same-macroblock Luminance a x same = omega arith
same-macroblock Cb a x same = omega arith
same-macroblock Cr a x same = omega arith

-- ---- prediction

predicted-by : (intra filter : Bool) (p q filtered_p filtered_q : ℕ) → p ≡ q → filtered_p ≡ filtered_q
    → (if intra then 0 else if filter then filtered_p else p) ≡ (if intra then 0 else if filter then filtered_q else q)
predicted-by true filter p q filtered_p filtered_q same filtered_same = refl
predicted-by false true p q filtered_p filtered_q same filtered_same = filtered_same
predicted-by false false p q filtered_p filtered_q same filtered_same = same

pub predicted-shifted : (before : Frame) (plane : Plane) (place : Quad) (m : Macroblock) (x y : ℕ) → IsPlaced m (ratio plane * x / 16) (ratio plane * y / 16)
    → predicted (crop place before) m plane x y ≡ predicted before m plane (x + shift Across plane place) (y + shift Down plane place)
predicted-shifted before plane place m x y is =
    let dx : ℕ = shift Across plane place in
    let dy : ℕ = shift Down plane place in
    predicted-by (is_intra m.kind) (has_filter m.kind)
    (displaced (crop place before) m plane x y) (displaced before m plane (x + dx) (y + dy))
    (filtered (displaced (crop place before) m plane) x y) (filtered (displaced before m plane) (x + dx) (y + dy))
    (displaced-shifted before plane place m (ratio plane * x / 16) (ratio plane * y / 16) x y is refl refl)
    (filtered-shifted (displaced (crop place before) m plane) (displaced before m plane) x y dx dy (place-shifted-across plane place x) (place-shifted-down plane place y)
    (λ a b here there.
    displaced-shifted before plane place m (ratio plane * x / 16) (ratio plane * y / 16) a b is (same-macroblock plane a x here) (same-macroblock plane b y there)))
