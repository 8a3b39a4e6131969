-- Blocks drawn one by one are a macroblock, macroblocks a group, and groups a picture.
use Rattle.std.proofs.Common.{◌≡◌, ℕ, ◌+◌, ◌*◌, ◌/◌, ◌<◌, ◌==◌, ◌&&◌, inl, inr, Bool, true, false, cond, List, [], ◌∷◌, ◌++◌, Option, Some, None, refl, sym, ◌∙◌, ap, ap₂, arith, nat_lt}
use Rattle.std.proofs.lemmas.Bool.{false≢true, cases_Bool, cond-false, cond-true, eqb-true, eqb-false, eq-eqb, ne_eqb, lt-ltb, le-ltb, cases_lt}
use Rattle.pel_model.specs.declared.Format.{Format}
use Rattle.pel_model.specs.Decode.{Quantised, at_address, in_groups, group_of, address_of, block_number, decoded}
use Rattle.pel_model.specs.Frames.{Plane, Luminance, Cb, Cr, ratio, is_inside}
use Rattle.pel_model.specs.Records.{Macroblock, Group, quantiser_after, quantiser_behind}
use Rattle.pel_model.specs.Transform.{fixed}
use Rattle.ref_decode.specs.Drawing.{sample_in, frame_in, covers, drawn_over, BlockDrawn, BlocksDrawn, GroupDrawn, GroupsDrawn}

-- ---- blocks

pub no_blocks : (format : Format) (number : ℕ) (found : Quantised) (shown old : List ℕ) → BlocksDrawn format number found 0 shown old old
no_blocks format number found shown old plane x y h =
    let none : (covers number found.macroblock.address plane x y && nat_lt (block_number plane x y) 0) ≡ false = and_false (covers number found.macroblock.address plane x y) (nat_lt (block_number plane x y) 0) (le-ltb (block_number plane x y) 0 (omega arith)) in
    sym (cond-false _ _ _ none)
  where
    and_false : (a b : Bool) → b ≡ false → (a && b) ≡ false
    and_false true b h = h
    and_false false b h = refl

same_test : (c : Bool) (n k : ℕ) → (c && (n == k)) ≡ false → (c && nat_lt n k) ≡ (c && nat_lt n (k + 1))
same_test false n k h = refl
same_test true n k h = elim (cases_lt n k) [
  | inl lt ↦ lt-ltb n k lt ∙ sym (lt-ltb n (k + 1) (omega (arith, lt)))
  | inr ge ↦
      let ne : n ≡ k → ⊥ = eqb-false n k h in
      le-ltb n k ge ∙ sym (le-ltb n (k + 1) (omega (arith, ge, ne)))
]

one_test : (c : Bool) (n k : ℕ) → (c && (n == k)) ≡ true → (c && nat_lt n (k + 1)) ≡ true
one_test false n k h = absurd (false≢true h)
one_test true n k h = let e : n ≡ k = eqb-true n k h in lt-ltb n (k + 1) (omega (arith, e))

pub block_more : (format : Format) (number : ℕ) (found : Quantised) (k : ℕ) (shown old mid new : List ℕ) → BlocksDrawn format number found k shown old mid → BlockDrawn format number found k shown mid new → BlocksDrawn format number found (k + 1) shown old new
block_more format number found k shown old mid new done one plane x y h =
    let c : Bool = covers number found.macroblock.address plane x y in
    let n : ℕ = block_number plane x y in
    elim (cases_Bool (covers number found.macroblock.address plane x y && (block_number plane x y == k))) [
      | inl hit ↦ one plane x y h ∙ (cond-true _ _ _ hit ∙ sym (cond-true _ _ _ (one_test (covers number found.macroblock.address plane x y) (block_number plane x y) k hit)))
      | inr miss ↦ one plane x y h ∙ (cond-false _ _ _ miss ∙ (done plane x y h ∙ ap (λ b. cond b (decoded fixed (frame_in format shown) (Some found) plane x y) (sample_in format old plane x y)) (same_test (covers number found.macroblock.address plane x y) (block_number plane x y) k miss)))
    ]

block_few : (plane : Plane) (x y : ℕ) → block_number plane x y < 6
block_few Luminance x y = omega arith
block_few Cb x y = omega arith
block_few Cr x y = omega arith

-- all six of them
pub macroblock_drawn : (format : Format) (number : ℕ) (found : Quantised) (shown old new : List ℕ) → BlocksDrawn format number found 6 shown old new → (plane : Plane) (x y : ℕ) → is_inside format plane x y ≡ true → sample_in format new plane x y ≡ cond (covers number found.macroblock.address plane x y) (decoded fixed (frame_in format shown) (Some found) plane x y) (sample_in format old plane x y)
macroblock_drawn format number found shown old new drawn plane x y h =
    drawn plane x y h ∙ ap (λ b. cond b (decoded fixed (frame_in format shown) (Some found) plane x y) (sample_in format old plane x y)) (and_true (covers number found.macroblock.address plane x y) (nat_lt (block_number plane x y) 6) (lt-ltb (block_number plane x y) 6 (block_few plane x y)))
  where
    and_true : (a b : Bool) → b ≡ true → (a && b) ≡ a
    and_true true b h = h
    and_true false b h = refl

-- ---- look-ups

abbrev pub AllBelow : ℕ → List Macroblock → Type 0
AllBelow a [] = Unit {0}
AllBelow a (m ∷ ms) = (m.address < a) × AllBelow a ms

not_found : (a q : ℕ) (ms : List Macroblock) → AllBelow a ms → at_address a q ms ≡ None
not_found a q [] h = refl
not_found a q (m ∷ ms) h =
    let ne : (m.address == a) ≡ false = ne_eqb m.address a (λ e. omega (arith, e, h.0)) in
    cond-false (m.address == a) (Some (record { macroblock = m; quant = quantiser_after q m.mquant })) (at_address a (quantiser_after q m.mquant) ms) ne
    ∙ not_found a (quantiser_after q m.mquant) ms h.1

-- one macroblock more is found at its own address alone
found_own : (q : ℕ) (ms : List Macroblock) (m : Macroblock) → AllBelow m.address ms → at_address m.address q (ms ++ m ∷ []) ≡ Some (record { macroblock = m; quant = quantiser_after (quantiser_behind q ms) m.mquant })
found_own q [] m h = cond-true (m.address == m.address) (Some (record { macroblock = m; quant = quantiser_after q m.mquant })) None (eq-eqb m.address m.address refl)
found_own q (x ∷ ms) m h =
    let ne : (x.address == m.address) ≡ false = ne_eqb x.address m.address (λ e. omega (arith, e, h.0)) in
    cond-false (x.address == m.address) (Some (record { macroblock = x; quant = quantiser_after q x.mquant })) (at_address m.address (quantiser_after q x.mquant) (ms ++ m ∷ [])) ne
    ∙ found_own (quantiser_after q x.mquant) ms m h.1

found_other : (a q : ℕ) (ms : List Macroblock) (m : Macroblock) → (m.address == a) ≡ false → at_address a q (ms ++ m ∷ []) ≡ at_address a q ms
found_other a q [] m ne = cond-false (m.address == a) (Some (record { macroblock = m; quant = quantiser_after q m.mquant })) None ne
found_other a q (x ∷ ms) m ne =
    ap (cond (x.address == a) (Some (record { macroblock = x; quant = quantiser_after q x.mquant }))) (found_other a (quantiser_after q x.mquant) ms m ne)

-- ---- macroblocks of a group

pub no_macroblocks : (format : Format) (number quant : ℕ) (shown old : List ℕ) → GroupDrawn format number quant [] shown old old
no_macroblocks format number quant shown old plane x y h =
    elim (cases_Bool (group_of (ratio plane * x / 16) (ratio plane * y / 16) == number)) [
      | inl hit ↦ ap (λ o. drawn_over (frame_in format shown) o plane x y (sample_in format old plane x y)) (sym (cond-true (group_of (ratio plane * x / 16) (ratio plane * y / 16) == number) None None hit))
      | inr miss ↦ ap (λ o. drawn_over (frame_in format shown) o plane x y (sample_in format old plane x y)) (sym (cond-false (group_of (ratio plane * x / 16) (ratio plane * y / 16) == number) None None miss))
    ]

eqb_turned : (a b : ℕ) → (a == b) ≡ false → (b == a) ≡ false
eqb_turned a b h = ne_eqb b a (λ e. eqb-false a b h (sym e))

pub macroblock_more : (format : Format) (number quant : ℕ) (ms : List Macroblock) (m : Macroblock) (shown old mid new : List ℕ) → AllBelow m.address ms → GroupDrawn format number quant ms shown old mid → BlocksDrawn format number (record { macroblock = m; quant = quantiser_after (quantiser_behind quant ms) m.mquant }) 6 shown mid new → GroupDrawn format number quant (ms ++ m ∷ []) shown old new
macroblock_more format number quant ms m shown old mid new below done one plane x y h =
    let n : ℕ = group_of (ratio plane * x / 16) (ratio plane * y / 16) in
    let a : ℕ = address_of (ratio plane * x / 16) (ratio plane * y / 16) in
    let step = macroblock_drawn format number (record { macroblock = m; quant = quantiser_after (quantiser_behind quant ms) m.mquant }) shown mid new one plane x y h in
    let over = λ (o : Option Quantised). drawn_over (frame_in format shown) o plane x y (sample_in format old plane x y) in
    elim (cases_Bool (group_of (ratio plane * x / 16) (ratio plane * y / 16) == number)) [
      | inr other ↦
          let miss : covers number m.address plane x y ≡ false = ap (λ b. b && (address_of (ratio plane * x / 16) (ratio plane * y / 16) == m.address)) other in
          step ∙ (cond-false _ _ _ miss ∙ (done plane x y h ∙ ap over (cond-false _ _ _ other ∙ sym (cond-false _ _ _ other))))
      | inl own ↦ elim (cases_Bool (address_of (ratio plane * x / 16) (ratio plane * y / 16) == m.address)) [
        | inr other ↦
            let miss : covers number m.address plane x y ≡ false = ap₂ (λ (s t : Bool). s && t) own other in
            step ∙ (cond-false _ _ _ miss ∙ (done plane x y h ∙ ap over (ap (λ o. cond (group_of (ratio plane * x / 16) (ratio plane * y / 16) == number) o None) (sym (found_other (address_of (ratio plane * x / 16) (ratio plane * y / 16)) quant ms m (eqb_turned (address_of (ratio plane * x / 16) (ratio plane * y / 16)) m.address other))))))
        | inl here ↦
            let hit : covers number m.address plane x y ≡ true = ap₂ (λ (s t : Bool). s && t) own here in
            let at : address_of (ratio plane * x / 16) (ratio plane * y / 16) ≡ m.address = eqb-true (address_of (ratio plane * x / 16) (ratio plane * y / 16)) m.address here in
            step ∙ (cond-true _ _ _ hit ∙ ap over (sym (cond-true _ _ _ own ∙ (ap (λ k. at_address k quant (ms ++ m ∷ [])) at ∙ found_own quant ms m below))))
      ]
    ]

-- ---- groups of a picture

abbrev pub NoneIs : ℕ → List Group → Type 0
NoneIs n [] = Unit {0}
NoneIs n (g ∷ gs) = ((g.number == n) ≡ false) × NoneIs n gs

no_group : (n a : ℕ) (gs : List Group) → NoneIs n gs → in_groups n a gs ≡ None
no_group n a [] h = refl
no_group n a (g ∷ gs) h = cond-false (g.number == n) (at_address a g.quant g.macroblocks) (in_groups n a gs) h.0 ∙ no_group n a gs h.1

group_own : (n a : ℕ) (gs : List Group) (g : Group) → NoneIs g.number gs → g.number ≡ n → in_groups n a (gs ++ g ∷ []) ≡ at_address a g.quant g.macroblocks
group_own n a [] g h is = cond-true (g.number == n) (at_address a g.quant g.macroblocks) None (eq-eqb g.number n is)
group_own n a (x ∷ gs) g h is =
    let ne : (x.number == n) ≡ false = ap (λ k. x.number == k) (sym is) ∙ h.0 in
    cond-false (x.number == n) (at_address a x.quant x.macroblocks) (in_groups n a (gs ++ g ∷ [])) ne ∙ group_own n a gs g h.1 is

group_other : (n a : ℕ) (gs : List Group) (g : Group) → (g.number == n) ≡ false → in_groups n a (gs ++ g ∷ []) ≡ in_groups n a gs
group_other n a [] g ne = cond-false (g.number == n) (at_address a g.quant g.macroblocks) None ne
group_other n a (x ∷ gs) g ne = ap (cond (x.number == n) (at_address a x.quant x.macroblocks)) (group_other n a gs g ne)

pub no_groups : (format : Format) (shown old : List ℕ) → GroupsDrawn format [] shown old old
no_groups format shown old plane x y h = refl

pub group_more : (format : Format) (gs : List Group) (g : Group) (shown old mid new : List ℕ) → NoneIs g.number gs → GroupsDrawn format gs shown old mid → GroupDrawn format g.number g.quant g.macroblocks shown mid new → GroupsDrawn format (gs ++ g ∷ []) shown old new
group_more format gs g shown old mid new apart done one plane x y h =
    let n : ℕ = group_of (ratio plane * x / 16) (ratio plane * y / 16) in
    let a : ℕ = address_of (ratio plane * x / 16) (ratio plane * y / 16) in
    elim (cases_Bool (group_of (ratio plane * x / 16) (ratio plane * y / 16) == g.number)) [
      | inr other ↦
          let ne : (g.number == group_of (ratio plane * x / 16) (ratio plane * y / 16)) ≡ false = eqb_turned (group_of (ratio plane * x / 16) (ratio plane * y / 16)) g.number other in
          one plane x y h
          ∙ (ap (λ o. drawn_over (frame_in format shown) o plane x y (sample_in format mid plane x y)) (cond-false _ _ _ other)
          ∙ (done plane x y h
          ∙ ap (λ o. drawn_over (frame_in format shown) o plane x y (sample_in format old plane x y)) (sym (group_other (group_of (ratio plane * x / 16) (ratio plane * y / 16)) (address_of (ratio plane * x / 16) (ratio plane * y / 16)) gs g ne))))
      | inl own ↦
          let is : group_of (ratio plane * x / 16) (ratio plane * y / 16) ≡ g.number = eqb-true _ _ own in
          let none : in_groups (group_of (ratio plane * x / 16) (ratio plane * y / 16)) (address_of (ratio plane * x / 16) (ratio plane * y / 16)) gs ≡ None = ap (λ k. in_groups k (address_of (ratio plane * x / 16) (ratio plane * y / 16)) gs) is ∙ no_group g.number (address_of (ratio plane * x / 16) (ratio plane * y / 16)) gs apart in
          let kept : sample_in format mid plane x y ≡ sample_in format old plane x y = done plane x y h ∙ ap (λ o. drawn_over (frame_in format shown) o plane x y (sample_in format old plane x y)) none in
          one plane x y h
          ∙ (ap (λ o. drawn_over (frame_in format shown) o plane x y (sample_in format mid plane x y)) (cond-true _ _ _ own ∙ sym (group_own (group_of (ratio plane * x / 16) (ratio plane * y / 16)) (address_of (ratio plane * x / 16) (ratio plane * y / 16)) gs g apart (sym is)))
          ∙ ap (drawn_over (frame_in format shown) (in_groups (group_of (ratio plane * x / 16) (ratio plane * y / 16)) (address_of (ratio plane * x / 16) (ratio plane * y / 16)) (gs ++ g ∷ [])) plane x y) kept)
    ]
