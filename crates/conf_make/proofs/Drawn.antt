-- Bits that are pushed, and loops that push them.
use Rattle.std.proofs.Common.{◌≡◌, ℕ, zero, suc, ◌+◌, ◌-◌, ◌*◌, ◌/◌, ◌%◌, ◌^◌, ◌<◌, ◌==◌, Bool, if◌then◌else◌, List, [], ◌∷◌, ◌++◌, codes, refl, sym, ◌∙◌, ap, ap₂, arith, append_assoc, append-nil, add_assoc}
use Rattle.std.proofs.Math.Nat.{div-add-mod, mul-add-mod_self_left}
use Rattle.pel_bits.specs.Bits.{field as wire_field}
use Rattle.pel_bits.specs.Buffer.{Buffer}
use Rattle.pel_model.specs.declared.Format.TheVariants.{Qcif}
use Rattle.pel_model.specs.Bits.{field, is_odd}
use Rattle.pel_model.specs.Codes.{word}
use Rattle.pel_model.specs.Headers.{group_header_text, picture_header_text}
use Rattle.pel_model.specs.Text.{group_header, picture_header}
use Rattle.conf_make.specs.Draws.{next_state, draw, state_after}
use Rattle.conf_make.specs.Pictures.{repeated, grey_macroblock, grey_group, grey_picture, macroblock, macroblocks, count, drawn_group, behind_group, drawn_picture, behind_picture}
use Rattle.conf_make.specs.Writing.{with_bits}

mod-sum : (a c n : ℕ) → (a % n + c) % n ≡ (a + c) % n
mod-sum a c n =
    let whole : n * (a / n) + (a % n + c) ≡ a + c = sym (add_assoc (n * (a / n)) (a % n) c) ∙ ap (λ (t : ℕ). t + c) (div-add-mod a n) in
    sym (mul-add-mod_self_left n (a / n) (a % n + c)) ∙ ap (λ (t : ℕ). t % n) whole

pub draws-on : (x : ℕ) → (x * 6364136223846793005 % 2 ^ 64 + 1442695040888963407) % 2 ^ 64 ≡ next_state x
unfolding next_state
draws-on x = mod-sum (x * 6364136223846793005) 1442695040888963407 (2 ^ 64)

-- ---- pushes one after another

pub two-pushes : (b b1 b2 : Buffer) (w x : List Bool) → b1 ≡ with_bits b w → b2 ≡ with_bits b1 x → b2 ≡ with_bits b (w ++ x)
two-pushes b b1 b2 w x e1 e2 =
    e2 ∙ ap (λ (c : Buffer). with_bits c x) e1 ∙ ap (λ (list : List Bool). record { list = list; capacity = b.capacity }) (append_assoc b.list w x)

pub three-pushes : (b b1 b2 b3 : Buffer) (w x y : List Bool) → b1 ≡ with_bits b w → b2 ≡ with_bits b1 x → b3 ≡ with_bits b2 y
    → b3 ≡ with_bits b (w ++ (x ++ y))
three-pushes b b1 b2 b3 w x y e1 e2 e3 =
    e3 ∙ ap (λ (c : Buffer). with_bits c y) (e2 ∙ ap (λ (c : Buffer). with_bits c x) e1)
    ∙ ap (λ (list : List Bool). record { list = list; capacity = b.capacity }) (simp append_assoc)

pub four-pushes : (b b1 b2 b3 b4 : Buffer) (w x y z : List Bool)
    → b1 ≡ with_bits b w → b2 ≡ with_bits b1 x → b3 ≡ with_bits b2 y → b4 ≡ with_bits b3 z
    → b4 ≡ with_bits b (w ++ (x ++ (y ++ z)))
four-pushes b b1 b2 b3 b4 w x y z e1 e2 e3 e4 =
    e4 ∙ ap (λ (c : Buffer). with_bits c z) (e3 ∙ ap (λ (c : Buffer). with_bits c y) (e2 ∙ ap (λ (c : Buffer). with_bits c x) e1))
    ∙ ap (λ (list : List Bool). record { list = list; capacity = b.capacity }) (simp append_assoc)

pub header-is : (tr : ℕ) → wire_field 16 20 ++ (wire_field tr 5 ++ (wire_field 3 6 ++ wire_field 0 1)) ≡ picture_header Qcif tr
unfolding wire_field field picture_header_text
header-is tr = refl

pub group-header-is : (number : ℕ) → wire_field 1 16 ++ (wire_field number 4 ++ (wire_field 8 5 ++ wire_field 0 1)) ≡ group_header number 8
unfolding wire_field field group_header_text
group-header-is number = refl

pub grey-is : wire_field 17 5 ++ (wire_field 1072692222 30 ++ wire_field 1072692222 30) ≡ grey_macroblock
unfolding wire_field grey_macroblock repeated
grey-is = refl

abbrev chosen : ℕ → Bool → List Bool
chosen r sign =
    if r == 0
    then word (codes "1") ++ word (codes "1") ++ word (codes "1010") ++ word (codes "1") ++ sign ∷ word (codes "10")
    else word (codes "1") ++ word (codes "001") ++ word (codes "1") ++ word (codes "1")

pub even-is : (drawn : ℕ) → drawn % 2 ≡ 0 → wire_field 117 7 ++ (wire_field (drawn / 2 % 2) 1 ++ wire_field 2 2) ≡ macroblock drawn
unfolding wire_field macroblock
even-is drawn even =
    ap (chosen 0) (ap (λ (n : ℕ). n == 1) (let e : drawn / 2 % 2 / 2 ^ 0 % 2 ≡ drawn / 2 % 2 = omega arith in e))
    ∙ ap (λ (r : ℕ). chosen r (is_odd (drawn / 2))) (sym even)

pub odd-is : (drawn : ℕ) → drawn % 2 ≡ 1 → wire_field 39 6 ≡ macroblock drawn
unfolding wire_field macroblock
odd-is drawn odd = ap (λ (r : ℕ). chosen r (is_odd (drawn / 2))) (sym odd)

-- ---- loops

times-last : (n : ℕ) (bits : List Bool) → repeated n bits ++ bits ≡ repeated (suc n) bits
unfolding repeated
times-last zero bits = sym (append-nil bits)
times-last (suc n) bits = append_assoc bits (repeated n bits) bits ∙ ap (λ (bs : List Bool). bits ++ bs) (times-last n bits)

pub times-more : (n : ℕ) (bits : List Bool) → repeated n bits ++ bits ≡ repeated (n + 1) bits
times-more n bits = times-last n bits ∙ ap (λ (k : ℕ). repeated k bits) (omega arith)

pub times-none : (bits : List Bool) → repeated 0 bits ≡ []
unfolding repeated
times-none bits = refl

pub rest-is : (n i state : ℕ) → i < n → macroblocks (n - i) state ≡ macroblock (draw (next_state state)) ++ macroblocks (n - (i + 1)) (next_state state)
rest-is n i state less = ap (λ (k : ℕ). macroblocks k state) (let e : n - i ≡ suc (n - (i + 1)) = omega (arith, less) in e)

pub behind-is : (n i state : ℕ) → i < n → state_after (n - i) state ≡ state_after (n - (i + 1)) (next_state state)
behind-is n i state less = ap (λ (k : ℕ). state_after k state) (let e : n - i ≡ suc (n - (i + 1)) = omega (arith, less) in e)

-- ---- groups and pictures

pub grey-group-is : (number : ℕ) → group_header number 8 ++ repeated 33 grey_macroblock ≡ grey_group number
unfolding grey_group
grey-group-is number = refl

pub grey-picture-is : (tr : ℕ) → picture_header Qcif tr ++ (grey_group 1 ++ (grey_group 3 ++ grey_group 5)) ≡ grey_picture tr
unfolding grey_picture
grey-picture-is tr = simp append_assoc

pub group-is : (number state : ℕ) → group_header number 8 ++ macroblocks (count state) (next_state state) ≡ drawn_group number state
unfolding drawn_group
group-is number state = refl

pub behind-group-is : (state : ℕ) → state_after (count state) (next_state state) ≡ behind_group state
unfolding behind_group
behind-group-is state = refl

pub drawn-picture-is : (tr state : ℕ)
    → picture_header Qcif tr ++ (drawn_group 1 state ++ (drawn_group 3 (behind_group state) ++ drawn_group 5 (behind_group (behind_group state)))) ≡ drawn_picture tr state
unfolding drawn_picture
drawn-picture-is tr state = simp append_assoc

pub behind-picture-is : (state : ℕ) → behind_group (behind_group (behind_group state)) ≡ behind_picture state
unfolding behind_picture
behind-picture-is state = refl

-- ---- grey macroblocks one after another

pub none-pushed : (b : Buffer) → b ≡ with_bits b (repeated 0 grey_macroblock)
unfolding repeated
none-pushed b = ap (λ (list : List Bool). record { list = list; capacity = b.capacity }) (sym (append-nil b.list))

pub more-pushed : (b b1 b2 : Buffer) (n : ℕ) → b1 ≡ with_bits b (repeated n grey_macroblock) → b2 ≡ with_bits b1 grey_macroblock → b2 ≡ with_bits b (repeated (n + 1) grey_macroblock)
more-pushed b b1 b2 n e1 e2 = two-pushes b b1 b2 (repeated n grey_macroblock) grey_macroblock e1 e2 ∙ ap (with_bits b) (times-more n grey_macroblock)

-- ---- drawn macroblocks one after another: what was pushed, and what is still to be drawn

pub record Pushes (count state : ℕ) (old now : Buffer) (left state_now : ℕ) : Type 0 where
  pub bits : now.list ++ macroblocks left state_now ≡ old.list ++ macroblocks count state
  pub capacity : now.capacity ≡ old.capacity
  pub behind_is : state_after left state_now ≡ state_after count state

pub at-first : (count state : ℕ) (old : Buffer) → Pushes count state old old (count - 0) state
at-first count state old =
    let none : count - 0 ≡ count = omega arith in
    record {
      bits = ap (λ (k : ℕ). old.list ++ macroblocks k state) none;
      capacity = refl;
      behind_is = ap (λ (k : ℕ). state_after k state) none;
    }

pub one-more : (count state : ℕ) (old now next_buffer : Buffer) (i state_now : ℕ) → i < count → Pushes count state old now (count - i) state_now
    → next_buffer ≡ with_bits now (macroblock (draw (next_state state_now))) → Pushes count state old next_buffer (count - (i + 1)) (next_state state_now)
one-more count state old now next_buffer i state_now less h e =
    let one = macroblock (draw (next_state state_now)) in
    let rest = macroblocks (count - (i + 1)) (next_state state_now) in
    record {
      bits =
          ap (λ (b : Buffer). b.list ++ rest) e ∙ append_assoc now.list one rest
          ∙ ap (λ (bs : List Bool). now.list ++ bs) (sym (rest-is count i state_now less)) ∙ h.bits;
      capacity = ap (λ (b : Buffer). b.capacity) e ∙ h.capacity;
      behind_is = sym (behind-is count i state_now less) ∙ h.behind_is;
    }

pub all-pushed : (count state : ℕ) (old now : Buffer) (left state_now : ℕ) → left ≡ 0 → Pushes count state old now left state_now
    → (now ≡ with_bits old (macroblocks count state)) × (state_now ≡ state_after count state)
all-pushed count state old now left state_now none h =
    let list : now.list ≡ old.list ++ macroblocks count state =
    sym (append-nil now.list) ∙ ap (λ (k : ℕ). now.list ++ macroblocks k state_now) (sym none) ∙ h.bits in (
      ap₂ (λ (bs : List Bool) (k : ℕ). record { list = bs; capacity = k }) list h.capacity,
      ap (λ (k : ℕ). state_after k state_now) (sym none) ∙ h.behind_is,
    )
