-- The machine by its numbered states: its steps are those of what is pending, and where it finds the end of a block the rest of
-- the block stands there.
use Rattle.std.proofs.Common.{◌≡◌, ℕ, zero, suc, ◌+◌, ◌*◌, ◌/◌, ◌%◌, ◌<◌, ◌≤◌, ◌==◌, Bool, true, false, cond, List, [], ◌∷◌, ◌++◌, length, take, drop}
use Rattle.std.proofs.Common.{get_or, nat_lt, refl, sym, ◌∙◌, ap, subst, arith, append_assoc, length-append, length-take}
use Rattle.std.proofs.lemmas.Bool.{ne_eqb, eq-eqb, eqb-true, ltb-true}
use Rattle.std.proofs.lemmas.List.{drop_at, drop-append-le, take-append-drop, take-append-le}
use Rattle.pel_bits.specs.Bits.{field, number}
use Rattle.pel_bits.specs.Reading.{zeros}
use Rattle.pel_bits.proofs.Fields.{field-number}
use Rattle.pel_model.specs.Codes.{tcoeff_table}
use Rattle.pel_model.specs.Walk.{Reading, Standing, read, skipped, Goes}
use Rattle.pel_model.specs.Grammar.{Element, first_rows, later_rows, next}
use Rattle.vlc_codes.proofs.CellLaws.{listed, listed_at}
use Rattle.h261_block.specs.Ahead.{AreWords, EndsBlock, MayStand, elements}
use Rattle.h261_block.specs.Machine.{Pending, Code, BitStep, codes, begins, bit_step}
use Rattle.h261_block.specs.Steps.{pending, steps, state_step, Passed, behind_bit, passed}
use Rattle.h261_block.proofs.AheadLaws.{one-coefficient, one-end, more-words}
use Rattle.h261_block.proofs.Pendings.{Holds, Outcome, Waits, Makes, Ends, Fails, IsCoefficient, stepped}

-- ---- the steps, computed

abbrev at : ℕ → ℕ × ℕ × Bool
at k = get_or steps k (87, 127, false)

abbrev meant : ℕ × ℕ × Bool → Pending × ℕ × Bool
meant s = (pending s.0, s.1, s.2)

abbrev told : BitStep → Pending × ℕ × Bool
told s = (s.next, s.fills, s.ends)

steps_computed : listed (λ k. meant (at k)) 0 176 ≡ listed (λ k. told (bit_step (pending (k / 2)) (k % 2 == 1))) 0 176
unfolding tcoeff_table codes begins
steps_computed = refl

steps_within : listed (λ k. nat_lt (at k).0 88) 0 176 ≡ listed (λ k. true) 0 176
steps_within = refl

abbrev no_step : Pending × ℕ × Bool
no_step = (Code [], 0, false)

step_at : (k : ℕ) → k < 176 → meant (at k) ≡ told (bit_step (pending (k / 2)) (k % 2 == 1))
step_at k inside =
    sym (listed_at (λ k. meant (at k)) 176 k no_step inside)
    ∙ (ap (λ (cs : List (Pending × ℕ × Bool)). get_or cs k no_step) steps_computed ∙ listed_at (λ k. told (bit_step (pending (k / 2)) (k % 2 == 1))) 176 k no_step inside)

abbrev at_bit : ℕ → Bool → ℕ
at_bit s b = 2 * s + cond b 1 0

halves : (s : ℕ) (b : Bool) → (at_bit s b / 2 ≡ s) × ((at_bit s b % 2 == 1) ≡ b)
halves s true = (omega arith, eq-eqb (at_bit s true % 2) 1 (omega arith))
halves s false = (omega arith, ne_eqb (at_bit s false % 2) 1 (λ h. omega (arith, h)))

step_meant : (s : ℕ) (b : Bool) → s < 88 → meant (state_step s b) ≡ told (bit_step (pending s) b)
step_meant s b inside =
    step_at (at_bit s b) (by_bit b)
    ∙ (ap (λ (n : ℕ). told (bit_step (pending n) (at_bit s b % 2 == 1))) (halves s b).0 ∙ ap (λ (c : Bool). told (bit_step (pending s) c)) (halves s b).1)
  where
    by_bit : (b : Bool) → at_bit s b < 176
    by_bit true = omega arith
    by_bit false = omega arith

step_within : (s : ℕ) (b : Bool) → s < 88 → (state_step s b).0 < 88
step_within s b inside = ltb-true (state_step s b).0 88
    (sym (listed_at (λ k. nat_lt (at k).0 88) 176 (at_bit s b) true (by_bit b))
    ∙ (ap (λ (bs : List Bool). get_or bs (at_bit s b) true) steps_within ∙ listed_at (λ k. true) 176 (at_bit s b) true (by_bit b)))
  where
    by_bit : (b : Bool) → at_bit s b < 176
    by_bit true = omega arith
    by_bit false = omega arith

all_within : listed (λ k. nat_lt (at k).0 102) 0 204 ≡ listed (λ k. true) 0 204
all_within = refl

any_within : (s : ℕ) (b : Bool) → s < 102 → (state_step s b).0 < 102
any_within s b inside = ltb-true (state_step s b).0 102
    (sym (listed_at (λ k. nat_lt (at k).0 102) 204 (at_bit s b) true (by_bit b))
    ∙ (ap (λ (bs : List Bool). get_or bs (at_bit s b) true) all_within ∙ listed_at (λ k. true) 204 (at_bit s b) true (by_bit b)))
  where
    by_bit : (b : Bool) → at_bit s b < 204
    by_bit true = omega arith
    by_bit false = omega arith

-- ---- some bits behind others

not_none : (n : ℕ) → (suc n == 0) ≡ false
not_none n = ne_eqb (suc n) 0 (λ h. omega (arith, h))

on_end : (n : ℕ) → 0 < cond (n == 0) 0 (n + 1) → (0 < n) × (cond (n == 0) 0 (n + 1) ≡ n + 1)
on_end zero some = absurd (omega (arith, some))
on_end (suc n) some = (omega arith, ap (λ (b : Bool). cond b 0 (suc n + 1)) (not_none n))

not_yet : (n : ℕ) → cond (n == 0) 0 (n + 1) ≡ 0 → n ≡ 0
not_yet zero h = refl
not_yet (suc n) h = absurd (omega (arith, sym (ap (λ (b : Bool). cond b 0 (suc n + 1)) (not_none n)) ∙ h))

pub record IsJoined (first second all : Passed) (long : ℕ) : Type 0 where
  pub state : all.state ≡ second.state
  pub filled : all.filled ≡ first.filled + second.filled
  pub end : all.end ≡ cond (second.end == 0) 0 (long + second.end)

longer : (n m : ℕ) → cond (cond (n == 0) 0 (m + n) == 0) 0 (cond (n == 0) 0 (m + n) + 1) ≡ cond (n == 0) 0 (m + 1 + n)
longer zero m = refl
longer (suc n) m =
    let sum : m + suc n + 1 ≡ m + 1 + suc n = omega arith in
    ap (λ (b : Bool). cond (cond b 0 (m + suc n) == 0) 0 (cond b 0 (m + suc n) + 1)) (not_none n)
    ∙ (ap (λ (b : Bool). cond b 0 (m + suc n + 1)) (ne_eqb (m + suc n) 0 (λ h. omega (arith, h)))
    ∙ (sum ∙ sym (ap (λ (b : Bool). cond b 0 (m + 1 + suc n)) (not_none n))))

none_longer : (n : ℕ) → n ≡ cond (n == 0) 0 (0 + n)
none_longer zero = refl
none_longer (suc n) =
    let sum : suc n ≡ 0 + suc n = omega arith in
    sum ∙ sym (ap (λ (b : Bool). cond b 0 (0 + suc n)) (not_none n))

joined_step : (next fills : ℕ) (ends : Bool) (first second all : Passed) (long : ℕ) → (behind_bit (next, fills, ends) first).end ≡ 0 → (first.end ≡ 0 → IsJoined first second all long)
    → IsJoined (behind_bit (next, fills, ends) first) second (behind_bit (next, fills, ends) all) (long + 1)
joined_step next fills true first second all long none rest = absurd (omega (arith, none))
joined_step next fills false first second all long none rest =
    let j = rest (not_yet first.end none) in record {
      state = j.state;
      filled = omega (arith, j.filled);
      end = ap (λ (n : ℕ). cond (n == 0) 0 (n + 1)) j.end ∙ longer second.end long;
    }

state_joined : (next fills : ℕ) (ends : Bool) (first : Passed) → (behind_bit (next, fills, ends) first).end ≡ 0 → (behind_bit (next, fills, ends) first).state ≡ first.state
state_joined next fills true first none = absurd (omega (arith, none))
state_joined next fills false first none = refl

pub passed-append : (xs ys : List Bool) (s : ℕ) → (passed s xs).end ≡ 0 → IsJoined (passed s xs) (passed (passed s xs).state ys) (passed s (xs ++ ys)) (length xs)
passed-append [] ys s none = record { state = refl; filled = omega arith; end = none_longer (passed s ys).end }
passed-append (b ∷ xs) ys s none =
    let st = state_step s b in
    let rest : Passed = passed st.0 xs in
    let same : (behind_bit st rest).state ≡ rest.state = state_joined st.0 st.1 st.2 rest none in
    subst (λ (q : ℕ). IsJoined (behind_bit st rest) (passed q ys) (behind_bit st (passed st.0 (xs ++ ys))) (suc (length xs))) (sym same)
    (subst (λ (n : ℕ). IsJoined (behind_bit st rest) (passed rest.state ys) (behind_bit st (passed st.0 (xs ++ ys))) n) (omega arith)
    (joined_step st.0 st.1 st.2 rest (passed rest.state ys) (passed st.0 (xs ++ ys)) (length xs) none (λ (h : rest.end ≡ 0). passed-append xs ys st.0 h)))

-- an end stays where it is, whatever follows
pub end-kept : (xs ys : List Bool) (s : ℕ) → 0 < (passed s xs).end → (passed s (xs ++ ys)).end ≡ (passed s xs).end
end-kept [] ys s some = absurd (omega (arith, some))
end-kept (b ∷ xs) ys s some =
    by_step (state_step s b).0 (state_step s b).1 (state_step s b).2 (passed (state_step s b).0 xs) (passed (state_step s b).0 (xs ++ ys)) (end-kept xs ys (state_step s b).0) some
  where
    by_step : (next fills : ℕ) (ends : Bool) (first all : Passed) → (0 < first.end → all.end ≡ first.end) → 0 < (behind_bit (next, fills, ends) first).end
        → (behind_bit (next, fills, ends) all).end ≡ (behind_bit (next, fills, ends) first).end
    by_step next fills true first all rest some = refl
    by_step next fills false first all rest some = ap (λ (n : ℕ). cond (n == 0) 0 (n + 1)) (rest (on_end first.end some).0)

-- ---- the end of a block

least_filled : (next fills : ℕ) (ends : Bool) (rest : Passed) → fills ≤ (behind_bit (next, fills, ends) rest).filled
least_filled next fills true rest = omega arith
least_filled next fills false rest = omega arith

words_as : (xs ys : List Bool) (n m a b base : ℕ) → xs ≡ ys → n ≡ m → a ≡ b → AreWords xs n base a true → AreWords ys m base b true
words_as xs ys n m a b base bits_are len_is count_is words =
    subst (λ (c : ℕ). AreWords ys m base c true) count_is (subst (λ (l : ℕ). AreWords ys l base a true) len_is (subst (λ (t : List Bool). AreWords t n base a true) bits_are words))

abbrev Finds : List Bool → Type 0
Finds bits =
    (s base k : ℕ) (front : List Bool) → s < 88 → Holds (pending s) base front k → 0 < (passed s bits).end → base + (k + (passed s bits).filled) ≤ 64
    → AreWords (front ++ bits) (length front + (passed s bits).end) base (base + (k + (passed s bits).filled)) true

abbrev read_rows : ℕ → List Bool → Standing Element
read_rows base bits = read (cond (base == 0) first_rows later_rows) bits

above : (base k : ℕ) (word : List Bool) → IsCoefficient base word k → MayStand (base + k == 0) []
above base k word c = subst (λ (b : Bool). MayStand b []) (sym (ne_eqb (base + k) 0 (λ h. omega (arith, c.count, h)))) tt

module _ (bits : List Bool) (finds : Finds bits) (base k : ℕ) (front : List Bool) (b : Bool) where
  abbrev now : List Bool
  now = front ++ b ∷ []

  seam : now ++ bits ≡ front ++ b ∷ bits
  seam = append_assoc front (b ∷ []) bits

  long_now : length now ≡ length front + 1
  long_now = length-append front (b ∷ [])

  -- by the step of what is pending, which is `st`, and its number
  found : (to fills : ℕ) (ends : Bool) (st : BitStep) → to < 88 → meant (to, fills, ends) ≡ told st → Outcome base now k st → 0 < (behind_bit (to, fills, ends) (passed to bits)).end
      → base + (k + (behind_bit (to, fills, ends) (passed to bits)).filled) ≤ 64
      → AreWords (front ++ b ∷ bits) (length front + (behind_bit (to, fills, ends) (passed to bits)).end) base (base + (k + (behind_bit (to, fills, ends) (passed to bits)).filled)) true
  found to fills true st within is (Waits goes_on holds) some room = absurd (let e = ap (λ (s : Pending × ℕ × Bool). s.2) is ∙ goes_on in cc)
  found to fills false st within is (Waits goes_on holds) some room =
      let rest : Passed = passed to bits in
      let more = on_end rest.end some in
      let here = subst (λ (p : Pending). Holds p base now (k + st.fills)) (sym (ap (λ (s : Pending × ℕ × Bool). s.0) is)) holds in
      let fills_is : fills ≡ st.fills = ap (λ (s : Pending × ℕ × Bool). s.1) is in
      words_as (now ++ bits) (front ++ b ∷ bits) (length now + rest.end) _ (base + (k + st.fills + rest.filled)) _ base seam (omega (arith, long_now, more.1)) (omega (arith, fills_is))
      (finds to base (k + st.fills) now within here more.0 (omega (arith, fills_is, room)))
  found to fills true st within is (Makes goes_on between c) some room = absurd (let e = ap (λ (s : Pending × ℕ × Bool). s.2) is ∙ goes_on in cc)
  found to fills false st within is (Makes goes_on between c) some room =
      let rest : Passed = passed to bits in
      let more = on_end rest.end some in
      let fills_is : fills ≡ st.fills = ap (λ (s : Pending × ℕ × Bool). s.1) is in
      let n : ℕ = k + st.fills in
      let at_word : pending to ≡ Code [] = ap (λ (s : Pending × ℕ × Bool). s.0) is ∙ between in
      let here = subst (λ (p : Pending). Holds p (base + n) [] 0) (sym at_word) (refl, refl, above base n now c) in
      let behind = finds to (base + n) 0 [] within here more.0 (omega (arith, fills_is, room)) in
      let one : AreWords (now ++ bits) (length now) base (base + (c.coefficient.run + 1)) false =
      one-coefficient (now ++ bits) c.coefficient (length now) base
      (λ rest. ap (λ (t : List Bool). read_rows base t) (append_assoc now bits rest) ∙ c.stands (bits ++ rest))
      (omega (arith, length-append now bits)) c.allowed (omega (arith, c.count, fills_is, room)) in
      let word : AreWords (now ++ bits) (length now) base (base + n) false = subst (λ (m : ℕ). AreWords (now ++ bits) (length now) base (base + m) false) (sym c.count) one in
      let there = subst (λ (t : List Bool). AreWords t (0 + rest.end) (base + n) (base + n + (0 + rest.filled)) true) (sym (drop_at now bits (length now) refl)) behind in
      words_as (now ++ bits) (front ++ b ∷ bits) (length now + (0 + rest.end)) _ (base + n + (0 + rest.filled)) _ base seam (omega (arith, long_now, more.1)) (omega (arith, fills_is))
      (more-words (now ++ bits) (length now) (0 + rest.end) base (base + n) (base + n + (0 + rest.filled)) true word there)
  found to fills false st within is (Ends ends none end) some room = absurd (let e = sym (ap (λ (s : Pending × ℕ × Bool). s.2) is) in let f = sym ends in cc)
  found to fills true st within is (Ends ends none end) some room =
      let fills_is : fills ≡ st.fills = ap (λ (s : Pending × ℕ × Bool). s.1) is in
      words_as (now ++ bits) (front ++ b ∷ bits) (length now) _ base _ base seam (omega (arith, long_now)) (omega (arith, fills_is, none))
      (one-end (now ++ bits) (length now) base (λ rest. ap (λ (t : List Bool). read_rows base t) (append_assoc now bits rest) ∙ end (bits ++ rest)) (omega (arith, length-append now bits)))
  found to fills ends st within is (Fails past) some room =
      absurd (omega (arith, ap (λ (s : Pending × ℕ × Bool). s.1) is, past, least_filled to fills ends (passed to bits), room))

pub finds_end : (bits : List Bool) → Finds bits
finds_end [] = λ s base k front within holds some room. absurd (omega (arith, some))
finds_end (b ∷ bits) = λ s base k front within holds some room.
    let st = state_step s b in
    found bits (finds_end bits) base k front b st.0 st.1 st.2 (bit_step (pending s) b) (step_within s b within) (step_meant s b within) (stepped (pending s) base k front b holds) some room

-- ---- at the front of what is left of a reader

begins_at : (count : ℕ) (none : Bool) → (count == 0) ≡ none → Holds (pending (cond none 0 1)) count [] 0
begins_at count true is = (refl, refl, eqb-true count 0 is)
begins_at count false is = (refl, refl, subst (λ (b : Bool). MayStand b []) (sym is) tt)

pub block-ends : (count s m end : ℕ) (r new : Reading) → s ≡ cond (count == 0) 0 1 → m ≤ length r.0 → end ≤ m → (passed s (take m r.0)).end ≡ end → 0 < end
    → count + (passed s (take m r.0)).filled ≤ 64 → new ≡ skipped end r → EndsBlock count r new
block-ends count s m end r new s_is inside short end_is some room moved = λ format before due full.
    let bits : List Bool = take m r.0 in
    let holds = subst (λ (q : ℕ). Holds (pending q) count [] 0) (sym s_is) (begins_at count (count == 0) refl) in
    let words = finds_end bits s count 0 [] (small (count == 0) s_is) holds (omega (arith, end_is, some)) (omega (arith, room)) in
    let here = subst (λ (n : ℕ). Goes (next format) before (bits ++ drop m r.0, r.1) (elements words.coefficients true) (drop n bits ++ drop m r.0, r.1 + n)) (omega (arith, end_is))
    (words.go format before (drop m r.0) r.1 due full) in
    let whole : bits ++ drop m r.0 ≡ r.0 = take-append-drop m r.0 in
    let behind : drop end bits ++ drop m r.0 ≡ drop end r.0 =
    sym (drop-append-le end bits (drop m r.0) (omega (arith, length-take m r.0, inside, short))) ∙ ap (drop end) whole in
    let walk = subst (λ (t : List Bool). Goes (next format) before (t, r.1) (elements words.coefficients true) (skipped end r)) whole
    (subst (λ (t : List Bool). Goes (next format) before (bits ++ drop m r.0, r.1) (elements words.coefficients true) (t, r.1 + end)) behind here) in
    record {
      elements = elements words.coefficients true;
      walk = subst (λ (e : Reading). Goes (next format) before r (elements words.coefficients true) e) (sym moved) walk;
      wanted = record { coefficients = words.coefficients; are = refl };
    }
  where
    small : (none : Bool) → s ≡ cond none 0 1 → s < 88
    small true h = omega (arith, h)
    small false h = omega (arith, h)

-- ---- octets

pub octet-seen : (bits : List Bool) (octet : ℕ) → 8 ≤ length bits → octet ≡ number (take 8 (bits ++ zeros 8)) → field octet 8 ≡ take 8 bits
octet-seen bits octet long is =
    let whole : length (take 8 bits) ≡ 8 = length-take 8 bits ∙ omega (arith, long) in
    ap (λ (n : ℕ). field n 8) (is ∙ ap number (take-append-le 8 bits (zeros 8) long))
    ∙ (ap (field (number (take 8 bits))) (sym whole) ∙ field-number (take 8 bits))

-- ---- what a cell says of any bits

pub passed-within : (bits : List Bool) (s : ℕ) → s < 102 → (passed s bits).state < 102
passed-within [] s inside = inside
passed-within (b ∷ bits) s inside =
    by_end (state_step s b).0 (state_step s b).1 (state_step s b).2 (passed (state_step s b).0 bits) (passed-within bits (state_step s b).0 (any_within s b inside))
  where
    by_end : (next fills : ℕ) (ends : Bool) (rest : Passed) → rest.state < 102 → (behind_bit (next, fills, ends) rest).state < 102
    by_end next fills true rest h = omega arith
    by_end next fills false rest h = h

pub passed-end : (bits : List Bool) (s : ℕ) → (passed s bits).end ≤ length bits
passed-end [] s = omega arith
passed-end (b ∷ bits) s = by_end (state_step s b).0 (state_step s b).1 (state_step s b).2 (passed (state_step s b).0 bits) (passed-end bits (state_step s b).0)
  where
    by_zero : (n : ℕ) → n ≤ length bits → cond (n == 0) 0 (n + 1) ≤ suc (length bits)
    by_zero zero h = omega arith
    by_zero (suc n) h = omega (arith, h, ap (λ (b : Bool). cond b 0 (suc n + 1)) (not_none n))

    by_end : (next fills : ℕ) (ends : Bool) (rest : Passed) → rest.end ≤ length bits → (behind_bit (next, fills, ends) rest).end ≤ suc (length bits)
    by_end next fills true rest h = omega arith
    by_end next fills false rest h = by_zero rest.end h

abbrev run : ℕ × ℕ × Bool → List Bool → Passed
run st bits = behind_bit st (passed st.0 bits)

-- what stands behind an end is not looked at
pub passed-cut : (bits : List Bool) (s : ℕ) → 0 < (passed s bits).end → passed s (take (passed s bits).end bits) ≡ passed s bits
passed-cut [] s some = absurd (omega (arith, some))
passed-cut (b ∷ bits) s some =
    let cut = by_end (state_step s b).0 (state_step s b).1 (state_step s b).2 (passed-cut bits (state_step s b).0) some in
    ap (λ (n : ℕ). passed s (take n (b ∷ bits))) cut.1 ∙ cut.2
  where
    by_end : (next fills : ℕ) (ends : Bool) → (0 < (passed next bits).end → passed next (take (passed next bits).end bits) ≡ passed next bits) → 0 < (run (next, fills, ends) bits).end
        → (n : ℕ) × ((run (next, fills, ends) bits).end ≡ suc n) × (run (next, fills, ends) (take n bits) ≡ run (next, fills, ends) bits)
    by_end next fills true rest some = (0, refl, refl)
    by_end next fills false rest some =
        let more = on_end (passed next bits).end some in
        ((passed next bits).end, omega (arith, more.1), ap (behind_bit (next, fills, false)) (rest more.0))
