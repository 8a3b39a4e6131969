-- The blocks of a macroblock, as far as octets were passed.
use Rattle.std.proofs.Common.{◌≡◌, ◌≢◌, ℕ, zero, suc, ◌+◌, ◌-◌, ◌^◌, ◌<◌, ◌≤◌, ◌==◌, ◌&&◌, Bool, true, false, cond, List, ◌++◌, length, take, drop, get_or, nat_lt}
use Rattle.std.proofs.Common.{None, refl, sym, ◌∙◌, ap, subst, inl, inr, arith, length-append, length-take, min}
use Rattle.std.proofs.lemmas.Bool.{ne_eqb, eq-eqb, eqb-true, ltb-true, ltb-false, cases_Bool, cond-true, cond-false}
use Rattle.std.proofs.lemmas.List.{take-append-drop, take-append-le, length-drop, drop-take, take-take}
use Rattle.std.proofs.Math.Seq.{take-add, take-length}
use Rattle.pel_bits.specs.Bits.{field, number}
use Rattle.pel_bits.specs.Reading.{zeros}
use Rattle.pel_bits.proofs.Fields.{field-number, number_below}
use Rattle.pel_model.specs.Walk.{Reading, skipped, after}
use Rattle.pel_model.specs.Elements.{coefficient_elements}
use Rattle.pel_model.specs.Grammar.{next}
use Rattle.pel_model.proofs.Walks.{skipped-skipped}
use Rattle.vlc_codes.proofs.CellLaws.{listed, listed_at}
use Rattle.h261_block.specs.declared.octets.Cell.{Cell}
use Rattle.h261_block.specs.Ahead.{EndsBlock}
use Rattle.h261_block.specs.Blocks.{BlockStands, BlocksStand}
use Rattle.h261_block.specs.Steps.{Passed, passed, block_start, none_ends, one_ends, two_end, by_second, by_first, IsCellOf}
use Rattle.h261_block.proofs.BlockSteps.{dc-good}
use Rattle.h261_block.proofs.Machines.{IsJoined, passed-append, passed-within, passed-end, passed-cut, end-kept, block-ends}
use Rattle.h261_block.proofs.SoFar.{none_yet, dc_only, whole_taken}

-- ---- INTRADC

abbrev forbidden : Passed
forbidden = record { state = 37; filled = 127; end = 0 }

abbrev allowed : Passed
allowed = record { state = 1; filled = 1; end = 0 }

abbrev dc_passed : ℕ → Passed
dc_passed n = passed 88 (field n 8)

dc_computed : listed dc_passed 0 256 ≡ listed (λ n. cond (n == 0) forbidden (cond (n == 128) forbidden allowed)) 0 256
unfolding field
dc_computed = refl

dc_at : (n : ℕ) → n < 256 → dc_passed n ≡ cond (n == 0) forbidden (cond (n == 128) forbidden allowed)
dc_at n fits =
    sym (listed_at dc_passed 256 n forbidden fits)
    ∙ (ap (λ (ps : List Passed). get_or ps n forbidden) dc_computed ∙ listed_at (λ n. cond (n == 0) forbidden (cond (n == 128) forbidden allowed)) 256 n forbidden fits)

-- what eight bits of INTRADC lead to
record IsDc (n : ℕ) (behind : Passed) : Type 0 where
  pub none : behind.end ≡ 0
  pub good : behind.filled ≤ 64 → (n ≢ 0) × (n ≢ 128) × (behind.state ≡ 1) × (behind.filled ≡ 1)

dc_by : (n : ℕ) (zero_is top_is : Bool) → (n == 0) ≡ zero_is → (n == 128) ≡ top_is → IsDc n (cond zero_is forbidden (cond top_is forbidden allowed))
dc_by n true top_is h k = record { none = refl; good = λ few. absurd (omega (arith, few)) }
dc_by n false true h k = record { none = refl; good = λ few. absurd (omega (arith, few)) }
dc_by n false false h k = record { none = refl; good = λ few. (λ z. differ (sym (eq-eqb n 0 z) ∙ h), λ z. differ (sym (eq-eqb n 128 z) ∙ k), refl, refl) }
  where
    differ : true ≡ false → ⊥
    differ h = cc

dc-is : (bits : List Bool) → length bits ≡ 8 → IsDc (number bits) (passed 88 bits)
dc-is bits long =
    let n : ℕ = number bits in
    let fits : n < 256 = omega (arith, number_below bits, ap (λ (k : ℕ). 2 ^ k) long) in
    let bits_are : field n 8 ≡ bits = ap (field n) (sym long) ∙ field-number bits in
    subst (λ (p : Passed). IsDc n p) (sym (ap (passed 88) (sym bits_are) ∙ dc_at n fits)) (dc_by n (n == 0) (n == 128) refl refl)

-- the rest of the block stands behind INTRADC
record IsBehindDc (bits : List Bool) : Type 0 where
  pub long : 8 ≤ length bits
  pub some : number (take 8 bits) ≢ 0
  pub other : number (take 8 bits) ≢ 128
  pub end : (passed 88 bits).end ≡ 8 + (passed 1 (drop 8 bits)).end
  pub goes_on : 0 < (passed 1 (drop 8 bits)).end
  pub filled : (passed 88 bits).filled ≡ 1 + (passed 1 (drop 8 bits)).filled

long_zeros : (n : ℕ) → length (zeros n) ≡ n
long_zeros zero = refl
long_zeros (suc n) = ap suc (long_zeros n)

dc_long : (bits : List Bool) → 0 < (passed 88 bits).end → 8 ≤ length bits
dc_long bits some = elim (cases_Bool (nat_lt (length bits) 8)) [
  | inr long ↦ omega (arith, ltb-false (length bits) 8 long)
  | inl short ↦
      let few : length bits < 8 = ltb-true (length bits) 8 short in
      let more : List Bool = zeros (8 - length bits) in
      let all : length (bits ++ more) ≡ 8 = omega (arith, length-append bits more, long_zeros (8 - length bits), few) in
      absurd (omega (arith, some, end-kept bits more 88 some, (dc-is (bits ++ more) all).none))
]

behind-dc : (bits : List Bool) → 0 < (passed 88 bits).end → (passed 88 bits).filled ≤ 64 → IsBehindDc bits
behind-dc bits some room =
    let long = dc_long bits some in
    let eight : List Bool = take 8 bits in
    let rest : List Bool = drop 8 bits in
    let long_eight : length eight ≡ 8 = length-take 8 bits ∙ omega (arith, long) in
    let dc = dc-is eight long_eight in
    let whole : eight ++ rest ≡ bits = take-append-drop 8 bits in
    let joined = passed-append eight rest 88 dc.none in
    let filled_is : (passed 88 bits).filled ≡ (passed 88 eight).filled + (passed (passed 88 eight).state rest).filled = ap (λ (t : List Bool). (passed 88 t).filled) (sym whole) ∙ joined.filled in
    let good = dc.good (omega (arith, filled_is, room)) in
    let end_is : (passed 88 bits).end ≡ cond ((passed 1 rest).end == 0) 0 (8 + (passed 1 rest).end) =
    ap (λ (t : List Bool). (passed 88 t).end) (sym whole)
    ∙ (joined.end ∙ (ap (λ (s : ℕ). cond ((passed s rest).end == 0) 0 (length eight + (passed s rest).end)) good.2
    ∙ ap (λ (n : ℕ). cond ((passed 1 rest).end == 0) 0 (n + (passed 1 rest).end)) long_eight)) in
    let on = on_by (passed 1 rest).end (omega (arith, end_is, some)) in
    record {
      long = long;
      some = good.0;
      other = good.1;
      end = end_is ∙ on.1;
      goes_on = on.0;
      filled = filled_is ∙ (ap (λ (k : ℕ). k + (passed (passed 88 eight).state rest).filled) good.3 ∙ ap (λ (s : ℕ). 1 + (passed s rest).filled) good.2);
    }
  where
    on_by : (n : ℕ) → 0 < cond (n == 0) 0 (8 + n) → (0 < n) × (cond (n == 0) 0 (8 + n) ≡ 8 + n)
    on_by zero h = absurd (omega (arith, h))
    on_by (suc n) h = (omega arith, ap (λ (b : Bool). cond b 0 (8 + suc n)) (ne_eqb (suc n) 0 (λ h. omega (arith, h))))

-- ---- a block

block-stands : (intra : Bool) (m : ℕ) (mid new : Reading) → m ≤ length mid.0 → 0 < (passed (block_start intra) (take m mid.0)).end → (passed (block_start intra) (take m mid.0)).filled ≤ 64
    → new ≡ skipped (passed (block_start intra) (take m mid.0)).end mid → BlockStands intra mid new
block-stands false m mid new inside some room moved = λ format before due.
    let bits : List Bool = take m mid.0 in
    let short : (passed 0 bits).end ≤ m = omega (arith, passed-end bits 0, length-take m mid.0, inside) in
    let ends : EndsBlock 0 mid new = block-ends 0 0 m (passed 0 bits).end mid new refl inside short refl some (omega (arith, room)) moved in
    let so_far = none_yet (next format) before mid due in
    whole_taken (next format) before false mid mid new 0 so_far None refl (ends format (after before (coefficient_elements so_far.block)) so_far.due so_far.full)
block-stands true m mid new inside some room moved = λ format before due.
    let bits : List Bool = take m mid.0 in
    let dc = behind-dc bits some room in
    let there : Reading = skipped 8 mid in
    let bits_long : length bits ≡ m = length-take m mid.0 ∙ omega (arith, inside) in
    let far : 8 ≤ m = omega (arith, dc.long, bits_long) in
    let parts : 8 + (m - 8) ≡ m = omega (arith, far) in
    let rest : drop 8 bits ≡ take (m - 8) there.0 = ap (λ (n : ℕ). drop 8 (take n mid.0)) (sym parts) ∙ drop-take 8 (m - 8) mid.0 in
    let end : ℕ = (passed 1 (take (m - 8) there.0)).end in
    let end_is : (passed 1 (drop 8 bits)).end ≡ end = ap (λ (t : List Bool). (passed 1 t).end) rest in
    let filled_is : (passed 1 (drop 8 bits)).filled ≡ (passed 1 (take (m - 8) there.0)).filled = ap (λ (t : List Bool). (passed 1 t).filled) rest in
    let fits : m - 8 ≤ length there.0 = omega (arith, length-drop 8 mid.0, inside) in
    let ends : EndsBlock 1 there new =
    block-ends 1 1 (m - 8) end there new refl fits (omega (arith, passed-end (take (m - 8) there.0) 1, length-take (m - 8) there.0, fits)) refl (omega (arith, end_is, dc.goes_on))
    (omega (arith, filled_is, dc.filled, room))
    (moved ∙ (ap (λ (n : ℕ). skipped n mid) (dc.end ∙ ap (λ (n : ℕ). 8 + n) end_is) ∙ sym (skipped-skipped end 8 mid))) in
    let eight : take 8 bits ≡ take 8 mid.0 = take-take 8 m mid.0 far in
    let seen : take 8 (mid.0 ++ zeros 8) ≡ take 8 mid.0 = take-append-le 8 mid.0 (zeros 8) (omega (arith, far, inside)) in
    let value : number (take 8 bits) ≡ number (take 8 (mid.0 ++ zeros 8)) = ap number (eight ∙ sym seen) in
    let good = dc-good format before mid (number (take 8 bits)) due (omega (arith, far, inside)) value dc.some dc.other in
    let so_far = dc_only (next format) before mid there (number (take 8 bits)) 8 good refl in
    whole_taken (next format) before true mid there new 1 so_far None refl (ends format (after before (coefficient_elements so_far.block)) so_far.due so_far.full)

-- ---- so many blocks were passed, and a part of the next one

pub record IsPassing (intra : Bool) (count : ℕ) (r ahead : Reading) (state filled left : ℕ) : Type 0 where
  pub mid : Reading
  pub done : BlocksStand intra (count - left) r mid
  pub some : 0 < left
  pub most : left ≤ count
  pub many : ℕ
  pub moved : ahead ≡ skipped many mid
  pub inside : many ≤ length mid.0
  pub state_is : state ≡ (passed (block_start intra) (take many mid.0)).state
  pub filled_is : filled ≡ (passed (block_start intra) (take many mid.0)).filled
  pub goes_on : (passed (block_start intra) (take many mid.0)).end ≡ 0
  pub within : state < 102
  pub room : filled < 256

start_within : (intra : Bool) → block_start intra < 102
start_within true = omega arith
start_within false = omega arith

-- a block begins
begun : (intra : Bool) (count left : ℕ) (r mid : Reading) → BlocksStand intra (count - left) r mid → 0 < left → left ≤ count → IsPassing intra count r mid (block_start intra) 0 left
begun intra count left r mid done some most = record {
  mid = mid;
  done = done;
  some = some;
  most = most;
  many = 0;
  moved = ap (λ (n : ℕ). (mid.0, n)) (omega arith);
  inside = omega arith;
  state_is = refl;
  filled_is = refl;
  goes_on = refl;
  within = start_within intra;
  room = omega arith;
}

pub none_passed : (intra : Bool) (count state : ℕ) (r ahead : Reading) → ahead ≡ r → state ≡ block_start intra → 0 < count → IsPassing intra count r ahead state 0 count
none_passed intra count state r ahead same state_is some =
    subst (λ (q : Reading). IsPassing intra count r q state 0 count) (sym same)
    (subst (λ (s : ℕ). IsPassing intra count r r s 0 count) (sym state_is)
    (begun intra count count r r (subst (λ (n : ℕ). BlocksStand intra n r r) none_left refl) some (omega arith)))
  where
    none_left : 0 ≡ count - count
    none_left = omega arith

-- the next bits
module _ (intra : Bool) (count : ℕ) (r ahead : Reading) (state filled left : ℕ) (passing : IsPassing intra count r ahead state filled left) (n : ℕ) (long : n ≤ length ahead.0) where
  abbrev mid : Reading
  mid = passing.mid

  abbrev m : ℕ
  m = passing.many + n

  abbrev here : Passed
  here = passed state (take n ahead.0)

  bits_are : take m mid.0 ≡ take passing.many mid.0 ++ take n ahead.0
  bits_are = take-add passing.many n mid.0 ∙ ap (λ (t : List Bool). take passing.many mid.0 ++ take n t) (sym (ap (λ (q : Reading). q.0) passing.moved))

  fits : m ≤ length mid.0
  fits = omega (arith, ap (λ (q : Reading). length q.0) passing.moved, length-drop passing.many mid.0, long, passing.inside)

  all : IsJoined (passed (block_start intra) (take passing.many mid.0)) here (passed (block_start intra) (take m mid.0)) passing.many
  all =
      subst (λ (t : List Bool). IsJoined (passed (block_start intra) (take passing.many mid.0)) here (passed (block_start intra) t) passing.many) (sym bits_are)
      (subst (λ (q : ℕ). IsJoined (passed (block_start intra) (take passing.many mid.0)) (passed q (take n ahead.0))
      (passed (block_start intra) (take passing.many mid.0 ++ take n ahead.0)) passing.many) (sym passing.state_is)
      (subst (λ (k : ℕ). IsJoined (passed (block_start intra) (take passing.many mid.0)) (passed (passed (block_start intra) (take passing.many mid.0)).state (take n ahead.0))
      (passed (block_start intra) (take passing.many mid.0 ++ take n ahead.0)) k) (length-take passing.many mid.0 ∙ least)
      (passed-append (take passing.many mid.0) (take n ahead.0) (block_start intra) passing.goes_on)))
    where
      least : min passing.many (length mid.0) ≡ passing.many
      least = omega (arith, passing.inside)

  -- no block ends in them
  further : (new : Reading) (next more : ℕ) → here.end ≡ 0 → new ≡ skipped n ahead → next ≡ here.state → more ≡ filled + here.filled → more < 256 → IsPassing intra count r new next more left
  further new next more none moved next_is more_is room = record {
    mid = mid;
    done = passing.done;
    some = passing.some;
    most = passing.most;
    many = m;
    moved = moved ∙ (ap (λ (q : Reading). skipped n q) passing.moved ∙ skipped-skipped n passing.many mid);
    inside = fits;
    state_is = next_is ∙ sym all.state;
    filled_is = omega (arith, more_is, all.filled, passing.filled_is);
    goes_on = all.end ∙ ap (λ (k : ℕ). cond (k == 0) 0 (passing.many + k)) none;
    within = omega (arith, next_is, passed-within (take n ahead.0) state passing.within);
    room = room;
  }

  -- one does
  one_more : (new : Reading) → 0 < here.end → filled + here.filled ≤ 64 → new ≡ skipped here.end ahead → BlocksStand intra (count - left + 1) r new
  one_more new some room moved =
      let end_is : (passed (block_start intra) (take m mid.0)).end ≡ passing.many + here.end =
      all.end ∙ ap (λ (b : Bool). cond b 0 (passing.many + here.end)) (ne_eqb here.end 0 (λ h. omega (arith, h, some))) in
      let stands = block-stands intra m mid new fits (omega (arith, end_is, some)) (omega (arith, all.filled, passing.filled_is, room))
      (moved ∙ (ap (λ (q : Reading). skipped here.end q) passing.moved ∙ (skipped-skipped here.end passing.many mid ∙ ap (λ (k : ℕ). skipped k mid) (sym end_is)))) in
      let all : suc (count - left) ≡ count - left + 1 = omega arith in
      subst (λ (k : ℕ). BlocksStand intra k r new) all (mid, passing.done, stands)

-- ---- an octet, by the ends in it

data Octet (intra : Bool) (bits : List Bool) (first : Passed) (cell : Cell) : Type 0 where
  Open : first.end ≡ 0 → cell ≡ none_ends first → Octet intra bits first cell
  Once : 0 < first.end → (passed (block_start intra) (drop first.end bits)).end ≡ 0 → cell ≡ one_ends first (passed (block_start intra) (drop first.end bits)) → Octet intra bits first cell
  Twice :
      0 < first.end → 0 < (passed (block_start intra) (drop first.end bits)).end → (passed (block_start intra) (drop first.end bits)).filled ≤ 64
      → (passed (block_start intra) (drop (passed (block_start intra) (drop first.end bits)).end (drop first.end bits))).end ≡ 0
      → cell ≡ two_end first (passed (block_start intra) (drop first.end bits)) (passed (block_start intra) (drop (passed (block_start intra) (drop first.end bits)).end (drop first.end bits)))
      → Octet intra bits first cell

above : (n : ℕ) → (n == 0) ≡ false → 0 < n
above zero h = absurd cc
above (suc n) h = omega arith

both_true : (a b : Bool) → true ≡ (a && b) → (a ≡ true) × (b ≡ true)
both_true true true h = (refl, refl)
both_true true false h = absurd cc
both_true false b h = absurd cc

abbrev Told : Type 0
Told = Cell × Bool

octet_cases : (intra : Bool) (bits : List Bool) (first : Passed) (cell : Cell) → ◌≡◌ {A = Told} (cell, true) (by_first intra bits first) → Octet intra bits first cell
octet_cases intra bits first cell is =
    let second : Passed = passed (block_start intra) (drop first.end bits) in
    let third : Passed = passed (block_start intra) (drop second.end (drop first.end bits)) in
    let one : Told = (one_ends first second, true) in
    let two : Told = (two_end first second third, nat_lt second.filled 65 && third.end == 0) in
    elim (cases_Bool (first.end == 0)) [
      | inl none ↦ Open (eqb-true first.end 0 none) (ap (λ (p : Told). p.0) (is ∙ cond-true (first.end == 0) (none_ends first, true) (by_second first second third) none))
      | inr some ↦
          let is_some = is ∙ cond-false (first.end == 0) (none_ends first, true) (by_second first second third) some in
          elim (cases_Bool (second.end == 0)) [
            | inl none ↦ Once (above first.end some) (eqb-true second.end 0 none) (ap (λ (p : Told). p.0) (is_some ∙ cond-true (second.end == 0) one two none))
            | inr more ↦
                let is_two = is_some ∙ cond-false (second.end == 0) one two more in
                let fits = both_true (nat_lt second.filled 65) (third.end == 0) (ap (λ (p : Told). p.1) is_two) in
                Twice (above first.end some) (above second.end more) (omega (arith, ltb-true second.filled 65 fits.0)) (eqb-true third.end 0 fits.1) (ap (λ (p : Told). p.0) is_two)
          ]
    ]

module _ (intra : Bool) (count : ℕ) (r ahead : Reading) (state filled left : ℕ) (passing : IsPassing intra count r ahead state filled left) (bits : List Bool) (bits_long : length bits ≡ 8)
    (same : (k : ℕ) → k ≤ length ahead.0 → k ≤ 8 → take k ahead.0 ≡ take k bits) where
  abbrev first : Passed
  first = passed state bits

  abbrev second : Passed
  second = passed (block_start intra) (drop first.end bits)

  abbrev third : Passed
  third = passed (block_start intra) (drop second.end (drop first.end bits))

  first_short : first.end ≤ 8
  first_short = omega (arith, passed-end bits state, bits_long)

  second_short : first.end + second.end ≤ 8
  second_short = omega (arith, passed-end (drop first.end bits) (block_start intra), length-drop first.end bits, bits_long, first_short)

  abbrev mid1 : Reading
  mid1 = skipped first.end ahead

  abbrev mid2 : Reading
  mid2 = skipped second.end mid1

  abbrev n1 : ℕ
  n1 = 8 - first.end

  abbrev n2 : ℕ
  n2 = 8 - (first.end + second.end)

  same1 : (n : ℕ) → first.end + n ≤ length ahead.0 → first.end + n ≤ 8 → take n mid1.0 ≡ take n (drop first.end bits)
  same1 n fits few = sym (drop-take first.end n ahead.0) ∙ (ap (drop first.end) (same (first.end + n) fits few) ∙ drop-take first.end n bits)

  -- behind the first end
  done1 : 0 < first.end → first.end ≤ length ahead.0 → filled + first.filled ≤ 64 → BlocksStand intra (count - left + 1) r mid1
  done1 some fits room =
      let here : passed state (take first.end ahead.0) ≡ first = ap (passed state) (same first.end fits first_short) ∙ passed-cut bits state some in
      one_more intra count r ahead state filled left passing first.end fits mid1
      (omega (arith, ap (λ (p : Passed). p.end) here, some)) (omega (arith, ap (λ (p : Passed). p.filled) here, room)) (ap (λ (p : Passed). skipped p.end ahead) (sym here))

  passing1 : 0 < first.end → first.end ≤ length ahead.0 → filled + first.filled ≤ 64 → 1 < left → IsPassing intra count r mid1 (block_start intra) 0 (left - 1)
  passing1 some fits room more =
      begun intra count (left - 1) r mid1 (subst (λ (k : ℕ). BlocksStand intra k r mid1) (omega (arith, more, passing.most)) (done1 some fits room)) (omega (arith, more))
      (omega (arith, passing.most))

  -- behind the second
  done2 : 0 < first.end → first.end + second.end ≤ length ahead.0 → filled + first.filled ≤ 64 → 1 < left → 0 < second.end → second.filled ≤ 64 → BlocksStand intra (count - (left - 1) + 1) r mid2
  done2 some fits room more again small =
      let here : passed (block_start intra) (take second.end mid1.0) ≡ second = ap (passed (block_start intra)) (same1 second.end fits second_short)
      ∙ passed-cut (drop first.end bits) (block_start intra) again in
      let fits1 : first.end ≤ length ahead.0 = omega (arith, fits) in
      one_more intra count r mid1 (block_start intra) 0 (left - 1) (passing1 some fits1 room more) second.end (omega (arith, length-drop first.end ahead.0, fits)) mid2
      (omega (arith, ap (λ (p : Passed). p.end) here, again)) (omega (arith, ap (λ (p : Passed). p.filled) here, small)) (ap (λ (p : Passed). skipped p.end mid1) (sym here))

  passing2 : 0 < first.end → first.end + second.end ≤ length ahead.0 → filled + first.filled ≤ 64 → 2 < left → 0 < second.end → second.filled ≤ 64
      → IsPassing intra count r mid2 (block_start intra) 0 (left - 2)
  passing2 some fits room more again small =
      begun intra count (left - 2) r mid2 (subst (λ (k : ℕ). BlocksStand intra k r mid2) (omega (arith, more, passing.most)) (done2 some fits room (omega (arith, more)) again small))
      (omega (arith, more)) (omega (arith, passing.most))

  mid2_is : mid2 ≡ skipped (first.end + second.end) ahead
  mid2_is = skipped-skipped second.end first.end ahead

  -- to the end of the octet, where all of it is there
  all8 : take 8 bits ≡ bits
  all8 = ap (λ (n : ℕ). take n bits) (sym bits_long) ∙ take-length bits

  whole : 8 ≤ length ahead.0 → take 8 ahead.0 ≡ bits
  whole long = same 8 long (omega arith) ∙ all8

  rest1 : 8 ≤ length ahead.0 → take n1 mid1.0 ≡ drop first.end bits
  rest1 long =
      let all : first.end + n1 ≡ 8 = omega (arith, first_short) in
      sym (drop-take first.end n1 ahead.0) ∙ (ap (λ (k : ℕ). drop first.end (take k ahead.0)) all ∙ ap (drop first.end) (whole long))

  rest2 : 8 ≤ length ahead.0 → take n2 mid2.0 ≡ drop second.end (drop first.end bits)
  rest2 long =
      let all : second.end + n2 ≡ n1 = omega (arith, second_short) in
      sym (drop-take second.end n2 mid1.0) ∙ (ap (λ (k : ℕ). drop second.end (take k mid1.0)) all ∙ ap (drop second.end) (rest1 long))

  long1 : 8 ≤ length ahead.0 → n1 ≤ length mid1.0
  long1 long = omega (arith, length-drop first.end ahead.0, long)

  long2 : 8 ≤ length ahead.0 → n2 ≤ length mid2.0
  long2 long = omega (arith, length-drop second.end mid1.0, long1 long)

  -- what the loop goes on with, where a cell is what it has to be
  abbrev GoesOn : Cell → Type 0
  GoesOn cell =
      8 ≤ length ahead.0 → filled + cell.before ≤ 64 → cell.behind < 256 → cell.ends < left → (new : Reading) (next more less : ℕ) → new ≡ skipped 8 ahead → next ≡ cell.next
      → more ≡ cond (cell.ends == 0) (filled + cell.before) cell.behind → less ≡ left - cell.ends → IsPassing intra count r new next more less

  goes_on : (cell : Cell) → Octet intra bits first cell → GoesOn cell
  goes_on cell (Open none is) = subst GoesOn (sym is) (λ long room small few new next more less moved next_is more_is less_is.
      let here : passed state (take 8 ahead.0) ≡ first = ap (passed state) (whole long) in
      subst (λ (l : ℕ). IsPassing intra count r new next more l) (omega (arith, less_is))
      (further intra count r ahead state filled left passing 8 long new next more
      (ap (λ (p : Passed). p.end) here ∙ none) moved (next_is ∙ ap (λ (p : Passed). p.state) (sym here)) (omega (arith, more_is, ap (λ (p : Passed). p.filled) here))
      (omega (arith, more_is, room))))
  goes_on cell (Once some none is) = subst GoesOn (sym is) (λ long room small few new next more less moved next_is more_is less_is.
      let here : passed (block_start intra) (take n1 mid1.0) ≡ second = ap (passed (block_start intra)) (rest1 long) in
      let fits : first.end ≤ length ahead.0 = omega (arith, first_short, long) in
      let all : first.end + n1 ≡ 8 = omega (arith, first_short) in
      let moved1 : new ≡ skipped n1 mid1 = moved ∙ (ap (λ (k : ℕ). skipped k ahead) (sym all) ∙ sym (skipped-skipped n1 first.end ahead)) in
      subst (λ (l : ℕ). IsPassing intra count r new next more l) (omega (arith, less_is))
      (further intra count r mid1 (block_start intra) 0 (left - 1) (passing1 some fits room few) n1 (long1 long) new next more
      (ap (λ (p : Passed). p.end) here ∙ none) moved1 (next_is ∙ ap (λ (p : Passed). p.state) (sym here)) (omega (arith, more_is, ap (λ (p : Passed). p.filled) here))
      (omega (arith, more_is, small))))
  goes_on cell (Twice some again room2 none is) = subst GoesOn (sym is) (λ long room small few new next more less moved next_is more_is less_is.
      let here : passed (block_start intra) (take n2 mid2.0) ≡ third = ap (passed (block_start intra)) (rest2 long) in
      let fits : first.end + second.end ≤ length ahead.0 = omega (arith, second_short, long) in
      let all : first.end + second.end + n2 ≡ 8 = omega (arith, second_short) in
      let moved2 : new ≡ skipped n2 mid2 =
      moved ∙ (ap (λ (k : ℕ). skipped k ahead) (sym all) ∙ (sym (skipped-skipped n2 (first.end + second.end) ahead) ∙ ap (λ (q : Reading). skipped n2 q) (sym mid2_is))) in
      subst (λ (l : ℕ). IsPassing intra count r new next more l) (omega (arith, less_is))
      (further intra count r mid2 (block_start intra) 0 (left - 2) (passing2 some fits room few again room2) n2 (long2 long) new next more
      (ap (λ (p : Passed). p.end) here ∙ none) moved2 (next_is ∙ ap (λ (p : Passed). p.state) (sym here)) (omega (arith, more_is, ap (λ (p : Passed). p.filled) here))
      (omega (arith, more_is, small))))

  -- what it stops with
  abbrev Stops : Cell → Type 0
  Stops cell =
      filled + cell.before ≤ 64 → left ≤ cell.ends → (new : Reading) (k : ℕ) → k ≤ length ahead.0 → new ≡ skipped k ahead → k ≡ cond (left == 1) cell.first cell.second
      → BlocksStand intra count r new

  as_new : (new at : Reading) (n : ℕ) → n ≡ count → at ≡ new → BlocksStand intra n r at → BlocksStand intra count r new
  as_new new at n count_is same stand = subst (λ (q : Reading). BlocksStand intra count r q) same (subst (λ (k : ℕ). BlocksStand intra k r at) count_is stand)

  stops : (cell : Cell) → Octet intra bits first cell → Stops cell
  stops cell (Open none is) = subst Stops (sym is) (λ room last new k fits moved k_is. absurd (omega (arith, last, passing.some)))
  stops cell (Once some none is) = subst Stops (sym is) (λ room last new k fits moved k_is.
      let one : left ≡ 1 = omega (arith, last, passing.some) in
      let k_first : k ≡ first.end = k_is ∙ ap (λ (l : ℕ). cond (l == 1) first.end 0) one in
      as_new new mid1 (count - left + 1) (omega (arith, one, passing.most)) (sym (moved ∙ ap (λ (k : ℕ). skipped k ahead) k_first)) (done1 some (omega (arith, k_first, fits)) room))
  stops cell (Twice some again room2 none is) = subst Stops (sym is) (λ room last new k fits moved k_is.
      elim (cases_Bool (left == 1)) [
        | inl one_is ↦
            let one : left ≡ 1 = eqb-true left 1 one_is in
            let k_first : k ≡ first.end = k_is ∙ ap (λ (b : Bool). cond b first.end (first.end + second.end)) one_is in
            as_new new mid1 (count - left + 1) (omega (arith, one, passing.most)) (sym (moved ∙ ap (λ (k : ℕ). skipped k ahead) k_first)) (done1 some (omega (arith, k_first, fits)) room)
        | inr other_is ↦
            let other : 1 < left = not_one left passing.some other_is in
            let two : left ≡ 2 = omega (arith, other, last) in
            let k_second : k ≡ first.end + second.end = k_is ∙ ap (λ (b : Bool). cond b first.end (first.end + second.end)) other_is in
            as_new new mid2 (count - (left - 1) + 1) (omega (arith, two, passing.most)) (mid2_is ∙ sym (moved ∙ ap (λ (k : ℕ). skipped k ahead) k_second))
            (done2 some (omega (arith, k_second, fits)) room other again room2)
      ])
    where
      not_one : (l : ℕ) → 0 < l → (l == 1) ≡ false → 1 < l
      not_one zero h other = absurd (omega (arith, h))
      not_one (suc zero) h other = absurd cc
      not_one (suc (suc l)) h other = omega arith

-- ---- the octet that the code looks at, zeros behind the last bit

abbrev octet_of : Reading → List Bool
octet_of ahead = take 8 (ahead.0 ++ zeros 8)

octet_long : (ahead : Reading) → length (octet_of ahead) ≡ 8
octet_long ahead = length-take 8 (ahead.0 ++ zeros 8) ∙ omega (arith, length-append ahead.0 (zeros 8), long_zeros 8)

octet_same : (ahead : Reading) (k : ℕ) → k ≤ length ahead.0 → k ≤ 8 → take k ahead.0 ≡ take k (octet_of ahead)
octet_same ahead k fits few = sym (take-take k 8 (ahead.0 ++ zeros 8) few ∙ take-append-le k ahead.0 (zeros 8) fits)

octet_is : (ahead : Reading) (octet : ℕ) → octet ≡ number (octet_of ahead) → field octet 8 ≡ octet_of ahead
octet_is ahead octet is = ap (λ (n : ℕ). field n 8) is ∙ (ap (field (number (octet_of ahead))) (sym (octet_long ahead)) ∙ field-number (octet_of ahead))

-- by the cell that the code looked up
abbrev cell_bits : Bool → ℕ → List Bool → Told
cell_bits intra state bits = by_first intra bits (passed state bits)

module _ (intra : Bool) (count : ℕ) (r ahead : Reading) (state filled left : ℕ) (passing : IsPassing intra count r ahead state filled left) (octet : ℕ) (peeked : octet ≡ number (octet_of ahead))
    (cell : Cell) (is : IsCellOf intra state octet cell) where
  seen : Octet intra (octet_of ahead) (passed state (octet_of ahead)) cell
  seen = octet_cases intra (octet_of ahead) (passed state (octet_of ahead)) cell (is.cell_is ∙ ap (cell_bits intra state) (octet_is ahead octet peeked))

  pub passes : (new : Reading) (more less : ℕ) → 8 ≤ length ahead.0 → filled + cell.before ≤ 64 → cell.ends < left → new ≡ skipped 8 ahead
      → more ≡ cond (cell.ends == 0) (filled + cell.before) cell.behind → less ≡ left - cell.ends → IsPassing intra count r new cell.next more less
  passes new more less long room few moved more_is less_is =
      goes_on intra count r ahead state filled left passing (octet_of ahead) (octet_long ahead)
      (octet_same ahead) cell seen long room is.behind few new cell.next more less moved refl more_is less_is

  pub ends : (new : Reading) (k : ℕ) → filled + cell.before ≤ 64 → left ≤ cell.ends → k ≤ length ahead.0 → new ≡ skipped k ahead → k ≡ cond (left == 1) cell.first cell.second
      → BlocksStand intra count r new
  ends new k room last fits moved k_is =
      stops intra count r ahead state filled left passing (octet_of ahead) (octet_long ahead) (octet_same ahead) cell seen room last new k fits moved k_is
