-- The blocks of a macroblock as far as they were read.
use Rattle.std.proofs.Common.{◌≡◌, ℕ, zero, suc, ◌+◌, ◌-◌, ◌≤◌, ◌<◌, Bool, true, false, cond, List, [], ◌∷◌, ◌++◌, length, flat_map, ℤ, is_some, refl, sym, ◌∙◌, ap, subst, arith, length-append}
use Rattle.std.proofs.lemmas.Grind.{flat_map-append}
use Rattle.std.proofs.lemmas.List.{append-nil}
use Rattle.pel_model.specs.declared.Format.{Format}
use Rattle.pel_model.specs.declared.Format.TheVariants.{Qcif}
use Rattle.pel_model.specs.declared.MbKind.{MbKind}
use Rattle.pel_model.specs.declared.MbKind.TheVariants.{Intra, IntraQuant, Inter}
use Rattle.pel_model.specs.Codes.{is_intra, has_cbp}
use Rattle.pel_model.specs.Records.{Block}
use Rattle.pel_model.specs.Elements.{block_elements}
use Rattle.pel_model.specs.Walk.{Standing, after, Goes, AreTaken}
use Rattle.pel_model.specs.Grammar.{Element, Mtype, Cbp, AtCbp, AtDc, AtFirst, slot, block_slot, cbp_slot, kind, blocks, may_end, next}
use Rattle.pel_model.proofs.Walks.{after-append, goes-append}
use Rattle.pel_model.proofs.BlockElements.{block-blocks, block-slot}
use Rattle.h261_block.specs.Blocks.{BlocksStand}
use Rattle.h261_mb.proofs.Passing.{pass_blocks}
use Rattle.h261_mb.proofs.Steps.{goes_onward}

-- ---- the slot of the blocks

pub first_slot : (k : MbKind) (n : ℕ) (intra : Bool) → 0 < n → is_intra k ≡ intra → block_slot k n ≡ cond intra AtDc AtFirst
first_slot k zero intra some is = absurd (omega arith)
first_slot k (suc n) intra some is = ap (λ (b : Bool). cond b AtDc AtFirst) is

pub intra_has_no_cbp : (k : MbKind) → is_intra k ≡ true → has_cbp k ≡ false
intra_has_no_cbp Intra h = refl
intra_has_no_cbp IntraQuant h = refl
intra_has_no_cbp _ h = absurd cc

pub slot-no-cbp : (k : MbKind) → has_cbp k ≡ false → cbp_slot k ≡ block_slot k (cond (is_intra k) 6 0)
slot-no-cbp k none = ap (λ (b : Bool). cond b AtCbp (block_slot k (cond (is_intra k) 6 0))) none

-- ---- the loop

pub record SomeRead (next : List Element → List Bool × ℕ → Standing Element) (before : List Element) (k : MbKind) (old new : List Bool × ℕ) (count done : ℕ) : Type 0 where
  pub read : List Block
  pub many : length read ≡ done
  pub walk : Goes next before old (flat_map block_elements read) new
  pub due : slot (after before (flat_map block_elements read)) ≡ block_slot k (count - done)
  pub to_come : blocks (after before (flat_map block_elements read)) ≡ count - done

flat_map_one : (b : Block) → flat_map block_elements (b ∷ []) ≡ block_elements b
flat_map_one b = append-nil (block_elements b)

module _ (next : List Element → List Bool × ℕ → Standing Element) (before : List Element) (k : MbKind) (kind_is : kind before ≡ k) where
  pub none_read : (old : List Bool × ℕ) (count : ℕ) → slot before ≡ block_slot k count → blocks before ≡ count → SomeRead next before k old old count 0
  none_read old count due to_come =
      let all : count ≡ count - 0 = omega arith in
      record { read = []; many = refl; walk = refl; due = due ∙ ap (block_slot k) all; to_come = to_come ∙ all }

  pub kind_there : (bs : List Block) → kind (after before (flat_map block_elements bs)) ≡ k
  kind_there bs = ap (λ (s : MbKind × ℕ × ℕ × ℕ × ℤ × ℤ). s.0) (pass_blocks before bs) ∙ kind_is

  pub one_more : (old mid new : List Bool × ℕ) (count done : ℕ) (so_far : SomeRead next before k old mid count done) (b : Block) (es : List Element) → Goes next (after before (flat_map block_elements so_far.read)) mid es new → es ≡ block_elements b → SomeRead next before k old new count (done + 1)
  one_more old mid new count done so_far b es walk is =
      let had : List Element = flat_map block_elements so_far.read in
      let there : List Element = after before had in
      let now : flat_map block_elements (so_far.read ++ b ∷ []) ≡ had ++ block_elements b = flat_map-append block_elements so_far.read (b ∷ []) ∙ ap (λ (es : List Element). had ++ es) (flat_map_one b) in
      let behind : after before (flat_map block_elements (so_far.read ++ b ∷ [])) ≡ after there (block_elements b) = ap (after before) now ∙ after-append before had (block_elements b) in
      let fewer : blocks there - 1 ≡ count - (done + 1) = omega (arith, so_far.to_come) in
      record {
        read = so_far.read ++ b ∷ [];
        many = omega (arith, length-append so_far.read (b ∷ []), so_far.many);
        walk = subst (λ (es : List Element). Goes next before old es new) (sym now) (goes-append next before old mid new had (block_elements b) so_far.walk (subst (λ (es : List Element). Goes next there mid es new) is walk));
        due = ap slot behind ∙ (block-slot there b ∙ (ap (λ (kind : MbKind). block_slot kind (blocks there - 1)) (kind_there so_far.read) ∙ ap (block_slot k) fewer));
        to_come = ap blocks behind ∙ (block-blocks there b ∙ fewer);
      }

pub block_is_inside : (intra : Bool) → may_end (cond intra AtDc AtFirst) ≡ false
block_is_inside true = refl
block_is_inside false = refl

-- a block that was read did not lead back
abbrev BlockRead : Bool → List Bool × ℕ → List Bool × ℕ → Type 0
BlockRead intra old new =
    (format : Format) (before : List Element) → slot before ≡ cond intra AtDc AtFirst
    → AreTaken (next format) before (λ es new. (b : Block) × (es ≡ block_elements b) × (is_some b.dc ≡ intra)) old new

pub block_onward : (intra : Bool) (old new : List Bool × ℕ) → BlockRead intra old new → old.1 ≤ new.1
block_onward true old new read =
    let walk = read Qcif (Mtype Intra ∷ []) refl in
    goes_onward (next Qcif) (Mtype Intra ∷ []) old new walk.elements walk.walk
block_onward false old new read =
    let walk = read Qcif (Cbp 1 ∷ Mtype Inter ∷ []) refl in
    goes_onward (next Qcif) (Cbp 1 ∷ Mtype Inter ∷ []) old new walk.elements walk.walk

-- ---- blocks that stand one behind the other

pub blocks_onward : (intra : Bool) (count : ℕ) (old new : List Bool × ℕ) → BlocksStand intra count old new → old.1 ≤ new.1
blocks_onward intra zero old new same = omega (arith, ap (λ (r : List Bool × ℕ). r.1) same)
blocks_onward intra (suc n) old new stand =
    omega (arith, blocks_onward intra n old stand.0 stand.1, block_onward intra stand.0 new stand.2)

module _ (format : Format) (before : List Element) (k : MbKind) (kind_is : kind before ≡ k) (intra : Bool) (intra_is : is_intra k ≡ intra) (count : ℕ) (due : slot before ≡ block_slot k count) (to_come : blocks before ≡ count) where
  pub all_read : (done : ℕ) → done ≤ count → (old new : List Bool × ℕ) → BlocksStand intra done old new → SomeRead (next format) before k old new count done
  all_read zero few old new same =
      subst (λ (r : List Bool × ℕ). SomeRead (next format) before k old r count 0) (sym same) (none_read (next format) before k kind_is old count due to_come)
  all_read (suc n) few old new stand =
      let so_far = all_read n (omega (arith, few)) old stand.0 stand.1 in
      let first = so_far.due ∙ first_slot k (count - n) intra (omega (arith, few)) intra_is in
      let later = stand.2 format (after before (flat_map block_elements so_far.read)) first in
      let now : n + 1 ≡ suc n = omega arith in
      subst (λ (m : ℕ). SomeRead (next format) before k old new count m) now
      (one_more (next format) before k kind_is old stand.0 new count n so_far later.wanted.0 later.elements later.walk later.wanted.1)
