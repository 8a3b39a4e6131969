use Rattle.std.proofs.Common.{◌≡◌, ℕ, ◌+◌, ◌-◌, ◌<◌, Bool, true, ℤ, List, [], take, drop, sym, ◌∙◌, ap, subst, arith}
use Rattle.pel_model.specs.declared.Mark.{Mark}
use Rattle.pel_model.specs.declared.Why.TheVariants.{Cut}
use Rattle.pel_model.specs.Walk.{Good, Bad, Walked, after, read}
use Rattle.pel_model.specs.Grammar.{Element, Mba, slot, may_end, mba_rows, next}
use Rattle.picture_laws.specs.Laws.{Leaves}
use Rattle.pel_model.specs.Elements.{AreInside, macroblock_elements}
use Rattle.pel_model.specs.Records.{Macroblock}
use Rattle.pel_model.proofs.InsideElements.{inside-macroblock}
use Rattle.h261_mb.specs.declared.state.MbState.{MbState}
use Rattle.h261_mb.specs.State.{IsRead}
use Rattle.h261_mb.specs.Inside.{IsMacroblockSoFar}
use Rattle.h261_pic.proofs.WithinLimits.{first_bits, first-bits, fault-there, macroblock-within, macroblock-long}
use Rattle.h261_pic.proofs.limited.macroblock_within.Goals as goal

-- a macroblock has elements
macroblock_begins : (difference : ℕ) (across down : ℤ × ℤ) (m : Macroblock) → [] ≡ macroblock_elements difference across down m → ⊥
macroblock_begins difference across down m is = cc

-- what is asked of the elements of a macroblock
module _ (group from : ℕ) (before : List Element) (state : MbState) (new : List Bool × ℕ) where
  some : (mark : Mark) → IsRead group from before state mark [] new → ⊥
  some mark w = macroblock_begins w.difference w.across w.down w.macroblock w.elements

  inside : (mark : Mark) (es : List Element) → IsRead group from before state mark es new → AreInside (drop 1 es)
  inside mark es w = subst (λ (es : List Element). AreInside (drop 1 es)) (sym w.elements) (inside-macroblock w.across w.down w.macroblock)

  whole : (mark : Mark) (es : List Element) → IsRead group from before state mark es new → may_end (slot (after before es)) ≡ true
  whole mark es w = ap may_end w.stands.due

part_inside : (before es : List Element) → IsMacroblockSoFar before es → AreInside (drop 1 es)
part_inside before es part = part.0

pub returns-then-place-end-clause-walk : goal.returns-then-place-end-clause-walk
returns-then-place-end-clause-walk c = λ before d n stands is ends in_limit.
    let r = c.args.r.now in
    let k = c.args.end - r.1 in
    let new = c.scan_mb-mark.new.r in
    let group = c.args.group in
    let state = c.scan_mb-mark.new.state in
    let leaves : Leaves c.args.format before r.1 k = omega (arith, ends, in_limit) in
    macroblock-within c.args.format before r d n stands.due is k leaves (IsRead group r.1 before state) (IsMacroblockSoFar before) new (some group r.1 before state new) (inside group r.1 before state new) (part_inside before) c.scan_mb-mark.result (c.scan_mb-mark.ensures.walk before d n stands is) (omega arith)

pub returns-clause-walk : goal.returns-clause-walk
returns-clause-walk c = λ before d n stands is ends in_limit.
    let r = c.args.r.now in
    let k = c.args.end - r.1 in
    let new = c.scan_mb-mark.new.r in
    let group = c.args.group in
    let state = c.scan_mb-mark.new.state in
    let again = c.scan_mb-cut_mark.new.r in
    let again_state = c.scan_mb-cut_mark.new.state in
    let leaves : Leaves c.args.format before r.1 k = omega (arith, ends, in_limit) in
    let cut : c.cut_at-cut.result ≡ first_bits k r = first-bits c.args.end c.copy-begin.result r c.cut_at-cut.result c.cut_at-cut.ensures c.copy-begin.ensures in
    let walked : read mba_rows (take k r.0) ≡ Good (Mba d) n → Walked (next c.args.format) before (IsRead group r.1 before again_state) (IsMacroblockSoFar before) c.scan_mb-cut_mark.result (first_bits k r) again =
    λ word. subst (λ (from : List Bool × ℕ). Walked (next c.args.format) before (IsRead group from.1 before again_state) (IsMacroblockSoFar before) c.scan_mb-cut_mark.result from again) cut (c.scan_mb-cut_mark.ensures.walk before d n stands (ap (λ (from : List Bool × ℕ). read mba_rows from.0) cut ∙ word)) in
    let no_word : read mba_rows (take k r.0) ≡ Bad Cut → again ≡ first_bits k r = λ word. (c.scan_mb-cut_mark.ensures.no_word Cut (ap (λ (from : List Bool × ℕ). read mba_rows from.0) cut ∙ word)).1 ∙ cut in
    let far : r.1 + k < new.1 = omega arith in
    let long = macroblock-long c.args.format before r d n stands.due is k leaves (IsRead group r.1 before state) (IsMacroblockSoFar before) new (some group r.1 before state new) (inside group r.1 before state new) (part_inside before) c.scan_mb-mark.result (c.scan_mb-mark.ensures.walk before d n stands is) (IsRead group r.1 before again_state) (IsMacroblockSoFar before) again (some group r.1 before again_state again) (whole group r.1 before again_state again) c.scan_mb-cut_mark.result walked no_word far in
    fault-there c.args.format before r c.place-2.result _ c.too_long.result c.too_long.ensures c.place-2.ensures long
